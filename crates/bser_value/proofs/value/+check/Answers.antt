use Rattle.std.proofs.Common.{◌<◌, ◌^◌, length, arith, sym, subst, ◌∙◌}
use Rattle.bser_format.specs.ValueTree.{ItemsAreValueTrees, EntriesAreValueTrees}
use Rattle.bser_format.specs.Canonical.{ItemsAreWritable, EntriesAreWritable, IsCount}
use Rattle.bser_value.specs.ValueView.{entries_view, items_view}
use Rattle.bser_value.proofs.Views.{keys_rise, length-entries, length-items}
use Rattle.bser_value.proofs.value.+check.Goals as goal

pub check_entries-loop-key-init : goal.check_entries-loop-key-init
check_entries-loop-key-init t c =
    let all = c.into_iter-key-iterator.ensures.into_iter_gives ∙ c.iter-key-items.ensures.rest in
    let es = c.args.entries.now.entries in (
      λ h. (keys_rise es c.iter-key-items.ensures.ordered, subst (λ xs. EntriesAreValueTrees (entries_view xs)) all h),
      λ h. (subst IsCount (sym (length-entries es)) c.iter-key-items.ensures.fits, subst (λ xs. EntriesAreWritable (entries_view xs)) all h),
    )

pub check_items-loop-item-init : goal.check_items-loop-item-init
check_items-loop-item-init t c =
    let all = c.deref-item-items.ensures.value in
    let v = c.args.items.now in
    let count : length v.items < 2 ^ 63 = omega (arith, v.ok.0, v.ok.1, v.small) in (
      λ h. subst (λ xs. ItemsAreValueTrees (items_view xs)) all h,
      λ h. (subst IsCount (sym (length-items v.items)) count, subst (λ xs. ItemsAreWritable (items_view xs)) all h),
    )
