use Rattle.bser_format.specs.Compact.{fold_templates}
use Rattle.std.proofs.Common.{◌∙◌}
use Rattle.serde_bser.specs.ValueView.{tree_of, HoldsValue}
use Rattle.bser_laws.proofs.Back.{slice_back, slice_refused}
use Rattle.bser_laws.proofs.returned.compactly_written_and_read.Goals as goal

pub returns : goal.returns
returns c =
    let is = c.as_slice.ensures.value ∙ c.in_ok-bytes.ensures.bytes in
    record {
      same = slice_back tree_of HoldsValue c.args.limit (fold_templates (tree_of c.args.value.now)) (tree_of c.args.value.now) _ c.args.following.now c.from_slice_within.result (λ v k h. h.same) c.in_ok-bytes.ensures.written is c.from_slice_within.ensures.found;
      refused = slice_refused c.args.limit _ _ (fold_templates (tree_of c.args.value.now)) (tree_of c.args.value.now) _ c.args.following.now c.from_slice_within.result c.in_ok-bytes.ensures.written is c.from_slice_within.ensures.refused;
    }
