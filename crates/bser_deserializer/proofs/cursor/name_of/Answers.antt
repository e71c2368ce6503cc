-- The key at the place that is due.
use Rattle.std.proofs.Common.{◌≡◌, ◌∙◌, ◌≤◌, ◌<◌, sym, ap, map, arith, length, rules}
use Rattle.std.proofs.lemmas.List.{length-map}
use Rattle.bser_deserializer.specs.Dues.{due_of}
use Rattle.bser_deserializer.specs.declared.due.Due.TheVariants as dues
use Rattle.bser_deserializer.proofs.Strings.{named_only, past_no_name}
use Rattle.bser_deserializer.proofs.Texts.{named_at}
use Rattle.bser_deserializer.proofs.cursor.name_of.Goals.{then-ne-via-then-ne, then-ne-via-else-ne+then-from-len, then-ne-via-else-ne+else-from-len+then-is_failed}
use Rattle.bser_deserializer.proofs.cursor.name_of.Goals as goal

pub returns-then-ne-clause-none : goal.returns-then-ne-clause-none
returns-then-ne-clause-none g c works k named =
    let e = ap (λ v. v.state.due) c.from.view_is ∙ named in
    let ks = map g.R.Lent.Lending.kept c.from.inside.keys.items in
    elim c.then-ne.branch [
      | then-ne-via-then-ne w ↦ (let is = named_only ks c.from.inside.place c.from.inside.due k e in let told = rw is at w.if-ne.ensures in absurd cc)
      | then-ne-via-else-ne+then-from-len w ↦ (
          let past : length ks ≤ c.from.inside.place = omega (arith, w.if-from-len.true, w.len.ensures, length-map c.from.inside.keys.items g.R.Lent.Lending.kept) in
          past_no_name ks c.from.inside.place c.from.inside.due k past e)
      | then-ne-via-else-ne+else-from-len+then-is_failed w ↦ (let failed = sym w.is_failed.ensures.value ∙ w.if-is_failed.true in absurd cc)
    ]

pub returns-clause-some : goal.returns-clause-some
returns-clause-some g c =
    let ks = map g.R.Lent.Lending.kept c.from.inside.keys.items in
    let is : c.from.inside.due ≡ dues.Name = search rules in
    let inside : c.from.inside.place < length c.from.inside.keys.items = omega (arith, c.if-from-len.false, c.len.ensures) in
    record {
      due = sym (ap (λ v. v.state.due) c.from.view_is) ∙ ap (due_of ks c.from.inside.place) is ∙ named_at g.R.Lent.Lending.kept c.from.inside.place c.from.inside.keys.items c.index.result.now inside c.index.ensures;
      working = sym c.is_failed.ensures.value ∙ c.if-is_failed.false;
    }
