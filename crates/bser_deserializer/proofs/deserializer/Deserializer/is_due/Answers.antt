use Rattle.std.proofs.Common.{◌<◌, ◌≤◌, ◌∙◌, sym, ap, map, length, arith}
use Rattle.std.proofs.lemmas.Bool.{ltb-true, ltb-false}
use Rattle.std.proofs.lemmas.List.{length-map}
use Rattle.bser_deserializer.specs.Dues.{due_of}
use Rattle.bser_deserializer.proofs.Dues.{past_names, at_name}
use Rattle.bser_deserializer.proofs.deserializer.Deserializer.is_due.Goals as goal

pub returns-in-Name-clause-none : goal.returns-in-Name-clause-none
returns-in-Name-clause-none g c = λ e.
    let ks = map g.R.Lent.Lending.kept c.self.inside.keys.items in
    let place = c.self.inside.place in
    let past : length ks ≤ place =
    omega (arith, ltb-false place c.len.result e, c.len.ensures, length-map c.self.inside.keys.items g.R.Lent.Lending.kept) in
    rw (← c.self.view_is)
    (ap (due_of ks place) c.in-Name.is ∙ past_names place ks past)

pub returns-in-Name-clause-some : goal.returns-in-Name-clause-some
returns-in-Name-clause-some g c = λ e none.
    let ks = map g.R.Lent.Lending.kept c.self.inside.keys.items in
    let place = c.self.inside.place in
    let inside : place < length ks =
    omega (arith, ltb-true place c.len.result e, c.len.ensures, length-map c.self.inside.keys.items g.R.Lent.Lending.kept) in
    let named = (at_name place ks inside).1 in
    let of_name = ap (due_of ks place) c.in-Name.is in
    absurd (let never = sym named ∙ sym of_name ∙ ap (λ v. v.state.due) c.self.view_is ∙ none in cc)
