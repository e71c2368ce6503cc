-- An array's head is its tag and its count.
use Rattle.std.proofs.Common.{◌≡◌, ◌∙◌, ◌+◌, ap, sym, subst}
use Rattle.std.proofs.lemmas.Result.{err_from_is_err_and}
use Rattle.bser_deserializer.specs.Reading.{bare}
use Rattle.bser_deserializer.specs.State.{State}
use Rattle.bser_deserializer.specs.View.{IsBefore}
use Rattle.bser_deserializer.specs.View.{seen_of}
use Rattle.bser_deserializer.proofs.Containers.{no_level_array, array_refused, refused_items_in, opens_items_in, opens_array}
use Rattle.bser_deserializer.proofs.deserializer.Deserializer.open_array.Goals as goal

pub returns-in_err-inside-clause-refused : goal.returns-in_err-inside-clause-refused
returns-in_err-inside-clause-refused g c =
    let p = err_from_is_err_and c.from_residual.result c.from_residual.ensures.1 in
    let old : State = c.args.self.now.state in
    let new : State = c.levels_inside.new.self.state in
    rw p.1 (no_level_array _ old new c.requires c.in_err-inside.ensures.reason c.in_err-inside.ensures.none c.in_err-inside.ensures.state)

pub returns-in_err-remaining-clause-refused : goal.returns-in_err-remaining-clause-refused
returns-in_err-remaining-clause-refused g c =
    let p = err_from_is_err_and c.from_residual-in_err-remaining.result c.from_residual-in_err-remaining.ensures.1 in
    let mid : State = (seen_of g.R.Lent.Lending.kept c.self.inside).state in
    let same = (rw (← c.self.view_is) at c.in_ok-inside.ensures.same) in
    let before : IsBefore 0x00 mid = subst (IsBefore 0x00) (sym same) c.requires in
    let levels : mid.levels ≡ c.in_ok-inside.inside + 1 = ap (λ z. z.levels) same ∙ c.in_ok-inside.ensures.ok in
    rw p.1 (refused_items_in bare _ mid _ _ same (
    array_refused _ mid c.in_ok-inside.inside _ _ before levels c.consume.ensures.window c.in_err-remaining.ensures.refused.err c.in_err-remaining.ensures.refused.names))

pub returns-clause-found : goal.returns-clause-found
returns-clause-found g c =
    let mid : State = (seen_of g.R.Lent.Lending.kept c.self.inside).state in
    let same = (rw (← c.self.view_is) at c.in_ok-inside.ensures.same) in
    let before : IsBefore 0x00 mid = subst (IsBefore 0x00) (sym same) c.requires in
    let levels : mid.levels ≡ c.in_ok-inside.inside + 1 = ap (λ z. z.levels) same ∙ c.in_ok-inside.ensures.ok in
    opens_items_in mid _ _ same (opens_array mid _ c.in_ok-inside.inside c.in_ok-remaining.remaining _ _ before levels c.consume.ensures.window c.in_ok-remaining.ensures.ok c.enter.ensures.inside)
