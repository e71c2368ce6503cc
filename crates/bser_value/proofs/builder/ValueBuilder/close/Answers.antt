-- The value of the innermost is put into the one around it.
use Rattle.std.proofs.Common.{◌≡◌, [], ◌∷◌, ◌++◌, Some, refl, sym, ap, subst, ◌∙◌, rules}
use Rattle.bser_events.proofs.Outcomes.{each_ok}
use Rattle.bser_value.specs.Made.{put}
use Rattle.bser_value.specs.Shows.{Builds}
use Rattle.bser_value.specs.ValueView.{tree_of}
use Rattle.bser_value.specs.declared.building.Building.{Building}
use Rattle.bser_value.specs.declared.builder.ValueBuilder.{ValueBuilder}
use Rattle.bser_value.proofs.Steps.{inside_turns, closed_turns}
use Rattle.bser_value.proofs.builder.ValueBuilder.close.Goals as goal

pub returns-in-Some-2 : goal.returns-in-Some-2
returns-in-Some-2 c =
    let old : ValueBuilder = c.args.self.now in
    let mid : ValueBuilder = record { alloc = old.alloc; inner = c.replace.new.dest; around = c.pop.new.self } in
    let new : ValueBuilder = record { alloc = old.alloc; inner = c.put.new.self; around = c.pop.new.self } in
    let popped : old.around.items ≡ c.pop.new.self.items ++ c.in-Some.outer ∷ [] = search rules in
    let around : old.around.items ≡ mid.around.items ++ mid.inner ∷ [] = popped ∙ ap (λ (b : Building). mid.around.items ++ b ∷ []) (sym c.replace.ensures.after) in
    let builds : Builds old.inner (Some c.in-Some-2.value) = subst (λ v. Builds old.inner v) c.in-Some-2.is (subst (λ b. Builds b c.in_ok-value.field-0) c.replace.ensures.value c.in_ok-value.ensures) in
    each_ok _ _ c.put.result c.put.ensures
    (λ turns. closed_turns old mid new c.in-Some-2.value around builds
    (inside_turns (put (tree_of c.in-Some-2.value)) mid new refl turns))
