use Rattle.std.proofs.Common.{◌≡◌, ◌++◌, ◌∷◌, [], ◌∙◌, ap, append-nil, append_assoc, map, refl, rules, sym}
use Rattle.std.proofs.lemmas.Map.Iter.{rest_all, rest_more}
use Rattle.watchman_sqlite.specs.Entries.{listed_record}
use Rattle.watchman_sqlite.proofs.entry.rows_of.Goals as goal

pub loop-name-init : goal.loop-name-init
loop-name-init c = rw c.into_iter-name-iterator.ensures.into_iter_gives.0 refl

pub loop-name-preserved : goal.loop-name-preserved
loop-name-preserved c =
    let more = rest_more (λ p. p) _ _ c.next.result _ c.in-Some.is c.next.ensures.steps in
    let rows = c.loop-name.rows.items in
    let rest = map (listed_record c.args.number) c.next.new.self in
    let pushed : c.push.new.self.items ≡ rows ++ listed_record c.args.number (c.in-Some.name, c.in-Some.state) ∷ [] = search rules in
    ap (λ items. items ++ rest) pushed ∙ append_assoc rows _ rest ∙ sym (ap (λ es. rows ++ map (listed_record c.args.number) es) more) ∙ c.loop-name.invariant

pub returns : goal.returns
returns c =
    let none = rest_all (λ p. p) _ _ c.next.result c.in-None.is c.next.ensures.steps in
    sym (append-nil c.loop-name.rows.items) ∙ (rw none at c.loop-name.invariant)
