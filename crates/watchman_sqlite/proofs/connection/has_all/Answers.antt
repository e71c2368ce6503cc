use Rattle.std.proofs.Common.{arith, subst}
use Rattle.std.proofs.lemmas.List.{get_or_default}
use Rattle.std.proofs.lemmas.List.Elements.{AllWithin-more, All-map}
use Rattle.watchman_sqlite.specs.Layouts.{IsNamed}
use Rattle.watchman_sqlite.proofs.connection.has_all.Goals as goal

pub loop-name-preserved : goal.loop-name-preserved
loop-name-preserved c =
    let found = rw c.if-not-branch.false at c.in_ok-has_name.ensures.found in
    AllWithin-more (λ name. IsNamed c.args.rows.now name.now) c.args.names.now 0 c.loop-name.name-index c.loop-name.invariant (λ d. subst (λ name. IsNamed c.args.rows.now name.now) (get_or_default c.args.names.now c.loop-name.name-index _ d c.loop-name-test.true) found)

pub returns-clause-found : goal.returns-clause-found
returns-clause-found c = All-map (IsNamed c.args.rows.now) (λ name. name.now) c.args.names.now (λ k d low. c.loop-name.invariant k d (omega arith) (omega (arith, c.loop-name-test.false)))
