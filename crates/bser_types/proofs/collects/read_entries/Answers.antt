use Rattle.std.proofs.Common.{◌∙◌, sym, refl, ap}
use Rattle.std.proofs.lemmas.Result.{err_from_is_err_and}
use Rattle.bser_types.specs.Collected.{HoldsPut}
use Rattle.bser_deserializer.specs.Access.{OpenPairs}
use Rattle.bser_types.specs.Accesses.{open_pairs}
use Rattle.bser_types.proofs.Maps.{map_start, map_entry, map_end, map_refused, entry_refused, entry_fewer, insert_refused}
use Rattle.bser_types.proofs.collects.read_entries.Invariants.{types}
use Rattle.bser_types.proofs.collects.read_entries.Goals as goal

pub returns-in_err-map-clause-refused : goal.returns-in_err-map-clause-refused
returns-in_err-map-clause-refused g c =
    rw (err_from_is_err_and c.from_residual.result c.from_residual.ensures.1).1 (map_refused (types g) c.read_map.follows.lender-at-none.state (rw c.in_err-map.was at c.read_map.follows.holds-at-none))

pub loop-entries-init : goal.loop-entries-init
loop-entries-init g c = record { same_reference = refl; at = map_start (types g) c.requires c.in_ok-map.ensures.found }

pub returns-in_err-key-clause-refused : goal.returns-in_err-key-clause-refused
returns-in_err-key-clause-refused g c =
    let i = c.loop-entries.invariant in
    let n = c.in_err-key.ensures in
    rw ((err_from_is_err_and c.from_residual-in_err-key.result c.from_residual-in_err-key.ensures.1).1, c.in_err-key.from-in-Break-branch-2-1-own.given.1 (sym (n.same_reference ∙ i.same_reference ∙ c.in_ok-map.ensures.same_reference)))
    (entry_refused (types g) i.at n.refused)

pub returns-then-not-put-clause-refused : goal.returns-then-not-put-clause-refused
returns-then-not-put-clause-refused g c =
    let i = c.loop-entries.invariant in
    let n = c.in_ok-key.ensures in
    let z : OpenPairs = open_pairs c.refuse.new.self in
    rw (c.from-then-not-put-1.given.1 (sym (c.refuse.ensures.same_reference ∙ n.same_reference ∙ i.same_reference ∙ c.in_ok-map.ensures.same_reference)))
    (insert_refused (types g) _ z.state i.at (rw c.in-Some.is at n.found) c.refuse.ensures.reason (ap (λ (y : OpenPairs). y.state.source) c.refuse.ensures.state))

pub loop-entries-smaller : goal.loop-entries-smaller
loop-entries-smaller g c = entry_fewer (rw c.in-Some.is at c.in_ok-key.ensures.found)

pub loop-entries-preserved : goal.loop-entries-preserved
loop-entries-preserved g c =
    let i = c.loop-entries.invariant in
    let n = c.in_ok-key.ensures in
    record {
      same_reference = n.same_reference ∙ i.same_reference;
      at = map_entry (types g) i.at (rw c.in-Some.is at n.found) (c.put.ensures c.if-not-put.false);
    }

pub returns-clause-found : goal.returns-clause-found
returns-clause-found g c =
    let i = c.loop-entries.invariant in
    let n = c.in_ok-key.ensures in
    rw (c.from-2-1.given.1 (sym (n.same_reference ∙ i.same_reference ∙ c.in_ok-map.ensures.same_reference)))
    (map_end (types g) (HoldsPut g.M.CollectsEntries.pairs) c.loop-entries.entries (λ ps h. record { entries = ps; list = refl; held = h }) i.at (rw c.in_default.is at n.found) c.in_ok-end.ensures.ok)
