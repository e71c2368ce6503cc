-- A key of a row, which has no bytes.
use Rattle.std.proofs.Common.{◌<◌, ap, arith, length}
use Rattle.std.proofs.lemmas.List.{length-map}
use Rattle.bser_events.proofs.Outcomes.{both_ok, same_window}
use Rattle.bser_deserializer.proofs.Told.{kept_key, name_told}
use Rattle.bser_deserializer.proofs.deserializer.Deserializer.tell_name.Goals as goal

pub returns-clause-ok : goal.returns-clause-ok
returns-clause-ok g c =
    let keys = c.self.inside.keys.items in
    let kept = g.R.Lent.Lending.kept in
    let inside : c.args.place < length keys = omega (arith, c.requires.place, length-map keys kept, ap (λ v. length v.state.keys) c.self.view_is) in
    rw (← c.self.view_is)
    (both_ok _ _ _ c.tell.result c.tell.ensures.ok c.tell.ensures.same
    (λ told same. name_told g.B.Builder.takes c.taken-start.result c.args.place _ c.kept_text-key.result.now c.self.inside.bunser.window c.tell.new.bunser.window _ _ (rw (← c.self.view_is) at c.requires.working) c.taken-start.ensures (same_window _ _ same) c.kept_text-key.utf8 (kept_key kept keys c.args.place _ c.index.result.now c.kept_text-key.result.now inside c.index.ensures c.kept_text-key.ensures) told))
