-- The next entry, and those behind it.
use Rattle.std.proofs.Common.{refl}
use Rattle.bser_document.proofs.Looks.{next_entry, next_field}
use Rattle.bser_document.proofs.entries.EntriesIterator.next.Goals as goal

pub returns-in-Some-clause-steps : goal.returns-in-Some-clause-steps
returns-in-Some-clause-steps c = next_field c.args.self.now c.in-Some.key c.key.result c.place.result c.behind-self.result _ _ c.in-Some.is refl c.if-self-eq0.false c.key.ensures c.place.ensures c.behind-self.ensures

pub returns-in-None-clause-steps : goal.returns-in-None-clause-steps
returns-in-None-clause-steps c = next_entry c.args.self.now c.key-key.result c.place-at.result c.behind-self-in-None.result _ _ c.in-None.is refl c.if-self-eq0.false c.key-key.ensures c.place-at.ensures c.behind-self-in-None.ensures
