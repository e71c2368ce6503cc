-- With the entries that are left, all is the object.
use Rattle.bser_from_json.proofs.Entries.{EntriesCome}
use Rattle.bser_from_json.proofs.body.with_object.Given as goal

abbrev pub invariant-loop-span : goal.invariant-loop-span
invariant-loop-span l = EntriesCome l.fn.bytes.items l.parts l.entries.entries l.span-iterator l.all.items
