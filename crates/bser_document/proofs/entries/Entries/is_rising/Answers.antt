-- Each key is looked at with the one before it.
use Rattle.std.proofs.Common.{rules}
use Rattle.bser_document.proofs.Rising.{one_risen, all_risen}
use Rattle.bser_document.proofs.entries.Entries.is_rising.Goals as goal

pub loop-entry-preserved : goal.loop-entry-preserved
loop-entry-preserved c m h = one_risen m c.loop-entry.before c.loop-entry.entry-iterator c.next.new.self c.in-Some.entry (c.is_above.ensures (search rules)) c.in-Some.ensures.steps (c.loop-entry.invariant m h)

pub returns : goal.returns
returns c m h true = all_risen m c.loop-entry.before c.loop-entry.entry-iterator c.next.new.self c.in-None.ensures.steps (c.loop-entry.invariant m h)
