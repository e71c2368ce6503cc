-- Each entry is put into the map.
use Rattle.std.proofs.Common.{rules}
use Rattle.bser_document.proofs.Sorts.{none_sorted, one_sorted, all_sorted}
use Rattle.bser_document.proofs.entries.Entries.sorted.Goals as goal

pub loop-entry-init : goal.loop-entry-init
loop-entry-init c m h = none_sorted m c.new-sorted.result.entries c.args.self c.into_iter-entry-iterator.result (search rules) (search rules) h

pub loop-entry-preserved : goal.loop-entry-preserved
loop-entry-preserved c m h = one_sorted m _ _ c.loop-entry.entry-iterator c.next.new.self c.in-Some.entry c.in_ok-insert.ensures.entries c.in-Some.ensures.steps (c.loop-entry.invariant m h)

pub returns : goal.returns
returns c m h = all_sorted m _ c.loop-entry.entry-iterator c.next.new.self c.in-None.ensures.steps (c.loop-entry.invariant m h)
