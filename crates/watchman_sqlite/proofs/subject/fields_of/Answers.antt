use Rattle.std.proofs.Common.{ap, ◌∙◌, lit<}
use Rattle.std.specs.List.{join_with_byte}
use Rattle.std.proofs.lemmas.Iterator.Consumers.{YieldsList-end}
use Rattle.std.proofs.lemmas.Iterator.Splits.{YieldsList-from_str_split}
use Rattle.std.proofs.lemmas.List.Splits.{join_with_byte-slice_split}
use Rattle.watchman_sqlite.specs.Fields.{comma}
use Rattle.watchman_sqlite.proofs.subject.fields_of.Goals as goal

pub returns-clause-found : goal.returns-clause-found
returns-clause-found c =
    let words = c.args.words.now in
    let parts = YieldsList-from_str_split {s = c.into_iter-word-iterator.result} comma words (lit< tt) (cc) (cc) (cc) in
    let all = (YieldsList-end parts c.loop-word.yielded _ c.loop-word.yielded_by _ _ c.in-None.is c.next.ensures.steps).0 in
    ap (join_with_byte comma) (c.loop-word.invariant ∙ all) ∙ join_with_byte-slice_split comma words
