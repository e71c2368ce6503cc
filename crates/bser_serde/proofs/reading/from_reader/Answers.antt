-- The usual limits.
use Rattle.std.proofs.Common.{OnOk, IfErr, subst}
use Rattle.bser_serde.specs.Messages.{TookMessage}
use Rattle.bser_serde.specs.Refusals.{NextUnread}
use Rattle.bser_serde.proofs.Told.{usual}
use Rattle.bser_serde.proofs.reading.from_reader.Goals as goal

pub returns-clause-found : goal.returns-clause-found
returns-clause-found g c =
    subst (λ l. OnOk c.from_reader_limited.result (TookMessage l (g.S.Source.remaining c.args.reader.now) (g.S.Source.remaining c.from_reader_limited.new.reader))) (usual c.new.result c.new.ensures.levels c.new.ensures.bytes) c.from_reader_limited.ensures.found

pub returns-clause-refused : goal.returns-clause-refused
returns-clause-refused g c =
    subst (λ l. IfErr c.from_reader_limited.result (NextUnread l g.S.Source c.args.reader.now c.from_reader_limited.new.reader)) (usual c.new.result c.new.ensures.levels c.new.ensures.bytes) c.from_reader_limited.ensures.refused
