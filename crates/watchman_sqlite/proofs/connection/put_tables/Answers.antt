use Rattle.std.proofs.Common.{◌∙◌, [], ◌∷◌, Ok, arith, rules}
use Rattle.sqlite.specs.Held.{state}
use Rattle.sqlite.specs.State.{ExecutesInside, HasCleanDisk}
use Rattle.sqlite.specs.declared.types.Value.TheVariants.{Int}
use Rattle.watchman_sqlite.specs.declared.schema.TheConstants.{KEEP_LAYOUT, LAYOUT}
use Rattle.watchman_sqlite.proofs.Inside.{subject_inside}
use Rattle.watchman_sqlite.proofs.connection.put_tables.Goals as goal

pub returns-clause-made : goal.returns-clause-made
returns-clause-made g c clean inside =
    let clean3 : HasCleanDisk (state g.S.Store c.execute.new.self.conn.now) = omega (arith, c.keep_subject.ensures.survives.clean) in
    let clean2 : HasCleanDisk (state g.S.Store c.execute_batch-2.new.self.conn.now) = omega (arith, c.execute.ensures.survives.clean) in
    let clean1 : HasCleanDisk (state g.S.Store c.execute_batch.new.self.conn.now) = omega (arith, c.execute_batch-2.ensures.survives.clean) in
    let inside1 = c.in_ok-execute_batch.ensures.inside clean1 ∙ inside in
    let inside2 = c.in_ok-execute_batch-2.ensures.inside clean2 ∙ inside1 in
    let raw = c.in_ok-execute.ensures.runs clean3 inside2 in
    let ran : ExecutesInside 0 KEEP_LAYOUT.now (Int LAYOUT ∷ []) (state g.S.Store c.execute_batch-2.new.self.conn.now) (state g.S.Store c.execute.new.self.conn.now) (Ok c.in_ok-execute.field-0) = search rules in
    let shows = ran.1 in
    let kept = c.in_ok-keep_subject.ensures.kept clean shows.mode in
    let last = subject_inside g.S.Store _ c.execute.new.self.conn.now c.keep_subject.new.transaction.conn.now shows.mode kept in
    let first = c.execute_batch.ensures.kept clean1 in
    let second = c.execute_batch-2.ensures.kept clean2 in
    let open1 = second.was_open shows.was_open in
    record {
      first = c.execute_batch.new.self.conn.now;
      second = c.execute_batch-2.new.self.conn.now;
      third = c.execute.new.self.conn.now;
      count = c.in_ok-execute.field-0;
      was_open = first.was_open open1;
      made = c.in_ok-execute_batch.ensures.ran clean1;
      made_subject = c.in_ok-execute_batch-2.ensures.ran clean2;
      version = ran;
      kept = kept;
      inside = last.0;
      committed = last.1 ∙ shows.committed_is ∙ second.committed shows.was_open ∙ first.committed open1;
    }
