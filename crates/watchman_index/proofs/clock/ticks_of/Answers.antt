use Rattle.std.proofs.Common.{◌∙◌}
use Rattle.std.proofs.lemmas.Str.{IsUtf8-from_ascii}
use Rattle.watchman_index.proofs.Ticks.{signed_ascii, behind_instance, read_ticks}
use Rattle.watchman_index.proofs.clock.ticks_of.Goals as goal

pub returns-in-Ok : goal.returns-in-Ok
returns-in-Ok c =
    let behind = behind_instance c.args.clock.now _ c.instance_of_clock.ensures in
    let text = c.in-Ok.ensures.cases.0 ∙ c.in_ok-behind.ensures.lookup.0.2 ∙ behind in
    rw c.ok.ensures.value (read_ticks c.args.clock.now c.parse.result (rw text at c.parse.ensures.value.0))

pub returns-in-Err : goal.returns-in-Err
returns-in-Err c =
    let behind = behind_instance c.args.clock.now _ c.instance_of_clock.ensures in
    let text = c.in_ok-behind.ensures.lookup.0.2 ∙ behind in
    λ n ticks. c.in-Err.ensures.cases.0 (IsUtf8-from_ascii _ (rw text (signed_ascii _ ticks.numeral.1)))
