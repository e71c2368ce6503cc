-- The value that the message is read as.
use Rattle.std.proofs.Common.{◌≡◌, ◌<◌, ◌^◌, length, arith, rules, subst}
use Rattle.bser_format.specs.ReadsAny.{reads_value}
use Rattle.bser_messages.specs.Messages.{BeginsWith}
use Rattle.bser_value.specs.ValueView.{HoldsValue}
use Rattle.bser_from_json.proofs.Messages.{message_read}
use Rattle.bser_from_json.proofs.reading.value_of.Goals as goal

pub returns-in-Ok-clause-made : goal.returns-in-Ok-clause-made
returns-in-Ok-clause-made c =
    let m = c.in_ok-message.message in
    let same : c.as_slice.result.now ≡ m.items = search rules in
    let short : length m.items < 2 ^ 63 = omega (arith, m.ok.0, m.ok.1, m.small) in
    message_read _ m.items c.in-Ok.value c.in_ok-message.ensures.made short (subst (λ bytes. BeginsWith 128 reads_value HoldsValue bytes c.in-Ok.value) same c.in-Ok.ensures.found)
