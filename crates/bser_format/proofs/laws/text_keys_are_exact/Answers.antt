use Rattle.bser_format.proofs.TextLaws.{reads_text_keys, refuses_other_keys, reads_text_key_messages, refuses_other_messages}
use Rattle.bser_format.proofs.laws.text_keys_are_exact.Goals as goal

pub returns : goal.returns
returns c = record { read = reads_text_keys; refused = refuses_other_keys; messages = reads_text_key_messages; messages_refused = refuses_other_messages }
