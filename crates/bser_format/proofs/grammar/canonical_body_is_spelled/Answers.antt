use Rattle.bser_format.proofs.Canon.{text_spelled}
use Rattle.bser_format.proofs.grammar.canonical_body_is_spelled.Goals as goal

pub returns : goal.returns
returns c = text_spelled
