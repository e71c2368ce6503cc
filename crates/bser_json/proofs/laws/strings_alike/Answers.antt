use Rattle.bser_json.proofs.Escaping.{strings_alike}
use Rattle.bser_json.proofs.laws.strings_alike.Goals as goal

pub returns : goal.returns
returns c = strings_alike
