-- An integer is put as its digits.
use Rattle.std.proofs.Common.{◌≡◌, [], ◌∷◌, rules, ap}
use Rattle.json.proofs.Printed.Decimals.{IsNumber-signed_decimal}
use Rattle.json.specs.Token as tokens
use Rattle.std.specs.Fmt.{signed_decimal}
use Rattle.bser_format.specs.Tree.{integer}
use Rattle.bser_json.specs.Said.{Says}
use Rattle.bser_json.proofs.Saying.{one_said}
use Rattle.bser_json.proofs.writing.put_integer.Goals as goal

pub token-requires : goal.token-requires
token-requires g c = search (rules, IsNumber-signed_decimal)

pub returns : goal.returns
returns g c =
    let digits : c.format.result.now ≡ signed_decimal c.args.number = search rules in
    one_said g.W.Write.contents c.token.result (Says (integer c.args.number)) (tokens.number c.format.result.now ∷ []) c.args.out.now c.token.new.self (ap (λ s. tokens.number s ∷ []) digits) c.token.ensures
