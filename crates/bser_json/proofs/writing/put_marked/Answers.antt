-- The object's four tokens are put one after the other.
use Rattle.std.proofs.Common.{ℕ, List, [], ◌∷◌, rules, ap}
use Rattle.hex.specs.Hex.{IsBytes, encode_lower}
use Rattle.json.specs.Token as tokens
use Rattle.bser_json.specs.Said.{SaysMarked}
use Rattle.bser_json.proofs.Saying.{one_said, puts_last, puts_then}
use Rattle.bser_json.proofs.writing.put_marked.Goals as goal

pub returns : goal.returns
returns g c =
    let contents = g.W.Write.contents in
    let bytes = c.args.bytes.now in
    let k = c.key.result.now in
    let object : List ℕ → List tokens.Token = λ l. tokens.begin_object ∷ tokens.key l ∷ tokens.string (encode_lower bytes) ∷ tokens.end_object ∷ [] in
    let x = c.args.out.now in
    let y = c.hexadecimal.new.self in
    let z = c.token-3.new.self in
    let r = c.token-3.result in
    let fit : IsBytes bytes = search rules in
    let opened = puts_then contents (tokens.begin_object ∷ []) (tokens.key k ∷ []) x c.token.new.self c.token-2.new.self c.in_ok-token.ensures c.in_ok-token-2.ensures in
    let digits = puts_then contents (tokens.begin_object ∷ tokens.key k ∷ []) (tokens.string (encode_lower bytes) ∷ []) x c.token-2.new.self y opened c.in_ok-hexadecimal.ensures in
    one_said contents r (SaysMarked c.args.mark bytes) (object k) x z (ap object c.key.ensures, fit)
    (puts_last contents r (tokens.begin_object ∷ tokens.key k ∷ tokens.string (encode_lower bytes) ∷ []) (tokens.end_object ∷ []) x y z digits c.token-3.ensures)
