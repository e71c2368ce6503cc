-- A finite number is put as its text.
use Rattle.std.proofs.Common.{◌≡◌, [], ◌∷◌, true, OnOk, rules, refl, sym, subst}
use Rattle.json.proofs.Printed.Floats.{IsNumber-plain}
use Rattle.json.specs.Token as tokens
use Rattle.std.specs.Float.{float_is_finite}
use Rattle.bser_json.specs.Said.{PutsSaid, SaysNumber}
use Rattle.bser_json.proofs.PrintedNumbers.{plain_is_real}
use Rattle.bser_json.proofs.Saying.{one_said}
use Rattle.bser_json.proofs.writing.put_float.Goals as goal

pub token-requires : goal.token-requires
token-requires g c = search (rules, IsNumber-plain)

pub returns-then-is_finite : goal.returns-then-is_finite
returns-then-is_finite g c =
    let r = c.token.result in
    let x = c.args.out.now in
    let y = c.token.new.self in
    let text = c.format_finite.result.now in
    let finite : float_is_finite c.args.number ≡ true = search rules in
    subst (λ b. OnOk r (PutsSaid g.W.Write.contents (SaysNumber c.args.bits c.args.number b) x y)) (sym finite)
    (one_said g.W.Write.contents r (SaysNumber c.args.bits c.args.number true) (tokens.number text ∷ []) x y (text, refl, IsNumber-plain text c.format_finite.ensures.plain, plain_is_real text c.format_finite.ensures.plain, c.format_finite.ensures.parses) c.token.ensures)
