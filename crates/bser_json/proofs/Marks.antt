-- What is marked, and what is made of it.
use Rattle.std.proofs.Common.{◌≡◌, ℕ, ◌<◌, ◌^◌, List, length, Some, None, if◌then◌else◌, eq-eqb, refl, ap, ◌∙◌, arith}
use Rattle.std.specs.Int.{w64, to_be_bytes}
use Rattle.std.proofs.lemmas.Nat.{from_be_bytes-to_be_bytes_8}
use Rattle.hex.specs.Hex.{IsBytes, decode_of, encode_lower, lower_digits}
use Rattle.hex.proofs.HexLemmas.{decode_of-encode_lower, length-encode_with}
use Rattle.bser_format.specs.Tree.{bytes, real}
use Rattle.bser_from_json.specs.Made.{bytes_made, digits_made, real_made}
use Rattle.bser_from_json.specs.declared.meaning.Mark.TheVariants as marks

pub bytes_back : (bs : List ℕ) → IsBytes bs → digits_made marks.Bytes (encode_lower bs) ≡ Some (bytes bs)
bytes_back bs h = ap bytes_made (decode_of-encode_lower bs h)

pub bits_back : (bits : ℕ) → bits < 2 ^ 64 → IsBytes (to_be_bytes w64 bits) → digits_made marks.Real (encode_lower (to_be_bytes w64 bits)) ≡ Some (real bits)
bits_back bits small h =
    let xs = to_be_bytes w64 bits in
    let digits = encode_lower xs in
    let long : length xs ≡ 8 = refl in
    let sixteen : length digits ≡ 16 = omega (arith, length-encode_with lower_digits xs, long) in
    ap (λ b. if b then real_made (decode_of digits) else None) (eq-eqb (length digits) 16 sixteen)
    ∙ ap real_made (decode_of-encode_lower xs h) ∙ ap (λ b. Some (real b)) (from_be_bytes-to_be_bytes_8 bits small)
