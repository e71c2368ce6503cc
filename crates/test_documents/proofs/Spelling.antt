-- Templates as they are spelled, cut into their parts.
use Rattle.std.proofs.Common.{◌≡◌, inl, ℕ, pos, List, [], ◌∷◌, take, drop, refl, sym, arith}
use Rattle.std.proofs.lemmas.List.{take-append-drop}
use Rattle.std.proofs.lemmas.Str.{IsUtf8-from_is_utf8}
use Rattle.std.specs.Int.{w64}
use Rattle.std.specs.Str.{is_utf8, chars}
use Rattle.bser_format.specs.Tree.{template, no_rows}
use Rattle.bser_format.specs.Grammar.{Format, Spells, SpellsKey, ◌then◌}
use Rattle.bser_format.specs.Canonical.{least_integer}
use Rattle.bser_format.specs.WrittenOut.{written_out}
use Rattle.bser_format.proofs.Canon.{bytes_spelled, count_spelled, least_integer_spelled, within_fits}
use Rattle.test_documents.specs.Templates.{no_keys, people_body, people_keys, people_rows}
use Rattle.test_documents.specs.Spelled.{people_out}
use Rattle.test_documents.specs.Samples.{empty_array}

-- the first k bytes, and the rest
cut : (k : ℕ) (F G : Format) (b : List ℕ) → F (take k b) → G (drop k b) → (F then G) b
cut k F G b f g = record { front = take k b; rest = drop k b; whole = sym (take-append-drop k b); first = f; second = g }

-- a key of three letters under the byte string's tag
abc : SpellsKey (0x61 ∷ 0x62 ∷ 0x63 ∷ []) (0x02 ∷ 0x03 ∷ 0x03 ∷ 0x61 ∷ 0x62 ∷ 0x63 ∷ [])
unfolding is_utf8 chars lib.Utf8.encode least_integer
abc = (IsUtf8-from_is_utf8 _ refl, inl (bytes_spelled _ (omega arith)))

def_key : SpellsKey (0x64 ∷ 0x65 ∷ 0x66 ∷ []) (0x02 ∷ 0x03 ∷ 0x03 ∷ 0x64 ∷ 0x65 ∷ 0x66 ∷ [])
unfolding is_utf8 chars lib.Utf8.encode least_integer
def_key = (IsUtf8-from_is_utf8 _ refl, inl (bytes_spelled _ (omega arith)))

ghi : SpellsKey (0x67 ∷ 0x68 ∷ 0x69 ∷ []) (0x02 ∷ 0x03 ∷ 0x03 ∷ 0x67 ∷ 0x68 ∷ 0x69 ∷ [])
unfolding is_utf8 chars lib.Utf8.encode least_integer
ghi = (IsUtf8-from_is_utf8 _ refl, inl (bytes_spelled _ (omega arith)))

people_spelled : Spells 2 (template people_keys people_rows) people_body
unfolding is_utf8 chars lib.Utf8.encode least_integer
people_spelled =
    let three = count_spelled 3 (omega arith) in
    let two = count_spelled 2 (omega arith) in
    let first_row = cut 2 _ _ _ (least_integer_spelled (pos 123) (within_fits w64 _ refl)) (cut 6 _ _ _ (bytes_spelled _ (omega arith)) (cut 1 _ _ _ refl refl)) in
    let second_row = cut 3 _ _ _ (least_integer_spelled (pos 456) (within_fits w64 _ refl)) (cut 1 _ _ _ refl (cut 3 _ _ _ (least_integer_spelled (pos 789) (within_fits w64 _ refl)) refl)) in
    let keys = cut 6 _ _ _ abc (cut 6 _ _ _ def_key (cut 6 _ _ _ ghi refl)) in
    let rows = cut 9 _ _ _ first_row (cut 7 _ _ _ second_row refl) in
    ((refl, (refl, tt)), cut 1 _ _ _ refl (cut 1 _ _ _ refl (cut 2 _ _ _ three (cut 18 _ _ _ keys (cut 2 _ _ _ two rows)))))

pub people_written : (h : Spells 2 (template people_keys people_rows) people_body) × (written_out 2 people_keys people_rows people_body h ≡ people_out)
unfolding is_utf8 chars lib.Utf8.encode least_integer people_spelled cut
people_written = (people_spelled, refl)

no_keys_spelled : Spells 2 (template [] no_rows) no_keys
unfolding least_integer
no_keys_spelled = (refl, cut 1 _ _ _ refl (cut 1 _ _ _ refl (cut 2 _ _ _ (count_spelled 0 (omega arith)) (cut 0 _ _ _ refl (cut 2 _ _ _ (count_spelled 0 (omega arith)) refl)))))

pub no_keys_written : (h : Spells 2 (template [] no_rows) no_keys) × (written_out 2 [] no_rows no_keys h ≡ empty_array)
unfolding least_integer no_keys_spelled cut
no_keys_written = (no_keys_spelled, refl)
