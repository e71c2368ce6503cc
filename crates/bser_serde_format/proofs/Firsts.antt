-- What a value begins with.
use Rattle.std.proofs.Common.{◌≡◌, ℕ, zero, suc, ◌-◌, ◌<◌, ◌≤◌, ◌||◌, Bool, true, false, List, [], ◌∷◌, length, get_or, refl, sym, ap, subst, ◌∙◌, arith, nat_eq, IsUtf8}
use Rattle.std.specs.Prelude.{None}
use Rattle.std.proofs.lemmas.Bool.{eqb-true}
use Rattle.std.proofs.lemmas.List.{take_rest}
use Rattle.bser_format.specs.Tree as trees
use Rattle.bser_format.specs.Tree.{Tree, array, object, items_of, entries_of}
use Rattle.bser_format.specs.DueReaders.{is_key_tag}
use Rattle.bser_format.specs.declared.errors.Complaint.{Complaint}
use Rattle.bser_format.specs.declared.errors.Complaint.TheVariants.{NegativeLength, NegativeCount}
use Rattle.bser_format.specs.declared.errors.Kind.TheVariants.{MapKey}
use Rattle.bser_format.specs.Named as named
use Rattle.bser_format.specs.Named.{reads, give, and_then, ◌>>=◌, front, utf8, many, text_of, entry_of, field_of, value, with_text_keys, array_body, object_body, template_body, rows_body}
use Rattle.bser_events.specs.Found.{keys_at}
use Rattle.bser_events.specs.Takes.{Takes, counting}
use Rattle.bser_events.proofs.Binds.{bound, mapped}
use Rattle.bser_events.proofs.AtStart.{behind}
use Rattle.bser_serde_format.specs.Takes.{IsString, string_tree}
use Rattle.bser_serde_format.specs.declared.open.Form.{Form}
use Rattle.bser_serde_format.specs.declared.open.Form.TheVariants.{Row}
use Rattle.bser_serde_format.specs.Left.{TakesOne}
use Rattle.bser_serde_format.proofs.Onward.{any_one}
use Rattle.bser_serde_format.proofs.Pieces.{rows_body_taken}
use Rattle.bser_serde_format.proofs.Tags.{null_there, bool_there, bytes_there, text_there}

-- what stands behind a tag
pub behind_tag : (c : ℕ) (y : List ℕ) → behind 1 (c ∷ y) ≡ y
behind_tag c y = take_rest (c ∷ y) 1

tagged : (f : Form) (n c : ℕ) (b : List ℕ) → 0 < length b → get_or b 0 0 ≡ c → ((y : List ℕ) → TakesOne f n (c ∷ y) y) → TakesOne f n b (behind 1 b)
tagged f n c [] some is t = absurd (omega (arith, some))
tagged f n c (x ∷ y) some is t = subst (λ k. TakesOne f n (x ∷ y) k) (sym (behind_tag x y)) (subst (λ k. TakesOne f n (k ∷ y) y) (sym is) (t y))

pub null_one : (f : Form) (n : ℕ) (b : List ℕ) → 0 < length b → get_or b 0 0 ≡ 0x0a → TakesOne f n b (behind 1 b)
null_one f n b some is = tagged f n 0x0a b some is (λ y. any_one f n (0x0a ∷ y) y (trees.null, null_there n y))

pub true_one : (f : Form) (n : ℕ) (b : List ℕ) → 0 < length b → get_or b 0 0 ≡ 0x08 → TakesOne f n b (behind 1 b)
true_one f n b some is = tagged f n 0x08 b some is (λ y. any_one f n (0x08 ∷ y) y (trees.boolean true, bool_there n true y))

pub false_one : (f : Form) (n : ℕ) (b : List ℕ) → 0 < length b → get_or b 0 0 ≡ 0x09 → TakesOne f n b (behind 1 b)
false_one f n b some is = tagged f n 0x09 b some is (λ y. any_one f n (0x09 ∷ y) y (trees.boolean false, bool_there n false y))

-- a field that is missing
pub skip_one : (f : Form) (n : ℕ) (b : List ℕ) → f ≡ Row → 0 < length b → get_or b 0 0 ≡ 0x0c → TakesOne f n b (behind 1 b)
skip_one f n b row some is = subst (λ k. TakesOne k n b (behind 1 b)) (sym row) (tagged Row n 0x0c b some is (λ y. (None, refl)))

-- ---- strings

string_tag : (c : ℕ) (y s z : List ℕ) → is_key_tag c ≡ true → named.string y ≡ reads s z → IsString (nat_eq c 0x0d) (c ∷ y) s z
string_tag c y s z key h n text = by_tag (nat_eq c 0x0d) refl key
  where
    as_bytes : c ≡ 0x02 → with_text_keys n (c ∷ y) ≡ reads (trees.bytes s) z
    as_bytes is = ap (λ k. with_text_keys n (k ∷ y)) is ∙ bytes_there n y s z h

    as_text : nat_eq c 0x0d ≡ true → with_text_keys n (c ∷ y) ≡ reads (trees.text s) z
    as_text is = ap (λ k. with_text_keys n (k ∷ y)) (eqb-true c 0x0d is) ∙ text_there n y s z h (text is)

    by_other : (o : Bool) → nat_eq c 0x02 ≡ o → o || false ≡ true → c ≡ 0x02
    by_other true q k = eqb-true c 0x02 q
    by_other false q k = absurd cc

    by_tag : (b : Bool) → nat_eq c 0x0d ≡ b → nat_eq c 0x02 || nat_eq c 0x0d ≡ true → with_text_keys n (c ∷ y) ≡ reads (string_tree (nat_eq c 0x0d) s) z
    by_tag true q k = as_text q ∙ ap (λ o. reads (string_tree o s) z) (sym q)
    by_tag false q k =
        as_bytes (by_other (nat_eq c 0x02) refl (ap (λ o. nat_eq c 0x02 || o) (sym q) ∙ k)) ∙ ap (λ o. reads (string_tree o s) z) (sym q)

-- a string whose length and bytes stand behind its tag
pub string_here : (b c s z : List ℕ) (len : ℕ) → 0 < length b → is_key_tag (get_or b 0 0) ≡ true → ((k : Complaint) → counting k (behind 1 b) ≡ reads len c)
    → front len c ≡ reads s z → IsString (nat_eq (get_or b 0 0) 0x0d) b s z
string_here [] c s z len some key count cut = absurd (omega (arith, some))
string_here (x ∷ y) c s z len some key count cut =
    string_tag x y s z key (ap named.string (sym (behind_tag x y)) ∙ ap (and_then front) (count NegativeLength) ∙ cut)

pub string_one : (f : Form) (n : ℕ) (is_text : Bool) (b s z : List ℕ) → IsString is_text b s z → (is_text ≡ true → IsUtf8 s) → TakesOne f n b z
string_one f n is_text b s z h text = any_one f n b z (string_tree is_text s, h n text)

-- ---- containers

array_there : (n : ℕ) (y : List ℕ) → with_text_keys (suc n) (0x00 ∷ y) ≡ array_body (with_text_keys n) y
unfolding value
array_there n y = refl

object_there : (n : ℕ) (y : List ℕ) → with_text_keys (suc n) (0x01 ∷ y) ≡ object_body (text_of MapKey) (with_text_keys n) y
unfolding value
object_there n y = refl

pub array_one : (f : Form) (n len : ℕ) (b c z : List ℕ) → (n ≡ 0 → ⊥) → 0 < length b → get_or b 0 0 ≡ 0x00 → ((k : Complaint) → counting k (behind 1 b) ≡ reads len c)
    → Takes (many (with_text_keys (n - 1)) len) c z → TakesOne f n b z
array_one f zero len b c z deep some is count t = absurd (deep refl)
array_one f (suc n) len [] c z deep some is count t = absurd (omega (arith, some))
array_one f (suc n) len (x ∷ y) c z deep some is count t =
    let less : suc n - 1 ≡ n = omega arith in
    let inside = mapped (many (with_text_keys n) len) (λ ts. array (items_of ts)) c z (subst (λ k. Takes (many (with_text_keys k) len) c z) less t) in
    let body = bound named.count (λ k. many (with_text_keys n) k >>= λ ts. give (array (items_of ts))) y c z len
    (ap (counting NegativeCount) (sym (behind_tag x y)) ∙ count NegativeCount) inside in
    any_one f (suc n) (x ∷ y) z (body.0, ap (λ k. with_text_keys (suc n) (k ∷ y)) is ∙ array_there n y ∙ body.1)

pub object_one : (f : Form) (n len : ℕ) (b c z : List ℕ) → (n ≡ 0 → ⊥) → 0 < length b → get_or b 0 0 ≡ 0x01 → ((k : Complaint) → counting k (behind 1 b) ≡ reads len c)
    → Takes (many (entry_of (text_of MapKey) (with_text_keys (n - 1))) len) c z → TakesOne f n b z
object_one f zero len b c z deep some is count t = absurd (deep refl)
object_one f (suc n) len [] c z deep some is count t = absurd (omega (arith, some))
object_one f (suc n) len (x ∷ y) c z deep some is count t =
    let less : suc n - 1 ≡ n = omega arith in
    let r = entry_of (text_of MapKey) (with_text_keys n) in
    let inside = mapped (many r len) (λ es. object (entries_of es)) c z (subst (λ k. Takes (many (entry_of (text_of MapKey) (with_text_keys k)) len) c z) less t) in
    let body = bound named.count (λ k. many r k >>= λ es. give (object (entries_of es))) y c z len
    (ap (counting NegativeCount) (sym (behind_tag x y)) ∙ count NegativeCount) inside in
    any_one f (suc n) (x ∷ y) z (body.0, ap (λ k. with_text_keys (suc n) (k ∷ y)) is ∙ object_there n y ∙ body.1)

template_there : (n : ℕ) (y : List ℕ) → with_text_keys (suc (suc n)) (0x0b ∷ 0x00 ∷ y) ≡ template_body (with_text_keys (suc n)) y
unfolding value
template_there n y = refl

pub template_one : (f : Form) (n w m : ℕ) (b a c d z : List ℕ) → 2 ≤ n → 2 ≤ length b → get_or b 0 0 ≡ 0x0b → get_or b 1 0 ≡ 0x00
    → ((k : Complaint) → counting k (behind 2 b) ≡ reads w a) → Takes (keys_at w) a c
    → ((k : Complaint) → counting k c ≡ reads m d) → (w ≡ 0 → m ≡ 0)
    → Takes (many (many (field_of (with_text_keys (n - 1))) w) m) d z → TakesOne f n b z
template_one f zero w m b a c d z deep some is list width keys count none rows = absurd (omega (arith, deep))
template_one f (suc zero) w m b a c d z deep some is list width keys count none rows = absurd (omega (arith, deep))
template_one f (suc (suc n)) w m [] a c d z deep some is list width keys count none rows = absurd (omega (arith, some))
template_one f (suc (suc n)) w m (x ∷ []) a c d z deep some is list width keys count none rows = absurd (omega (arith, some))
template_one f (suc (suc n)) w m (x ∷ v ∷ y) a c d z deep some is list width keys count none rows =
    let less : suc (suc n) - 1 ≡ suc n = omega arith in
    let r = with_text_keys (suc n) in
    let inside = rows_body_taken r keys.0 w m d z none (subst (λ k. Takes (many (many (field_of (with_text_keys k)) w) m) d z) less rows) in
    let after_count = bound named.count (λ k. rows_body r keys.0 w k) c d z m (count NegativeCount) inside in
    let after_keys = bound (keys_at w) (λ ks. named.count >>= λ k. rows_body r ks w k) a c z keys.0 keys.1 after_count in
    let there : behind 2 (x ∷ v ∷ y) ≡ y = take_rest (x ∷ v ∷ y) 2 in
    let body = bound named.count (λ k. keys_at k >>= λ ks. named.count >>= λ j. rows_body r ks k j) y a z w
    (ap (counting NegativeCount) (sym there) ∙ width NegativeCount) after_keys in
    let front : x ∷ v ∷ y ≡ 0x0b ∷ 0x00 ∷ y = ap (λ k. k ∷ v ∷ y) is ∙ ap (λ k. 0x0b ∷ k ∷ y) list in
    any_one f (suc (suc n)) (x ∷ v ∷ y) z (body.0, ap (with_text_keys (suc (suc n))) front ∙ template_there n y ∙ body.1)
