-- Strings and values are taken piece by piece.
use Rattle.std.proofs.Common.{◌≡◌, ◌⊎◌, ℕ, ℤ, zero, suc, ◌<◌, ◌-◌, ◌*◌, Bool, true, false, List, [], ◌∷◌, length, take, drop, get_or, refl, sym, ap, subst, ◌∙◌, arith, inl, inr}
use Rattle.std.proofs.lemmas.List.{take-append-drop, take_rest}
use Rattle.bser_format.specs.Tree as trees
use Rattle.bser_format.specs.Tree.{Tree, array, object, template, items_of, entries_of, rows_of}
use Rattle.bser_format.specs.DueReaders.{less_one}
use Rattle.bser_format.specs.declared.errors.Complaint.{Complaint}
use Rattle.bser_format.specs.declared.errors.Complaint.TheVariants.{NegativeLength, NegativeCount}
use Rattle.bser_format.specs.declared.errors.Kind.TheVariants.{MapKey, TemplateKey}
use Rattle.bser_format.specs.Named as named
use Rattle.bser_format.specs.Named.{Reader, reads, give, and_then, ◌>>=◌, front, utf8, many, text_of, entry_of, field_of, with_text_keys, rows_body, template_body}
use Rattle.bser_bunser.specs.declared.prefix.Token.{Token}
use Rattle.bser_bunser.specs.declared.prefix.Token.TheVariants as tokens
use Rattle.bser_events.specs.Found.{value_rest, table_at, IsContainer}
use Rattle.bser_events.proofs.Begins.{value_begins}
use Rattle.bser_events.proofs.Texts.{utf8_reads}
use Rattle.bser_events.specs.Takes.{Takes, counting}
use Rattle.bser_events.proofs.Binds.{bound, mapped}
use Rattle.bser_events.proofs.AtStart.{Fronts, behind}
use Rattle.bser_serde_format.specs.Takes.{Cut, CutString}
use Rattle.bser_serde_format.proofs.Rows.{rows_taken}

pub string_cut : (is_text : Bool) (n : ℕ) (b mid rest : List ℕ) → counting NegativeLength b ≡ reads n mid → Cut is_text n mid rest → CutString is_text b rest
string_cut is_text n b mid rest len cut = record { string = cut.string; read = ap (and_then front) len ∙ cut.front; text = cut.text }

pub entry_taken : (levels : ℕ) (b mid z : List ℕ) → Takes (text_of MapKey) b mid → Takes (with_text_keys levels) mid z
    → Takes (entry_of (text_of MapKey) (with_text_keys levels)) b z
entry_taken levels b mid z key value =
    bound (text_of MapKey) (λ k. with_text_keys levels >>= λ t. give (k, t)) b mid z key.0 key.1 (mapped (with_text_keys levels) (λ t. (key.0, t)) mid z value)

-- ---- values

-- a token, and what follows it
pub token_reads : (levels : ℕ) (t : Token) (n : ℕ) (held z : List ℕ) (x : Tree) → Fronts t n held → (IsContainer t → 0 < levels)
    → value_rest levels t (behind n held) ≡ reads x z → with_text_keys levels held ≡ reads x z
token_reads levels t n held z x h level rest =
    ap (with_text_keys levels) (sym (take-append-drop n held)) ∙ value_begins levels t (take n held) h.1 level (drop n held)
    ∙ ap (value_rest levels t) (sym (take_rest held n)) ∙ rest

pub token_value : (levels : ℕ) (t : Token) (n : ℕ) (held z : List ℕ) → Fronts t n held → (IsContainer t → 0 < levels)
    → Takes (value_rest levels t) (behind n held) z → Takes (with_text_keys levels) held z
token_value levels t n held z h level rest = (rest.0, token_reads levels t n held z rest.0 h level rest.1)

-- an integer
pub integer_reads : (n len : ℕ) (v : ℤ) (held : List ℕ) → Fronts (tokens.Int v) len held → with_text_keys n held ≡ reads (trees.integer v) (behind len held)
integer_reads n len v held h = token_reads n (tokens.Int v) len held (behind len held) (trees.integer v) h (λ c. absurd c) refl

-- a real
pub real_reads : (n len v : ℕ) (held : List ℕ) → Fronts (tokens.Real v) len held → with_text_keys n held ≡ reads (trees.real v) (behind len held)
real_reads n len v held h = token_reads n (tokens.Real v) len held (behind len held) (trees.real v) h (λ c. absurd c) refl

-- a token that is a whole value
abbrev pub IsScalar : Token → Type 0
IsScalar t = (t ≡ tokens.Null) ⊎ (((x : Bool) × (t ≡ tokens.Bool x)) ⊎ (((x : ℤ) × (t ≡ tokens.Int x)) ⊎ ((x : ℕ) × (t ≡ tokens.Real x))))

scalar_rest : (levels : ℕ) (t : Token) (b : List ℕ) → IsScalar t → Takes (value_rest levels t) b b
scalar_rest levels t b (inl is) = subst (λ k. Takes (value_rest levels k) b b) (sym is) (trees.null, refl)
scalar_rest levels t b (inr (inl is)) = subst (λ k. Takes (value_rest levels k) b b) (sym is.1) (trees.boolean is.0, refl)
scalar_rest levels t b (inr (inr (inl is))) = subst (λ k. Takes (value_rest levels k) b b) (sym is.1) (trees.integer is.0, refl)
scalar_rest levels t b (inr (inr (inr is))) = subst (λ k. Takes (value_rest levels k) b b) (sym is.1) (trees.real is.0, refl)

no_container : (t : Token) → IsScalar t → IsContainer t → ⊥
no_container t (inl is) h = subst IsContainer is h
no_container t (inr (inl is)) h = subst IsContainer is.1 h
no_container t (inr (inr (inl is))) h = subst IsContainer is.1 h
no_container t (inr (inr (inr is))) h = subst IsContainer is.1 h

pub scalar_value : (levels : ℕ) (t : Token) (n : ℕ) (held : List ℕ) → Fronts t n held → IsScalar t → Takes (with_text_keys levels) held (behind n held)
scalar_value levels t n held h is = token_value levels t n held (behind n held) h (λ c. absurd (no_container t is c)) (scalar_rest levels t (behind n held) is)

pub string_value : (levels : ℕ) (is_text : Bool) (m : ℕ) (b z : List ℕ) → Cut is_text m b z → Takes (value_rest levels (tokens.Str is_text m)) b z
string_value levels true m b z cut =
    (trees.text cut.string, ap (and_then (λ s. give (trees.text s))) (ap (and_then utf8) cut.front ∙ utf8_reads cut.string z (cut.text refl)))
string_value levels false m b z cut = (trees.bytes cut.string, ap (and_then (λ s. give (trees.bytes s))) cut.front)

less : (levels : ℕ) → levels - 1 ≡ less_one levels
less zero = refl
less (suc n) = omega arith

pub array_value : (levels n : ℕ) (b z : List ℕ) → Takes (many (with_text_keys (levels - 1)) n) b z → Takes (value_rest levels (tokens.Array n)) b z
array_value levels n b z t =
    mapped (many (with_text_keys (less_one levels)) n) (λ ts. array (items_of ts)) b z (subst (λ k. Takes (many (with_text_keys k) n) b z) (less levels) t)

pub object_value : (levels n : ℕ) (b z : List ℕ) → Takes (many (entry_of (text_of MapKey) (with_text_keys (levels - 1))) n) b z
    → Takes (value_rest levels (tokens.Object n)) b z
object_value levels n b z t =
    mapped (many (entry_of (text_of MapKey) (with_text_keys (less_one levels))) n) (λ es. object (entries_of es)) b z
    (subst (λ k. Takes (many (entry_of (text_of MapKey) (with_text_keys k)) n) b z) (less levels) t)

pub template_value : (levels : ℕ) (b z : List ℕ) → Takes (table_at (levels - 1)) b z → Takes (value_rest levels tokens.Template) b z
template_value levels b z t = subst (λ k. Takes (table_at k) b z) (less levels) t

pub rows_body_taken : (r : Reader Tree) (ks : List (List ℕ)) (w m : ℕ) (b z : List ℕ) → (w ≡ 0 → m ≡ 0) → Takes (many (many (field_of r) w) m) b z
    → Takes (rows_body r ks w m) b z
rows_body_taken r ks zero zero b z none t = mapped (many (many (field_of r) zero) zero) (λ rs. template ks (rows_of rs)) b z t
rows_body_taken r ks zero (suc m) b z none t = (let never = none refl in absurd (omega (arith, never)))
rows_body_taken r ks (suc w) m b z none t = mapped (many (many (field_of r) (suc w)) m) (λ rs. template ks (rows_of rs)) b z t

pub table_taken : (levels tag w m : ℕ) (y a b d z : List ℕ) → (levels ≡ 0 → ⊥) → tag ≡ 0x00
    → ((c : Complaint) → counting c y ≡ reads w a) → Takes (many (text_of TemplateKey) w) a b
    → ((c : Complaint) → counting c b ≡ reads m d) → (w ≡ 0 → m ≡ 0)
    → Takes (many (field_of (with_text_keys levels)) (m * w)) d z → Takes (table_at levels) (tag ∷ y) z
table_taken zero tag w m y a b d z deep is width keys count none fields = absurd (deep refl)
table_taken (suc n) tag w m y a b d z deep is width keys count none fields =
    let r = with_text_keys (suc n) in
    let rows = rows_body_taken r keys.0 w m d z none (rows_taken (field_of r) w m d z fields) in
    let after_count = bound named.count (λ k. rows_body r keys.0 w k) b d z m (count NegativeCount) rows in
    let after_keys = bound (many (text_of TemplateKey) w) (λ ks. named.count >>= λ k. rows_body r ks w k) a b z keys.0 keys.1 after_count in
    let whole : Takes (template_body r) y z =
    bound named.count (λ k. many (text_of TemplateKey) k >>= λ ks. named.count >>= λ j. rows_body r ks k j) y a z w (width NegativeCount) after_keys in
    (whole.0, ap (λ k. table_at (suc n) (k ∷ y)) is ∙ whole.1)

-- the same of all that is left
pub table_there : (levels w m : ℕ) (b a c d z : List ℕ) → (levels ≡ 0 → ⊥) → (length b ≡ 0 → ⊥) → get_or b 0 0 ≡ 0x00
    → ((k : Complaint) → counting k (behind 1 b) ≡ reads w a) → Takes (many (text_of TemplateKey) w) a c
    → ((k : Complaint) → counting k c ≡ reads m d) → (w ≡ 0 → m ≡ 0)
    → Takes (many (field_of (with_text_keys levels)) (m * w)) d z → Takes (table_at levels) b z
table_there levels w m [] a c d z deep some is width keys count none fields = absurd (some refl)
table_there levels w m (t ∷ y) a c d z deep some is width keys count none fields =
    table_taken levels t w m y a c d z deep is (λ k. ap (counting k) (sym (take_rest (t ∷ y) 1)) ∙ width k) keys count none fields
