-- A printed text has the tokens that were printed.
use Rattle.std.proofs.Common.{◌≡◌, ℕ, zero, suc, ◌*◌, List, [], ◌∷◌, ◌++◌, map, replicate, Bool, true, false, Option, Some, None, Float, codes, refl, sym, ap, subst, ◌∙◌, append_assoc, inl, inr}
use Rattle.std.specs.Float.{float_is_finite}
use Rattle.std.specs.Int.{to_be_bytes, w64}
use Rattle.std.specs.Str.{is_utf8}
use Rattle.json.specs.Layout.{Last, nothing, bracket, name, value, gap, is_value, depth_at, pretty, pretty_from, step}
use Rattle.json.specs.Lex.{tokens}
use Rattle.json.specs.Print.{ArePrintable, IsPrintable, begins, separator, token_text}
use Rattle.json.specs.Spaced.{AreGaps, IsGap, print_spaced}
use Rattle.json.specs.Token as token
use Rattle.json.proofs.Printed.Decimals.{IsNumber-signed_decimal}
use Rattle.json.proofs.Printed.Tokens.{tokens-print_spaced}
use Rattle.bser_format.specs.Tree.{Tree, null, boolean, integer, real, bytes, text, array, object, template, Items, no_items, item, Entries, no_entries, entry}
use Rattle.bser_format.specs.RealText.{float_of}
use Rattle.bser_format.specs.ValueTree.{IsValueTree, ItemsAreValueTrees, EntriesAreValueTrees}
use Rattle.bser_json.proofs.LaidOut.{ends_then}
use Rattle.bser_from_json.specs.declared.meaning.Mark.{Mark}
use Rattle.bser_from_json.specs.declared.meaning.Mark.TheVariants as marks
use Rattle.bser_json.specs.Said.{Says, SaysItems, SaysEntries, SaysMarked, SaysString, SaysNumber, SaysFloat}

-- ---- on several lines

-- each token behind its gap
abbrev spaced : Last × ℕ → List token.Token → List (List ℕ × token.Token)
spaced s [] = []
spaced s (t ∷ ts) = (gap s.0 (begins t) (depth_at s.1 t), t) ∷ spaced (step s t) ts

same_tokens : (s : Last × ℕ) (ts : List token.Token) → map (λ p. p.1) (spaced s ts) ≡ ts
same_tokens s [] = refl
same_tokens s (t ∷ ts) = ap (λ l. t ∷ l) (same_tokens (step s t) ts)

spaces : (n : ℕ) → IsGap (replicate n 32)
spaces zero = tt
spaces (suc n) = (inl refl, spaces n)

is_gap : (l : Last) (b : Bool) (n : ℕ) → IsGap (gap l b n)
is_gap nothing b n = tt
is_gap bracket true n = (inr refl, spaces (2 * n))
is_gap bracket false n = tt
is_gap name b n = (inl refl, tt)
is_gap value b n = (inr refl, spaces (2 * n))

are_gaps : (s : Last × ℕ) (ts : List token.Token) → AreGaps (spaced s ts)
are_gaps s [] = tt
are_gaps s (t ∷ ts) = (is_gap s.0 (begins t) (depth_at s.1 t), are_gaps (step s t) ts)

laid : (s : Last × ℕ) (ts : List token.Token) → pretty_from s ts ≡ print_spaced (is_value s.0) (spaced s ts)
unfolding pretty_from print_spaced
laid s [] = refl
laid s (t ∷ ts) =
    let g = gap s.0 (begins t) (depth_at s.1 t) in
    let rest = pretty_from (step s t) ts in
    append_assoc (separator (is_value s.0) t) (g ++ token_text t) rest
    ∙ ap (λ l. separator (is_value s.0) t ++ l) (append_assoc g (token_text t) rest
    ∙ ap (λ l. g ++ (token_text t ++ l)) (laid (step s t) ts ∙ ap (λ b. print_spaced b (spaced (step s t) ts)) (ends_then s t)))

pub tokens-pretty : (ts : List token.Token) → ArePrintable ts → tokens (pretty ts) ≡ ts
tokens-pretty ts h =
    ap tokens (laid (nothing, 0) ts)
    ∙ tokens-print_spaced (spaced (nothing, 0) ts) (are_gaps (nothing, 0) ts) (subst ArePrintable (sym (same_tokens (nothing, 0) ts)) h)
    ∙ same_tokens (nothing, 0) ts

-- ---- what is said can be printed

both : (a b : List token.Token) → ArePrintable a → ArePrintable b → ArePrintable (a ++ b)
unfolding ArePrintable
both [] b h k = k
both (t ∷ a) b h k = (h.0, both a b h.1 k)

none : ArePrintable []
unfolding ArePrintable
none = tt

one : (t : token.Token) → IsPrintable t → ArePrintable (t ∷ [])
unfolding ArePrintable
one t h = (h, tt)

more : (t : token.Token) (ts : List token.Token) → IsPrintable t → ArePrintable ts → ArePrintable (t ∷ ts)
unfolding ArePrintable
more t ts h k = (h, k)

marked_prints : (m : Mark) (bs : List ℕ) (ts : List token.Token) → SaysMarked m bs ts → ArePrintable ts
unfolding ArePrintable
marked_prints m bs ts h = subst ArePrintable (sym h.0) (tt, (tt, (tt, (tt, tt))))

bytes_print : (b : Bool) (bs : List ℕ) (ts : List token.Token) → SaysString b bs ts → ArePrintable ts
bytes_print true bs ts h = subst ArePrintable (sym h) (one (token.string bs) tt)
bytes_print false bs ts h = marked_prints marks.Bytes bs ts h

number_prints : (bits : ℕ) (x : Float) (b : Bool) (ts : List token.Token) → SaysNumber bits x b ts → ArePrintable ts
number_prints bits x true ts h = subst ArePrintable (sym h.1) (one (token.number h.0) h.2)
number_prints bits x false ts h = marked_prints marks.Real (to_be_bytes w64 bits) ts h

real_prints : (bits : ℕ) (o : Option Float) (ts : List token.Token) → SaysFloat bits o ts → ArePrintable ts
real_prints bits (Some x) ts h = number_prints bits x (float_is_finite x) ts h
real_prints bits None ts h = marked_prints marks.Real (to_be_bytes w64 bits) ts h

mutual
  pub said_prints : (u : Tree) (ts : List token.Token) → IsValueTree u → Says u ts → ArePrintable ts
  said_prints null ts v h = subst ArePrintable (sym h) (one token.null tt)
  said_prints (boolean b) ts v h = subst ArePrintable (sym h) (one (token.boolean b) tt)
  said_prints (integer n) ts v h = subst ArePrintable (sym h) (one (token.number _) (IsNumber-signed_decimal n v.sfits))
  said_prints (real bits) ts v h = real_prints bits (float_of bits) ts h
  said_prints (bytes bs) ts v h = bytes_print (is_utf8 bs) bs ts h
  said_prints (text s) ts v h = subst ArePrintable (sym h) (one (token.string s) tt)
  said_prints (array us) ts v h = subst ArePrintable (sym h.2) (more token.begin_array _ tt (both h.0 _ (items_print us h.0 v h.1) (one token.end_array tt)))
  said_prints (object es) ts v h = subst ArePrintable (sym h.2) (more token.begin_object _ tt (both h.0 _ (entries_print es h.0 v.1 h.1) (one token.end_object tt)))
  said_prints (template ks rs) ts v h = absurd h

  items_print : (us : Items) (ts : List token.Token) → ItemsAreValueTrees us → SaysItems us ts → ArePrintable ts
  items_print no_items ts v h = subst ArePrintable (sym h) none
  items_print (item u us) ts v h = subst ArePrintable (sym h.4) (both h.0 h.1 (said_prints u h.0 v.0 h.2) (items_print us h.1 v.1 h.3))

  entries_print : (es : Entries) (ts : List token.Token) → EntriesAreValueTrees es → SaysEntries es ts → ArePrintable ts
  entries_print no_entries ts v h = subst ArePrintable (sym h) none
  entries_print (entry k u es) ts v h = subst ArePrintable (sym h.4) (more _ _ tt (both h.0 h.1 (said_prints u h.0 v.1 h.2) (entries_print es h.1 v.2 h.3)))
