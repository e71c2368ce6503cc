-- What the tape of a message tells spells its tree, in as many bytes as the canonical body has.
use Rattle.std.proofs.Common.{◌≡◌, ◌≤◌, ◌<◌, ◌-◌, ◌^◌, ℕ, zero, suc, ℤ, pos, Bool, true, false, ◌&&◌, List, [], ◌∷◌, ◌++◌, length, Option, Some, None, inl, inr, append_assoc, refl, sym, ap, subst, ◌∙◌, arith, flat_map, FitsSigned}
use Rattle.std.proofs.lemmas.Int.{to_z-of_z}
use Rattle.std.proofs.lemmas.List.{length-append}
use Rattle.std.proofs.lemmas.Str.{IsUtf8-from_is_utf8, is_utf8-from_IsUtf8}
use Rattle.std.specs.List.{AllByRecursion}
use Rattle.std.specs.Int.{w64, to_le_bytes, cast_signed}
use Rattle.std.specs.Str.{is_utf8}
use Rattle.bser_format.specs.Tree.{Tree, null, boolean, integer, real, bytes, text, array, object, template, Items, no_items, item, Entries, no_entries, entry, Rows, no_rows, row, Fields, no_fields, skip, field, items, entries, fields, rows}
use Rattle.bser_format.specs.Expand.{expand, expand_items, expand_entries, expand_rows, expand_fields}
use Rattle.bser_format.specs.Grammar.{Format, Bytes, Given, Each, IsTemplate, SpellsCount, SpellsString, SpellsKey, SpellsEntry, SpellsField, Spells, ◌then◌}
use Rattle.bser_format.specs.Canonical.{least_integer, least_count, canonical_bytes, canonical_text, canonical_key, canonical_body, canonical_items, canonical_entries, canonical_rows, canonical_fields}
use Rattle.bser_format.specs.NamedLaws.{HasTextKeys}
use Rattle.bser_format.specs.ReadsAny.{has_utf8_keys, items_have_utf8_keys, entries_have_utf8_keys}
use Rattle.bser_format.proofs.Canon as canon
use Rattle.bser_format.proofs.Least.{bytes_least, utf8_least, key_least, length-key}
use Rattle.bser_format.proofs.Settled.{integer_fits}
use Rattle.bser_format.proofs.Sizes.{length_then, nodes_below}
use Rattle.bser_events.specs.Events as told
use Rattle.bser_events.specs.Events.{Event, events, item_events, entry_events, key_events, row_events, field_events}
use Rattle.bser_c.specs.Tape as tapes
use Rattle.bser_c.specs.Tape.{AreWordsOf, AreWordsOfAll, IsTapeOf, StandsAt}
use Rattle.bser_c.proofs.Says.{Says, IsPart, says_nothing, says_both, said, event_says, one_says, part_at, string_at, first_of_all, no_words, split, closed, closed_says}

-- ---- counts

-- each count in so few bytes is exact in a word
abbrev pub IsShort : List ℕ → Type 0
IsShort b = length b < 2 ^ 56 - 1

each_few : {X : Type 0} (F : X → Format) → ((x : X) (b : List ℕ) → F x b → 1 ≤ length b) → (xs : List X) (b : List ℕ) → Each F xs b → length xs ≤ length b
each_few F one [] b h = omega arith
each_few F one (x ∷ xs) b h = omega (arith, length_then h, one x h.front h.first, each_few F one xs h.rest h.second)

value_some : (n : ℕ) (t : Tree) (b : List ℕ) → Spells n t b → 1 ≤ length b
value_some n t b h = omega (arith, nodes_below n t b h)

string_some : (s b : List ℕ) → SpellsString s b → 1 ≤ length b
string_some s b (inl h) = omega (arith, length_then h, ap length h.first)
string_some s b (inr h) = omega (arith, length_then h, ap length h.first)

key_some : (k b : List ℕ) → SpellsKey k b → 1 ≤ length b
key_some k b h = string_some k b h.1

entry_some : (F : Tree → Format) (e : List ℕ × Tree) (b : List ℕ) → SpellsEntry F e b → 1 ≤ length b
entry_some F e b h = omega (arith, length_then h, string_some e.0 h.front h.first)

field_some : (n : ℕ) (o : Option Tree) (b : List ℕ) → SpellsField (Spells n) o b → 1 ≤ length b
field_some n None b h = omega (arith, ap length h)
field_some n (Some t) b h = value_some n t b h

wide_few : (n m : ℕ) (rs : List (List (Option Tree))) (b : List ℕ) → AllByRecursion (λ r. length r ≡ suc m) rs → Each (Each (SpellsField (Spells n))) rs b → length rs ≤ length b
wide_few n m [] b even h = omega arith
wide_few n m (r ∷ rs) b even h =
    omega (arith, length_then h, even.0, each_few (SpellsField (Spells n)) (field_some n) r h.front h.first, wide_few n m rs h.rest even.1 h.second)

rows_few : (n : ℕ) (ks : List (List ℕ)) (rs : List (List (Option Tree))) (b : List ℕ) → IsTemplate ks rs → Each (Each (SpellsField (Spells n))) rs b → length rs ≤ length b
rows_few n [] rs b even h = omega (arith, ap length even)
rows_few n (k ∷ ks) rs b even h = wide_few n (length ks) rs b even h

-- ---- what words tell

-- the words tell bytes of this form, as many as these, and no more than those
pub record Told (strings : List ℕ) (F : Format) (canonical b words : List ℕ) : Type 0 where
  pub body : List ℕ
  pub says : Says strings words body
  pub spelled : F body
  pub sized : length body ≡ length canonical
  pub least : length body ≤ length b

told_then : (strings : List ℕ) (F G : Format) (c d b front rest words v w : List ℕ) → b ≡ front ++ rest → words ≡ v ++ w → Told strings F c front v → Told strings G d rest w → Told strings (F then G) (c ++ d) b words
told_then strings F G c d b front rest words v w whole_bytes whole_words x y = record {
  body = x.body ++ y.body;
  says = subst (λ a. Says strings a (x.body ++ y.body)) (sym whole_words) (says_both strings v w x.body y.body x.says y.says);
  spelled = canon.joined F G x.body y.body x.spelled y.spelled;
  sized = omega (arith, length-append x.body y.body, length-append c d, x.sized, y.sized);
  least = omega (arith, length-append x.body y.body, ap length whole_bytes, length-append front rest, x.least, y.least);
}

told_nothing : {X : Type 0} (strings : List ℕ) (F : X → Format) (b words : List ℕ) → AreWordsOfAll strings [] words → Told strings (Each F []) [] b words
told_nothing strings F b words h = record {
  body = [];
  says = subst (λ w. Says strings w []) (sym (no_words strings words h)) (says_nothing strings);
  spelled = refl;
  sized = refl;
  least = omega arith;
}

-- one event
told_one : (strings : List ℕ) (F : Format) (e : Event) (p c b words : List ℕ) → IsPart strings e p → AreWordsOfAll strings (e ∷ []) words → F p → length p ≡ length c → length p ≤ length b → Told strings F c b words
told_one strings F e p c b words is all spelled sized least = record { body = p; says = one_says strings e words p is all; spelled = spelled; sized = sized; least = least }

-- ---- parts

null_is : (strings : List ℕ) → IsPart strings told.null (0x0a ∷ [])
null_is strings mark second h = refl

skip_is : (strings : List ℕ) → IsPart strings told.skip (0x0c ∷ [])
skip_is strings mark second h = refl

true_is : (strings : List ℕ) → IsPart strings (told.boolean true) (0x08 ∷ [])
true_is strings mark second h = refl

false_is : (strings : List ℕ) → IsPart strings (told.boolean false) (0x09 ∷ [])
false_is strings mark second h = refl

integer_is : (strings : List ℕ) (v : ℤ) → FitsSigned w64 v → IsPart strings (told.integer v) (least_integer v)
integer_is strings v fits mark second h = ap (λ z. Some (least_integer z)) (ap (λ n. cast_signed w64 n) h ∙ to_z-of_z w64 v fits)

real_is : (strings : List ℕ) (r : ℕ) → IsPart strings (told.real r) (0x07 ∷ to_le_bytes w64 r)
real_is strings r mark second h = ap (λ n. Some (0x07 ∷ to_le_bytes w64 n)) h

bytes_is : (strings s : List ℕ) → IsShort s → IsPart strings (told.bytes s) (canonical_bytes s)
bytes_is strings s short mark second h = part_at strings 0x02 (length s) second (omega arith) short ∙ string_at strings 0x02 s second h

text_is : (strings s : List ℕ) → IsShort s → IsPart strings (told.text s) (canonical_text s)
text_is strings s short mark second h = part_at strings 0x0d (length s) second (omega arith) short ∙ string_at strings 0x0d s second h

array_is : (strings : List ℕ) (n : ℕ) → n < 2 ^ 56 - 1 → IsPart strings (told.open_array n) (0x00 ∷ least_count n)
array_is strings n short mark second h = part_at strings 0x00 n second (omega arith) short

object_is : (strings : List ℕ) (n : ℕ) → n < 2 ^ 56 - 1 → IsPart strings (told.open_object n) (0x01 ∷ least_count n)
object_is strings n short mark second h = part_at strings 0x01 n second (omega arith) short

template_is : (strings : List ℕ) (n : ℕ) → n < 2 ^ 56 - 1 → IsPart strings (told.open_template n) (0x0b ∷ 0x00 ∷ least_count n)
template_is strings n short mark second h = part_at strings 0x0b n second (omega arith) short

rows_is : (strings : List ℕ) (n : ℕ) → n < 2 ^ 56 - 1 → IsPart strings (told.open_rows n) (least_count n)
rows_is strings n short mark second h = part_at strings 0x10 n second (omega arith) short

-- ---- keys

-- what a key tells, which is a text or a byte string as its word says
record KeyTold (strings k b words : List ℕ) : Type 0 where
  body : List ℕ
  says : Says strings words body
  spelled : SpellsString k body
  sized : length body ≡ length (canonical_text k)
  least : length body ≤ length b

key_sized : (k : List ℕ) → length (canonical_key k) ≡ length (canonical_text k)
unfolding canonical_key
key_sized k = length-key (is_utf8 k) k

key_told : (strings k b words : List ℕ) → SpellsString k b → is_utf8 k ≡ true → IsShort b → AreWordsOf strings (told.key k) words → KeyTold strings k b words
key_told strings k b words h utf8 short a = go a.is_text a.are
  where
    long : length (canonical_key k) ≤ length b
    long = key_least k b h

    small : IsShort k
    small = omega (arith, long, key_sized k, short, length-append (least_count (length k)) k)

    go : (mark : Bool) → words ≡ tapes.head_of mark (told.key k) ∷ a.second ∷ [] → KeyTold strings k b words
    go true are = record {
      body = canonical_text k;
      says = said strings words (tapes.head_of true (told.key k)) a.second (canonical_text k) are (part_at strings 0x0e (length k) a.second (omega arith) small ∙ string_at strings 0x0d k a.second a.place);
      spelled = inr (canon.utf8_spelled k (IsUtf8-from_is_utf8 k utf8, omega (arith, small)));
      sized = refl;
      least = omega (arith, long, key_sized k);
    }
    go false are = record {
      body = canonical_bytes k;
      says = said strings words (tapes.head_of false (told.key k)) a.second (canonical_bytes k) are (part_at strings 0x0f (length k) a.second (omega arith) small ∙ string_at strings 0x02 k a.second a.place);
      spelled = inl (canon.bytes_spelled k (omega (arith, small)));
      sized = refl;
      least = omega (arith, long, key_sized k);
    }

keys_told : (strings : List ℕ) (ks : List (List ℕ)) (b words : List ℕ) → Each SpellsKey ks b → IsShort b → AreWordsOfAll strings (key_events ks) words → Told strings (Each SpellsKey ks) (flat_map canonical_text ks) b words
keys_told strings [] b words h short all = told_nothing strings SpellsKey b words all
keys_told strings (k ∷ ks) b words h short all =
    let u = first_of_all strings (told.key k) (key_events ks) words all in
    let few = length_then h in
    let key = key_told strings k h.front u.these h.first.1 (is_utf8-from_IsUtf8 k h.first.0) (omega (arith, few, short)) u.first in
    let first : Told strings (SpellsKey k) (canonical_text k) h.front u.these = record { body = key.body; says = key.says; spelled = (h.first.0, key.spelled); sized = key.sized; least = key.least } in
    told_then strings (SpellsKey k) (Each SpellsKey ks) (canonical_text k) (flat_map canonical_text ks) b h.front h.rest words u.these u.rest h.whole u.whole first (keys_told strings ks h.rest u.rest h.second (omega (arith, few, short)) u.others)

-- ---- containers

both : (a b : Bool) → (a && b) ≡ true → (a ≡ true) × (b ≡ true)
both true b e = (refl, e)
both false b e = absurd cc

-- what a tape tells of each tree of this form
abbrev Fine : List ℕ → (Tree → Format) → Type 0
Fine strings F = (t : Tree) (b words : List ℕ) → F t b → IsShort b → HasTextKeys t → IsTapeOf strings t words → Told strings (F t) (canonical_body t) b words

items_told : (strings : List ℕ) (F : Tree → Format) → Fine strings F → (ts : Items) (b words : List ℕ) → Each F (items ts) b → IsShort b → items_have_utf8_keys (expand_items ts) ≡ true → AreWordsOfAll strings (item_events ts) words
    → Told strings (Each F (items ts)) (canonical_items ts) b words
items_told strings F one no_items b words h short keys all = told_nothing strings F b words all
items_told strings F one (item t ts) b words h short keys all =
    let s = split strings (events t) (item_events ts) words all in
    let few = length_then h in
    let k = both (has_utf8_keys (expand t)) (items_have_utf8_keys (expand_items ts)) keys in
    told_then strings (F t) (Each F (items ts)) (canonical_body t) (canonical_items ts) b h.front h.rest words s.front s.back h.whole s.whole
    (one t h.front s.front h.first (omega (arith, few, short)) k.0 s.first)
    (items_told strings F one ts h.rest s.back h.second (omega (arith, few, short)) k.1 s.second)

entries_told : (strings : List ℕ) (F : Tree → Format) → Fine strings F → (es : Entries) (b words : List ℕ) → Each (SpellsEntry F) (entries es) b → IsShort b → entries_have_utf8_keys (expand_entries es) ≡ true → AreWordsOfAll strings (entry_events es) words
    → Told strings (Each (SpellsEntry F) (entries es)) (canonical_entries es) b words
entries_told strings F one no_entries b words h short keys all = told_nothing strings (SpellsEntry F) b words all
entries_told strings F one (entry k t es) b words h short keys all =
    let s = split strings (told.key k ∷ events t) (entry_events es) words all in
    let u = first_of_all strings (told.key k) (events t) s.front s.first in
    let few = length_then h in
    let pair = length_then h.first in
    let p = both (is_utf8 k && has_utf8_keys (expand t)) (entries_have_utf8_keys (expand_entries es)) keys in
    let q = both (is_utf8 k) (has_utf8_keys (expand t)) p.0 in
    let key = key_told strings k h.first.front u.these h.first.first q.0 (omega (arith, few, pair, short)) u.first in
    let named : Told strings (SpellsString k) (canonical_key k) h.first.front u.these = record { body = key.body; says = key.says; spelled = key.spelled; sized = omega (arith, key.sized, key_sized k); least = key.least } in
    let first = told_then strings (SpellsString k) (F t) (canonical_key k) (canonical_body t) h.front h.first.front h.first.rest s.front u.these u.rest h.first.whole u.whole named (one t h.first.rest u.rest h.first.second (omega (arith, few, pair, short)) q.1 u.others) in
    told_then strings (SpellsEntry F (k, t)) (Each (SpellsEntry F) (entries es)) (canonical_key k ++ canonical_body t) (canonical_entries es) b h.front h.rest words s.front s.back h.whole s.whole first
    (entries_told strings F one es h.rest s.back h.second (omega (arith, few, short)) p.1 s.second)

fields_told : (strings : List ℕ) (F : Tree → Format) → Fine strings F → (ks : List (List ℕ)) (fs : Fields) (b words : List ℕ) → length (fields fs) ≡ length ks → Each (SpellsField F) (fields fs) b → IsShort b
    → entries_have_utf8_keys (expand_fields ks fs) ≡ true → AreWordsOfAll strings (field_events fs) words → Told strings (Each (SpellsField F) (fields fs)) (canonical_fields fs) b words
fields_told strings F one ks no_fields b words even h short keys all = told_nothing strings (SpellsField F) b words all
fields_told strings F one [] (skip fs) b words even h short keys all = absurd (omega arith)
fields_told strings F one [] (field t fs) b words even h short keys all = absurd (omega arith)
fields_told strings F one (k ∷ ks) (skip fs) b words even h short keys all =
    let u = first_of_all strings told.skip (field_events fs) words all in
    let few = length_then h in
    let p = both (is_utf8 k && true) (entries_have_utf8_keys (expand_fields ks fs)) keys in
    let first : Told strings (Bytes (0x0c ∷ [])) (0x0c ∷ []) h.front u.these = record { body = 0x0c ∷ []; says = event_says strings told.skip u.these (0x0c ∷ []) (skip_is strings) u.first; spelled = refl; sized = refl; least = omega (arith, ap length h.first) } in
    told_then strings (Bytes (0x0c ∷ [])) (Each (SpellsField F) (fields fs)) (0x0c ∷ []) (canonical_fields fs) b h.front h.rest words u.these u.rest h.whole u.whole first
    (fields_told strings F one ks fs h.rest u.rest (omega arith) h.second (omega (arith, few, short)) p.1 u.others)
fields_told strings F one (k ∷ ks) (field t fs) b words even h short keys all =
    let s = split strings (events t) (field_events fs) words all in
    let few = length_then h in
    let p = both (is_utf8 k && has_utf8_keys (expand t)) (entries_have_utf8_keys (expand_fields ks fs)) keys in
    let q = both (is_utf8 k) (has_utf8_keys (expand t)) p.0 in
    told_then strings (F t) (Each (SpellsField F) (fields fs)) (canonical_body t) (canonical_fields fs) b h.front h.rest words s.front s.back h.whole s.whole
    (one t h.front s.front h.first (omega (arith, few, short)) q.1 s.first)
    (fields_told strings F one ks fs h.rest s.back (omega arith) h.second (omega (arith, few, short)) p.1 s.second)

rows_told : (strings : List ℕ) (F : Tree → Format) → Fine strings F → (ks : List (List ℕ)) (rs : Rows) (b words : List ℕ) → IsTemplate ks (rows rs) → Each (Each (SpellsField F)) (rows rs) b → IsShort b
    → items_have_utf8_keys (expand_rows ks rs) ≡ true → AreWordsOfAll strings (row_events rs) words → Told strings (Each (Each (SpellsField F)) (rows rs)) (canonical_rows rs) b words
rows_told strings F one ks no_rows b words even h short keys all = told_nothing strings (Each (SpellsField F)) b words all
rows_told strings F one [] (row fs rs) b words even h short keys all = absurd (omega (arith, ap length even))
rows_told strings F one (k ∷ ks) (row fs rs) b words even h short keys all =
    let s = split strings (field_events fs) (row_events rs) words all in
    let few = length_then h in
    let p = both (entries_have_utf8_keys (expand_fields (k ∷ ks) fs)) (items_have_utf8_keys (expand_rows (k ∷ ks) rs)) keys in
    told_then strings (Each (SpellsField F) (fields fs)) (Each (Each (SpellsField F)) (rows rs)) (canonical_fields fs) (canonical_rows rs) b h.front h.rest words s.front s.back h.whole s.whole
    (fields_told strings F one (k ∷ ks) fs h.front s.front even.0 h.first (omega (arith, few, short)) p.0 s.first)
    (rows_told strings F one (k ∷ ks) rs h.rest s.back even.1 h.second (omega (arith, few, short)) p.1 s.second)

-- ---- trees

string_short : (s b : List ℕ) → length (canonical_bytes s) ≤ length b → IsShort b → IsShort s
string_short s b long short = omega (arith, length-append (least_count (length s)) s, long, short)

-- the bytes of a template, behind what is said of its keys and rows
abbrev TemplateBytes : ℕ → List (List ℕ) → Rows → Format
TemplateBytes n ks rs = Bytes (0x0b ∷ []) then Bytes (0x00 ∷ []) then SpellsCount (length ks) then Each SpellsKey ks
    then SpellsCount (length (rows rs)) then Each (Each (SpellsField (Spells n))) (rows rs)

-- a template of n levels below it
template_told : (strings : List ℕ) (n : ℕ) → Fine strings (Spells n) → (ks : List (List ℕ)) (rs : Rows) (b words : List ℕ) → IsTemplate ks (rows rs) → TemplateBytes n ks rs b → IsShort b
    → items_have_utf8_keys (expand_rows ks rs) ≡ true → IsTapeOf strings (template ks rs) words → Told strings (Given (IsTemplate ks (rows rs)) (TemplateBytes n ks rs)) (canonical_body (template ks rs)) b words
template_told strings n one ks rs b words even h short keys all =
    let len = length ks in
    let count = length (rows rs) in
    let s = split strings (told.open_template len ∷ key_events ks) (told.open_rows count ∷ (row_events rs ++ told.close ∷ [])) words all in
    let u = first_of_all strings (told.open_template len) (key_events ks) s.front s.first in
    let c = closed strings (told.open_rows count) (row_events rs) s.back s.second in
    let a1 = length_then h in
    let a2 = length_then h.second in
    let a3 = length_then h.second.second in
    let k = h.second.second.second in
    let a4 = length_then k in
    let r = k.second in
    let a5 = length_then r in
    let few_keys = each_few SpellsKey key_some ks k.front k.first in
    let few_rows = rows_few n ks (rows rs) r.rest even r.second in
    let small : len < 2 ^ 56 - 1 = omega (arith, a1, a2, a3, a4, few_keys, short) in
    let small_rows : count < 2 ^ 56 - 1 = omega (arith, a1, a2, a3, a4, a5, few_rows, short) in
    let x = keys_told strings ks k.front u.rest k.first (omega (arith, a1, a2, a3, a4, short)) u.others in
    let y = rows_told strings (Spells n) one ks rs r.rest c.inner even r.second (omega (arith, a1, a2, a3, a4, a5, short)) keys c.inside in
    let head = 0x0b ∷ 0x00 ∷ least_count len in
    let rest = least_count count ++ y.body in
    let says_rest = closed_says strings (told.open_rows count) (row_events rs) s.back (least_count count) y.body c (rows_is strings count small_rows) y.says in
    let opens = event_says strings (told.open_template len) u.these head (template_is strings len small) u.first in
    let says_both_of : Says strings (u.these ++ (u.rest ++ s.back)) (head ++ (x.body ++ rest)) = says_both strings u.these (u.rest ++ s.back) head (x.body ++ rest) opens (says_both strings u.rest s.back x.body rest x.says says_rest) in
    let whole : words ≡ u.these ++ (u.rest ++ s.back) = s.whole ∙ ap (λ w. w ++ s.back) u.whole ∙ append_assoc u.these u.rest s.back in
    record {
      body = head ++ (x.body ++ rest);
      says = subst (λ w. Says strings w (head ++ (x.body ++ rest))) (sym whole) says_both_of;
      spelled = (even, canon.tagged 0x0b _ _ (canon.tagged 0x00 _ _ (canon.joined _ _ _ _ (canon.count_spelled len (omega (arith, small))) (canon.joined _ _ _ _ x.spelled (canon.joined _ _ _ _ (canon.count_spelled count (omega (arith, small_rows))) y.spelled)))));
      sized = omega (
        arith,
        length-append (least_count len) (x.body ++ rest),
        length-append x.body rest,
        length-append (least_count count) y.body,
        length-append (least_count len) (flat_map canonical_text ks ++ (least_count count ++ canonical_rows rs)),
        length-append (flat_map canonical_text ks) (least_count count ++ canonical_rows rs),
        length-append (least_count count) (canonical_rows rs),
        x.sized,
        y.sized,
      );
      least = omega (
        arith,
        a1,
        a2,
        a3,
        a4,
        a5,
        ap length h.first,
        ap length h.second.first,
        canon.least_integer_least (pos len) h.second.second.front h.second.second.first,
        canon.least_integer_least (pos count) r.front r.first,
        length-append (least_count len) (x.body ++ rest),
        length-append x.body rest,
        length-append (least_count count) y.body,
        x.least,
        y.least,
      );
    }

pub tree_told : (strings : List ℕ) (n : ℕ) → Fine strings (Spells n)
tree_told strings n null b words h short keys all = told_one strings (Spells n null) told.null (0x0a ∷ []) (0x0a ∷ []) b words (null_is strings) all refl refl (omega (arith, ap length h))
tree_told strings n (boolean true) b words h short keys all = told_one strings (Spells n (boolean true)) (told.boolean true) (0x08 ∷ []) (0x08 ∷ []) b words (true_is strings) all refl refl (omega (arith, ap length h))
tree_told strings n (boolean false) b words h short keys all = told_one strings (Spells n (boolean false)) (told.boolean false) (0x09 ∷ []) (0x09 ∷ []) b words (false_is strings) all refl refl (omega (arith, ap length h))
tree_told strings n (integer v) b words h short keys all =
    let fits = integer_fits v b h in
    told_one strings (Spells n (integer v)) (told.integer v) (least_integer v) (least_integer v) b words (integer_is strings v fits) all (canon.least_integer_spelled v fits) refl (canon.least_integer_least v b h)
tree_told strings n (real r) b words h short keys all =
    let p = 0x07 ∷ to_le_bytes w64 r in
    told_one strings (Spells n (real r)) (told.real r) p p b words (real_is strings r) all (h.0, refl) refl (omega (arith, ap length h.1))
tree_told strings n (bytes s) b words h short keys all =
    let long = bytes_least s b h in
    let small = string_short s b long short in
    told_one strings (Spells n (bytes s)) (told.bytes s) (canonical_bytes s) (canonical_bytes s) b words (bytes_is strings s small) all (canon.bytes_spelled s (omega (arith, small))) refl long
tree_told strings n (text s) b words h short keys all =
    let long = utf8_least s b h in
    let small = string_short s b long short in
    told_one strings (Spells n (text s)) (told.text s) (canonical_text s) (canonical_text s) b words (text_is strings s small) all (canon.utf8_spelled s (h.second.second.0, omega (arith, small))) refl long
tree_told strings zero (array ts) b words h short keys all = absurd h
tree_told strings (suc n) (array ts) b words h short keys all =
    let len = length (items ts) in
    let c = closed strings (told.open_array len) (item_events ts) words all in
    let one = length_then h in
    let two = length_then h.second in
    let few = each_few (Spells n) (value_some n) (items ts) h.second.rest h.second.second in
    let small : len < 2 ^ 56 - 1 = omega (arith, one, two, few, short) in
    let inner = items_told strings (Spells n) (tree_told strings n) ts h.second.rest c.inner h.second.second (omega (arith, one, two, short)) keys c.inside in
    record {
      body = 0x00 ∷ (least_count len ++ inner.body);
      says = closed_says strings (told.open_array len) (item_events ts) words (0x00 ∷ least_count len) inner.body c (array_is strings len small) inner.says;
      spelled = canon.tagged 0x00 _ _ (canon.joined _ _ _ _ (canon.count_spelled len (omega (arith, small))) inner.spelled);
      sized = omega (arith, length-append (least_count len) inner.body, length-append (least_count len) (canonical_items ts), inner.sized);
      least = omega (arith, one, two, ap length h.first, canon.least_integer_least (pos len) h.second.front h.second.first, length-append (least_count len) inner.body, inner.least);
    }
tree_told strings zero (object es) b words h short keys all = absurd h
tree_told strings (suc n) (object es) b words h short keys all =
    let len = length (entries es) in
    let c = closed strings (told.open_object len) (entry_events es) words all in
    let one = length_then h in
    let two = length_then h.second in
    let few = each_few (SpellsEntry (Spells n)) (entry_some (Spells n)) (entries es) h.second.rest h.second.second in
    let small : len < 2 ^ 56 - 1 = omega (arith, one, two, few, short) in
    let inner = entries_told strings (Spells n) (tree_told strings n) es h.second.rest c.inner h.second.second (omega (arith, one, two, short)) keys c.inside in
    record {
      body = 0x01 ∷ (least_count len ++ inner.body);
      says = closed_says strings (told.open_object len) (entry_events es) words (0x01 ∷ least_count len) inner.body c (object_is strings len small) inner.says;
      spelled = canon.tagged 0x01 _ _ (canon.joined _ _ _ _ (canon.count_spelled len (omega (arith, small))) inner.spelled);
      sized = omega (arith, length-append (least_count len) inner.body, length-append (least_count len) (canonical_entries es), inner.sized);
      least = omega (arith, one, two, ap length h.first, canon.least_integer_least (pos len) h.second.front h.second.first, length-append (least_count len) inner.body, inner.least);
    }
tree_told strings zero (template ks rs) b words h short keys all = absurd h
tree_told strings (suc zero) (template ks rs) b words h short keys all = absurd h
tree_told strings (suc (suc n)) (template ks rs) b words h short keys all = template_told strings (suc n) (tree_told strings (suc n)) ks rs b words h.0 h.1 short keys all
