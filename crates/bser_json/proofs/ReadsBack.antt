-- What is printed of a value makes it again.
use Rattle.std.proofs.Common.{◌≡◌, ℕ, suc, ◌+◌, ◌<◌, ◌≤◌, max, List, [], ◌∷◌, ◌++◌, length, Bool, true, false, Option, Some, None, Float, codes, refl, sym, ap, subst, ◌∙◌, arith, append_assoc, append-nil, lt-ltb, if◌then◌else◌, ◌^◌}
use Rattle.std.specs.Float.{float_is_finite}
use Rattle.std.specs.Fmt.{signed_decimal}
use Rattle.std.specs.Int.{w64, to_be_bytes}
use Rattle.std.specs.List.Sorted.{IsStrictlySortedBy}
use Rattle.std.specs.Map.{keys_of}
use Rattle.std.specs.Str.{is_utf8}
use Rattle.hex.specs.Hex.{encode_lower}
use Rattle.json.specs.Lex as lex
use Rattle.json.specs.Print.{ArePrintable}
use Rattle.json.specs.Token as tokens
use Rattle.json.proofs.Printed.Tokens.{tokens-print}
use Rattle.bser_format.specs.Tree.{Tree, null, boolean, integer, real, bytes, text, array, object, template, Items, no_items, item, Entries, no_entries, entry, items, items_of, entries, entries_of}
use Rattle.bser_format.specs.Compact.{keys}
use Rattle.bser_format.specs.Measures.{depth, items_depth, entries_depth}
use Rattle.bser_format.specs.RealText.{float_of}
use Rattle.bser_format.specs.ValueTree.{IsValueTree, ItemsAreValueTrees, EntriesAreValueTrees}
use Rattle.bser_json.specs.Said.{Says, SaysItems, SaysEntries, SaysNumber, SaysFloat, said_key}
use Rattle.bser_json.specs.Said as said
use Rattle.bser_from_json.specs.Made.{Around, in_array, in_object, a_value, an_item, a_first_member, a_member, a_string, an_end, nothing, put, string_made}
use Rattle.bser_from_json.specs.Made as made
use Rattle.bser_json.specs.Printed.{laid_out}
use Rattle.bser_json.specs.Retagged.{retagged, retagged_items, retagged_entries, PrintedIsMade}
use Rattle.bser_json.specs.declared.printing.Layout.{Layout}
use Rattle.bser_json.specs.declared.printing.Layout.TheVariants as layouts
use Rattle.bser_from_json.specs.declared.reading.Strings.{Strings}
use Rattle.bser_from_json.specs.declared.meaning.Mark.TheVariants as marks
use Rattle.bser_json.proofs.PrintedNumbers.{integer_back, real_back}
use Rattle.bser_json.proofs.Marks.{bytes_back, bits_back}
use Rattle.bser_json.proofs.PrintedKeys.{cmp, is_new, no_mark, put_last}
use Rattle.bser_json.proofs.PrintedTokens.{said_prints, tokens-pretty}
use Rattle.bser_json.proofs.Leads.{Leads, BeginsOpen, leads_one, leads_then, leads_same, leads_item, leads_first, leads_to_the_end}

-- ---- what is marked

bytes_marked : (s : Strings) (os : List Around) (bs : List ℕ) (ts : List tokens.Token) → said.SaysMarked marks.Bytes bs ts → Leads s (a_value os) ts (put (bytes bs) os)
bytes_marked s os bs ts h =
    leads_same s (a_value os) (put (bytes bs) os) ts (said.marked marks.Bytes bs) h.0
    (leads_then s (a_value os) (a_first_member os) (put (bytes bs) os) (tokens.begin_object ∷ []) (tokens.key (made.mark_key marks.Bytes) ∷ tokens.string (encode_lower bs) ∷ tokens.end_object ∷ []) (leads_one s (a_value os) (a_first_member os) tokens.begin_object refl refl)
    (leads_then s (a_first_member os) (a_string marks.Bytes os) (put (bytes bs) os) (tokens.key (made.mark_key marks.Bytes) ∷ []) (tokens.string (encode_lower bs) ∷ tokens.end_object ∷ []) (leads_one s (a_first_member os) (a_string marks.Bytes os) (tokens.key (made.mark_key marks.Bytes)) refl refl)
    (leads_then s (a_string marks.Bytes os) (an_end (bytes bs) os) (put (bytes bs) os) (tokens.string (encode_lower bs) ∷ []) (tokens.end_object ∷ [])
    (leads_one s (a_string marks.Bytes os) (an_end (bytes bs) os) (tokens.string (encode_lower bs)) refl (ap (made.end_due marks.Bytes os) (bytes_back bs h.1)))
    (leads_one s (an_end (bytes bs) os) (put (bytes bs) os) tokens.end_object refl refl))))

bits_marked : (s : Strings) (os : List Around) (bits : ℕ) (ts : List tokens.Token) → bits < 2 ^ 64 → said.SaysMarked marks.Real (to_be_bytes w64 bits) ts → Leads s (a_value os) ts (put (real bits) os)
bits_marked s os bits ts small h =
    let digits = encode_lower (to_be_bytes w64 bits) in
    leads_same s (a_value os) (put (real bits) os) ts (said.marked marks.Real (to_be_bytes w64 bits)) h.0
    (leads_then s (a_value os) (a_first_member os) (put (real bits) os) (tokens.begin_object ∷ []) (tokens.key (made.mark_key marks.Real) ∷ tokens.string digits ∷ tokens.end_object ∷ []) (leads_one s (a_value os) (a_first_member os) tokens.begin_object refl refl)
    (leads_then s (a_first_member os) (a_string marks.Real os) (put (real bits) os) (tokens.key (made.mark_key marks.Real) ∷ []) (tokens.string digits ∷ tokens.end_object ∷ []) (leads_one s (a_first_member os) (a_string marks.Real os) (tokens.key (made.mark_key marks.Real)) refl refl)
    (leads_then s (a_string marks.Real os) (an_end (real bits) os) (put (real bits) os) (tokens.string digits ∷ []) (tokens.end_object ∷ [])
    (leads_one s (a_string marks.Real os) (an_end (real bits) os) (tokens.string digits) refl (ap (made.end_due marks.Real os) (bits_back bits small h.1)))
    (leads_one s (an_end (real bits) os) (put (real bits) os) tokens.end_object refl refl))))

-- ---- scalars

bytes_said : (s : Strings) (os : List Around) (bs : List ℕ) (ts : List tokens.Token) → said.SaysBytes bs ts → Leads s (a_value os) ts (put (retagged s (bytes bs)) os)
bytes_said s os bs ts = by (is_utf8 bs)
  where
    by : (b : Bool) → said.SaysString b bs ts → Leads s (a_value os) ts (put (if b then string_made s bs else bytes bs) os)
    by true h = leads_same s (a_value os) (put (string_made s bs) os) ts (tokens.string bs ∷ []) h (leads_one s (a_value os) (put (string_made s bs) os) (tokens.string bs) refl refl)
    by false h = bytes_marked s os bs ts h

number_said : (s : Strings) (os : List Around) (bits : ℕ) (x : Float) (ts : List tokens.Token) (b : Bool) → bits < 2 ^ 64 → float_of bits ≡ Some x → float_is_finite x ≡ b → SaysNumber bits x b ts → Leads s (a_value os) ts (put (real bits) os)
number_said s os bits x ts true small is finite h =
    leads_same s (a_value os) (put (real bits) os) ts (tokens.number h.0 ∷ []) h.1
    (leads_one s (a_value os) (put (real bits) os) (tokens.number h.0) refl (ap (made.put_made os) (real_back bits x h.0 small is finite h.3 h.4)))
number_said s os bits x ts false small is finite h = bits_marked s os bits ts small h

real_said : (s : Strings) (os : List Around) (bits : ℕ) (ts : List tokens.Token) → bits < 2 ^ 64 → SaysFloat bits (float_of bits) ts → Leads s (a_value os) ts (put (real bits) os)
real_said s os bits ts small = by (float_of bits) refl
  where
    by : (o : Option Float) → float_of bits ≡ o → SaysFloat bits o ts → Leads s (a_value os) ts (put (real bits) os)
    by (Some x) is h = number_said s os bits x ts (float_is_finite x) small is refl h
    by None is h = bits_marked s os bits ts small h

-- ---- the first token of a value ends no array

opens_if : (b : Bool) (bs : List ℕ) (ts : List tokens.Token) → said.SaysString b bs ts → BeginsOpen ts
opens_if true bs ts h = (tokens.string bs, [], h, refl)
opens_if false bs ts h = (tokens.begin_object, _, h.0, refl)

opens_number : (bits : ℕ) (x : Float) (b : Bool) (ts : List tokens.Token) → SaysNumber bits x b ts → BeginsOpen ts
opens_number bits x true ts h = (tokens.number h.0, [], h.1, refl)
opens_number bits x false ts h = (tokens.begin_object, _, h.0, refl)

opens_float : (bits : ℕ) (o : Option Float) (ts : List tokens.Token) → SaysFloat bits o ts → BeginsOpen ts
opens_float bits (Some x) ts h = opens_number bits x (float_is_finite x) ts h
opens_float bits None ts h = (tokens.begin_object, _, h.0, refl)

opens : (u : Tree) (ts : List tokens.Token) → Says u ts → BeginsOpen ts
opens null ts h = (tokens.null, [], h, refl)
opens (boolean b) ts h = (tokens.boolean b, [], h, refl)
opens (integer n) ts h = (tokens.number (signed_decimal n), [], h, refl)
opens (real bits) ts h = opens_float bits (float_of bits) ts h
opens (bytes bs) ts h = opens_if (is_utf8 bs) bs ts h
opens (text t) ts h = (tokens.string t, [], h, refl)
opens (array us) ts h = (tokens.begin_array, _, h.2, refl)
opens (object es) ts h = (tokens.begin_object, _, h.2, refl)
opens (template ks rs) ts h = absurd h

-- ---- containers

level : (os : List Around) (k : ℕ) → length os + suc k ≤ made.most_levels → made.has_level os ≡ true
level os k h = lt-ltb (length os) made.most_levels (omega (arith, h))

fits_left : (n a b m : ℕ) → n + max a b ≤ m → n + a ≤ m
fits_left n a b m h = omega (arith, h)

fits_right : (n a b m : ℕ) → n + max a b ≤ m → n + b ≤ m
fits_right n a b m h = omega (arith, h)

fits_inside : (n k m : ℕ) → n + suc k ≤ m → suc n + k ≤ m
fits_inside n k m h = omega (arith, h)

items_same : (us : Items) → items_of (items us) ≡ us
items_same no_items = refl
items_same (item u us) = ap (item u) (items_same us)

entries_same : (es : Entries) → entries_of (entries es) ≡ es
entries_same no_entries = refl
entries_same (entry k u es) = ap (entry k u) (entries_same es)

keys_same : (s : Strings) (es : Entries) → keys_of (entries (retagged_entries s es)) ≡ keys es
keys_same s no_entries = refl
keys_same s (entry k u es) = ap (λ ks. k ∷ ks) (keys_same s es)

-- the first token behind the brace of an object is no mark
first_token : (es : Entries) (ts : List tokens.Token) → SaysEntries es ts → (t : tokens.Token) × (more : List tokens.Token) × (ts ++ tokens.end_object ∷ [] ≡ t ∷ more) × (made.mark_in t ≡ None)
first_token no_entries ts h = (tokens.end_object, [], ap (λ l. l ++ tokens.end_object ∷ []) h, refl)
first_token (entry k u es) ts h = (said_key k, (h.0 ++ h.1) ++ tokens.end_object ∷ [], ap (λ l. l ++ tokens.end_object ∷ []) h.4, no_mark k)

mutual
  value_back : (s : Strings) (os : List Around) (u : Tree) (ts : List tokens.Token) → IsValueTree u → length os + depth u ≤ made.most_levels → Says u ts → Leads s (a_value os) ts (put (retagged s u) os)
  value_back s os null ts v l h = leads_same s (a_value os) (put null os) ts _ h (leads_one s (a_value os) (put null os) tokens.null refl refl)
  value_back s os (boolean b) ts v l h = leads_same s (a_value os) (put (boolean b) os) ts _ h (leads_one s (a_value os) (put (boolean b) os) (tokens.boolean b) refl refl)
  value_back s os (integer n) ts v l h =
      leads_same s (a_value os) (put (integer n) os) ts _ h
      (leads_one s (a_value os) (put (integer n) os) (tokens.number (signed_decimal n)) refl (ap (made.put_made os) (integer_back n v)))
  value_back s os (real bits) ts v l h = real_said s os bits ts v h
  value_back s os (bytes bs) ts v l h = bytes_said s os bs ts h
  value_back s os (text t) ts v l h = leads_same s (a_value os) (put (string_made s t) os) ts _ h (leads_one s (a_value os) (put (string_made s t) os) (tokens.string t) refl refl)
  value_back s os (array us) ts v l h =
      let end = put (array (retagged_items s us)) os in
      leads_same s (a_value os) end ts _ h.2
      (leads_then s (a_value os) (an_item [] os) end (tokens.begin_array ∷ []) (h.0 ++ tokens.end_array ∷ [])
      (leads_one s (a_value os) (an_item [] os) tokens.begin_array refl (rw (level os (items_depth us) l) refl))
      (subst (λ l. Leads s (an_item [] os) (h.0 ++ tokens.end_array ∷ []) (put (array l) os)) (items_same (retagged_items s us))
      (items_back s os [] us h.0 v (fits_inside (length os) (items_depth us) made.most_levels l) h.1)))
  value_back s os (object es) ts v l h =
      let end = put (object (retagged_entries s es)) os in
      let f = first_token es h.0 h.1 in
      leads_same s (a_value os) end ts _ h.2
      (leads_then s (a_value os) (a_first_member os) end (tokens.begin_object ∷ []) (h.0 ++ tokens.end_object ∷ [])
      (leads_one s (a_value os) (a_first_member os) tokens.begin_object refl refl)
      (leads_first s os end (h.0 ++ tokens.end_object ∷ []) f.0 f.1 f.2 f.3 (level os (entries_depth es) l)
      (subst (λ e. Leads s (a_member [] os) (h.0 ++ tokens.end_object ∷ []) (put (object e) os)) (entries_same (retagged_entries s es))
      (entries_back s os [] es h.0 (subst (IsStrictlySortedBy cmp) (sym (keys_same s es)) v.0) v.1 (fits_inside (length os) (entries_depth es) made.most_levels l) h.1))))
  value_back s os (template ks rs) ts v l h = absurd h

  -- items behind those that are done, and the end of the array
  items_back : (s : Strings) (os : List Around) (done : List Tree) (us : Items) (ts : List tokens.Token) → ItemsAreValueTrees us → suc (length os) + items_depth us ≤ made.most_levels → SaysItems us ts → Leads s (an_item done os) (ts ++ tokens.end_array ∷ []) (put (array (items_of (done ++ items (retagged_items s us)))) os)
  items_back s os done no_items ts v l h =
      let end = put (array (items_of (done ++ []))) os in
      leads_same s (an_item done os) end _ (tokens.end_array ∷ []) (ap (λ l. l ++ tokens.end_array ∷ []) h)
      (leads_one s (an_item done os) end tokens.end_array refl (ap (λ l. made.goes_on (put (array (items_of l)) os)) (sym (append-nil done))))
  items_back s os done (item u us) ts v l h =
      let w = retagged s u in
      let mid = an_item (done ++ w ∷ []) os in
      let end = put (array (items_of (done ++ w ∷ items (retagged_items s us)))) os in
      leads_same s (an_item done os) end _ (h.0 ++ (h.1 ++ tokens.end_array ∷ [])) (ap (λ l. l ++ tokens.end_array ∷ []) h.4 ∙ append_assoc h.0 h.1 (tokens.end_array ∷ []))
      (leads_then s (an_item done os) mid end h.0 (h.1 ++ tokens.end_array ∷ [])
      (leads_item s done os mid h.0 (opens u h.0 h.2) (value_back s (in_array done ∷ os) u h.0 v.0 (fits_left (suc (length os)) (depth u) (items_depth us) made.most_levels l) h.2))
      (subst (λ l. Leads s mid (h.1 ++ tokens.end_array ∷ []) (put (array (items_of l)) os)) (append_assoc done (w ∷ []) (items (retagged_items s us)))
      (items_back s os (done ++ w ∷ []) us h.1 v.1 (fits_right (suc (length os)) (depth u) (items_depth us) made.most_levels l) h.3)))

  -- entries behind those that are done, and the end of the object
  entries_back : (s : Strings) (os : List Around) (done : List (List ℕ × Tree)) (es : Entries) (ts : List tokens.Token) → IsStrictlySortedBy cmp (keys_of (done ++ entries (retagged_entries s es))) → EntriesAreValueTrees es → suc (length os) + entries_depth es ≤ made.most_levels → SaysEntries es ts
      → Leads s (a_member done os) (ts ++ tokens.end_object ∷ []) (put (object (entries_of (done ++ entries (retagged_entries s es)))) os)
  entries_back s os done no_entries ts rise v l h =
      let end = put (object (entries_of (done ++ []))) os in
      leads_same s (a_member done os) end _ (tokens.end_object ∷ []) (ap (λ l. l ++ tokens.end_object ∷ []) h)
      (leads_one s (a_member done os) end tokens.end_object refl (ap (λ l. made.goes_on (put (object (entries_of l)) os)) (sym (append-nil done))))
  entries_back s os done (entry k u es) ts rise v l h =
      let w = retagged s u in
      let more = entries (retagged_entries s es) in
      let mid = a_member (done ++ (k, w) ∷ []) os in
      let end = put (object (entries_of (done ++ (k, w) ∷ more))) os in
      let value = a_value (in_object done k ∷ os) in
      leads_same s (a_member done os) end _ (said_key k ∷ (h.0 ++ (h.1 ++ tokens.end_object ∷ [])))
      (ap (λ l. l ++ tokens.end_object ∷ []) h.4 ∙ ap (λ l. said_key k ∷ l) (append_assoc h.0 h.1 (tokens.end_object ∷ [])))
      (leads_then s (a_member done os) value end (said_key k ∷ []) (h.0 ++ (h.1 ++ tokens.end_object ∷ []))
      (leads_one s (a_member done os) value (said_key k) refl (ap (made.named_step done os) (is_new done (k, w) more rise)))
      (leads_then s value mid end h.0 (h.1 ++ tokens.end_object ∷ [])
      (subst (λ l. Leads s value h.0 (a_member l os)) (put_last done (k, w) more rise)
      (value_back s (in_object done k ∷ os) u h.0 v.1 (fits_left (suc (length os)) (depth u) (entries_depth es) made.most_levels l) h.2))
      (subst (λ l. Leads s mid (h.1 ++ tokens.end_object ∷ []) (put (object (entries_of l)) os)) (append_assoc done ((k, w) ∷ []) more)
      (entries_back s os (done ++ (k, w) ∷ []) es h.1 (subst (λ l. IsStrictlySortedBy cmp (keys_of l)) (sym (append_assoc done ((k, w) ∷ []) more)) rise) v.2
      (fits_right (suc (length os)) (depth u) (entries_depth es) made.most_levels l) h.3))))

laid_out_tokens : (layout : Layout) (ts : List tokens.Token) → ArePrintable ts → lex.tokens (laid_out layout ts) ≡ ts
laid_out_tokens layouts.Line ts h = tokens-print ts h
laid_out_tokens layouts.Pretty ts h = tokens-pretty ts h

pub printed_is_made : PrintedIsMade
printed_is_made s layout u xs v l h =
    let same = ap lex.tokens h.2 ∙ laid_out_tokens layout h.0 (said_prints u h.0 v h.1) in
    ap (made.made s) same ∙ leads_to_the_end s h.0 (retagged s u) (value_back s [] u h.0 v (omega (arith, l)) h.1)
