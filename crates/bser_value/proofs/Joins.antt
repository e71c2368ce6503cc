-- Values are read piece by piece.
use Rattle.std.proofs.Common.{◌≡◌, ℕ, ℤ, zero, suc, ◌<◌, ◌-◌, Bool, true, false, cond, List, [], ◌∷◌, ◌++◌, take, drop, refl, sym, ap, subst, ◌∙◌, arith, append_assoc, append-nil, String, Vec, BTreeMap, string_bytes, fold}
use Rattle.std.specs.Prelude.{Some, None, option_map, option_and_then, Result, Ok, Err, OnOk}
use Rattle.std.specs.Result.{is_err}
use Rattle.std.proofs.lemmas.Str.{is_utf8-from_IsUtf8}
use Rattle.std.specs.declared.alloc.Global.{Global}
use Rattle.std.specs.Ordering.{nat_cmp}
use Rattle.std.specs.Cmp.Lexicographic.{slice_cmp}
use Rattle.std.specs.BTreeMap.{insert_entry}
use Rattle.std.specs.Str.{is_utf8}
use Rattle.std.proofs.lemmas.List.{take-append-drop, take_rest}
use Rattle.bser_format.specs.Tree as trees
use Rattle.bser_format.specs.Tree.{Tree, array, object, item, Entries, items_of, entries_of}
use Rattle.bser_format.specs.Expand.{expand, expand_items, expand_entries}
use Rattle.bser_format.specs.Normal.{normal, normal_items, normal_entries, last_entries}
use Rattle.bser_format.specs.DueReaders.{less_one}
use Rattle.bser_format.specs.declared.errors.Kind.TheVariants.{MapKey}
use Rattle.bser_format.specs.declared.bytestring.ByteString.{ByteString}
use Rattle.bser_format.specs.Named.{Reader, reads, give, and_then, ◌>>=◌, front, utf8, many, text_of, entry_of, with_text_keys}
use Rattle.bser_bunser.specs.declared.prefix.Token.{Token}
use Rattle.bser_bunser.specs.declared.prefix.Token.TheVariants as tokens
use Rattle.bser_events.specs.Found.{value_rest, IsContainer}
use Rattle.bser_events.proofs.Begins.{value_begins}
use Rattle.bser_events.proofs.Texts.{utf8_reads}
use Rattle.bser_events.specs.Takes.{CutsText, ReadsKey}
use Rattle.bser_events.proofs.AtStart.{Fronts, behind}
use Rattle.bser_value.specs.declared.value.Value as value
use Rattle.bser_value.specs.declared.value.Value.{Value}
use Rattle.bser_value.specs.ValueView.{tree_of, items_view, entry_trees}
use Rattle.bser_value.specs.Direct.{ReadsAs, Means, ReadsValue, ReadsRest, ReadsArray, ReadsObject}
use Rattle.bser_value.proofs.Views.{tree_of-Array, tree_of-Object, tree_of-Null, tree_of-Bool, tree_of-Integer, tree_of-Real, tree_of-ByteString, tree_of-Utf8String, entries_view-pairs}

-- what was read is made something of
pub mapped : {X Y : Type 0} (r : Reader X) (f : X → Y) (P : Y → Type 0) (b z : List ℕ) → ReadsAs r (λ x. P (f x)) b z → ReadsAs (r >>= λ x. give (f x)) P b z
mapped r f P b z h = record { it = f h.it; read = ap (and_then (λ x. give (f x))) h.read; meant = h.meant }

-- ---- tokens

pub token_reads : (levels : ℕ) (t : Token) (n : ℕ) (held z : List ℕ) (v : Value) → Fronts t n held → (IsContainer t → 0 < levels)
    → ReadsRest levels t (behind n held) v z → ReadsValue levels held v z
token_reads levels t n held z v h level rest = record {
  it = rest.it;
  read = ap (with_text_keys levels) (sym (take-append-drop n held)) ∙ value_begins levels t (take n held) h.1 level (drop n held)
      ∙ ap (value_rest levels t) (sym (take_rest held n)) ∙ rest.read;
  meant = rest.meant;
}

-- a token that is a whole value
leaf_reads : (levels : ℕ) (t u : Token) (n : ℕ) (held : List ℕ) (v : Value) → Fronts t n held → t ≡ u → (IsContainer u → ⊥) → ReadsRest levels u (behind n held) v (behind n held)
    → ReadsValue levels held v (behind n held)
leaf_reads levels t u n held v h is leaf rest =
    token_reads levels t n held (behind n held) v h (λ c. absurd (leaf (subst IsContainer is c))) (subst (λ k. ReadsRest levels k (behind n held) v (behind n held)) (sym is) rest)

pub null_reads : (levels : ℕ) (t : Token) (n : ℕ) (held : List ℕ) → Fronts t n held → t ≡ tokens.Null → ReadsValue levels held value.Null (behind n held)
null_reads levels t n held h is = leaf_reads levels t tokens.Null n held value.Null h is (λ c. c) (record { it = trees.null; read = refl; meant = ap Some (sym tree_of-Null) })

pub bool_reads : (levels : ℕ) (t : Token) (n : ℕ) (held : List ℕ) (x : Bool) → Fronts t n held → t ≡ tokens.Bool x → ReadsValue levels held (value.Bool x) (behind n held)
bool_reads levels t n held x h is =
    leaf_reads levels t (tokens.Bool x) n held (value.Bool x) h is (λ c. c) (record { it = trees.boolean x; read = refl; meant = ap Some (sym (tree_of-Bool x)) })

pub int_reads : (levels : ℕ) (t : Token) (n : ℕ) (held : List ℕ) (x y : ℤ) → Fronts t n held → t ≡ tokens.Int x → x ≡ y → ReadsValue levels held (value.Integer y) (behind n held)
int_reads levels t n held x y h is same =
    leaf_reads levels t (tokens.Int x) n held (value.Integer y) h is (λ c. c) (record { it = trees.integer x; read = refl; meant = ap (λ k. Some (trees.integer k)) same ∙ ap Some (sym (tree_of-Integer y)) })

pub real_reads : (levels : ℕ) (t : Token) (n : ℕ) (held : List ℕ) (x : ℕ) → Fronts t n held → t ≡ tokens.Real x → ReadsValue levels held (value.Real x) (behind n held)
real_reads levels t n held x h is =
    leaf_reads levels t (tokens.Real x) n held (value.Real x) h is (λ c. c) (record { it = trees.real x; read = refl; meant = ap Some (sym (tree_of-Real x)) })

-- ---- strings

pub text_reads : (levels : ℕ) (is_text : Bool) (m : ℕ) (b s z : List ℕ) (copy : String Global) → is_text ≡ true → CutsText m b s z → string_bytes copy ≡ s
    → ReadsRest levels (tokens.Str is_text m) b (value.Utf8String copy) z
text_reads levels is_text m b s z copy is cut same =
    subst (λ k. ReadsRest levels (tokens.Str k m) b (value.Utf8String copy) z) (sym is) (record {
      it = trees.text s;
      read = ap (and_then (λ s. give (trees.text s))) (ap (and_then utf8) cut.front ∙ utf8_reads s z cut.utf8);
      meant = ap (λ k. Some (trees.text k)) (sym same) ∙ ap Some (sym (tree_of-Utf8String copy));
    })

pub bytes_read : (levels : ℕ) (is_text : Bool) (m : ℕ) (b s z : List ℕ) (copy : ByteString) → is_text ≡ false → front m b ≡ reads s z → copy ≡ s
    → ReadsRest levels (tokens.Str is_text m) b (value.ByteString copy) z
bytes_read levels is_text m b s z copy is cut same =
    subst (λ k. ReadsRest levels (tokens.Str k m) b (value.ByteString copy) z) (sym is) (record {
      it = trees.bytes s;
      read = ap (and_then (λ s. give (trees.bytes s))) cut;
      meant = ap (λ k. Some (trees.bytes k)) (sym same) ∙ ap Some (sym (tree_of-ByteString copy));
    })

-- ---- containers

pub less : (levels : ℕ) → levels - 1 ≡ less_one levels
less zero = refl
less (suc n) = omega arith

pub array_reads : (levels n : ℕ) (t : Token) (b z : List ℕ) (v : Value) → t ≡ tokens.Array n → ReadsArray (levels - 1) n b v z → ReadsRest levels t b v z
array_reads levels n t b z v is h =
    subst (λ k. ReadsRest levels k b v z) (sym is)
    (mapped (many (with_text_keys (less_one levels)) n) (λ ts. array (items_of ts)) (Means v) b z (subst (λ k. ReadsArray k n b v z) (less levels) h))

pub object_reads : (levels n : ℕ) (t : Token) (b z : List ℕ) (v : Value) → t ≡ tokens.Object n → ReadsObject (levels - 1) n b v z → ReadsRest levels t b v z
object_reads levels n t b z v is h =
    subst (λ k. ReadsRest levels k b v z) (sym is)
    (mapped (many (entry_of (text_of MapKey) (with_text_keys (less_one levels))) n) (λ es. object (entries_of es)) (Means v) b z (subst (λ k. ReadsObject k n b v z) (less levels) h))

-- ---- items

abbrev pub ReadsItems : ℕ → ℕ → List ℕ → List Value → List ℕ → Type 0
ReadsItems levels n b vs rest = ReadsAs (many (with_text_keys levels) n) (λ ts. normal_items (expand_items (items_of ts)) ≡ Some (items_view vs)) b rest

-- the items that are done, and those that are left of them
abbrev pub ItemsOn : ℕ → ℕ → List ℕ → ℕ → List ℕ → List Value → Type 0
ItemsOn levels n b m c done = (z : List ℕ) (more : List Value) → ReadsItems levels m c more z → ReadsItems levels n b (done ++ more) z

item_more : (levels k : ℕ) (c d z : List ℕ) (v : Value) (more : List Value) → ReadsValue levels c v d → ReadsItems levels k d more z → ReadsItems levels (suc k) c (v ∷ more) z
item_more levels k c d z v more h t = record {
  it = h.it ∷ t.it;
  read = ap (and_then (λ x. many (with_text_keys levels) k >>= λ xs. give (x ∷ xs))) h.read ∙ ap (and_then (λ xs. give (h.it ∷ xs))) t.read;
  meant = ap (option_and_then (λ u. option_map (item u) (normal_items (expand_items (items_of t.it))))) h.meant ∙ ap (option_map (item (tree_of v))) t.meant;
}

pub items_step : (levels n m k : ℕ) (b c d : List ℕ) (done next : List Value) (v : Value) → m ≡ suc k → next ≡ done ++ v ∷ [] → ItemsOn levels n b m c done → ReadsValue levels c v d
    → ItemsOn levels n b k d next
items_step levels n m k b c d done next v is grown on h z more t =
    subst (λ l. ReadsItems levels n b l z) (sym (append_assoc done (v ∷ []) more) ∙ ap (λ l. l ++ more) (sym grown))
    (on z (v ∷ more) (subst (λ j. ReadsItems levels j c (v ∷ more) z) (sym is) (item_more levels k c d z v more h t)))

pub items_end : (levels n m : ℕ) (b c : List ℕ) (done : Vec Value Global) → m ≡ 0 → ItemsOn levels n b m c done.items → ReadsArray levels n b (value.Array done) c
items_end levels n m b c done none on =
    let h : ReadsItems levels n b (done.items ++ []) c = on c [] (subst (λ j. ReadsItems levels j c [] c) (sym none) (record { it = []; read = refl; meant = refl })) in record {
      it = h.it;
      read = h.read;
      meant = ap (option_map array) h.meant ∙ ap (λ l. Some (array (items_view l))) (append-nil done.items) ∙ ap Some (sym (tree_of-Array done));
    }

-- ---- entries

abbrev pub Pairs : Type 0
Pairs = List (List ℕ × Tree)

abbrev pub ReadsPairs : ℕ → ℕ → List ℕ → Pairs → List ℕ → Type 0
ReadsPairs levels n b ps rest = ReadsAs (many (entry_of (text_of MapKey) (with_text_keys levels)) n) (λ es. normal_entries (expand_entries (entries_of es)) ≡ Some ps) b rest

-- the entries that are done, which are these in rising order, and those that are left of them
pub record EntriesOn (levels n : ℕ) (b : List ℕ) (m : ℕ) (c : List ℕ) (ps : Pairs) : Type 0 where
  pub done : Pairs
  pub last : last_entries done ≡ ps
  pub on : (z : List ℕ) (more : Pairs) → ReadsPairs levels m c more z → ReadsPairs levels n b (done ++ more) z

pair_more : (levels k : ℕ) (c d e z key : List ℕ) (v : Value) (more : Pairs) → text_of MapKey c ≡ reads key d → is_utf8 key ≡ true → ReadsValue levels d v e → ReadsPairs levels k e more z
    → ReadsPairs levels (suc k) c ((key, tree_of v) ∷ more) z
pair_more levels k c d e z key v more named is h t =
    let rest : Entries = expand_entries (entries_of t.it) in
    let r = entry_of (text_of MapKey) (with_text_keys levels) in
    let one : r c ≡ reads (key, h.it) e =
    ap (and_then (λ k. with_text_keys levels >>= λ t. give (k, t))) named ∙ ap (and_then (λ t. give (key, t))) h.read in record {
      it = (key, h.it) ∷ t.it;
      read = ap (and_then (λ x. many r k >>= λ xs. give (x ∷ xs))) one ∙ ap (and_then (λ xs. give ((key, h.it) ∷ xs))) t.read;
      meant =
          ap (λ b. cond b (option_and_then (λ w. option_map (λ l. (key, w) ∷ l) (normal_entries rest)) (normal (expand h.it))) None) is
          ∙ ap (option_and_then (λ w. option_map (λ l. (key, w) ∷ l) (normal_entries rest))) h.meant ∙ ap (option_map (λ l. (key, tree_of v) ∷ l)) t.meant;
    }

abbrev pub put : Pairs → List ℕ × Tree → Pairs
put m e = insert_entry (slice_cmp nat_cmp) m e.0 e.1

pub fold_last : (m es : Pairs) (e : List ℕ × Tree) → fold put m (es ++ e ∷ []) ≡ put (fold put m es) e
fold_last m [] e = refl
fold_last m (d ∷ es) e = fold_last (put m d) es e

pub entries_begin : (levels n m : ℕ) (b : List ℕ) (ps : Pairs) → ps ≡ [] → n ≡ m → EntriesOn levels n b m b ps
entries_begin levels n m b ps none same = record {
  done = [];
  last = sym none;
  on = λ z more t. subst (λ k. ReadsPairs levels k b more z) (sym same) t;
}

pub entries_step : (levels n m k : ℕ) (b c d e key : List ℕ) (ps next : Pairs) (v : Value) → m ≡ suc k → text_of MapKey c ≡ reads key d → is_utf8 key ≡ true → ReadsValue levels d v e
    → next ≡ insert_entry (slice_cmp nat_cmp) ps key (tree_of v) → EntriesOn levels n b m c ps → EntriesOn levels n b k e next
entries_step levels n m k b c d e key ps next v is named utf8 h grown so = record {
  done = so.done ++ (key, tree_of v) ∷ [];
  last = fold_last [] so.done (key, tree_of v) ∙ ap (λ l. put l (key, tree_of v)) so.last ∙ sym grown;
  on = λ z more t.
      subst (λ l. ReadsPairs levels n b l z) (sym (append_assoc so.done ((key, tree_of v) ∷ []) more))
      (so.on z ((key, tree_of v) ∷ more) (subst (λ j. ReadsPairs levels j c ((key, tree_of v) ∷ more) z) (sym is) (pair_more levels k c d e z key v more named utf8 h t)));
}

pub entries_end : (levels n m : ℕ) (b c : List ℕ) (map : BTreeMap (String Global) Value) → m ≡ 0 → EntriesOn levels n b m c (entry_trees map.entries)
    → ReadsObject levels n b (value.Object map) c
entries_end levels n m b c map none so =
    let h : ReadsPairs levels n b (so.done ++ []) c = so.on c [] (subst (λ j. ReadsPairs levels j c [] c) (sym none) (record { it = []; read = refl; meant = refl })) in record {
      it = h.it;
      read = h.read;
      meant =
          ap (option_map (λ m. object (entries_of (last_entries m)))) h.meant ∙ ap (λ l. Some (object (entries_of (last_entries l)))) (append-nil so.done)
          ∙ ap (λ l. Some (object (entries_of l))) so.last ∙ ap (λ l. Some (object l)) (sym (entries_view-pairs map.entries)) ∙ ap Some (sym (tree_of-Object map));
    }

-- ---- what loops find

pub on_ok : {A E : Type 0} (P : Type 0) (r : Result A E) → OnOk r P → is_err r ≡ false → P
on_ok P (Ok x) h e = h
on_ok P (Err x) h e = absurd cc

pub entry_step : (levels n m k : ℕ) (b c d e key : List ℕ) (ps next : Pairs) (name : String Global) (v : Value) → m ≡ suc k → ReadsKey c key d → string_bytes name ≡ key → ReadsValue levels d v e → next ≡ insert_entry (slice_cmp nat_cmp) ps (string_bytes name) (tree_of v) → EntriesOn levels n b m c ps → EntriesOn levels n b k e next
entry_step levels n m k b c d e key ps next name v is named same h grown so =
    entries_step levels n m k b c d e key ps next v is (named.read MapKey) (is_utf8-from_IsUtf8 key named.utf8) h (grown ∙ ap (λ s. insert_entry (slice_cmp nat_cmp) ps s (tree_of v)) same) so
