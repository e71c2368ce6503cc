-- Templates are read row by row.
use Rattle.std.proofs.Common.{◌≡◌, ℕ, zero, suc, ◌-◌, true, cond, List, [], ◌∷◌, ◌++◌, length, get_or, refl, sym, ap, subst, ◌∙◌, arith, append_assoc, append-nil, String, Vec, BTreeMap, string_bytes}
use Rattle.std.specs.Prelude.{Option, Some, None, option_map, option_and_then}
use Rattle.std.specs.declared.alloc.Global.{Global}
use Rattle.std.specs.Ordering.{nat_cmp}
use Rattle.std.specs.Cmp.Lexicographic.{slice_cmp}
use Rattle.std.specs.BTreeMap.{insert_entry}
use Rattle.std.specs.Str.{is_utf8}
use Rattle.std.proofs.lemmas.List.{take_rest}
use Rattle.std.proofs.lemmas.Str.{is_utf8-from_IsUtf8}
use Rattle.bser_format.specs.Tree.{Tree, null, array, object, template, item, entries_of, fields_of, rows_of}
use Rattle.bser_format.specs.Expand.{expand, expand_fields, expand_rows}
use Rattle.bser_format.specs.Normal.{normal, normal_items, normal_entries, last_entries}
use Rattle.bser_format.specs.declared.errors.Complaint.{Complaint}
use Rattle.bser_format.specs.declared.errors.Complaint.TheVariants.{NegativeCount}
use Rattle.bser_format.specs.declared.errors.Kind.TheVariants.{TemplateKey}
use Rattle.bser_format.specs.Named as named
use Rattle.bser_format.specs.Named.{Reader, Answer, reads, give, and_then, ◌>>=◌, many, text_of, field_of, with_text_keys, rows_body, template_body}
use Rattle.bser_bunser.specs.declared.prefix.Token.{Token}
use Rattle.bser_bunser.specs.declared.prefix.Token.TheVariants as tokens
use Rattle.bser_events.specs.Found.{table_at}
use Rattle.bser_events.proofs.Begins.{value_field}
use Rattle.bser_events.specs.Takes.{Takes, ReadsKey, counting}
use Rattle.bser_events.proofs.AtStart.{behind}
use Rattle.bser_value.specs.declared.value.Value as value
use Rattle.bser_value.specs.declared.value.Value.{Value}
use Rattle.bser_value.specs.ValueView.{tree_of, items_view, entry_trees}
use Rattle.bser_value.specs.Direct.{ReadsAs, Means, MeansField, ReadsValue, ReadsRest, ReadsTable, ReadsRows, ReadsRow, ReadsField}
use Rattle.bser_value.proofs.Views.{tree_of-Array, tree_of-Object, tree_of-Null, entries_view-pairs}
use Rattle.bser_value.proofs.Joins.{mapped, Pairs, put, fold_last, less}

-- ---- fields

pub field_read : (levels : ℕ) (b z : List ℕ) (v : Value) → ReadsValue levels b v z → ReadsField levels b v z
field_read levels b z v h = record { it = Some h.it; read = value_field levels b z h.it h.read; meant = h.meant }

-- so many fields with these keys
abbrev pub ReadsFields : ℕ → ℕ → List (List ℕ) → List ℕ → Pairs → List ℕ → Type 0
ReadsFields levels n ks b ps z = ReadsAs (many (field_of (with_text_keys levels)) n) (λ fs. normal_entries (expand_fields ks (fields_of fs)) ≡ Some ps) b z

-- an entry, and those after it
one_more : (k : List ℕ) (t u : Tree) (o : Option Pairs) (m : Pairs) → is_utf8 k ≡ true → normal t ≡ Some u → o ≡ Some m
    → cond (is_utf8 k) (option_and_then (λ w. option_map (λ l. (k, w) ∷ l) o) (normal t)) None ≡ Some ((k, u) ∷ m)
one_more k t u o m utf8 first rest =
    ap (λ b. cond b (option_and_then (λ w. option_map (λ l. (k, w) ∷ l) o) (normal t)) None) utf8
    ∙ ap (option_and_then (λ w. option_map (λ l. (k, w) ∷ l) o)) first ∙ ap (option_map (λ l. (k, u) ∷ l)) rest

field_meant : (key : List ℕ) (ks : List (List ℕ)) (f : Option Tree) (fs : List (Option Tree)) (v : Value) (more : Pairs) → is_utf8 key ≡ true → MeansField v f
    → normal_entries (expand_fields ks (fields_of fs)) ≡ Some more → normal_entries (expand_fields (key ∷ ks) (fields_of (f ∷ fs))) ≡ Some ((key, tree_of v) ∷ more)
field_meant key ks None fs v more is h t = one_more key null (tree_of v) (normal_entries (expand_fields ks (fields_of fs))) more is (ap Some (sym h)) t
field_meant key ks (Some u) fs v more is h t = one_more key (expand u) (tree_of v) (normal_entries (expand_fields ks (fields_of fs))) more is h t

fields_more : (levels k : ℕ) (key : List ℕ) (ks : List (List ℕ)) (c d z : List ℕ) (v : Value) (more : Pairs) → is_utf8 key ≡ true → ReadsField levels c v d → ReadsFields levels k ks d more z
    → ReadsFields levels (suc k) (key ∷ ks) c ((key, tree_of v) ∷ more) z
fields_more levels k key ks c d z v more is h t =
    let r = field_of (with_text_keys levels) in record {
      it = h.it ∷ t.it;
      read = ap (and_then (λ x. many r k >>= λ xs. give (x ∷ xs))) h.read ∙ ap (and_then (λ xs. give (h.it ∷ xs))) t.read;
      meant = field_meant key ks h.it t.it v more is h.meant t.meant;
    }

-- keys, and as many fields
pub record Named (levels n : ℕ) (names after b : List ℕ) (ps : Pairs) (z : List ℕ) : Type 0 where
  pub keys : List (List ℕ)
  pub named : many (text_of TemplateKey) n names ≡ reads keys after
  pub fields : ReadsFields levels n keys b ps z

-- the fields that are done, which are these entries in rising order, and those that are left of them
pub record FieldsOn (levels n : ℕ) (names b : List ℕ) (m : ℕ) (left c : List ℕ) (ps : Pairs) : Type 0 where
  pub done : Pairs
  pub last : last_entries done ≡ ps
  pub on : (after z : List ℕ) (more : Pairs) → Named levels m left after c more z → Named levels n names after b (done ++ more) z

named_more : (levels k : ℕ) (key left others after c d z : List ℕ) (v : Value) (more : Pairs) → text_of TemplateKey left ≡ reads key others → is_utf8 key ≡ true → ReadsField levels c v d
    → Named levels k others after d more z → Named levels (suc k) left after c ((key, tree_of v) ∷ more) z
named_more levels k key left others after c d z v more key_read is h t =
    let r = text_of TemplateKey in record {
      keys = key ∷ t.keys;
      named = ap (and_then (λ x. many r k >>= λ xs. give (x ∷ xs))) key_read ∙ ap (and_then (λ xs. give (key ∷ xs))) t.named;
      fields = fields_more levels k key t.keys c d z v more is h t.fields;
    }

pub fields_begin : (levels n m : ℕ) (names b : List ℕ) (ps : Pairs) → ps ≡ [] → n ≡ m → FieldsOn levels n names b m names b ps
fields_begin levels n m names b ps none same = record {
  done = [];
  last = sym none;
  on = λ after z more t. subst (λ k. Named levels k names after b more z) (sym same) t;
}

pub fields_step : (levels n m k : ℕ) (names b left c others d key : List ℕ) (ps next : Pairs) (name : String Global) (v : Value) → m ≡ suc k
    → ReadsKey left key others → string_bytes name ≡ key → ReadsField levels c v d
    → next ≡ insert_entry (slice_cmp nat_cmp) ps (string_bytes name) (tree_of v) → FieldsOn levels n names b m left c ps → FieldsOn levels n names b k others d next
fields_step levels n m k names b left c others d key ps next name v is key_read same h grown so = record {
  done = so.done ++ (key, tree_of v) ∷ [];
  last = fold_last [] so.done (key, tree_of v) ∙ ap (λ l. put l (key, tree_of v)) so.last ∙ ap (λ s. insert_entry (slice_cmp nat_cmp) ps s (tree_of v)) (sym same) ∙ sym grown;
  on = λ after z more t.
      subst (λ l. Named levels n names after b l z) (sym (append_assoc so.done ((key, tree_of v) ∷ []) more))
      (so.on after z ((key, tree_of v) ∷ more) (subst (λ j. Named levels j left after c ((key, tree_of v) ∷ more) z) (sym is)
      (named_more levels k key left others after c d z v more (key_read.read TemplateKey) (is_utf8-from_IsUtf8 key key_read.utf8) h t)));
}

same_keys : (x y : List (List ℕ)) (a c : List ℕ) → Path (Answer (List (List ℕ))) (reads x a) (reads y c) → x ≡ y
same_keys x y a c q = cc

pub fields_end : (levels n m : ℕ) (names b left c : List ℕ) (map : BTreeMap (String Global) Value) → m ≡ 0 → FieldsOn levels n names b m left c (entry_trees map.entries)
    → (ks : List (List ℕ)) (after : List ℕ) → many (text_of TemplateKey) n names ≡ reads ks after → ReadsRow levels ks n b (value.Object map) c
fields_end levels n m names b left c map none so ks after keys_read =
    let h : Named levels n names left b (so.done ++ []) c = so.on left c [] (subst (λ j. Named levels j left left c [] c) (sym none)
    (record { keys = []; named = refl; fields = record { it = []; read = refl; meant = refl } })) in
    let same : h.keys ≡ ks = same_keys h.keys ks left after (sym h.named ∙ keys_read) in record {
      it = h.fields.it;
      read = h.fields.read;
      meant =
          ap (λ l. normal (object (expand_fields l (fields_of h.fields.it)))) (sym same)
          ∙ ap (option_map (λ m. object (entries_of (last_entries m)))) h.fields.meant ∙ ap (λ l. Some (object (entries_of (last_entries l)))) (append-nil so.done)
          ∙ ap (λ l. Some (object (entries_of l))) so.last ∙ ap (λ l. Some (object l)) (sym (entries_view-pairs map.entries)) ∙ ap Some (sym (tree_of-Object map));
    }

-- ---- rows

abbrev pub ReadsObjects : ℕ → List (List ℕ) → ℕ → ℕ → List ℕ → List Value → List ℕ → Type 0
ReadsObjects levels ks w n b vs z = ReadsAs (many (many (field_of (with_text_keys levels)) w) n) (λ rs. normal_items (expand_rows ks (rows_of rs)) ≡ Some (items_view vs)) b z

-- the rows that are done, and those that are left of them, whatever the keys are
abbrev pub RowsOn : ℕ → ℕ → List ℕ → ℕ → List ℕ → ℕ → List ℕ → List Value → Type 0
RowsOn levels w names n b m c done =
    (ks : List (List ℕ)) (after : List ℕ) → many (text_of TemplateKey) w names ≡ reads ks after
    → (z : List ℕ) (more : List Value) → ReadsObjects levels ks w m c more z → ReadsObjects levels ks w n b (done ++ more) z

row_more : (levels w k : ℕ) (ks : List (List ℕ)) (c d z : List ℕ) (v : Value) (more : List Value) → ReadsRow levels ks w c v d → ReadsObjects levels ks w k d more z
    → ReadsObjects levels ks w (suc k) c (v ∷ more) z
row_more levels w k ks c d z v more h t =
    let r = many (field_of (with_text_keys levels)) w in record {
      it = h.it ∷ t.it;
      read = ap (and_then (λ x. many r k >>= λ xs. give (x ∷ xs))) h.read ∙ ap (and_then (λ xs. give (h.it ∷ xs))) t.read;
      meant = ap (option_and_then (λ u. option_map (item u) (normal_items (expand_rows ks (rows_of t.it))))) h.meant ∙ ap (option_map (item (tree_of v))) t.meant;
    }

pub rows_step : (levels w n m k : ℕ) (names b c d : List ℕ) (done next : List Value) (v : Value) → m ≡ suc k → next ≡ done ++ v ∷ [] → RowsOn levels w names n b m c done
    → ((ks : List (List ℕ)) (after : List ℕ) → many (text_of TemplateKey) w names ≡ reads ks after → ReadsRow levels ks w c v d) → RowsOn levels w names n b k d next
rows_step levels w n m k names b c d done next v is grown on h ks after keys z more t =
    subst (λ l. ReadsObjects levels ks w n b l z) (sym (append_assoc done (v ∷ []) more) ∙ ap (λ l. l ++ more) (sym grown))
    (on ks after keys z (v ∷ more) (subst (λ j. ReadsObjects levels ks w j c (v ∷ more) z) (sym is) (row_more levels w k ks c d z v more (h ks after keys) t)))

pub rows_end : (levels w n m : ℕ) (names b c : List ℕ) (done : Vec Value Global) → m ≡ 0 → RowsOn levels w names n b m c done.items
    → (ks : List (List ℕ)) (after : List ℕ) → many (text_of TemplateKey) w names ≡ reads ks after → ReadsRows levels ks w n b (value.Array done) c
rows_end levels w n m names b c done none on ks after keys =
    let h : ReadsObjects levels ks w n b (done.items ++ []) c =
    on ks after keys c [] (subst (λ j. ReadsObjects levels ks w j c [] c) (sym none) (record { it = []; read = refl; meant = refl })) in record {
      it = h.it;
      read = h.read;
      meant = ap (option_map array) h.meant ∙ ap (λ l. Some (array (items_view l))) (append-nil done.items) ∙ ap Some (sym (tree_of-Array done));
    }

-- ---- a template

body_read : (r : Reader Tree) (ks : List (List ℕ)) (w m : ℕ) (b z : List ℕ) (v : Value) → (w ≡ 0 → m ≡ 0) → ReadsAs (many (many (field_of r) w) m) (λ rs. Means v (template ks (rows_of rs))) b z
    → ReadsAs (rows_body r ks w m) (Means v) b z
body_read r ks zero zero b z v none h = mapped (many (many (field_of r) zero) zero) (λ rs. template ks (rows_of rs)) (Means v) b z h
body_read r ks zero (suc m) b z v none h = (let never = none refl in absurd (omega (arith, never)))
body_read r ks (suc w) m b z v none h = mapped (many (many (field_of r) (suc w)) m) (λ rs. template ks (rows_of rs)) (Means v) b z h

pub table_read : (levels w m : ℕ) (b a c d z : List ℕ) (v : Value) → (levels ≡ 0 → ⊥) → (length b ≡ 0 → ⊥) → get_or b 0 0 ≡ 0x00
    → ((k : Complaint) → counting k (behind 1 b) ≡ reads w a) → Takes (many (text_of TemplateKey) w) a c
    → ((k : Complaint) → counting k c ≡ reads m d) → (w ≡ 0 → m ≡ 0)
    → ((ks : List (List ℕ)) (after : List ℕ) → many (text_of TemplateKey) w a ≡ reads ks after → ReadsRows levels ks w m d v z) → ReadsTable levels b v z
table_read zero w m b a c d z v deep some is width keys count none rows = absurd (deep refl)
table_read (suc n) w m [] a c d z v deep some is width keys count none rows = absurd (some refl)
table_read (suc n) w m (t ∷ y) a c d z v deep some is width keys count none rows =
    let r = with_text_keys (suc n) in
    let h = body_read r keys.0 w m d z v none (rows keys.0 c keys.1) in
    let there : counting NegativeCount y ≡ reads w a = ap (counting NegativeCount) (sym (take_rest (t ∷ y) 1)) ∙ width NegativeCount in
    let whole : template_body r y ≡ reads h.it z =
    ap (and_then (λ k. many (text_of TemplateKey) k >>= λ ks. named.count >>= λ j. rows_body r ks k j)) there
    ∙ ap (and_then (λ ks. named.count >>= λ j. rows_body r ks w j)) keys.1 ∙ ap (and_then (λ j. rows_body r keys.0 w j)) (count NegativeCount) ∙ h.read in record {
      it = h.it;
      read = ap (λ k. table_at (suc n) (k ∷ y)) is ∙ whole;
      meant = h.meant;
    }

pub template_reads : (levels : ℕ) (t : Token) (b z : List ℕ) (v : Value) → t ≡ tokens.Template → ReadsTable (levels - 1) b v z → ReadsRest levels t b v z
template_reads levels t b z v is h = subst (λ k. ReadsRest levels k b v z) (sym is) (subst (λ k. ReadsTable k b v z) (less levels) h)
