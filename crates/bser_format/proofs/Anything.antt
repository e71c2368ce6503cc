-- A `Value` and what is ignored, reading them passes over.
use Rattle.std.proofs.Common.{option_map, option_and_then, ◌≡◌, ℕ, Bool, true, false, cond, ◌&&◌, List, ◌∷◌, ◌++◌, length, Some, None, refl, sym, ap, ◌∙◌, inl, inr}
use Rattle.std.specs.List.{AllByRecursion}
use Rattle.std.specs.Str.{is_utf8}
use Rattle.bser_format.specs.Tree.{Tree, null, boolean, integer, real, bytes, text, array, object, template, Items, no_items, item, Entries, no_entries, entry, entries_of, Fields, fields}
use Rattle.bser_format.specs.Expand.{expand_fields}
use Rattle.bser_format.specs.Normal.{normal, normal_items, normal_entries, last_entries}
use Rattle.bser_format.specs.Grammar.{Each, Spells, SpellsField}
use Rattle.bser_format.specs.Content.{Content, one, value}
use Rattle.bser_format.specs.ReadsAny.{has_utf8_keys, items_have_utf8_keys, entries_have_utf8_keys, reads_value, reads_ignored}
use Rattle.bser_format.specs.Expected.{Due, Fills, nothing_due, node_due, key_due, field_due, name_due, row_due}
use Rattle.bser_format.specs.declared.errors.Kind.TheVariants.{MapKey}
use Rattle.bser_format.proofs.Fronts.{value_reads, string_of_reads, field_reads, many_all, fields_back}
use Rattle.bser_format.specs.Named.{reads, and_then, many, field_of, any, with_text_keys}
use Rattle.bser_format.specs.NamedLaws.{HasTextKeys}
use Rattle.bser_format.specs.Asks.{done, asks_any}
use Rattle.bser_format.specs.TypeLaws.{Passes}
use Rattle.bser_format.proofs.Sifting.{many_sifts}
use Rattle.bser_format.proofs.TextKeys.{join, KeyedField, row_from, field_sifts, text_keys_sift}
use Rattle.bser_format.proofs.Options.{mapped, both_some, when_some}

-- a tree whose keys are UTF-8
text_there : (n : ℕ) (t : Tree) (b x : List ℕ) → Spells n t b → HasTextKeys t → with_text_keys n (b ++ x) ≡ reads t x
text_there n t b x h keys = (text_keys_sift n (b ++ x)).kept t x (value_reads n t b x h) keys

-- the fields of a row
row_there : (n : ℕ) (ks : List (List ℕ)) (fs : Fields) (b x : List ℕ) → length (fields fs) ≡ length ks → Each (SpellsField (Spells n)) (fields fs) b → has_utf8_keys (object (expand_fields ks fs)) ≡ true
    → many (field_of (with_text_keys n)) (length ks) (b ++ x) ≡ reads (fields fs) x
row_there n ks fs b x even h keys =
    let m : ℕ = length (fields fs) in
    let keyed : AllByRecursion KeyedField (fields fs) = row_from ks (fields fs) even (ap (λ l. entries_have_utf8_keys (expand_fields ks l)) (fields_back fs) ∙ keys) in
    let there : many (field_of (any n)) m (b ++ x) ≡ reads (fields fs) x =
    many_all (field_of (any n)) (SpellsField (Spells n)) (field_reads n) (fields fs) b x h in
    ap (λ j. many (field_of (with_text_keys n)) j (b ++ x)) (sym even)
    ∙ (many_sifts KeyedField (field_of (any n)) (field_of (with_text_keys n)) (field_sifts (any n) (with_text_keys n) (text_keys_sift n)) m (b ++ x)).kept (fields fs) x there keyed

-- whatever stands there, where its keys are UTF-8
pub any_passes : (o n : ℕ) (d : Due) (u : Tree) (b x : List ℕ) → Fills n d u b → has_utf8_keys u ≡ true → asks_any o n d (b ++ x) ≡ reads tt x
any_passes o n nothing_due u b x f keys = absurd f
any_passes o n node_due u b x f keys = ap (and_then done) (text_there n f.tree b x f.spelled (ap has_utf8_keys (sym f.stands) ∙ keys))
any_passes o n key_due u b x f keys = ap (and_then done) (string_of_reads MapKey f.key b x f.spelled)
any_passes o n field_due u b x (inl f) keys = ap (λ l. asks_any o n field_due (l ++ x)) f.1
any_passes o n field_due u b x (inr f) keys =
    let k : HasTextKeys f.tree = ap has_utf8_keys (sym f.stands) ∙ keys in
    ap (and_then done) ((field_sifts (any n) (with_text_keys n) (text_keys_sift n) (b ++ x)).kept (Some f.tree) x (field_reads n (Some f.tree) b x f.spelled) k)
any_passes o n (name_due s) u b x f keys = ap (λ l. reads tt (l ++ x)) f.1
any_passes o n (row_due ks) u b x f keys = ap (and_then done) (row_there n ks f.row b x f.even f.spelled (ap has_utf8_keys (sym f.stands) ∙ keys))

-- ---- with the meanings

ignored_keys : (u : Tree) (c : Content) → reads_ignored u ≡ Some c → has_utf8_keys u ≡ true
ignored_keys u c = go (has_utf8_keys u)
  where
    go : (b : Bool) → cond b (Some one) None ≡ Some c → b ≡ true
    go true e = refl
    go false e = absurd cc

pub ignored_passes : Passes asks_any reads_ignored
ignored_passes o n d u c b x f r = any_passes o n d u b x f (ignored_keys u c r)

mutual
  normal_keys : (t v : Tree) → normal t ≡ Some v → has_utf8_keys t ≡ true
  normal_keys (array ts) v e = let w = mapped array (normal_items ts) v e in normal_items_keys ts w.0 w.1
  normal_keys (object es) v e = let w = mapped (λ m. object (entries_of (last_entries m))) (normal_entries es) v e in normal_entries_keys es w.0 w.1
  normal_keys null v e = refl
  normal_keys other v e = refl

  normal_items_keys : (ts us : Items) → normal_items ts ≡ Some us → items_have_utf8_keys ts ≡ true
  normal_items_keys no_items us e = refl
  normal_items_keys (item t ts) us e = let w = both_some item (normal t) (normal_items ts) us e in join _ _ (normal_keys t w.0 w.2) (normal_items_keys ts w.1 w.3)

  normal_entries_keys : (es : Entries) (m : List (List ℕ × Tree)) → normal_entries es ≡ Some m → entries_have_utf8_keys es ≡ true
  normal_entries_keys no_entries m e = refl
  normal_entries_keys (entry k t es) m e =
      let p = when_some (is_utf8 k) (option_and_then (λ u. option_map (λ l. (k, u) ∷ l) (normal_entries es)) (normal t)) m e in
      let w = both_some (λ u l. (k, u) ∷ l) (normal t) (normal_entries es) m p.1 in
      join (is_utf8 k && has_utf8_keys t) _ (join _ _ p.0 (normal_keys t w.0 w.2)) (normal_entries_keys es w.1 w.3)

pub value_passes : Passes asks_any reads_value
value_passes o n d u c b x f r = let w = mapped value (normal u) c r in any_passes o n d u b x f (normal_keys u w.0 w.1)
