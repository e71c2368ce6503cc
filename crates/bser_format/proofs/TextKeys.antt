-- The reader whose objects' keys are UTF-8 reads what the reader of any value reads, where the keys are UTF-8.
use Rattle.std.proofs.Common.{◌≡◌, ℕ, zero, suc, Bool, true, false, ◌&&◌, cond, List, [], ◌∷◌, length, Option, Some, None, refl, sym, ap, subst, ◌∙◌, nat_eq}
use Rattle.std.specs.List.{AllByRecursion}
use Rattle.std.specs.Str.{is_utf8}
use Rattle.std.specs.Int.{w64, from_le_bytes}
use Rattle.bser_format.specs.Tree.{Tree, null, boolean, integer, real, bytes, text, array, object, template, items_of, entries_of, rows_of, fields_of}
use Rattle.bser_format.specs.Expand.{expand, expand_fields}
use Rattle.bser_format.specs.ReadsAny.{has_utf8_keys, entries_have_utf8_keys}
use Rattle.bser_format.specs.declared.errors.Kind.{Kind}
use Rattle.bser_format.specs.declared.errors.Kind.TheVariants.{NextItem, MapKey, TemplateKeys, TemplateKey, Array, Object, Template}
use Rattle.bser_format.specs.declared.errors.Complaint.TheVariants.{RowsWithoutKeys}
use Rattle.bser_format.specs.declared.errors.Error.TheVariants.{DeInvalidStartByte, DeRecursionLimitExceeded}
use Rattle.bser_format.specs.Named.{reads, Reader, give, refuse, and_then, ◌>>=◌, eof, utf8_wanted, complain, next, front, many, int_after, count, string, utf8, string_of, text_of, entry_of, field_of, array_body, object_body, rows_body, template_body, within, template_after, value_after, value, any, with_text_keys, is_positive}
use Rattle.bser_format.specs.NamedLaws.{HasTextKeys}
use Rattle.bser_format.proofs.Sifting.{Sifted, Sifts, Always, Anything, Counted, then_reads, same_answer, always, same_sifts, refuse_sifts, give_sifts, given, if_sifts, bind_sifts, map_sifts, after_sifts, many_sifts, many_always}

abbrev KeyedEntry : List ℕ × Tree → Type 0
KeyedEntry e = (is_utf8 e.0 ≡ true) × HasTextKeys e.1

abbrev pub KeyedField : Option Tree → Type 0
KeyedField None = Unit {0}
KeyedField (Some t) = HasTextKeys t

abbrev Utf8 : List ℕ → Type 0
Utf8 k = is_utf8 k ≡ true

-- ---- what it says of containers

both : (a b : Bool) → (a && b) ≡ true → (a ≡ true) × (b ≡ true)
both true b e = (refl, e)
both false b e = absurd cc

pub join : (a b : Bool) → a ≡ true → b ≡ true → (a && b) ≡ true
join true b e f = f
join false b e f = absurd cc

items_to : (ts : List Tree) → AllByRecursion HasTextKeys ts → HasTextKeys (array (items_of ts))
items_to [] all = refl
items_to (t ∷ ts) all = join _ _ all.0 (items_to ts all.1)

items_from : (ts : List Tree) → HasTextKeys (array (items_of ts)) → AllByRecursion HasTextKeys ts
items_from [] e = tt
items_from (t ∷ ts) e = let p = both (has_utf8_keys (expand t)) _ e in (p.0, items_from ts p.1)

entries_to : (es : List (List ℕ × Tree)) → AllByRecursion KeyedEntry es → HasTextKeys (object (entries_of es))
entries_to [] all = refl
entries_to (e ∷ es) all = join (is_utf8 e.0 && has_utf8_keys (expand e.1)) _ (join _ _ all.0.0 all.0.1) (entries_to es all.1)

entries_from : (es : List (List ℕ × Tree)) → HasTextKeys (object (entries_of es)) → AllByRecursion KeyedEntry es
entries_from [] h = tt
entries_from (e ∷ es) h =
    let p = both (is_utf8 e.0 && has_utf8_keys (expand e.1)) _ h in
    (both (is_utf8 e.0) _ p.0, entries_from es p.1)

row_to : (ks : List (List ℕ)) (fs : List (Option Tree)) → AllByRecursion Utf8 ks → AllByRecursion KeyedField fs → entries_have_utf8_keys (expand_fields ks (fields_of fs)) ≡ true
row_to [] fs ks_all all = refl
row_to (k ∷ ks) [] ks_all all = refl
row_to (k ∷ ks) (None ∷ fs) ks_all all = join (is_utf8 k && true) _ (join _ _ ks_all.0 refl) (row_to ks fs ks_all.1 all.1)
row_to (k ∷ ks) (Some t ∷ fs) ks_all all = join (is_utf8 k && has_utf8_keys (expand t)) _ (join _ _ ks_all.0 all.0) (row_to ks fs ks_all.1 all.1)

pub row_from : (ks : List (List ℕ)) (fs : List (Option Tree)) → length fs ≡ length ks → entries_have_utf8_keys (expand_fields ks (fields_of fs)) ≡ true → AllByRecursion KeyedField fs
row_from ks [] even h = tt
row_from [] (f ∷ fs) even h = absurd cc
row_from (k ∷ ks) (None ∷ fs) even h = (tt, row_from ks fs (cc) (both (is_utf8 k && true) _ h).1)
row_from (k ∷ ks) (Some t ∷ fs) even h =
    let p = both (is_utf8 k && has_utf8_keys (expand t)) _ h in
    ((both (is_utf8 k) _ p.0).1, row_from ks fs (cc) p.1)

rows_to : (ks : List (List ℕ)) (rs : List (List (Option Tree))) → AllByRecursion Utf8 ks → AllByRecursion (AllByRecursion KeyedField) rs → HasTextKeys (template ks (rows_of rs))
rows_to ks [] ks_all all = refl
rows_to ks (r ∷ rs) ks_all all = join _ _ (row_to ks r ks_all all.0) (rows_to ks rs ks_all all.1)

rows_from : (ks : List (List ℕ)) (n : ℕ) (rs : List (List (Option Tree))) → length ks ≡ n → AllByRecursion (Counted Anything n) rs → HasTextKeys (template ks (rows_of rs)) → AllByRecursion (AllByRecursion KeyedField) rs
rows_from ks n [] len even h = tt
rows_from ks n (r ∷ rs) len even h =
    let p = both (entries_have_utf8_keys (expand_fields ks (fields_of r))) _ h in
    (row_from ks r (even.0.1 ∙ sym len) p.0, rows_from ks n rs len even.1 p.1)

-- ---- strings

utf8_always : (s : List ℕ) → Always Utf8 (utf8 s)
utf8_always s b y x e = go (is_utf8 s) refl e
  where
    go : (c : Bool) → is_utf8 s ≡ c → cond c (give s) (refuse utf8_wanted) b ≡ reads x y → Utf8 x
    go true h e = subst Utf8 (same_answer s x b y e).0 h
    go false h e = absurd cc

text_always : (kind : Kind) → Always Utf8 (text_of kind)
text_always kind b y x e = then_reads utf8 (string_of kind b) x y e λ s c one more. utf8_always s c y x more

text_sifts : (kind : Kind) → Sifts Utf8 (string_of kind) (text_of kind)
text_sifts kind b = record {
  kept = λ x y e p. ap (and_then utf8) e ∙ ap (λ c. cond c (give x) (refuse utf8_wanted) y) p;
  passed = λ x y e. then_reads utf8 (string_of kind b) x y e λ s c one more. checked s c x y more one;
}
  where
    checked : (s c x y : List ℕ) → utf8 s c ≡ reads x y → string_of kind b ≡ reads s c → (string_of kind b ≡ reads x y) × Utf8 x
    checked s c x y e one = go (is_utf8 s) refl e
      where
        go : (i : Bool) → is_utf8 s ≡ i → cond i (give s) (refuse utf8_wanted) c ≡ reads x y → (string_of kind b ≡ reads x y) × Utf8 x
        go true h e = (one ∙ e, subst Utf8 (same_answer s x c y e).0 h)
        go false h e = absurd cc

-- ---- containers

entry_sifts : (r s : Reader Tree) → Sifts HasTextKeys r s → Sifts KeyedEntry (entry_of (string_of MapKey) r) (entry_of (text_of MapKey) s)
entry_sifts r s one =
    bind_sifts Anything Utf8 KeyedEntry (string_of MapKey) (text_of MapKey) (λ k. r >>= λ t. give (k, t)) (λ k. s >>= λ t. give (k, t)) (always (string_of MapKey)) (text_sifts MapKey)
    (λ k h u. map_sifts Anything HasTextKeys KeyedEntry r s (λ t. (k, t)) (always r) one (λ t g p. (u, p)) (λ t g p. p.1))
    (λ k c y z h e q. then_reads (λ t. give (k, t)) (r c) z y e λ t d first more. (given KeyedEntry (k, t) z d y more q).0)

pub field_sifts : (r s : Reader Tree) → Sifts HasTextKeys r s → Sifts KeyedField (field_of r) (field_of s)
field_sifts r s one [] = refuse_sifts KeyedField eof eof []
field_sifts r s one (x ∷ b) = go (nat_eq x 0x0c)
  where
    go : (c : Bool) → Sifted KeyedField (cond c (reads None b) ((r >>= λ t. give (Some t)) (x ∷ b))) (cond c (reads None b) ((s >>= λ t. give (Some t)) (x ∷ b)))
    go true = give_sifts KeyedField None tt b
    go false = map_sifts Anything HasTextKeys KeyedField r s (λ t. Some t) (always r) one (λ t g p. p) (λ t g p. p) (x ∷ b)

array_sifts : (r s : Reader Tree) → Sifts HasTextKeys r s → Sifts HasTextKeys (array_body r) (array_body s)
array_sifts r s one = after_sifts Anything HasTextKeys count _ _ (always count)
    (λ n u. map_sifts Anything (AllByRecursion HasTextKeys) HasTextKeys (many r n) (many s n) (λ ts. array (items_of ts)) (always (many r n)) (many_sifts HasTextKeys r s one n) (λ ts g all. items_to ts all) (λ ts g h. items_from ts h))

object_sifts : (r s : Reader Tree) → Sifts HasTextKeys r s → Sifts HasTextKeys (object_body (string_of MapKey) r) (object_body (text_of MapKey) s)
object_sifts r s one = after_sifts Anything HasTextKeys count _ _ (always count)
    (λ n u. map_sifts Anything (AllByRecursion KeyedEntry) HasTextKeys (many (entry_of (string_of MapKey) r) n) (many (entry_of (text_of MapKey) s) n) (λ es. object (entries_of es)) (always _)
    (many_sifts KeyedEntry _ _ (entry_sifts r s one) n) (λ es g all. entries_to es all) (λ es g h. entries_from es h))

rows_made : (r s : Reader Tree) → Sifts HasTextKeys r s → (ks : List (List ℕ)) (n m : ℕ) → Counted Utf8 n ks
    → Sifts HasTextKeys (many (many (field_of r) n) m >>= λ rs. give (template ks (rows_of rs))) (many (many (field_of s) n) m >>= λ rs. give (template ks (rows_of rs)))
rows_made r s one ks n m keys =
    map_sifts (Counted (Counted Anything n) m) (AllByRecursion (AllByRecursion KeyedField)) HasTextKeys (many (many (field_of r) n) m) (many (many (field_of s) n) m) (λ rs. template ks (rows_of rs))
    (many_always (Counted Anything n) (many (field_of r) n) (many_always Anything (field_of r) (always (field_of r)) n) m)
    (many_sifts (AllByRecursion KeyedField) _ _ (many_sifts KeyedField _ _ (field_sifts r s one) n) m)
    (λ rs g all. rows_to ks rs keys.0 all) (λ rs g h. rows_from ks n rs keys.1 g.0 h)

rows_sifts : (r s : Reader Tree) → Sifts HasTextKeys r s → (ks : List (List ℕ)) (n m : ℕ) → Counted Utf8 n ks → Sifts HasTextKeys (rows_body r ks n m) (rows_body s ks n m)
rows_sifts r s one ks zero zero keys = rows_made r s one ks zero zero keys
rows_sifts r s one ks zero (suc m) keys = refuse_sifts HasTextKeys (complain RowsWithoutKeys) (complain RowsWithoutKeys)
rows_sifts r s one ks (suc n) m keys = rows_made r s one ks (suc n) m keys

body_sifts : (r s : Reader Tree) → Sifts HasTextKeys r s → Sifts HasTextKeys (template_body r) (template_body s)
body_sifts r s one = after_sifts Anything HasTextKeys count _ _ (always count)
    (λ n u. after_sifts (Counted Utf8 n) HasTextKeys (many (text_of TemplateKey) n) _ _ (many_always Utf8 (text_of TemplateKey) (text_always TemplateKey) n)
    (λ ks keys. after_sifts Anything HasTextKeys count _ _ (always count) (λ m v. rows_sifts r s one ks n m keys)))

within_sifts : (deep : Bool) (kind : Kind) (r s : Reader Tree) → Sifts HasTextKeys r s → Sifts HasTextKeys (within deep kind r) (within deep kind s)
within_sifts deep kind r s one = if_sifts HasTextKeys deep r _ s _ one (refuse_sifts HasTextKeys (DeRecursionLimitExceeded kind) (DeRecursionLimitExceeded kind))

template_sifts : (deeper : Bool) (r s : Reader Tree) → Sifts HasTextKeys r s → Sifts HasTextKeys (next >>= template_after deeper r) (next >>= template_after deeper s)
template_sifts deeper r s one = after_sifts Anything HasTextKeys next _ _ (always next)
    (λ tag u. if_sifts HasTextKeys (nat_eq tag 0x00) (within deeper Array (template_body r)) _ (within deeper Array (template_body s)) _ (within_sifts deeper Array _ _ (body_sifts r s one))
    (refuse_sifts HasTextKeys (DeInvalidStartByte TemplateKeys tag) (DeInvalidStartByte TemplateKeys tag)))

-- ---- values

-- what holds no object
leaf_sifts : {X : Type 0} (r : Reader X) (f : X → Tree) → ((x : X) → HasTextKeys (f x)) → Sifts HasTextKeys (r >>= λ x. give (f x)) (r >>= λ x. give (f x))
leaf_sifts r f is = map_sifts Anything Anything HasTextKeys r r f (always r) (same_sifts Anything r (always r)) (λ x g p. is x) (λ x g p. tt)

after_tag : (deep deeper : Bool) (r s : Reader Tree) → Sifts HasTextKeys r s → (tag : ℕ) → Sifts HasTextKeys (value_after deep deeper (string_of MapKey) r tag) (value_after deep deeper (text_of MapKey) s tag)
after_tag deep deeper r s one tag =
    if_sifts HasTextKeys (nat_eq tag 0x0a) _ _ _ _ (give_sifts HasTextKeys null refl)
    (if_sifts HasTextKeys (nat_eq tag 0x08) _ _ _ _ (give_sifts HasTextKeys (boolean true) refl)
    (if_sifts HasTextKeys (nat_eq tag 0x09) _ _ _ _ (give_sifts HasTextKeys (boolean false) refl)
    (if_sifts HasTextKeys (nat_eq tag 0x07) _ _ _ _ (leaf_sifts (front 8) (λ b. real (from_le_bytes w64 b)) (λ b. refl))
    (if_sifts HasTextKeys (nat_eq tag 0x02) _ _ _ _ (leaf_sifts string (λ c. bytes c) (λ c. refl))
    (if_sifts HasTextKeys (nat_eq tag 0x0d) _ _ _ _ (leaf_sifts (string >>= utf8) (λ c. text c) (λ c. refl))
    (if_sifts HasTextKeys (nat_eq tag 0x00) _ _ _ _ (within_sifts deep Array _ _ (array_sifts r s one))
    (if_sifts HasTextKeys (nat_eq tag 0x01) _ _ _ _ (within_sifts deep Object _ _ (object_sifts r s one))
    (if_sifts HasTextKeys (nat_eq tag 0x0b) _ _ _ _ (within_sifts deep Template _ _ (template_sifts deeper r s one))
    (leaf_sifts (int_after (DeInvalidStartByte NextItem tag) tag) (λ v. integer v) (λ v. refl))))))))))

pub text_keys_sift : (n : ℕ) → Sifts HasTextKeys (any n) (with_text_keys n)
unfolding value
text_keys_sift zero = after_sifts Anything HasTextKeys next _ _ (always next) (λ tag u. after_tag false false (refuse eof) (refuse eof) (refuse_sifts HasTextKeys eof eof) tag)
text_keys_sift (suc n) = after_sifts Anything HasTextKeys next _ _ (always next) (λ tag u. after_tag true (is_positive n) (any n) (with_text_keys n) (text_keys_sift n) tag)
