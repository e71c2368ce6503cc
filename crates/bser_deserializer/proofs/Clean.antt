-- Readers that refuse by the bytes alone.
use Rattle.std.proofs.Common.{◌≡◌, ℕ, zero, suc, ℤ, pos, negsuc, Bool, true, false, cond, ◌||◌, ◌==◌, nat_lt, bytes_eq, List, [], ◌∷◌, length, take, drop, refl, ap, subst, ◌∙◌}
use Rattle.std.specs.Int.{byte_len}
use Rattle.std.specs.Prelude.{Option, Some, None}
use Rattle.std.specs.Str.{is_utf8}
use Rattle.bser_format.specs.Tree.{Tree, template, rows_of}
use Rattle.bser_format.specs.Grammar.{IntSize, int8, int16, int32, int64, width_of}
use Rattle.bser_format.specs.Expected.{Due, nothing_due, node_due, key_due, field_due, name_due, row_due}
use Rattle.bser_format.specs.declared.errors.Error.{Error}
use Rattle.bser_format.specs.declared.errors.Complaint.{Complaint}
use Rattle.bser_format.specs.declared.errors.Complaint.TheVariants.{NegativeLength, NegativeCount}
use Rattle.bser_format.specs.declared.errors.Kind.{Kind}
use Rattle.bser_format.specs.declared.errors.Kind.TheVariants.{MapKey, TemplateKey}
use Rattle.bser_format.specs.Named.{Answer, Reader, reads, refuses, give, refuse, and_then, ◌>>=◌, complain, eof, next, front, many, number, int_after, int, natural, size, count, string, utf8, string_after, string_of, text_of, within, magic, head, entry_of, field_of, array_body, object_body, rows_body, template_body, template_after, value_after, value, with_text_keys, is_positive}
use Rattle.bser_format.specs.DueReaders.{Seen, tag, name, row, is_tag, is_key_tag, seen, asked, nothing_here, bool_at, integer_at, real_at, unit_at, bytes_at, text_at, rows_wanted, table_at, less_one, items_at, pairs_at}
use Rattle.bser_format.specs.Asks.{done, asks_bool, asks_real, asks_unit, asks_integer, asks_bytes, asks_string, asks_any, in_range}
use Rattle.bser_deserializer.specs.Reading.{IsRefusal}

-- a refusal by r is to blame on the bytes
abbrev pub Clean : {X : Type 0} → Reader X → Type 0
Clean r = (b : List ℕ) (e : Error) → r b ≡ refuses e → IsRefusal e

pub clean_give : {X : Type 0} (v : X) → Clean (give v)
clean_give v b e h = absurd cc

pub clean_refuse : {X : Type 0} (f : Error) → IsRefusal f → Clean (refuse {X = X} f)
clean_refuse f kind b e h = (let same : f ≡ e = cc in subst IsRefusal same kind)

pub clean_then : {X Y : Type 0} (r : Reader X) (k : X → Reader Y) → Clean r → ((v : X) → Clean (k v)) → Clean (r >>= k)
clean_then {X = X} r k first second b e h = go (r b) refl h
  where
    go : (o : Answer X) → r b ≡ o → and_then k o ≡ refuses e → IsRefusal e
    go (reads v y) p q = second v y e q
    go (refuses f) p q = (let same : f ≡ e = cc in first b e (p ∙ ap refuses same))

pub clean_if : {X : Type 0} (c : Bool) (r s : Reader X) → Clean r → Clean s → Clean (cond c r s)
clean_if true r s first second b e h = first b e h
clean_if false r s first second b e h = second b e h

clean_next : Clean next
clean_next [] e h = clean_refuse {X = ℕ} eof tt [] e h
clean_next (x ∷ b) e h = absurd cc

clean_front : (n : ℕ) → Clean (front n)
clean_front n b e = go (nat_lt (length b) n)
  where
    go : (c : Bool) → cond c (refuses eof) (reads (take n b) (drop n b)) ≡ refuses e → IsRefusal e
    go true h = clean_refuse {X = List ℕ} eof tt [] e h
    go false h = absurd cc

clean_many : {X : Type 0} (r : Reader X) → Clean r → (n : ℕ) → Clean (many r n)
clean_many r is zero = clean_give []
clean_many r is (suc n) = clean_then r _ is (λ x. clean_then (many r n) _ (clean_many r is n) (λ xs. clean_give (x ∷ xs)))

clean_number : (s : IntSize) → Clean (number s)
clean_number s = clean_then (front (byte_len (width_of s))) _ (clean_front (byte_len (width_of s))) (λ b. clean_give _)

clean_int_after : (e : Error) → IsRefusal e → (t : ℕ) → Clean (int_after e t)
clean_int_after e kind t =
    clean_if (t == 0x03) _ _ (clean_number int8)
    (clean_if (t == 0x04) _ _ (clean_number int16)
    (clean_if (t == 0x05) _ _ (clean_number int32) (clean_if (t == 0x06) _ _ (clean_number int64) (clean_refuse e kind))))

clean_int : Clean int
clean_int = clean_then next _ clean_next (λ t. clean_int_after _ tt t)

clean_natural : (c : Complaint) → IsRefusal (complain c) → (v : ℤ) → Clean (natural c v)
clean_natural c kind (pos n) = clean_give n
clean_natural c kind (negsuc n) = clean_refuse (complain c) kind

clean_size : Clean size
clean_size = clean_then int _ clean_int (clean_natural NegativeLength tt)

clean_count : Clean count
clean_count = clean_then int _ clean_int (clean_natural NegativeCount tt)

clean_string : Clean string
clean_string = clean_then size _ clean_size clean_front

pub clean_utf8 : (s : List ℕ) → Clean (utf8 s)
clean_utf8 s = clean_if (is_utf8 s) (give s) _ (clean_give s) (clean_refuse _ tt)

clean_string_after : (e : Error) → IsRefusal e → (t : ℕ) → Clean (string_after e t)
clean_string_after e kind t =
    clean_if (t == 0x02) _ _ clean_string (clean_if (t == 0x0d) _ _ (clean_then string _ clean_string clean_utf8) (clean_refuse e kind))

clean_string_of : (kind : Kind) → Clean (string_of kind)
clean_string_of kind = clean_then next _ clean_next (λ t. clean_string_after _ tt t)

clean_text_of : (kind : Kind) → Clean (text_of kind)
clean_text_of kind = clean_then (string_of kind) _ (clean_string_of kind) clean_utf8

clean_within : {X : Type 0} (deep : Bool) (kind : Kind) (r : Reader X) → Clean r → Clean (within deep kind r)
clean_within deep kind r is = clean_if deep r _ is (clean_refuse _ tt)

-- ---- what is due

clean_nothing : {X : Type 0} (o : ℕ) → Clean (refuse {X = X} (nothing_here o))
clean_nothing zero = clean_refuse _ tt
clean_nothing (suc o) = clean_refuse _ tt

pub clean_seen : (o : ℕ) (d : Due) → Clean (seen o d)
clean_seen o nothing_due = clean_nothing o
clean_seen o node_due = clean_then next _ clean_next (λ t. clean_if (is_tag false t) _ _ (clean_give (tag t)) (clean_refuse _ tt))
clean_seen o field_due = clean_then next _ clean_next (λ t. clean_if (is_tag true t) _ _ (clean_give (tag t)) (clean_refuse _ tt))
clean_seen o key_due = clean_then next _ clean_next (λ t. clean_if (is_key_tag t) _ _ (clean_give (tag t)) (clean_refuse _ tt))
clean_seen o (name_due k) = clean_give (name k)
clean_seen o (row_due ks) = clean_give (row ks)

-- what k reads of what stands there
pub clean_asked : {X : Type 0} (k : Seen → Reader X) → ((s : Seen) → Clean (k s)) → (o : ℕ) (d : Due) → Clean (asked k o d)
clean_asked k is o d = clean_then (seen o d) k (clean_seen o d) is

clean_bool_at : (s : Seen) → Clean (bool_at s)
clean_bool_at (tag t) = clean_if (t == 0x08) _ _ (clean_give true) (clean_if (t == 0x09) _ _ (clean_give false) (clean_refuse _ tt))
clean_bool_at (name k) = clean_refuse _ tt
clean_bool_at (row ks) = clean_refuse _ tt

clean_integer_at : (s : Seen) → Clean (integer_at s)
clean_integer_at (tag t) = clean_int_after _ tt t
clean_integer_at (name k) = clean_refuse _ tt
clean_integer_at (row ks) = clean_refuse _ tt

clean_real_at : (s : Seen) → Clean (real_at s)
clean_real_at (tag t) = clean_if (t == 0x07) _ _ (clean_then (front 8) _ (clean_front 8) (λ b. clean_give _)) (clean_refuse _ tt)
clean_real_at (name k) = clean_refuse _ tt
clean_real_at (row ks) = clean_refuse _ tt

clean_unit_at : (s : Seen) → Clean (unit_at s)
clean_unit_at (tag t) = clean_if ((t == 0x0a) || (t == 0x0c)) _ _ (clean_give tt) (clean_refuse _ tt)
clean_unit_at (name k) = clean_refuse _ tt
clean_unit_at (row ks) = clean_refuse _ tt

clean_bytes_at : (s : Seen) → Clean (bytes_at s)
clean_bytes_at (tag t) = clean_string_after _ tt t
clean_bytes_at (name k) = clean_give k
clean_bytes_at (row ks) = clean_refuse _ tt

clean_text_at : (s : Seen) → Clean (text_at s)
clean_text_at s = clean_then (bytes_at s) _ (clean_bytes_at s) clean_utf8

clean_rows : (ks : List (List ℕ)) (m : ℕ) → Clean (rows_wanted ks m)
clean_rows [] zero = clean_give _
clean_rows [] (suc m) = clean_refuse _ tt
clean_rows (k ∷ ks) m = clean_give _

clean_template_parts : (levels t : ℕ) → Clean (table_at levels t)
clean_template_parts levels t =
    clean_if (t == 0x00) _ _
    (clean_within (is_positive levels) _ _ (clean_then count _ clean_count (λ n. clean_then (many (text_of TemplateKey) n) _ (clean_many _ (clean_text_of TemplateKey) n) (λ ks. clean_then count _ clean_count (clean_rows ks)))))
    (clean_refuse _ tt)

pub clean_items : (levels : ℕ) (s : Seen) → Clean (items_at levels s)
clean_items levels (tag t) =
    clean_if (t == 0x00) _ _ (clean_within (is_positive levels) _ _ (clean_then count _ clean_count (λ n. clean_give _)))
    (clean_if (t == 0x0b) _ _ (clean_within (is_positive levels) _ _ (clean_then next _ clean_next (clean_template_parts (less_one levels)))) (clean_refuse _ tt))
clean_items levels (name k) = clean_refuse _ tt
clean_items levels (row ks) = clean_refuse _ tt

pub clean_pairs : (levels : ℕ) (s : Seen) → Clean (pairs_at levels s)
clean_pairs levels (tag t) = clean_if (t == 0x01) _ _ (clean_within (is_positive levels) _ _ (clean_then count _ clean_count (λ n. clean_give _))) (clean_refuse _ tt)
clean_pairs levels (name k) = clean_refuse _ tt
clean_pairs levels (row ks) = clean_give _

-- ---- types without parts

clean_plain : {X : Type 0} (k : Seen → Reader X) → ((s : Seen) → Clean (k s)) → (o n : ℕ) (d : Due) → Clean (asked k o d >>= done)
clean_plain k is o n d = clean_then (asked k o d) done (clean_asked k is o d) (λ v. clean_give tt)

pub clean_bools : (o n : ℕ) (d : Due) → Clean (asks_bool o n d)
clean_bools = clean_plain bool_at clean_bool_at

pub clean_reals : (o n : ℕ) (d : Due) → Clean (asks_real o n d)
clean_reals = clean_plain real_at clean_real_at

pub clean_units : (o n : ℕ) (d : Due) → Clean (asks_unit o n d)
clean_units = clean_plain unit_at clean_unit_at

pub clean_bytes : (o n : ℕ) (d : Due) → Clean (asks_bytes o n d)
clean_bytes = clean_plain bytes_at clean_bytes_at

pub clean_texts : (o n : ℕ) (d : Due) → Clean (asks_string o n d)
clean_texts = clean_plain text_at clean_text_at

pub clean_integers : (fits : ℤ → Bool) (o n : ℕ) (d : Due) → Clean (asks_integer fits o n d)
clean_integers fits o n d = clean_then (asked integer_at o d) (in_range fits) (clean_asked integer_at clean_integer_at o d) (λ v. clean_if (fits v) _ _ (clean_give tt) (clean_refuse _ tt))

-- ---- values

clean_field : (r : Reader Tree) → Clean r → Clean (field_of r)
clean_field r is [] e h = clean_refuse {X = Option Tree} eof tt [] e h
clean_field r is (x ∷ b) e h = go (x == 0x0c) h
  where
    go : (c : Bool) → cond c (reads None b) ((r >>= λ t. give (Some t)) (x ∷ b)) ≡ refuses e → IsRefusal e
    go true q = absurd cc
    go false q = clean_then r (λ t. give (Some t)) is (λ t. clean_give (Some t)) (x ∷ b) e q

clean_entry : (key : Reader (List ℕ)) (r : Reader Tree) → Clean key → Clean r → Clean (entry_of key r)
clean_entry key r keys is = clean_then key _ keys (λ k. clean_then r _ is (λ t. clean_give (k, t)))

clean_array : (r : Reader Tree) → Clean r → Clean (array_body r)
clean_array r is = clean_then count _ clean_count (λ n. clean_then (many r n) _ (clean_many r is n) (λ ts. clean_give _))

clean_object : (key : Reader (List ℕ)) (r : Reader Tree) → Clean key → Clean r → Clean (object_body key r)
clean_object key r keys is =
    clean_then count _ clean_count (λ n. clean_then (many (entry_of key r) n) _ (clean_many _ (clean_entry key r keys is) n) (λ es. clean_give _))

clean_made : (r : Reader Tree) → Clean r → (ks : List (List ℕ)) (n m : ℕ) → Clean (many (many (field_of r) n) m >>= λ rs. give (template ks (rows_of rs)))
clean_made r is ks n m = clean_then (many (many (field_of r) n) m) _ (clean_many _ (clean_many _ (clean_field r is) n) m) (λ rs. clean_give _)

clean_rows_body : (r : Reader Tree) → Clean r → (ks : List (List ℕ)) (n m : ℕ) → Clean (rows_body r ks n m)
clean_rows_body r is ks zero zero = clean_made r is ks zero zero
clean_rows_body r is ks zero (suc m) = clean_refuse _ tt
clean_rows_body r is ks (suc n) m = clean_made r is ks (suc n) m

clean_template : (r : Reader Tree) → Clean r → Clean (template_body r)
clean_template r is =
    clean_then count _ clean_count (λ n. clean_then (many (text_of TemplateKey) n) _ (clean_many _ (clean_text_of TemplateKey) n) (λ ks. clean_then count _ clean_count (λ m. clean_rows_body r is ks n m)))

clean_keys : (deeper : Bool) (r : Reader Tree) → Clean r → (t : ℕ) → Clean (template_after deeper r t)
clean_keys deeper r is t = clean_if (t == 0x00) _ _ (clean_within deeper _ _ (clean_template r is)) (clean_refuse _ tt)

clean_after : (deep deeper : Bool) (key : Reader (List ℕ)) (r : Reader Tree) → Clean key → Clean r → (t : ℕ) → Clean (value_after deep deeper key r t)
clean_after deep deeper key r keys is t =
    clean_if (t == 0x0a) _ _ (clean_give _)
    (clean_if (t == 0x08) _ _ (clean_give _)
    (clean_if (t == 0x09) _ _ (clean_give _)
    (clean_if (t == 0x07) _ _ (clean_then (front 8) _ (clean_front 8) (λ b. clean_give _))
    (clean_if (t == 0x02) _ _ (clean_then string _ clean_string (λ s. clean_give _))
    (clean_if (t == 0x0d) _ _ (clean_then (string >>= utf8) _ (clean_then string _ clean_string clean_utf8) (λ s. clean_give _))
    (clean_if (t == 0x00) _ _ (clean_within deep _ _ (clean_array r is))
    (clean_if (t == 0x01) _ _ (clean_within deep _ _ (clean_object key r keys is))
    (clean_if (t == 0x0b) _ _ (clean_within deep _ _ (clean_then next _ clean_next (clean_keys deeper r is)))
    (clean_then (int_after _ t) _ (clean_int_after _ tt t) (λ v. clean_give _))))))))))

clean_value : (n : ℕ) → Clean (with_text_keys n)
unfolding value
clean_value zero = clean_then next _ clean_next (clean_after false false (text_of MapKey) (refuse eof) (clean_text_of MapKey) (clean_refuse eof tt))
clean_value (suc n) = clean_then next _ clean_next (clean_after true (is_positive n) (text_of MapKey) (with_text_keys n) (clean_text_of MapKey) (clean_value n))

-- whatever stands there
pub clean_any : (o n : ℕ) (d : Due) → Clean (asks_any o n d)
clean_any o n nothing_due = clean_asked unit_at clean_unit_at o nothing_due
clean_any o n node_due = clean_then (with_text_keys n) done (clean_value n) (λ t. clean_give tt)
clean_any o n key_due = clean_then (string_of MapKey) done (clean_string_of MapKey) (λ s. clean_give tt)
clean_any o n field_due = clean_then (field_of (with_text_keys n)) done (clean_field _ (clean_value n)) (λ f. clean_give tt)
clean_any o n (name_due k) = clean_give tt
clean_any o n (row_due ks) = clean_then (many (field_of (with_text_keys n)) (length ks)) done (clean_many _ (clean_field _ (clean_value n)) (length ks)) (λ fs. clean_give tt)

-- ---- a message

pub clean_head : Clean head
clean_head =
    clean_then magic _ (clean_then (front 2) _ (clean_front 2) (λ s. clean_if (bytes_eq s (0x00 ∷ 0x02 ∷ [])) (give s) _ (clean_give s) (clean_refuse _ tt)))
    (λ m. clean_then (front 4) _ (clean_front 4) (λ c. clean_then size _ clean_size (λ k. clean_give _)))
