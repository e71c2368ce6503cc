-- What is left to be asked for of a struct that is read entry by entry.
use Rattle.std.proofs.Common.{◌≡◌, ℕ, zero, suc, ◌-◌, ◌<◌, Bool, true, false, cond, List, [], ◌∷◌, ◌++◌, map, nat_eq, Option, Some, None, option_map, option_and_then, refl, sym, ap, subst, ◌∙◌, ◌||◌, arith}
use Rattle.std.proofs.lemmas.Bool.{eqb-true}
use Rattle.std.specs.Option.{is_some}
use Rattle.std.specs.Str.{is_utf8}
use Rattle.bser_format.specs.Tree.{Tree}
use Rattle.bser_format.specs.Grammar.{SpellsString}
use Rattle.bser_format.specs.Expand.{key_tree}
use Rattle.bser_format.specs.Content.{Content, Meaning, each_some}
use Rattle.bser_format.specs.ReadsAny.{reads_ignored}
use Rattle.bser_format.specs.Expected.{Due, Fills, WantedPairs, entries_of_object, fields_of_row, node_due, key_due, field_due}
use Rattle.bser_format.specs.declared.errors.Error.{Error}
use Rattle.bser_format.specs.declared.errors.Kind.TheVariants.{MapKey}
use Rattle.bser_format.specs.declared.errors.Complaint.TheVariants.{ItemsLeft, TooFewItems}
use Rattle.bser_source.specs.Device.{one_more}
use Rattle.bser_format.specs.Named.{Answer, Reader, reads, refuses, refuse, give, and_then, ◌>>=◌, complain, text_of}
use Rattle.bser_format.specs.DueReaders.{asked, text_at}
use Rattle.bser_format.specs.Asks.{Asks, done, asks_any, asks_string, inside, place_of, complete, value_at, value_by, entries_asked, fields_asked, struct_asked}
use Rattle.bser_format.specs.Asks as asks
use Rattle.bser_format.specs.TypeLaws.{PassEach}
use Rattle.bser_format.proofs.Anything.{ignored_passes}
use Rattle.bser_format.proofs.Enums.{key_there}
use Rattle.bser_format.proofs.Options.{made}
use Rattle.bser_format.proofs.Steps as steps
use Rattle.bser_format.proofs.Steps.{Continues, first_read}
use Rattle.bser_deserializer.specs.Fields.{field_of}
use Rattle.bser_deserializer.specs.Parts.{pairs_left, pair_key, pair_value, pairs_after}
use Rattle.bser_deserializer.specs.declared.field.Field.{Field}
use Rattle.bser_deserializer.specs.declared.field.Field.TheVariants.{Known, Unknown}
use Rattle.bser_types.specs.Askings.{counted, counted_passes}
use Rattle.bser_types.specs.Slots.{StructField, fill, fill_at, fill_field, or_absent, field_at_end}
use Rattle.bser_types.proofs.ObjectFills.{same_key}
use Rattle.bser_structs.specs.Asked.{asked_field, asked_fields, place_known}
use Rattle.bser_structs.specs.Passed.{place_same}
use Rattle.bser_structs.proofs.Places.{first_time}

-- ---- a value

-- each type of a field, inside a container
pub counted_each : (As : List Asks) (Ts : List Meaning) → PassEach As Ts → PassEach (map counted As) Ts
counted_each [] [] fit = tt
counted_each [] (T ∷ Ts) fit = absurd fit
counted_each (A ∷ As) [] fit = absurd fit
counted_each (A ∷ As) (T ∷ Ts) fit = (counted_passes A T fit.0, counted_each As Ts fit.1)

-- a value that is read by the field at this place is passed over
at_passed : (place : ℕ) (As : List Asks) (ss : List StructField) → PassEach As (map (λ s. s.reads) ss) → (o n : ℕ) (d : Due) (t : Tree) (next : List StructField) (b : List ℕ) → Fills n d t b → fill_at place ss t ≡ Some next
    → steps.Passes (value_at place (asked_fields As ss) o n d) (asked_fields As next) b
at_passed place [] [] fit o n d t next b f e = λ x.
    let w = made (λ c. []) (reads_ignored t) next e in
    ap (and_then (λ u. give [])) (ignored_passes o n d t w.0 b x f w.1)
at_passed place [] (s ∷ ss) fit o n d t next b f e = absurd fit
at_passed place (A ∷ As) [] fit o n d t next b f e = absurd fit
at_passed zero (A ∷ As) (s ∷ ss) fit o n d t next b f e = λ x.
    let w = made (λ r. r ∷ ss) (fill s t) next e in
    let p = first_time s t w.0 w.1 in
    let now = record (asked_field A s) { found = true } ∷ asked_fields As ss in
    ap (λ c. cond (is_some c) (refuse (complain ItemsLeft)) (A o n d >>= λ u. give now) (b ++ x)) p.2
    ∙ ap (and_then (λ u. give now)) (fit.0 o n d t p.0 b x f p.1)
    ∙ ap (λ r. reads (asked_fields (A ∷ As) (r ∷ ss)) x) (sym p.3) ∙ ap (λ rs. reads (asked_fields (A ∷ As) rs) x) w.2
at_passed (suc place) (A ∷ As) (s ∷ ss) fit o n d t next b f e = λ x.
    let w = made (λ rs. s ∷ rs) (fill_at place ss t) next e in
    ap (and_then (λ l. give (asked_field A s ∷ l))) (at_passed place As ss fit.1 o n d t w.0 b f w.1 x)
    ∙ ap (λ rs. reads (asked_fields (A ∷ As) rs) x) w.2

-- the same by its name
pub by_passed : (f : Field) (As : List Asks) (ss : List StructField) → PassEach As (map (λ s. s.reads) ss) → (o n : ℕ) (d : Due) (t : Tree) (next : List StructField) (b : List ℕ) → Fills n d t b → fill_field ss f t ≡ Some next
    → steps.Passes (value_by (place_known f) (asked_fields As ss) o n d) (asked_fields As next) b
by_passed (Known place) As ss fit o n d t next b f e = at_passed place As ss fit o n d t next b f e
by_passed Unknown As ss fit o n d t next b f e = λ x.
    let w = made (λ c. ss) (reads_ignored t) next e in
    ap (and_then (λ u. give (asked_fields As ss))) (ignored_passes o n d t w.0 b x f w.1) ∙ ap (λ rs. reads (asked_fields As rs) x) w.2

-- a field that is read stays of its type
at_alike : (place : ℕ) (ss : List StructField) (t : Tree) (next : List StructField) → fill_at place ss t ≡ Some next → map (λ s. s.reads) next ≡ map (λ s. s.reads) ss
at_alike place [] t next e = let w = made (λ c. []) (reads_ignored t) next e in ap (map (λ s. s.reads)) (sym w.2)
at_alike zero (s ∷ ss) t next e =
    let w = made (λ r. r ∷ ss) (fill s t) next e in
    let p = first_time s t w.0 w.1 in
    ap (map (λ s. s.reads)) (sym w.2) ∙ ap (λ (r : StructField). r.reads ∷ map (λ s. s.reads) ss) p.3
at_alike (suc place) (s ∷ ss) t next e =
    let w = made (λ rs. s ∷ rs) (fill_at place ss t) next e in
    ap (map (λ s. s.reads)) (sym w.2) ∙ ap (λ rs. s.reads ∷ rs) (at_alike place ss t w.0 w.1)

pub by_alike : (f : Field) (ss : List StructField) (t : Tree) (next : List StructField) → fill_field ss f t ≡ Some next → map (λ s. s.reads) next ≡ map (λ s. s.reads) ss
by_alike (Known place) ss t next e = at_alike place ss t next e
by_alike Unknown ss t next e = let w = made (λ c. ss) (reads_ignored t) next e in ap (map (λ s. s.reads)) (sym w.2)

-- ---- a value that is refused

-- a reader that gives what it read refuses by what it is of
given_refused : {X Y : Type 0} (f : X → Y) (a : Answer X) (e : Error) → and_then (λ x. give (f x)) a ≡ refuses e → a ≡ refuses e
given_refused f (reads x y) e h = absurd cc
given_refused f (refuses why) e h = cc

-- whatever stands there, is refused alike at any depth
any_refused : {X : Type 0} (g : X) (o m n : ℕ) (w : WantedPairs) (x : List ℕ) (e : Error) → and_then (λ u. give g) (asks_any m n (pair_value w) x) ≡ refuses e → and_then (λ u. give g) (asks_any o n (pair_value w) x) ≡ refuses e
any_refused g o m n (entries_of_object k) x e h = h
any_refused g o m n (fields_of_row ks) x e h = h

-- what refuses a field's value refuses it among the fields, inside a container
at_refused : (place : ℕ) (As : List Asks) (ss : List StructField) (o n : ℕ) (w : WantedPairs) (x : List ℕ) (e : Error) → value_at place (asked_fields As ss) (one_more o) n (pair_value w) x ≡ refuses e
    → value_at place (asked_fields (map counted As) ss) (suc o) n (pair_value w) x ≡ refuses e
at_refused place [] ss o n w x e h = any_refused [] (suc o) (one_more o) n w x e h
at_refused place (A ∷ As) [] o n w x e h = any_refused [] (suc o) (one_more o) n w x e h
at_refused zero (A ∷ As) (s ∷ ss) o n w x e h = at (is_some s.found) h
  where
    was : List asks.Field
    was = record (asked_field A s) { found = true } ∷ asked_fields As ss

    now : List asks.Field
    now = record (asked_field (counted A) s) { found = true } ∷ asked_fields (map counted As) ss

    at : (b : Bool) → cond b (refuse (complain ItemsLeft)) (A (one_more o) n (pair_value w) >>= λ u. give was) x ≡ refuses e
        → cond b (refuse (complain ItemsLeft)) (A (one_more o) n (pair_value w) >>= λ u. give now) x ≡ refuses e
    at true h = h
    at false h = ap (and_then (λ u. give now)) (given_refused (λ u. was) (A (one_more o) n (pair_value w) x) e h)
at_refused (suc place) (A ∷ As) (s ∷ ss) o n w x e h =
    ap (and_then (λ l. give (asked_field (counted A) s ∷ l)))
    (at_refused place As ss o n w x e (given_refused (λ l. asked_field A s ∷ l) (value_at place (asked_fields As ss) (one_more o) n (pair_value w) x) e h))

pub by_refused : (f : Field) (As : List Asks) (ss : List StructField) (o n : ℕ) (w : WantedPairs) (x : List ℕ) (e : Error) → value_by (place_known f) (asked_fields As ss) (one_more o) n (pair_value w) x ≡ refuses e
    → value_by (place_known f) (asked_fields (map counted As) ss) (suc o) n (pair_value w) x ≡ refuses e
by_refused (Known place) As ss o n w x e h = at_refused place As ss o n w x e h
by_refused Unknown As ss o n w x e h =
    any_refused (asked_fields (map counted As) ss) (suc o) (one_more o) n w x e
    (ap (and_then (λ u. give (asked_fields (map counted As) ss))) (given_refused (λ u. asked_fields As ss) (asks_any (one_more o) n (pair_value w) x) e h))

-- ---- a key

-- a key is read as text where one is due
key_same : (o : ℕ) (x : List ℕ) → text_of MapKey x ≡ asked text_at o key_due x
key_same o [] = refl
key_same o (t ∷ y) = go (nat_eq t 0x02) (nat_eq t 0x0d) refl refl
  where
    go : (a b : Bool) → nat_eq t 0x02 ≡ a → nat_eq t 0x0d ≡ b → text_of MapKey (t ∷ y) ≡ asked text_at o key_due (t ∷ y)
    go true b p q = subst (λ z. text_of MapKey (z ∷ y) ≡ asked text_at o key_due (z ∷ y)) (sym (eqb-true t 0x02 p)) refl
    go false true p q = subst (λ z. text_of MapKey (z ∷ y) ≡ asked text_at o key_due (z ∷ y)) (sym (eqb-true t 0x0d q)) refl
    go false false p q = rw (p, q) refl

-- the value of this field, and then the entries that are left
abbrev pub value_asked : List (List ℕ) → List asks.Field → Field → ℕ → ℕ → WantedPairs → Reader Unit
value_asked names fs f o n w = value_by (place_known f) fs o n (pair_value w) >>= λ more. struct_asked names more o n w

-- a key was passed over
pub key_passed : (names : List (List ℕ)) (fs : List asks.Field) (f : Field) (o n m : ℕ) (w : WantedPairs) (name taken : List ℕ) → 0 < pairs_left w → Fills m (pair_key w) (key_tree name) taken → is_utf8 name ≡ true → f ≡ field_of names name
    → Continues (struct_asked names fs o n w) (value_asked names fs f o n (pairs_after w)) taken
key_passed names fs f o n m (entries_of_object zero) name taken some filled good found = absurd (omega (arith, some))
key_passed names fs f o n m (entries_of_object (suc k)) name taken some filled good found = λ x.
    let same : name ≡ filled.key = same_key name filled.key filled.stands in
    let spelled : SpellsString name taken = subst (λ l. SpellsString l taken) (sym same) filled.spelled in
    let less : k ≡ suc k - 1 = omega arith in
    ap (and_then (λ l. value_by (place_of 0 names l) fs o n node_due >>= λ more. entries_asked names o n more k)) (key_there name taken good spelled x)
    ∙ ap (λ p. and_then (λ more. entries_asked names o n more k) (value_by p fs o n node_due x)) (sym (ap place_known found ∙ place_same 0 names name))
    ∙ ap (λ j. and_then (λ more. entries_asked names o n more j) (value_by (place_known f) fs o n node_due x)) less
key_passed names fs f o n m (fields_of_row []) name taken some filled good found = absurd (omega (arith, some))
key_passed names fs f o n m (fields_of_row (k ∷ ks)) name taken some filled good found = λ x.
    let same : name ≡ k = same_key name k filled.0 in
    ap (λ l. fields_asked names o n fs (k ∷ ks) (l ++ x)) filled.1
    ∙ ap (λ l. and_then (λ more. fields_asked names o n more ks) (value_by (place_of 0 names l) fs o n field_due x)) (sym same)
    ∙ ap (λ p. and_then (λ more. fields_asked names o n more ks) (value_by p fs o n field_due x)) (sym (ap place_known found ∙ place_same 0 names name))

-- what refuses an object's key refuses all that is left
pub key_first : (names : List (List ℕ)) (fs : List asks.Field) (o m n i : ℕ) (k : ℕ) (x : List ℕ) (e : Error) → 0 < k → asks_string m i key_due x ≡ refuses e → struct_asked names fs o n (entries_of_object k) x ≡ refuses e
key_first names fs o m n i zero x e some h = absurd (omega (arith, some))
key_first names fs o m n i (suc k) x e some h =
    ap (and_then (λ l. value_by (place_of 0 names l) fs o n node_due >>= λ more. entries_asked names o n more k)) (key_same m x ∙ given_refused (λ s. tt) (asked text_at m key_due x) e h)

-- ---- the end

-- where a field is absent that has to be there, the struct is refused
pub absent_refused : (As : List Asks) (ss : List StructField) → PassEach As (map (λ s. s.reads) ss) → each_some field_at_end ss ≡ None → (x : List ℕ) → complete (asked_fields As ss) x ≡ refuses (complain TooFewItems)
absent_refused [] [] fit none x = absurd cc
absent_refused [] (s ∷ ss) fit none x = absurd fit
absent_refused (A ∷ As) [] fit none x = absurd fit
absent_refused (A ∷ As) (s ∷ ss) fit none x = at s.found s.absent refl refl (λ gone. absent_refused As ss fit.1 gone x)
  where
    rest : List asks.Field
    rest = asked_fields As ss

    gone : (c : Content) (o : Option (List Content)) → option_map (λ ys. c ∷ ys) o ≡ None → o ≡ None
    gone c None h = refl
    gone c (Some ys) h = absurd cc

    later : (c : Content) → field_at_end s ≡ Some c → each_some field_at_end ss ≡ None
    later c e = gone c (each_some field_at_end ss) (sym (ap (option_and_then (λ y. option_map (λ ys. y ∷ ys) (each_some field_at_end ss))) e) ∙ none)

    at : (was absent : Option Content) → s.found ≡ was → s.absent ≡ absent → (each_some field_at_end ss ≡ None → complete rest x ≡ refuses (complain TooFewItems))
        → cond (is_some absent || is_some was) (complete rest) (refuse (complain TooFewItems)) x ≡ refuses (complain TooFewItems)
    at None None f a go = refl
    at None (Some b) f a go = go (later b (ap (λ w. or_absent w s.absent) f ∙ a))
    at (Some c) None f a go = go (later c (ap (λ w. or_absent w s.absent) f))
    at (Some c) (Some b) f a go = go (later c (ap (λ w. or_absent w s.absent) f))
