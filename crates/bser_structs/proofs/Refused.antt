-- Refusals where an enum is due, by their names.
use Rattle.std.proofs.Common.{◌≡◌, ◌<◌, ◌≤◌, ◌-◌, ℕ, zero, suc, Bool, true, false, nat_eq, nat_lt, ◌||◌, List, [], ◌∷◌, ◌++◌, take, drop, length, replicate, Option, Some, None, append_assoc, append-nil, refl, sym, ap, subst, ◌∙◌, arith, inl, inr, ◌⊎◌, IsUtf8}
use Rattle.std.specs.Prelude.{Result, Ok, Err, OnErr}
use Rattle.std.proofs.lemmas.Grind.{merely}
use Rattle.std.proofs.Math.Seq.{take-length, take-append_seam}
use Rattle.std.proofs.lemmas.Bool.{ltb-true, ltb-false}
use Rattle.std.proofs.lemmas.Str.{IsUtf8-nil}
use Rattle.bser_format.specs.EnumName.{kept, kept_whole}
use Rattle.bser_format.specs.Expected.{Due, nothing_due, node_due, key_due, field_due, name_due, row_due, WantedPairs, entries_of_object, fields_of_row}
use Rattle.bser_format.specs.declared.errors.Error.{Error}
use Rattle.bser_format.specs.declared.errors.Error.TheVariants.{DeInvalidStartByte, DeRecursionLimitExceeded}
use Rattle.bser_format.specs.declared.errors.Kind.TheVariants as kinds
use Rattle.bser_format.specs.declared.errors.Kind.TheVariants.{MapKey}
use Rattle.bser_format.specs.declared.errors.Complaint.TheVariants.{UnknownVariant, EnumObjectEntries}
use Rattle.bser_format.specs.declared.errors.name.EnumName.{EnumName}
use Rattle.bser_format.proofs.EnumNames.{whole_known}
use Rattle.bser_format.specs.Named.{Answer, Reader, reads, refuses, give, and_then, ◌>>=◌, complain, eof, next, count, string, utf8, text_of, is_positive}
use Rattle.bser_format.specs.DueReaders.{tag, is_key_tag, asked, pairs_at, text_at, place_from, variant_after, variant_of_row, variant_due}
use Rattle.bser_format.specs.Asks.{done, asks_string}
use Rattle.bser_source.specs.Window.{Window}
use Rattle.bser_source.proofs.Windows.{grown_none}
use Rattle.bser_bunser.specs.Refusal.{Fails}
use Rattle.bser_deserializer.specs.Access.{OpenPairs, OpensPairs, RefusesPairs}
use Rattle.bser_deserializer.specs.Dues.{IsValueDue, due_of, name_at}
use Rattle.bser_deserializer.specs.Parts.{BeginsPairs}
use Rattle.bser_deserializer.specs.Reading.{NamesBy, bare, Needs}
use Rattle.bser_deserializer.specs.State.{State, with_source}
use Rattle.bser_deserializer.specs.declared.due.Due as code
use Rattle.bser_deserializer.specs.declared.due.Due.TheVariants as due
use Rattle.bser_deserializer.proofs.Clean.{Clean, clean_give, clean_refuse, clean_then, clean_if, clean_utf8, clean_pairs, clean_bytes, clean_texts}
use Rattle.bser_deserializer.proofs.Refusals.{names_by_grown, by_name, names_by_more, names_by_untaken, narrower}
use Rattle.bser_deserializer.specs.View.{SeesTag, IsBefore, NoNameDue, value_here}
use Rattle.bser_deserializer.proofs.Containers.{unequal}
use Rattle.bser_deserializer.proofs.Tags.{same_name, failed_names, grown_left, peeked_names, nothing_kind}
use Rattle.bser_structs.specs.VariantNames.{place_due, only_place, KeepsName, NamesVariant}
use Rattle.bser_structs.specs.ReadVariants.{BeginsVariant, RefusesVariant}
use Rattle.bser_structs.proofs.Names.{alone_passes, alone_same, key_same, entry_passes, head_passes, row_passes}

-- ---- results

pub both_err : {T E : Type 0} (P Q W : Type 0) (r : Result T E) → (P → Q → W) → OnErr r P → OnErr r Q → OnErr r W
both_err P Q W (Ok v) f p q = tt
both_err P Q W (Err e) f p q = f p q

-- ---- the bytes are to blame

clean_next : Clean next
clean_next [] e h = clean_refuse {X = ℕ} eof tt [] e h
clean_next (x ∷ b) e h = absurd cc

clean_string : Clean string
clean_string b e h = clean_bytes 0 0 node_due (0x02 ∷ b) e (ap (and_then done) h)

clean_count : Clean count
clean_count b e h = clean_pairs 1 (tag 0x01) b e (ap (and_then (λ n. give (entries_of_object n))) h)

clean_key : Clean (text_of MapKey)
clean_key b e h = clean_texts 0 0 key_due b e (ap (and_then done) (sym (key_same 0 b) ∙ h))

clean_place : (i : ℕ) (vs : List (List ℕ)) (s : List ℕ) → Clean (place_from i vs s)
clean_place i [] s = clean_refuse (complain UnknownVariant) tt
clean_place i (v ∷ vs) s = clean_if _ (give i) (place_from (suc i) vs s) (clean_give i) (clean_place (suc i) vs s)

clean_only : (vs : List (List ℕ)) (w : WantedPairs) → Clean (only_place vs w)
clean_only vs (entries_of_object n) = clean_then _ (place_from 0 vs) (clean_if (nat_eq n 1) (text_of MapKey) _ clean_key (clean_refuse (complain EnumObjectEntries) tt)) (clean_place 0 vs)
clean_only vs (fields_of_row []) = clean_refuse (complain EnumObjectEntries) tt
clean_only vs (fields_of_row (k ∷ [])) = clean_place 0 vs k
clean_only vs (fields_of_row (k ∷ l ∷ ks)) = clean_refuse (complain EnumObjectEntries) tt

clean_after : (enum : EnumName) (n : ℕ) (vs : List (List ℕ)) (t : ℕ) → Clean (variant_after enum n vs t)
clean_after enum n vs t =
    clean_if (nat_eq t 0x02 || nat_eq t 0x0d) _ _ (clean_then (string >>= utf8) (place_from 0 vs) (clean_then string utf8 clean_string clean_utf8) (clean_place 0 vs))
    (clean_if (nat_eq t 0x01) _ _ (clean_if (is_positive n) _ _ (clean_then count (λ m. only_place vs (entries_of_object m)) clean_count (λ m. clean_only vs (entries_of_object m))) (clean_refuse _ tt))
    (clean_refuse _ tt))

clean_variant : (enum : EnumName) (o n : ℕ) (vs : List (List ℕ)) (d : Due) → Clean (variant_due enum o n vs d)
clean_variant enum o n vs nothing_due = clean_refuse _ (nothing_kind o)
clean_variant enum o n vs node_due = clean_then next (variant_after enum n vs) clean_next (clean_after enum n vs)
clean_variant enum o n vs field_due = clean_then next (variant_after enum n vs) clean_next (clean_after enum n vs)
clean_variant enum o n vs key_due = clean_then (text_of MapKey) (place_from 0 vs) clean_key (clean_place 0 vs)
clean_variant enum o n vs (name_due k) = clean_place 0 vs k
clean_variant enum o n vs (row_due ks) = clean_only vs (fields_of_row ks)

-- ---- what is wanted is read off

variant_passes : (enum : EnumName) (vs : List (List ℕ)) (s : State) (text : List ℕ) → BeginsVariant vs s text → (p : ℕ) × ((x : List ℕ) → variant_due enum s.opened s.levels vs s.due (text ++ x) ≡ reads p x)
variant_passes enum vs s text (inl f) = let q = alone_passes enum s.opened s.levels s.levels vs s.due f.tree f.content text f.filled f.read in (q.0, q.2)
variant_passes enum vs s text (inr b) =
    let h = b.spelled in
    let key = h.second in
    let q = entry_passes enum s.opened s.levels s.levels vs s.due b.wanted key.tree key.content h.front h.rest h.first b.single key.filled key.read in
    (q.0, λ x. ap (λ l. variant_due enum s.opened s.levels vs s.due (l ++ x)) h.whole ∙ ap (variant_due enum s.opened s.levels vs s.due) (append_assoc h.front h.rest x) ∙ q.2 x)

-- a named refusal is one of all that is wanted
pub variant_refused : (name : List ℕ) (vs : List (List ℕ)) (e : Error) (s z : State) → Fails e s.source z.source → NamesVariant name vs e s → RefusesVariant name vs e s z
variant_refused name vs e s z fails (enum, keeps, named) =
    let r = variant_due enum s.opened s.levels vs s.due in
    narrower bare (BeginsVariant vs s) (BeginsVariant vs s) (NamesBy bare r e s.source) (NamesVariant name vs e s) e s.source z.source (λ text h. h) (λ n. (enum, keeps, n))
    (by_name bare (BeginsVariant vs s) r e s.source z.source (variant_passes enum vs s) (λ x h. clean_variant enum s.opened s.levels vs s.due x e h) refl fails named)

-- ---- the enum's name

-- a name that is kept whole
kept_name : (name : List ℕ) (enum : EnumName) → kept_whole name ≡ Some enum → kept enum ≡ name
kept_name name enum is =
    let w = whole_known name enum is in
    ap (λ n. take n enum.bytes) w.len ∙ ap (take (length name)) w.bytes ∙ take-append_seam name (replicate (60 - length name) 0)

-- an error may keep any text as an enum's name
pub some_enum : (name : List ℕ) → IsUtf8 name → (enum : EnumName) × KeepsName name enum
some_enum name text = at (kept_whole name) refl
  where
    other : kept_whole name ≡ None → (b : Bool) → nat_lt 60 (length name) ≡ b → (enum : EnumName) × KeepsName name enum
    other none false h =
        let whole : take (length name) name ≡ name = take-length name in
        let within : length name ≤ 60 = ltb-false 60 (length name) h in (
          record { bytes = name; len = length name; within = within; text = merely (subst IsUtf8 (sym whole) text) },
          record { whole = λ le. whole; front = ([], sym (append-nil (take (length name) name) ∙ whole)); known = λ only is. absurd (let no : None ≡ Some only = sym none ∙ is in cc) },
        )
    other none true h =
        let long : 60 < length name = ltb-true 60 (length name) h in (
          record { bytes = []; len = 0; within = omega arith; text = merely IsUtf8-nil },
          record { whole = λ le. absurd (omega (arith, le, long)); front = (name, refl); known = λ only is. absurd (let no : None ≡ Some only = sym none ∙ is in cc) },
        )

    at : (k : Option EnumName) → kept_whole name ≡ k → (enum : EnumName) × KeepsName name enum
    at (Some enum) is = (
      enum,
      record { whole = λ le. kept_name name enum is; front = ([], sym (append-nil (take enum.len enum.bytes) ∙ kept_name name enum is)); known = λ only same. let both : Some enum ≡ Some only = sym is ∙ same in cc },
    )
    at None is = other is (nat_lt 60 (length name)) refl

-- what names no enum is named so
pub named_so : (name : List ℕ) (vs : List (List ℕ)) (e : Error) (s : State) → IsUtf8 name → ((enum : EnumName) → NamesBy bare (variant_due enum s.opened s.levels vs s.due) e s.source) → NamesVariant name vs e s
named_so name vs e s text is = let k = some_enum name text in (k.0, k.1, is k.0)

-- an error of this kind about an enum of this name
abbrev pub OfEnum : List ℕ → (EnumName → Error) → Error → Type 0
OfEnum name make e = (enum : EnumName) × KeepsName name enum × (e ≡ make enum)

-- ---- after a look at a tag

-- what is named after the look is named before it
pub looked_names : (name : List ℕ) (vs : List (List ℕ)) (e : Error) (s m : State) (t : ℕ) → SeesTag s m t → NamesVariant name vs e m → NamesVariant name vs e s
looked_names name vs e s m t sees named =
    let u : NamesVariant name vs e (with_source s m.source) = subst (λ (z : State). NamesVariant name vs e z) sees.state named in
    let r = variant_due u.0 s.opened s.levels vs s.due in
    (u.0, u.1, peeked_names bare r r e s.source m.source t (λ f y h. h) sees.peeks u.2)

-- no tag came
pub no_tag_names : (name : List ℕ) (vs : List (List ℕ)) (e : Error) (s : State) → IsUtf8 name → IsValueDue s.due → NamesBy bare (value_here s.opened s.due) e s.source → NamesVariant name vs e s
no_tag_names name vs e s text value named =
    named_so name vs e s text (λ enum. names_by_more bare (variant_due enum s.opened s.levels vs s.due) (value_here s.opened s.due) e s.source (λ f x p. at f enum s.due x value p) named)
  where
    at : (e : Error) (enum : EnumName) (d : Due) (x : List ℕ) → IsValueDue d → value_here s.opened d x ≡ refuses e → variant_due enum s.opened s.levels vs d x ≡ refuses e
    at e enum nothing_due x v h = absurd v
    at e enum node_due [] v h = same_name eof e h
    at e enum node_due (t ∷ x) v h = absurd cc
    at e enum key_due x v h = absurd v
    at e enum field_due [] v h = same_name eof e h
    at e enum field_due (t ∷ x) v h = absurd cc
    at e enum (name_due k) x v h = absurd v
    at e enum (row_due ks) x v h = absurd v

-- a name alone is refused
pub alone_names : (name : List ℕ) (vs : List (List ℕ)) (e : Error) (s m : State) (t : ℕ) → IsUtf8 name → SeesTag s m t → (t ≡ 0x02) ⊎ (t ≡ 0x0d) → NamesBy bare (place_due m.opened vs m.due) e m.source → NamesVariant name vs e s
alone_names name vs e s m t text sees told named =
    let u = subst (λ (z : State). NamesBy bare (place_due z.opened vs z.due) e z.source) sees.state named in
    named_so name vs e s text (λ enum. peeked_names bare (variant_due enum s.opened s.levels vs s.due) (place_due s.opened vs s.due) e s.source m.source t
    (λ f y h. alone_same enum s.opened s.levels vs s.due t y sees.due (key_tag t told) ∙ h) sees.peeks u)
  where
    key_tag : (t : ℕ) → (t ≡ 0x02) ⊎ (t ≡ 0x0d) → is_key_tag t ≡ true
    key_tag t (inl e) = subst (λ z. is_key_tag z ≡ true) (sym e) refl
    key_tag t (inr e) = subst (λ z. is_key_tag z ≡ true) (sym e) refl

other_kind : (enum : EnumName) (o n : ℕ) (vs : List (List ℕ)) (d : Due) (t : ℕ) (y : List ℕ) → IsValueDue d → (t ≡ 0x02 → ⊥) → (t ≡ 0x0d → ⊥) → (t ≡ 0x01 → ⊥) → variant_due enum o n vs d (t ∷ y) ≡ refuses (DeInvalidStartByte (kinds.Enum enum) t)
other_kind enum o n vs nothing_due t y v two thirteen one = absurd v
other_kind enum o n vs node_due t y v two thirteen one = rw (unequal t 0x02 two, unequal t 0x0d thirteen, unequal t 0x01 one) refl
other_kind enum o n vs key_due t y v two thirteen one = absurd v
other_kind enum o n vs field_due t y v two thirteen one = rw (unequal t 0x02 two, unequal t 0x0d thirteen, unequal t 0x01 one) refl
other_kind enum o n vs (name_due k) t y v two thirteen one = absurd v
other_kind enum o n vs (row_due ks) t y v two thirteen one = absurd v

pub other_names : (name : List ℕ) (vs : List (List ℕ)) (e : Error) (s m : State) (t : ℕ) → SeesTag s m t → (t ≡ 0x02 → ⊥) → (t ≡ 0x0d → ⊥) → (t ≡ 0x01 → ⊥) → OfEnum name (λ enum. DeInvalidStartByte (kinds.Enum enum) t) e → NamesVariant name vs e s
other_names name vs e s m t sees two thirteen one reason = (
  reason.0,
  reason.1,
  grown_left bare (variant_due reason.0 s.opened s.levels vs s.due) e 1 s.source m.source t
      (λ y. other_kind reason.0 s.opened s.levels vs s.due t y sees.due two thirteen one ∙ ap refuses (sym reason.2)) sees.peeks.filled.grown sees.peeks.next,
)

-- ---- an object

-- no level is left
too_deep : (enum : EnumName) (o n : ℕ) (vs : List (List ℕ)) (d : Due) (y : List ℕ) → IsValueDue d → n ≡ 0 → variant_due enum o n vs d (0x01 ∷ y) ≡ refuses (DeRecursionLimitExceeded (kinds.ObjectLikeEnum enum))
too_deep enum o n vs nothing_due y v e = absurd v
too_deep enum o zero vs node_due y v e = refl
too_deep enum o (suc n) vs node_due y v e = absurd cc
too_deep enum o n vs key_due y v e = absurd v
too_deep enum o zero vs field_due y v e = refl
too_deep enum o (suc n) vs field_due y v e = absurd cc
too_deep enum o n vs (name_due k) y v e = absurd v
too_deep enum o n vs (row_due ks) y v e = absurd v

pub deep_names : (name : List ℕ) (vs : List (List ℕ)) (e : Error) (s : State) → IsBefore 0x01 s → s.levels ≡ 0 → OfEnum name (λ enum. DeRecursionLimitExceeded (kinds.ObjectLikeEnum enum)) e → NamesVariant name vs e s
deep_names name vs e s before none reason = (
  reason.0,
  reason.1,
  grown_left bare (variant_due reason.0 s.opened s.levels vs s.due) e 0 s.source s.source 0x01
      (λ y. too_deep reason.0 s.opened s.levels vs s.due y before.due none ∙ ap refuses (sym reason.2)) (grown_none s.source) before.next,
)

-- what is named where this byte is next
begun_names : {X Y : Type 0} (needs : Needs) (r : Reader X) (s : Reader Y) (e : Error) (a : Window) (t : ℕ) → ((f : Error) (y : List ℕ) → s (t ∷ y) ≡ refuses f → r (t ∷ y) ≡ refuses f) → a.buffered ≡ t ∷ drop 1 a.buffered
    → NamesBy needs s e a → NamesBy needs r e a
begun_names needs r s e a t same first h = names_by_grown needs r s e 0 a a (grown_none a) begun h
  where
    begun : (f : Error) (x more : List ℕ) → x ≡ a.buffered ++ more → s x ≡ refuses f → r x ≡ refuses f
    begun f x more whole p =
        let here : x ≡ t ∷ (drop 1 a.buffered ++ more) = whole ∙ ap (λ l. l ++ more) first in
        ap r here ∙ same f (drop 1 a.buffered ++ more) (ap s (sym here) ∙ p)

counted : (vs : List (List ℕ)) (e : Error) (a : Answer ℕ) → and_then (λ n. give (entries_of_object n)) a ≡ refuses e → and_then (λ n. only_place vs (entries_of_object n)) a ≡ refuses e
counted vs e (reads n y) h = absurd cc
counted vs e (refuses f) h = same_name f e h

head_named : (enum : EnumName) (o n : ℕ) (vs : List (List ℕ)) (d : Due) (e : Error) (y : List ℕ) → IsValueDue d → (n ≡ 0 → ⊥) → asked (pairs_at n) o d (0x01 ∷ y) ≡ refuses e → variant_due enum o n vs d (0x01 ∷ y) ≡ refuses e
head_named enum o zero vs d e y v some h = absurd (some refl)
head_named enum o (suc n) vs nothing_due e y v some h = absurd v
head_named enum o (suc n) vs node_due e y v some h = counted vs e (count y) h
head_named enum o (suc n) vs key_due e y v some h = absurd v
head_named enum o (suc n) vs field_due e y v some h = counted vs e (count y) h
head_named enum o (suc n) vs (name_due k) e y v some h = absurd v
head_named enum o (suc n) vs (row_due ks) e y v some h = absurd v

-- its head is refused
pub head_names : (name : List ℕ) (vs : List (List ℕ)) (e : Error) (s z : State) → IsUtf8 name → IsBefore 0x01 s → (s.levels ≡ 0 → ⊥) → RefusesPairs e s z → NamesVariant name vs e s
head_names name vs e s z text before some u =
    named_so name vs e s text (λ enum. begun_names bare (variant_due enum s.opened s.levels vs s.due) (asked (pairs_at s.levels) s.opened s.due) e s.source 0x01
    (λ f y h. head_named enum s.opened s.levels vs s.due f y before.due some h) before.next u.names)

-- its key is refused
pub key_names : (name : List ℕ) (vs : List (List ℕ)) (e : Error) (s : State) (u : OpenPairs) → IsUtf8 name → OpensPairs s u → NamesBy bare (only_place vs u.wanted) e u.state.source → NamesVariant name vs e s
key_names name vs e s u text opens named =
    named_so name vs e s text (λ enum. names_by_untaken bare (variant_due enum s.opened s.levels vs s.due) (only_place vs u.wanted) e s.source u.state.source opens.text
    (λ f x h. head_passes enum s.opened s.levels vs s.due u.wanted opens.text x opens.head ∙ h) opens.took named)

-- ---- a row

pub row_key_names : (vs ks : List (List ℕ)) (e : Error) (s : State) (u : OpenPairs) → s.due ≡ row_due ks → OpensPairs s u → NamesBy bare (only_place vs u.wanted) e u.state.source → NamesBy bare (variant_of_row vs ks) e s.source
row_key_names vs ks e s u due opens named =
    names_by_untaken bare (variant_of_row vs ks) (only_place vs u.wanted) e s.source u.state.source opens.text
    (λ f x h. row_passes s.levels vs ks u.wanted opens.text x (subst (λ d. BeginsPairs s.levels d u.wanted opens.text) due opens.head) ∙ h) opens.took named

-- ---- what is due elsewhere

pub due_row_names : (name : List ℕ) (vs ks : List (List ℕ)) (e : Error) (s : State) → IsUtf8 name → s.due ≡ row_due ks → NamesBy bare (variant_of_row vs ks) e s.source → NamesVariant name vs e s
due_row_names name vs ks e s text due named =
    named_so name vs e s text (λ enum. subst (λ d. NamesBy bare (variant_due enum s.opened s.levels vs d) e s.source) (sym due) named)

-- a key, or nothing
other_same : (enum : EnumName) (o n : ℕ) (vs ks : List (List ℕ)) (place : ℕ) (d : code.Due) (x : List ℕ) → (d ≡ due.Node → ⊥) → (d ≡ due.Field → ⊥) → (d ≡ due.Row → ⊥)
    → variant_due enum o n vs (due_of ks place d) x ≡ place_due o vs (due_of ks place d) x
other_same enum o n vs ks place due.Nothing x node field row = refl
other_same enum o n vs ks place due.Node x node field row = absurd (node refl)
other_same enum o n vs ks place due.Key x node field row = ap (and_then (place_from 0 vs)) (key_same o x)
other_same enum o n vs ks place due.Field x node field row = absurd (field refl)
other_same enum o n vs ks place due.Name x node field row = at place ks
  where
    at : (place : ℕ) (ks : List (List ℕ)) → variant_due enum o n vs (name_at place ks) x ≡ place_due o vs (name_at place ks) x
    at place [] = refl
    at zero (k ∷ ks) = refl
    at (suc place) (k ∷ ks) = at place ks
other_same enum o n vs ks place due.Row x node field row = absurd (row refl)

pub due_names : (name : List ℕ) (vs ks : List (List ℕ)) (place : ℕ) (d : code.Due) (e : Error) (s : State) → IsUtf8 name → s.due ≡ due_of ks place d → (d ≡ due.Node → ⊥) → (d ≡ due.Field → ⊥) → (d ≡ due.Row → ⊥)
    → NamesBy bare (place_due s.opened vs s.due) e s.source → NamesVariant name vs e s
due_names name vs ks place d e s text is node field row named =
    named_so name vs e s text (λ enum. names_by_more bare (variant_due enum s.opened s.levels vs s.due) (place_due s.opened vs s.due) e s.source
    (λ f x h. subst (λ q. variant_due enum s.opened s.levels vs q x ≡ place_due s.opened vs q x) (sym is) (other_same enum s.opened s.levels vs ks place d x node field row) ∙ h) named)

-- ---- a name

then_place : (vs : List (List ℕ)) (e : Error) (a : Answer (List ℕ)) → and_then done a ≡ refuses e → and_then (place_from 0 vs) a ≡ refuses e
then_place vs e (reads s y) h = absurd cc
then_place vs e (refuses f) h = same_name f e h

-- what is no text is no name
pub text_names : (vs : List (List ℕ)) (e : Error) (s z : State) → NoNameDue s → Fails e s.source z.source → NamesBy bare (asks_string s.opened s.levels s.due) e s.source → NamesBy bare (place_due s.opened vs s.due) e s.source
text_names vs e s z none fails named = go s.source.failed refl
  where
    at : (e : Error) (d : Due) (x : List ℕ) → ((k : List ℕ) → d ≡ name_due k → ⊥) → asks_string s.opened s.levels d x ≡ refuses e → place_due s.opened vs d x ≡ refuses e
    at e nothing_due x other h = then_place vs e (asked text_at s.opened nothing_due x) h
    at e node_due x other h = then_place vs e (asked text_at s.opened node_due x) h
    at e key_due x other h = then_place vs e (asked text_at s.opened key_due x) h
    at e field_due x other h = then_place vs e (asked text_at s.opened field_due x) h
    at e (name_due k) x other h = absurd (other k refl)
    at e (row_due ks) x other h = then_place vs e (asked text_at s.opened (row_due ks) x) h

    go : (b : Bool) → s.source.failed ≡ b → NamesBy bare (place_due s.opened vs s.due) e s.source
    go true failed = failed_names bare (place_due s.opened vs s.due) e s.source z.source failed fails
    go false works = names_by_more bare (place_due s.opened vs s.due) (asks_string s.opened s.levels s.due) e s.source (λ f x h. at f s.due x (none works) h) named
