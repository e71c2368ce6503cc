-- An enum that is read variant by variant.
use Rattle.std.proofs.Common.{◌≡◌, ℕ, pos, Bool, true, false, ◌||◌, List, [], ◌∷◌, ◌++◌, length, Option, Some, None, option_map, option_and_then, append_assoc, refl, sym, ap, subst, ◌∙◌, arith, inl, inr, ◌⊎◌, cond}
use Rattle.std.proofs.lemmas.List.{append-nil}
use Rattle.std.specs.Prelude.{if◌then◌else◌}
use Rattle.std.specs.Str.{is_utf8}
use Rattle.bser_format.specs.Tree.{Tree, null, boolean, integer, real, bytes, text, array, object, template, Entries, no_entries, entry, entries}
use Rattle.bser_format.specs.Grammar.{Format}
use Rattle.bser_format.specs.Content.{Content, one, number, variant, Meaning}
use Rattle.bser_format.specs.Enums.{Payload, unit, holds, named, by_name, by_entry, reads_enum}
use Rattle.bser_format.specs.Expand.{key_tree}
use Rattle.bser_format.specs.Expected.{Due, Fills, FillsPairs, nothing_due, node_due, key_due, field_due, name_due, row_due, WantedPairs, entries_of_object, fields_of_row}
use Rattle.bser_format.specs.declared.errors.Error.{Error}
use Rattle.bser_format.specs.Named.{give}
use Rattle.bser_format.specs.DueReaders.{is_key_tag}
use Rattle.bser_source.specs.Window.{left}
use Rattle.bser_source.proofs.Windows.{left_took}
use Rattle.bser_deserializer.specs.Dues.{IsValueDue}
use Rattle.bser_deserializer.specs.State.{State, awaiting}
use Rattle.bser_deserializer.specs.Reading.{Answers, Asking, NamesAsked, Refuses, FillsReadably, bare, Needs}
use Rattle.bser_deserializer.specs.Parts.{BeginsPairs, ObjectHead, pairs_left, pair_key, pair_value, pairs_after}
use Rattle.bser_deserializer.specs.Access.{OpenPairs, IsKey, IsValue, ClosesPairs, pairs_in, after_closing}
use Rattle.bser_deserializer.specs.Fields.{field_of}
use Rattle.bser_deserializer.proofs.Refusals.{first_part, with_needs}
use Rattle.bser_deserializer.proofs.Containers.{counted_rest}
use Rattle.bser_types.proofs.Taken.{wider_type}
use Rattle.bser_types.proofs.ObjectFills.{levels_inside, pairs_begin, pairs_only}
use Rattle.bser_types.proofs.Objects.{Outlook, ReadsObjects, AtValue, ValueLeft, first_key, key_name, key_read, inside_start, inside_key, inside_value, inside_end, part_refused}
use Rattle.bser_structs.specs.VariantAskings.{PayloadAsking, VariantAskings, asking_enum}
use Rattle.bser_structs.specs.VariantNames.{NamesVariant}
use Rattle.bser_structs.specs.ReadVariants.{known_place, reads_place, HoldsPlace, BeginsEntry, BeginsVariant, RefusesVariant, OpenVariant, OpenEnum, name_alone, with_payload, OpensEntry, OpensVariant, before_payload, ReadsPayload, IsPayload, IsUnitVariant, RefusesPayload, RefusesUnitVariant}
use Rattle.bser_structs.proofs.VariantAskings.{reading, telling, asking, asked_at, asked_payload, variant_asked, lacking_asked, payload_named_so}
use Rattle.bser_structs.proofs.Names.{name_first}
use Rattle.bser_structs.proofs.VariantNames.{payload_at, names_of, found_by, bare_reads, key_reads, text_key, bare_found, bare_refused}

-- ---- which trees are read

and_then_some : {A B : Type 0} (f : A → Option B) (a : Option A) (c : B) → option_and_then f a ≡ Some c → (x : A) × (a ≡ Some x) × (f x ≡ Some c)
and_then_some f None c h = absurd cc
and_then_some f (Some x) c h = (x, refl, h)

-- a key is the same with any number of levels
key_there : (n m : ℕ) (w : WantedPairs) (u : Tree) (b : List ℕ) → Fills n (pair_key w) u b → Fills m (pair_key w) u b
key_there n m (entries_of_object k) u b h = h
key_there n m (fields_of_row []) u b h = h
key_there n m (fields_of_row (k ∷ ks)) u b h = h

-- an object of one entry, whose key is one of the names
abbrev EntryForm : List (List ℕ × Payload) → Tree → Type 0
EntryForm vs t = (k : List ℕ) × (u : Tree) × (t ≡ object (entry k u no_entries)) × (d : Content) × (reads_place (names_of vs) (key_tree k) ≡ Some d)

named_known : (vs : List (List ℕ × Payload)) (s : List ℕ) (f : ℕ × Payload → Option Content) (c : Content) → option_and_then f (named 0 s vs) ≡ Some c → (d : Content) × (known_place (field_of (names_of vs) s) ≡ Some d)
named_known vs s f c e =
    let p = and_then_some f (named 0 s vs) c e in
    (number (pos p.0.0), ap known_place (found_by 0 s vs p.0.0 p.0.1 p.1))

forms : (vs : List (List ℕ × Payload)) (t : Tree) (c : Content) → reads_enum vs t ≡ Some c → ((d : Content) × (reads_place (names_of vs) t ≡ Some d)) ⊎ EntryForm vs t
forms vs (text s) c e = inl (named_known vs s by_name c e)
forms vs (bytes s) c e = inl (at (is_utf8 s) e)
  where
    at : (b : Bool) → cond b (option_and_then by_name (named 0 s vs)) None ≡ Some c → (d : Content) × (option_and_then (λ name. known_place (field_of (names_of vs) name)) (if b then Some s else None) ≡ Some d)
    at true e = named_known vs s by_name c e
    at false e = absurd cc
forms vs (object no_entries) c e = absurd cc
forms vs (object (entry k u no_entries)) c e = inr (at (is_utf8 k) refl e)
  where
    at : (b : Bool) → is_utf8 k ≡ b → cond b (option_and_then (by_entry u) (named 0 k vs)) None ≡ Some c → EntryForm vs (object (entry k u no_entries))
    at true utf8 e = let q = named_known vs k (by_entry u) c e in (k, u, refl, q.0, text_key (names_of vs) k utf8 ∙ q.1)
    at false utf8 e = absurd cc
forms vs (object (entry k u (entry l w es))) c e = absurd cc
forms vs null c e = absurd cc
forms vs (boolean v) c e = absurd cc
forms vs (integer v) c e = absurd cc
forms vs (real v) c e = absurd cc
forms vs (array v) c e = absurd cc
forms vs (template ks rs) c e = absurd cc

single_of : (n : ℕ) (w : WantedPairs) (k : List ℕ) (u : Tree) (b : List ℕ) → FillsPairs n w (entry k u no_entries) b → pairs_left w ≡ 1
single_of n (entries_of_object j) k u b h = sym h.0
single_of n (fields_of_row ks) k u b h = ap length (sym h.0)

entry_begins : (vs : List (List ℕ × Payload)) (s : State) (all : List ℕ) (k : List ℕ) (u : Tree) (d : Content) → Fills s.levels s.due (object (entry k u no_entries)) all → reads_place (names_of vs) (key_tree k) ≡ Some d
    → (first : List ℕ) × (second : List ℕ) × (all ≡ first ++ second) × BeginsEntry (names_of vs) s first
entry_begins vs s all k u d filled read =
    let us : Entries = entry k u no_entries in
    let b = pairs_begin s.levels s.due us all filled in
    let q = pairs_only s.levels s.due b.wanted us b.head all [] b.rest b.begins filled (append-nil all ∙ b.whole) in
    let n : ℕ = levels_inside s.levels b.wanted in
    let single = single_of n b.wanted k u q.left q.wanted in
    let p = first_key n b.wanted us q.left (omega (arith, single)) q.wanted in
    let whole : entry k u no_entries ≡ entry p.name p.value p.others = p.parts in
    let name : k ≡ p.name = cc in (
      b.head ++ p.front,
      p.rest,
      q.whole ∙ ap (λ l. b.head ++ l) p.whole ∙ sym (append_assoc b.head p.front p.rest),
      record {
        wanted = b.wanted;
        single = single;
        spelled = record {
          front = b.head;
          rest = p.front;
          whole = refl;
          first = b.begins;
          second = record { tree = key_tree p.name; content = d; filled = key_there n s.levels b.wanted (key_tree p.name) p.front p.filled; read = ap (λ l. reads_place (names_of vs) (key_tree l)) (sym name) ∙ read };
        };
      },
    )

-- where no variant begins, no enum is due
pub enum_refused : (name : List ℕ) (vs : List (List ℕ × Payload)) (qs : VariantAskings vs) (needs : Needs) (e : Error) (s z : State) → RefusesVariant name (names_of vs) e s z → Refuses (reads_enum vs) (asking_enum name vs qs) needs e s z
enum_refused name vs qs needs e s z u =
    first_part needs (BeginsVariant (names_of vs) s) (FillsReadably (reads_enum vs) s) (NamesAsked needs (asking_enum name vs qs) e s) (NamesAsked needs (asking_enum name vs qs) e s) e s.source z.source split (λ n. n)
    (with_needs needs (BeginsVariant (names_of vs) s) (NamesVariant name (names_of vs) e s) (NamesAsked needs (asking_enum name vs qs) e s) e s.source z.source (variant_asked name vs qs needs e s) u)
  where
    split : (all : List ℕ) → FillsReadably (reads_enum vs) s all → (first : List ℕ) × (second : List ℕ) × (all ≡ first ++ second) × BeginsVariant (names_of vs) s first
    split all f = at (forms vs f.tree f.content f.read)
      where
        at : ((d : Content) × (reads_place (names_of vs) f.tree ≡ Some d)) ⊎ EntryForm vs f.tree → (first : List ℕ) × (second : List ℕ) × (all ≡ first ++ second) × BeginsVariant (names_of vs) s first
        at (inl r) = (all, [], sym (append-nil all), inl (record { tree = f.tree; content = r.0; filled = f.filled; read = r.1 }))
        at (inr r) =
            let p = entry_begins vs s all r.0 r.1 r.3 (subst (λ t. Fills s.levels s.due t all) r.2 f.filled) r.4 in
            (p.0, p.1, p.2, inr p.3)

-- ---- an object of one entry

by_reading : (t : Tree) (place : ℕ) (p : Payload) → by_entry t (place, p) ≡ option_map (variant place) (reading p t)
by_reading t place unit = refl
by_reading t place (holds T) = refl

-- what the entries of an object come to
abbrev one_entry : List (List ℕ × Payload) → Outlook
one_entry vs [] = None
one_entry vs (e ∷ []) = cond (is_utf8 e.0) (option_and_then (by_entry e.1) (named 0 e.0 vs)) None
one_entry vs (e ∷ f ∷ es) = None

-- the enum, where it is an object
abbrev of_object : List (List ℕ × Payload) → Meaning
of_object vs (object us) = one_entry vs (entries us)
of_object vs _ = None

objects : (vs : List (List ℕ × Payload)) → ReadsObjects (of_object vs) (one_entry vs)
objects vs = record { same = λ us. refl; only = only }
  where
    only : (t : Tree) (c : Content) → of_object vs t ≡ Some c → (us : Entries) × (t ≡ object us)
    only null c h = absurd cc
    only (boolean v) c h = absurd cc
    only (integer v) c h = absurd cc
    only (real v) c h = absurd cc
    only (bytes v) c h = absurd cc
    only (text v) c h = absurd cc
    only (array v) c h = absurd cc
    only (object us) c h = (us, refl)
    only (template ks rs) c h = absurd cc

same_object : (vs : List (List ℕ × Payload)) (us : Entries) → reads_enum vs (object us) ≡ one_entry vs (entries us)
same_object vs no_entries = refl
same_object vs (entry k u no_entries) = refl
same_object vs (entry k u (entry l w es)) = refl

object_reads : (vs : List (List ℕ × Payload)) (t : Tree) (c : Content) → of_object vs t ≡ Some c → reads_enum vs t ≡ Some c
object_reads vs t c e =
    let p = (objects vs).only t c e in
    ap (reads_enum vs) p.1 ∙ same_object vs p.0 ∙ ap (of_object vs) (sym p.1) ∙ e

-- nothing but the payload is left
abbrev ended : Content → Outlook
ended c [] = Some c
ended c (e ∷ es) = None

payload_next : (vs : List (List ℕ × Payload)) (name : List ℕ) (place : ℕ) (p : Payload) (t : Tree) (c : Content) → is_utf8 name ≡ true → named 0 name vs ≡ Some (place, p) → reading p t ≡ Some c → (es : List (List ℕ × Tree)) → one_entry vs ((name, t) ∷ es) ≡ ended (variant place c) es
payload_next vs name place p t c utf8 at read [] = rw (utf8, at) (by_reading t place p ∙ ap (option_map (variant place)) read)
payload_next vs name place p t c utf8 at read (e ∷ es) = refl

mapped : (place : ℕ) (o : Option Content) (c : Content) → option_map (variant place) o ≡ Some c → (d : Content) × (o ≡ Some d)
mapped place None c e = absurd cc
mapped place (Some d) c e = (d, refl)

payload_read : (vs : List (List ℕ × Payload)) (name : List ℕ) (place : ℕ) (p : Payload) (t : Tree) (c : Content) → is_utf8 name ≡ true → named 0 name vs ≡ Some (place, p) → (es : List (List ℕ × Tree)) → one_entry vs ((name, t) ∷ es) ≡ Some c → (d : Content) × (reading p t ≡ Some d)
payload_read vs name place p t c utf8 at [] e =
    let only : option_map (variant place) (reading p t) ≡ one_entry vs ((name, t) ∷ []) = rw (utf8, at) (sym (by_reading t place p)) in
    mapped place (reading p t) c (only ∙ e)
payload_read vs name place p t c utf8 at (f ∷ es) e = absurd cc

after_value : (w : WantedPairs) → pair_value w ≡ pair_value (pairs_after w)
after_value (entries_of_object k) = refl
after_value (fields_of_row ks) = refl

none_after : (w : WantedPairs) → pairs_left w ≡ 1 → pairs_left (pairs_after w) ≡ 0
none_after (entries_of_object k) e = omega (arith, e)
none_after (fields_of_row []) e = absurd (omega (arith, e))
none_after (fields_of_row (k ∷ ks)) e = omega (arith, e)

-- the object after the key of its only entry
abbrev after_key : OpenPairs → OpenVariant → OpenPairs
after_key u v = pairs_in u v.state (pairs_after u.wanted) true

-- what is known of the entry after its key
record Entered (vs : List (List ℕ × Payload)) (o : State) (v : OpenVariant) (place : ℕ) (p : Payload) (u : OpenPairs) : Type 0 where
  name : List ℕ
  utf8 : is_utf8 name ≡ true
  named : named 0 name vs ≡ Some (place, p)
  inside : AtValue (of_object vs) None o (one_entry vs) name (give tt) (after_key u v)

entered : (vs : List (List ℕ × Payload)) (o : State) (v : OpenVariant) (place : ℕ) (p : Payload) → payload_at place vs ≡ Some p → (h : OpensEntry (names_of vs) o v place) → Entered vs o v place p h.inside
entered vs o v place p there h =
    let K : Meaning = reads_place (names_of vs) in
    let t : OpenPairs = after_key h.inside v in
    let key : IsKey K HoldsPlace h.inside t place = record { read = h.opens.pending; counted = omega (arith, h.single); answers = h.key; after = refl } in
    let q = key_reads vs (key_name K HoldsPlace h.inside t place key) place (key_read K HoldsPlace h.inside t place key ∙ ap Some h.key.held) in
    let both : Some q.1 ≡ Some p = sym q.2 ∙ there in
    let payload : q.1 ≡ p = cc in
    record {
      name = key_name K HoldsPlace h.inside t place key;
      utf8 = q.0;
      named = q.3 ∙ ap (λ z. Some (place, z)) payload;
      inside = inside_key K HoldsPlace (of_object vs) None (one_entry vs) (give tt) (give tt) o h.inside t place (inside_start (of_object vs) None (one_entry vs) (give tt) o h.inside (objects vs) h.opens tt) key tt;
    }

-- the payload of an object was read
entry_found : {A B : Type 0} (vs : List (List ℕ × Payload)) (holding : A → Content → Type 0) (held : B → Content → Type 0) (o z : State) (v : OpenVariant) (place : ℕ) (p : Payload) (x : A) (y : B) → payload_at place vs ≡ Some p
    → OpensEntry (names_of vs) o v place → ReadsPayload (reading p) holding v z x → ((c : Content) → holding x c → held y (variant place c)) → Answers (reads_enum vs) held o z y
entry_found vs holding held o z v place p x y there h r keeps =
    let i = entered vs o v place p there h in
    let u : OpenPairs = h.inside in
    let t : OpenPairs = after_key u v in
    let w : OpenPairs = pairs_in t r.inside t.wanted false in
    let a : Answers (reading p) holding (awaiting (pair_value t.wanted) t.state) r.inside x = subst (λ d. Answers (reading p) holding (awaiting d v.state) r.inside x) (h.payload ∙ after_value u.wanted) r.answers in
    let value : IsValue (reading p) holding t w x = record { key = refl; answers = a; after = refl } in
    let c : Content = variant place a.content in
    let at = inside_value (reading p) holding (of_object vs) None (one_entry vs) (ended c) i.name (give tt) (give tt) o t w x i.inside value (payload_next vs i.name place p a.tree a.content i.utf8 i.named a.read) tt in
    let closes : ClosesPairs w z = record {
      working = a.took.failed;
      read = refl;
      counted = none_after u.wanted h.single;
      state = r.state ∙ ap (λ n. after_closing n v.opened r.inside) (h.levels ∙ sym h.opens.levels) ∙ ap (λ n. after_closing u.levels n r.inside) (h.opened ∙ sym h.opens.opened);
    } in
    let b = inside_end held (of_object vs) None (ended c) (give tt) o z w c y at closes refl (keeps a.content a.held) in
    record {
      tree = b.tree;
      content = b.content;
      text = b.text;
      filled = b.filled;
      read = object_reads vs b.tree b.content b.read;
      held = b.held;
      took = b.took;
      state = b.state;
    }

-- a string's tag is not an object's
other_first : (vs : List (List ℕ)) (n : ℕ) (d : Due) (k : ℕ) (t : Tree) (c : Content) (head all rest ys : List ℕ) → IsValueDue d → ObjectHead n k head → Fills n d t all → reads_place vs t ≡ Some c → all ++ rest ≡ head ++ ys → ⊥
other_first vs n d k t c head all rest ys v h f read e =
    let p = name_first vs n d t c all v f read in
    let o = counted_rest 0x01 n k head h in
    let same : p.0 ∷ (p.1 ++ rest) ≡ 0x01 ∷ (o.0 ++ ys) = ap (λ l. l ++ rest) (sym p.2) ∙ e ∙ ap (λ l. l ++ ys) o.1 in
    let first : p.0 ≡ 0x01 = cc in
    let is : is_key_tag 0x01 ≡ true = subst (λ x. is_key_tag x ≡ true) first p.3 in
    cc

-- where an object begins no name stands alone
no_name_there : (vs : List (List ℕ)) (n : ℕ) (d : Due) (w : WantedPairs) (t : Tree) (c : Content) (head all rest ys : List ℕ) → BeginsPairs n d w head → Fills n d t all → reads_place vs t ≡ Some c → all ++ rest ≡ head ++ ys → ⊥
no_name_there vs n node_due (entries_of_object k) t c head all rest ys h f read e = other_first vs n node_due k t c head all rest ys tt h f read e
no_name_there vs n field_due (entries_of_object k) t c head all rest ys h f read e = other_first vs n field_due k t c head all rest ys tt h f read e
no_name_there vs n (row_due ks) w t c head all rest ys h f read e = (let none = ap (reads_place vs) (sym f.stands) ∙ read in cc)
no_name_there vs n node_due (fields_of_row ls) t c head all rest ys h f read e = h
no_name_there vs n field_due (fields_of_row ls) t c head all rest ys h f read e = h
no_name_there vs n nothing_due w t c head all rest ys h f read e = f
no_name_there vs n key_due w t c head all rest ys h f read e = h
no_name_there vs n (name_due k) w t c head all rest ys h f read e = h

-- the payload of an object is refused
entry_refused : (name : List ℕ) (vs : List (List ℕ × Payload)) (qs : VariantAskings vs) (p : Payload) (a : PayloadAsking p) (some needs : Needs) (e : Error) (o z : State) (v : OpenVariant) (place : ℕ) → (some.lent ≡ true → needs.lent ≡ true)
    → (some.memory ≡ true → needs.memory ≡ true) → (some.memory || some.keys ≡ true → needs.memory || needs.keys ≡ true) → asked_at place vs qs ≡ Some (asking p a)
    → OpensEntry (names_of vs) o v place → Refuses (reading p) (telling p a) some e (before_payload v) z → Refuses (reads_enum vs) (asking_enum name vs qs) needs e o z
entry_refused name vs qs p a some needs e o z v place lent memory takes there h refuses = record {
  fails = u.fails;
  may = u.may;
  names = payload_named_so name vs qs p a needs e o v place there h wide.names;
  excuse = λ text rest f known. u.excuse text rest (fit text rest f known) known;
}
  where
    i : Entered vs o v place p h.inside
    i = entered vs o v place p (asked_payload place vs qs (asking p a) there) h

    t : OpenPairs
    t = after_key h.inside v

    W : Format
    W = FillsReadably (reading p) (before_payload v)

    first : (c : Content) (all : List ℕ) → ValueLeft (one_entry vs) i.name t.state.levels t.wanted c all → (front : List ℕ) × (rest : List ℕ) × (all ≡ front ++ rest) × W front
    first c all l =
        let d = payload_read vs i.name place p l.value c i.utf8 i.named (entries l.parts) l.read in
        let filled : Fills v.state.levels v.payload l.value l.filled.front = subst (λ q. Fills v.state.levels q l.value l.filled.front) (sym (h.payload ∙ after_value h.inside.wanted)) l.filled.first in
        (l.filled.front, l.filled.rest, l.filled.whole, record { tree = l.value; content = d.0; filled = filled; read = d.1 })

    wide : Refuses (reading p) (telling p a) needs e (before_payload v) z
    wide = wider_type (reading p) (telling p a) some needs e (before_payload v) z lent memory takes refuses

    u : Refuses (of_object vs) None needs e o z
    u =
        part_refused needs (of_object vs) None (ValueLeft (one_entry vs) i.name t.state.levels t.wanted) (give tt) W (NamesAsked needs (telling p a) e (before_payload v)) e o z t i.inside first (λ n. tt) wide

    fit : (all rest : List ℕ) → FillsReadably (reads_enum vs) o all → left o.source ≡ Some (all ++ rest) → FillsReadably (of_object vs) o all
    fit all rest f known = at (forms vs f.tree f.content f.read)
      where
        r : (ys : List ℕ) × (left h.inside.state.source ≡ Some ys) × (all ++ rest ≡ h.opens.text ++ ys)
        r = left_took o.source h.inside.state.source h.opens.text (all ++ rest) h.opens.took known

        at : ((d : Content) × (reads_place (names_of vs) f.tree ≡ Some d)) ⊎ EntryForm vs f.tree → FillsReadably (of_object vs) o all
        at (inl q) = absurd (no_name_there (names_of vs) o.levels o.due h.inside.wanted f.tree q.0 h.opens.text all rest r.0 h.opens.head f.filled q.1 r.2)
        at (inr q) =
            let us : Entries = entry q.0 q.1 no_entries in
            record {
              tree = object us;
              content = f.content;
              filled = subst (λ s. Fills o.levels o.due s all) q.2 f.filled;
              read = sym (same_object vs us) ∙ ap (reads_enum vs) (sym q.2) ∙ f.read;
            }

-- ---- what an enum's reading answers

-- a place that was read is that of a variant
pub place_there : (vs : List (List ℕ × Payload)) (o : State) (v : OpenEnum) (place : ℕ) → OpensVariant (names_of vs) o v place → (p : Payload) × (payload_at place vs ≡ Some p)
place_there vs o (name_alone s) place a = let q = bare_reads vs a.tree place (a.read ∙ ap Some a.held) in (q.0, q.1)
place_there vs o (with_payload v) place h =
    let K : Meaning = reads_place (names_of vs) in
    let t : OpenPairs = after_key h.inside v in
    let key : IsKey K HoldsPlace h.inside t place = record { read = h.opens.pending; counted = omega (arith, h.single); answers = h.key; after = refl } in
    let q = key_reads vs (key_name K HoldsPlace h.inside t place key) place (key_read K HoldsPlace h.inside t place key ∙ ap Some h.key.held) in
    (q.1, q.2)

pub unit_found : {B : Type 0} (vs : List (List ℕ × Payload)) (held : B → Content → Type 0) (o z : State) (v : OpenEnum) (place : ℕ) (y : B) → payload_at place vs ≡ Some unit → OpensVariant (names_of vs) o v place → IsUnitVariant v z → held y (variant place one)
    → Answers (reads_enum vs) held o z y
unit_found vs held o z (name_alone s) place y there opens is keeps = bare_found vs held o s z place y there opens is keeps
unit_found vs held o z (with_payload v) place y there opens is keeps =
    entry_found vs (λ _ c. c ≡ one) held o z v place unit (tt {0}) y there opens is (λ c h. subst (λ d. held y (variant place d)) (sym h) keeps)

pub unit_refused : (name : List ℕ) (vs : List (List ℕ × Payload)) (qs : VariantAskings vs) (needs : Needs) (e : Error) (o z : State) (v : OpenEnum) (place : ℕ) → asked_at place vs qs ≡ Some (asking unit tt) → OpensVariant (names_of vs) o v place
    → RefusesUnitVariant e v z → Refuses (reads_enum vs) (asking_enum name vs qs) needs e o z
unit_refused name vs qs needs e o z (name_alone s) place there opens refuses = absurd refuses
unit_refused name vs qs needs e o z (with_payload v) place there opens refuses = entry_refused name vs qs unit tt bare needs e o z v place (λ b. absurd cc) (λ b. absurd cc) (λ b. absurd cc) there opens refuses

pub payload_found : {A B : Type 0} (vs : List (List ℕ × Payload)) (T : Meaning) (holding : A → Content → Type 0) (held : B → Content → Type 0) (o z : State) (v : OpenEnum) (place : ℕ) (x : A) (y : B) → payload_at place vs ≡ Some (holds T)
    → OpensVariant (names_of vs) o v place → IsPayload T holding v z x → ((c : Content) → holding x c → held y (variant place c)) → Answers (reads_enum vs) held o z y
payload_found vs T holding held o z (name_alone s) place x y there opens is keeps = absurd is
payload_found vs T holding held o z (with_payload v) place x y there opens is keeps = entry_found vs holding held o z v place (holds T) x y there opens is keeps

pub payload_refused : (name : List ℕ) (vs : List (List ℕ × Payload)) (qs : VariantAskings vs) (T : Meaning) (tells : Option (Asking T)) (some needs : Needs) (e : Error) (o z : State) (v : OpenEnum) (place : ℕ) → (some.lent ≡ true → needs.lent ≡ true)
    → (some.memory ≡ true → needs.memory ≡ true) → (some.memory || some.keys ≡ true → needs.memory || needs.keys ≡ true) → asked_at place vs qs ≡ Some (asking (holds T) tells)
    → OpensVariant (names_of vs) o v place → RefusesPayload T tells some e v z → Refuses (reads_enum vs) (asking_enum name vs qs) needs e o z
payload_refused name vs qs T tells some needs e o z (name_alone s) place lent memory takes there opens refuses =
    bare_refused vs (asking_enum name vs qs) T needs e o s z place (asked_payload place vs qs (asking (holds T) tells) there) opens refuses
    (lacking_asked name vs qs T tells needs e o s z place there opens refuses)
payload_refused name vs qs T tells some needs e o z (with_payload v) place lent memory takes there opens refuses = entry_refused name vs qs (holds T) tells some needs e o z v place lent memory takes there opens refuses
