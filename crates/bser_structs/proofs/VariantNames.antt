-- The names of an enum's variants, and a name that stands alone.
use Rattle.std.proofs.Common.{◌≡◌, ℕ, zero, suc, ◌+◌, pos, Bool, true, false, List, [], ◌∷◌, ◌++◌, map, Option, Some, None, option_and_then, refl, sym, ap, subst, ◌∙◌, arith, cond}
use Rattle.std.proofs.lemmas.Option.{some_pair_parts}
use Rattle.std.specs.Prelude.{if◌then◌else◌}
use Rattle.std.specs.Str.{is_utf8, bytes_eq}
use Rattle.bser_format.specs.Tree.{Tree, null, boolean, integer, real, bytes, text, array, object, template}
use Rattle.bser_format.specs.Content.{Content, one, number, variant, Meaning}
use Rattle.bser_format.specs.Enums.{Payload, unit, holds, named, by_name, reads_enum}
use Rattle.bser_format.specs.Expand.{key_tree}
use Rattle.bser_format.specs.ReadsScalars.{utf8_of}
use Rattle.bser_format.specs.declared.errors.Error.{Error}
use Rattle.bser_deserializer.specs.State.{State}
use Rattle.bser_format.specs.Clauses.{after_a_refusal}
use Rattle.bser_format.specs.DueReaders.{wrong_type}
use Rattle.bser_deserializer.specs.Reading.{Answers, Asking, NamesAsked, Refuses, FillsReadably, IsRefusal, Needs}
use Rattle.bser_deserializer.specs.Fields.{field_from, field_of}
use Rattle.bser_structs.specs.ReadVariants.{known_place, reads_place, HoldsPlace, LacksPayload}
use Rattle.bser_deserializer.specs.declared.field.Field.{Field}
use Rattle.bser_deserializer.specs.declared.field.Field.TheVariants.{Known, Unknown}
use Rattle.bser_deserializer.proofs.Refusals.{unfit}
use Rattle.bser_source.proofs.Windows.{left_took}
use Rattle.bser_types.proofs.Within.{one_due}

-- ---- names and places

-- the payload of the variant at this place
abbrev pub payload_at : ℕ → List (List ℕ × Payload) → Option Payload
payload_at n [] = None
payload_at zero (v ∷ vs) = Some v.1
payload_at (suc n) (v ∷ vs) = payload_at n vs

abbrev pub names_of : List (List ℕ × Payload) → List (List ℕ)
names_of vs = map (λ v. v.0) vs

-- the variant of a name that stands at this place
abbrev Placed : ℕ → List ℕ → List (List ℕ × Payload) → ℕ → Type 0
Placed i s vs place = (further : ℕ) × (place ≡ i + further) × (p : Payload) × (payload_at further vs ≡ Some p) × (named i s vs ≡ Some (place, p))

placed : (i : ℕ) (s : List ℕ) (vs : List (List ℕ × Payload)) (place : ℕ) → field_from i (names_of vs) s ≡ Known place → Placed i s vs place
placed i s [] place e = absurd cc
placed i s (v ∷ vs) place e = at (bytes_eq v.0 s) e (placed (suc i) s vs place)
  where
    at : (b : Bool) → (if b then Known i else field_from (suc i) (names_of vs) s) ≡ Known place → (field_from (suc i) (names_of vs) s ≡ Known place → Placed (suc i) s vs place)
        → (further : ℕ) × (place ≡ i + further) × (p : Payload) × (payload_at further (v ∷ vs) ≡ Some p) × (cond b (Some (i, v.1)) (named (suc i) s vs) ≡ Some (place, p))
    at true e more = let same : i ≡ place = cc in (0, omega (arith, same), v.1, refl, ap (λ j. Some (j, v.1)) same)
    at false e more = let m = more e in (suc m.0, omega (arith, m.1), m.2, m.3, m.4)

pub found_by : (i : ℕ) (s : List ℕ) (vs : List (List ℕ × Payload)) (place : ℕ) (p : Payload) → named i s vs ≡ Some (place, p) → field_from i (names_of vs) s ≡ Known place
found_by i s [] place p e = absurd cc
found_by i s (v ∷ vs) place p e = at (bytes_eq v.0 s) e (found_by (suc i) s vs place p)
  where
    at : (b : Bool) → cond b (Some (i, v.1)) (named (suc i) s vs) ≡ Some (place, p) → (named (suc i) s vs ≡ Some (place, p) → field_from (suc i) (names_of vs) s ≡ Known place)
        → (if b then Known i else field_from (suc i) (names_of vs) s) ≡ Known place
    at true e more = ap Known (some_pair_parts i place v.1 p e).0
    at false e more = more e

known : (f : Field) (place : ℕ) → known_place f ≡ Some (number (pos place)) → f ≡ Known place
known (Known q) place e = let same : q ≡ place = cc in ap Known same
known Unknown place e = absurd cc

-- a name alone is read by the payload at its place
abbrev ReadsBare : List (List ℕ × Payload) → Tree → ℕ → Type 0
ReadsBare vs t place = (p : Payload) × (payload_at place vs ≡ Some p) × (reads_enum vs t ≡ by_name (place, p))

bare_name : (vs : List (List ℕ × Payload)) (s : List ℕ) (place : ℕ) → known_place (field_of (names_of vs) s) ≡ Some (number (pos place)) → (p : Payload) × (payload_at place vs ≡ Some p) × (named 0 s vs ≡ Some (place, p))
bare_name vs s place e =
    let q = placed 0 s vs place (known (field_of (names_of vs) s) place e) in
    let same : q.0 ≡ place = omega (arith, q.1) in
    (q.2, ap (λ n. payload_at n vs) (sym same) ∙ q.3, q.4)

pub bare_reads : (vs : List (List ℕ × Payload)) (t : Tree) (place : ℕ) → reads_place (names_of vs) t ≡ Some (number (pos place)) → ReadsBare vs t place
bare_reads vs (text s) place e = let q = bare_name vs s place e in (q.0, q.1, ap (option_and_then by_name) q.2)
bare_reads vs (bytes s) place e = at (is_utf8 s) e
  where
    at : (b : Bool) → option_and_then (λ name. known_place (field_of (names_of vs) name)) (if b then Some s else None) ≡ Some (number (pos place)) → (p : Payload) × (payload_at place vs ≡ Some p) × (cond b (option_and_then by_name (named 0 s vs)) None ≡ by_name (place, p))
    at true e = let q = bare_name vs s place e in (q.0, q.1, ap (option_and_then by_name) q.2)
    at false e = absurd cc
bare_reads vs null place e = absurd cc
bare_reads vs (boolean v) place e = absurd cc
bare_reads vs (integer v) place e = absurd cc
bare_reads vs (real v) place e = absurd cc
bare_reads vs (array v) place e = absurd cc
bare_reads vs (object v) place e = absurd cc
bare_reads vs (template ks rs) place e = absurd cc

-- the variant of a key that is one of the names
pub key_reads : (vs : List (List ℕ × Payload)) (name : List ℕ) (place : ℕ) → reads_place (names_of vs) (key_tree name) ≡ Some (number (pos place)) → (is_utf8 name ≡ true) × (p : Payload) × (payload_at place vs ≡ Some p) × (named 0 name vs ≡ Some (place, p))
key_reads vs name place e = at (is_utf8 name) refl e
  where
    at : (b : Bool) → is_utf8 name ≡ b → option_and_then (λ n. known_place (field_of (names_of vs) n)) (utf8_of (if b then text name else bytes name)) ≡ Some (number (pos place))
        → (is_utf8 name ≡ true) × (p : Payload) × (payload_at place vs ≡ Some p) × (named 0 name vs ≡ Some (place, p))
    at true u e = let q = bare_name vs name place e in (u, q.0, q.1, q.2)
    at false u e =
        let none : option_and_then (λ n. known_place (field_of (names_of vs) n)) (if is_utf8 name then Some name else None) ≡ None = rw u refl in
        absurd (let no : None ≡ Some (number (pos place)) = sym none ∙ e in cc)

pub text_key : (names : List (List ℕ)) (k : List ℕ) → is_utf8 k ≡ true → reads_place names (key_tree k) ≡ known_place (field_of names k)
text_key names k e = rw e refl

-- ---- a name alone

-- a name alone is a unit variant
pub bare_found : {B : Type 0} (vs : List (List ℕ × Payload)) (held : B → Content → Type 0) (o v z : State) (place : ℕ) (y : B) → payload_at place vs ≡ Some unit → Answers (reads_place (names_of vs)) HoldsPlace o v place → z ≡ v → held y (variant place one)
    → Answers (reads_enum vs) held o z y
bare_found vs held o v z place y there a same keeps =
    let q = bare_reads vs a.tree place (a.read ∙ ap Some a.held) in
    let both : Some q.0 ≡ Some unit = sym q.1 ∙ there in
    let payload : q.0 ≡ unit = cc in
    subst (λ (s : State). Answers (reads_enum vs) held o s y) (sym same) (record {
      tree = a.tree;
      content = variant place one;
      text = a.text;
      filled = a.filled;
      read = q.2 ∙ ap (λ p. by_name (place, p)) payload;
      held = keeps;
      took = a.took;
      state = a.state;
    })

-- another variant is not read from its name alone
pub bare_refused : (vs : List (List ℕ × Payload)) (asks : Option (Asking (reads_enum vs))) (T : Meaning) (needs : Needs) (e : Error) (o v z : State) (place : ℕ) → payload_at place vs ≡ Some (holds T) → Answers (reads_place (names_of vs)) HoldsPlace o v place → LacksPayload e v z
    → NamesAsked needs asks e o → Refuses (reads_enum vs) asks needs e o z
bare_refused vs asks T needs e o v z place there a lacks named =
    unfit needs (FillsReadably (reads_enum vs) o) (NamesAsked needs asks e o) e o.source v.source z.source a.text (subst IsRefusal (sym (lacks.name ∙ ap (λ b. after_a_refusal b wrong_type) a.took.failed)) tt) a.took (ap (λ (s : State). s.source) lacks.state) named
    (λ all rest f known.
    let r = left_took o.source v.source a.text (all ++ rest) a.took known in
    let same = one_due o.levels o.due f.tree a.tree all a.text rest r.0 f.filled a.filled r.2 in
    let q = bare_reads vs a.tree place (a.read ∙ ap Some a.held) in
    let both : Some q.0 ≡ Some (holds T) = sym q.1 ∙ there in
    let payload : q.0 ≡ holds T = cc in
    let no : None ≡ Some f.content = sym (q.2 ∙ ap (λ p. by_name (place, p)) payload) ∙ ap (reads_enum vs) (sym same.1) ∙ f.read in
    cc)
