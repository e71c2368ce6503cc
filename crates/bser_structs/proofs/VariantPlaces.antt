-- The variants of an enum, read by the place of the name.
use Rattle.std.proofs.Common.{◌≡◌, ◌<◌, ◌+◌, ℕ, zero, suc, Bool, true, false, List, [], ◌∷◌, length, Option, Some, None, refl, sym, ap, subst, arith}
use Rattle.std.specs.Prelude.{◌||◌}
use Rattle.bser_format.specs.Content.{Content, variant, Meaning}
use Rattle.bser_format.specs.Enums.{Payload, unit, holds, reads_enum}
use Rattle.bser_format.specs.declared.errors.Error.{Error}
use Rattle.bser_deserializer.specs.Access.{after_closing}
use Rattle.bser_deserializer.specs.Reading.{Answers, Refuses, Needs}
use Rattle.bser_deserializer.specs.State.{State, awaiting}
use Rattle.bser_deserializer.specs.declared.frames.MapHead.{MapHead}
use Rattle.bser_types.specs.Slots.{any_lent, struct_needs}
use Rattle.bser_structs.specs.VariantAskings.{PayloadAsking, VariantAskings, asking_enum}
use Rattle.bser_structs.specs.EnumAccess.{enum_head}
use Rattle.bser_structs.specs.ReadVariants.{OpenEnum, name_alone, with_payload, OpensVariant, RefusesVariant, IsPayload, payload_due}
use Rattle.bser_structs.proofs.VariantAskings.{AskedPayload, asking, asked_at, place_asked}
use Rattle.bser_structs.proofs.VariantNames.{payload_at, names_of}
use Rattle.bser_structs.proofs.ReadVariants.{place_there, enum_refused, unit_found, unit_refused, payload_found, payload_refused}
use Rattle.bser_structs.specs.Payloads.{IsPayloadOf, RefusesPayloadOf, IsPayloadAt, PayloadAskings, RefusesPayloadAt, labelled, labelled_askings, asking_labelled}

-- ---- one payload

-- a payload that was read holds what is told of its value
pub told_as : {A : Type 0} (T : Meaning) (held : A → Content → Type 0) (L : Content → Type 0) (v : OpenEnum) (z : State) (x : A) → ((c : Content) → held x c → L c) → IsPayload T held v z x → IsPayloadOf (holds T) L v z
told_as T held L (name_alone s) z x tells r = absurd r
told_as T held L (with_payload u) z x tells r =
    record {
      inside = r.inside;
      answers = record {
        tree = r.answers.tree;
        content = r.answers.content;
        text = r.answers.text;
        filled = r.answers.filled;
        read = r.answers.read;
        held = tells r.answers.content r.answers.held;
        took = r.answers.took;
        state = r.answers.state;
      };
      state = r.state;
    }

-- a payload that has to be there was read, and the object closed
pub held_read : {A : Type 0} (T : Meaning) (held : A → Content → Type 0) (h : MapHead) (o m b z : State) (x : A) → m ≡ awaiting (payload_due h.row) o → Answers T held m b x → z ≡ after_closing h.levels h.opened b → IsPayloadOf (holds T) (held x) (enum_head (Some h) o) z
held_read T held h o m b z x due a closed =
    told_as T held (held x) (enum_head (Some h) o) z x (λ c k. k)
    (record { inside = b; answers = subst (λ (s : State). Answers T held s b x) due a; state = closed })

-- what is kept of a payload may be told in other words
kept_as : (p : Payload) (K L : Content → Type 0) (v : OpenEnum) (z : State) → ((c : Content) → K c → L c) → IsPayloadOf p K v z → IsPayloadOf p L v z
kept_as unit K L v z tells r = (r.0, tells _ r.1)
kept_as (holds T) K L v z tells r = told_as T (λ _. K) L v z (tt {0}) tells r

-- the same of the payload at a place
place_kept_as : (ps : List Payload) (place : ℕ) (K L : Content → Type 0) (v : OpenEnum) (z : State) → ((c : Content) → K c → L c) → IsPayloadAt ps place K v z → IsPayloadAt ps place L v z
place_kept_as [] place K L v z tells r = absurd r
place_kept_as (p ∷ ps) zero K L v z tells r = kept_as p K L v z tells r
place_kept_as (p ∷ ps) (suc place) K L v z tells r = place_kept_as ps place K L v z tells r

-- ---- names and payloads

-- as many names as payloads are all names
all_labelled : (names : List (List ℕ)) (ps : List Payload) → length names ≡ length ps → names_of (labelled names ps) ≡ names
all_labelled [] [] e = refl
all_labelled [] (p ∷ ps) e = absurd cc
all_labelled (n ∷ ns) [] e = absurd cc
all_labelled (n ∷ ns) (p ∷ ps) e =
    let others : length ns ≡ length ps = omega (arith, e) in
    ap (λ l. n ∷ l) (all_labelled ns ps others)

-- the place of a payload is below their count
place_inside : (names : List (List ℕ)) (ps : List Payload) (place : ℕ) (p : Payload) → payload_at place (labelled names ps) ≡ Some p → place < length ps
place_inside [] ps place p e = absurd cc
place_inside (n ∷ ns) [] place p e = absurd cc
place_inside (n ∷ ns) (q ∷ ps) zero p e = omega arith
place_inside (n ∷ ns) (q ∷ ps) (suc place) p e =
    let h : place < length ps = place_inside ns ps place p e in
    omega (arith, h)

read_at : (names : List (List ℕ)) (ps : List Payload) (place : ℕ) (p : Payload) (K : Content → Type 0) (v : OpenEnum) (z : State) → payload_at place (labelled names ps) ≡ Some p → IsPayloadAt ps place K v z → IsPayloadOf p K v z
read_at [] ps place p K v z e r = absurd cc
read_at (n ∷ ns) [] place p K v z e r = absurd r
read_at (n ∷ ns) (q ∷ ps) zero p K v z e r =
    let same : q ≡ p = cc in
    subst (λ (s : Payload). IsPayloadOf s K v z) same r
read_at (n ∷ ns) (q ∷ ps) (suc place) p K v z e r = read_at ns ps place p K v z e r

-- what one may lend, all may
lent_first : (a b : Bool) → a ≡ true → (a || b) ≡ true
lent_first true b e = refl
lent_first false b e = absurd cc

lent_later : (a b : Bool) → b ≡ true → (a || b) ≡ true
lent_later true b e = refl
lent_later false b e = e

-- a payload is refused, whose type needs no more than all do
record RefusesOne (q : AskedPayload) (needs : List Needs) (e : Error) (v : OpenEnum) (z : State) : Type 0 where
  some : Needs
  lent : some.lent ≡ true → any_lent needs ≡ true
  refuses : RefusesPayloadOf q.payload q.asks some e v z

-- the same of one that is there
abbrev RefusesSome : Option AskedPayload → List Needs → Error → OpenEnum → State → Type 0
RefusesSome None needs e v z = ⊥
RefusesSome (Some q) needs e v z = RefusesOne q needs e v z

refused_at : (names : List (List ℕ)) (ps : List Payload) (qs : PayloadAskings ps) (needs : List Needs) (place : ℕ) (q : AskedPayload) (e : Error) (v : OpenEnum) (z : State) → asked_at place (labelled names ps) (labelled_askings names ps qs) ≡ Some q
    → RefusesPayloadAt ps qs needs place e v z → RefusesOne q needs e v z
refused_at [] ps qs needs place q e v z there r = absurd cc
refused_at (n ∷ ns) [] qs needs place q e v z there r = absurd r
refused_at (n ∷ ns) (p ∷ ps) qs [] place q e v z there r = absurd r
refused_at (n ∷ ns) (p ∷ ps) qs (m ∷ ms) zero q e v z there r =
    let first : RefusesOne (asking p qs.0) (m ∷ ms) e v z = record { some = m; lent = lent_first m.lent (any_lent ms); refuses = r } in
    subst (λ (s : Option AskedPayload). RefusesSome s (m ∷ ms) e v z) there first
refused_at (n ∷ ns) (p ∷ ps) qs (m ∷ ms) (suc place) q e v z there r =
    let o : RefusesOne q ms e v z = refused_at ns ps qs.1 ms place q e v z there r in
    record {
      some = o.some;
      lent = λ l. lent_later m.lent (any_lent ms) (o.lent l);
      refuses = o.refuses;
    }

-- ---- the enum

one_read : {B : Type 0} (vs : List (List ℕ × Payload)) (held : B → Content → Type 0) (o z : State) (v : OpenEnum) (place : ℕ) (p : Payload) (y : B) → payload_at place vs ≡ Some p → OpensVariant (names_of vs) o v place → IsPayloadOf p (λ c. held y (variant place c)) v z → Answers (reads_enum vs) held o z y
one_read vs held o z v place unit y there opens r = unit_found vs held o z v place y there opens r.0 r.1
one_read vs held o z v place (holds T) y there opens r = payload_found vs T (λ _ c. held y (variant place c)) held o z v place (tt {0}) y there opens r (λ c h. h)

one_refused : (name : List ℕ) (vs : List (List ℕ × Payload)) (qs : VariantAskings vs) (needs : List Needs) (e : Error) (o z : State) (v : OpenEnum) (place : ℕ) (p : Payload) (a : PayloadAsking p) → asked_at place vs qs ≡ Some (asking p a) → OpensVariant (names_of vs) o v place
    → RefusesOne (asking p a) needs e v z → Refuses (reads_enum vs) (asking_enum name vs qs) (struct_needs needs) e o z
one_refused name vs qs needs e o z v place unit a there opens r = unit_refused name vs qs (struct_needs needs) e o z v place there opens r.refuses
one_refused name vs qs needs e o z v place (holds T) a there opens r = payload_refused name vs qs T a r.some (struct_needs needs) e o z v place r.lent (λ b. refl) (λ b. refl) there opens r.refuses

-- a variant whose name was read, with its payload
record Opened (names : List (List ℕ)) (ps : List Payload) (o : State) (v : OpenEnum) (place : ℕ) : Type 0 where
  payload : Payload
  there : payload_at place (labelled names ps) ≡ Some payload
  opens : OpensVariant (names_of (labelled names ps)) o v place

opened : (names : List (List ℕ)) (ps : List Payload) (o : State) (v : OpenEnum) (place : ℕ) → length names ≡ length ps → OpensVariant names o v place → Opened names ps o v place
opened names ps o v place same opens =
    let known : OpensVariant (names_of (labelled names ps)) o v place = subst (λ (ns : List (List ℕ)). OpensVariant ns o v place) (sym (all_labelled names ps same)) opens in
    let q = place_there (labelled names ps) o v place known in
    record { payload = q.0; there = q.1; opens = known }

-- the place of a name that was read is that of a payload
pub place_known : (names : List (List ℕ)) (ps : List Payload) (o : State) (v : OpenEnum) (place : ℕ) → length names ≡ length ps → OpensVariant names o v place → place < length ps
place_known names ps o v place same opens =
    let u : Opened names ps o v place = opened names ps o v place same opens in
    place_inside names ps place u.payload u.there

-- no name is read
pub name_refused : (name : List ℕ) (names : List (List ℕ)) (ps : List Payload) (qs : PayloadAskings ps) (needs : List Needs) (e : Error) (o z : State) → length names ≡ length ps → RefusesVariant name names e o z
    → Refuses (reads_enum (labelled names ps)) (asking_labelled name names ps qs) (struct_needs needs) e o z
name_refused name names ps qs needs e o z same r =
    enum_refused name (labelled names ps) (labelled_askings names ps qs) (struct_needs needs) e o z (subst (λ (ns : List (List ℕ)). RefusesVariant name ns e o z) (sym (all_labelled names ps same)) r)

-- the variant at a place was read
pub place_read : {B : Type 0} (names : List (List ℕ)) (ps : List Payload) (held : B → Content → Type 0) (o z : State) (v : OpenEnum) (place : ℕ) (y : B) → length names ≡ length ps → OpensVariant names o v place → IsPayloadAt ps place (λ c. held y (variant (0 + place) c)) v z → Answers (reads_enum (labelled names ps)) held o z y
place_read names ps held o z v place y same opens r =
    let u : Opened names ps o v place = opened names ps o v place same opens in
    let none : 0 + place ≡ place = omega arith in
    let there : IsPayloadAt ps place (λ c. held y (variant place c)) v z = place_kept_as ps place (λ c. held y (variant (0 + place) c)) (λ c. held y (variant place c)) v z (λ c h. subst (λ (n : ℕ). held y (variant n c)) none h) r in
    one_read (labelled names ps) held o z v place u.payload y u.there u.opens (read_at names ps place u.payload (λ c. held y (variant place c)) v z u.there there)

-- the variant at a place is refused
pub place_refused : (name : List ℕ) (names : List (List ℕ)) (ps : List Payload) (qs : PayloadAskings ps) (needs : List Needs) (e : Error) (o z : State) (v : OpenEnum) (place : ℕ) → length names ≡ length ps → OpensVariant names o v place → RefusesPayloadAt ps qs needs place e v z
    → Refuses (reads_enum (labelled names ps)) (asking_labelled name names ps qs) (struct_needs needs) e o z
place_refused name names ps qs needs e o z v place same opens r =
    let u : Opened names ps o v place = opened names ps o v place same opens in
    let q = place_asked place (labelled names ps) (labelled_askings names ps qs) u.payload u.there in
    one_refused name (labelled names ps) (labelled_askings names ps qs) needs e o z v place q.0.payload q.0.asks q.1 u.opens (refused_at names ps qs needs place q.0 e v z q.1 r)

-- ---- the first and the others

-- one of the others was read
pub later_read : {B : Type 0} (p : Payload) (ps : List Payload) (held : ℕ → B → Content → Type 0) (y : B) (place before : ℕ) (v : OpenEnum) (z : State) → place ≡ suc before → ((first : ℕ) → IsPayloadAt ps before (λ c. held first y (variant (first + before) c)) v z) → (first : ℕ) → IsPayloadAt (p ∷ ps) place (λ c. held (suc first) y (variant (first + place) c)) v z
later_read p ps held y place before v z later r first =
    let moved : suc first + before ≡ first + suc before = omega arith in
    subst (λ (n : ℕ). IsPayloadAt (p ∷ ps) n (λ c. held (suc first) y (variant (first + n) c)) v z) (sym later)
    (place_kept_as ps before (λ c. held (suc first) y (variant (suc first + before) c)) (λ c. held (suc first) y (variant (first + suc before) c)) v z (λ c h. subst (λ (n : ℕ). held (suc first) y (variant n c)) moved h) (r (suc first)))
