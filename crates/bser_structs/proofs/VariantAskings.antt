-- What is refused where an enum is due is refused by the enum's name, where it tells of names.
use Rattle.std.proofs.Common.{◌≡◌, ℕ, zero, suc, List, [], ◌∷◌, Option, Some, None, refl, sym, ap, subst, ◌∙◌}
use Rattle.std.specs.Prelude.{option_map}
use Rattle.bser_format.specs.Content.{Meaning}
use Rattle.bser_format.specs.EnumName.{kept_whole}
use Rattle.bser_format.specs.Enums.{Payload, unit, holds}
use Rattle.bser_format.specs.Expected.{WantedPairs, entries_of_object, fields_of_row}
use Rattle.bser_format.specs.ReadsScalars.{reads_unit}
use Rattle.bser_format.specs.declared.errors.Error.{Error}
use Rattle.bser_format.specs.declared.errors.name.EnumName.{EnumName}
use Rattle.bser_format.specs.DueReaders.{variant_due}
use Rattle.bser_format.specs.Asks.{Asks, Payloads, labels, payload, payload_asked, asks_unit}
use Rattle.bser_format.specs.TypeLaws.{PassVariants}
use Rattle.bser_source.specs.Device.{one_more}
use Rattle.bser_source.specs.Window.{Window}
use Rattle.bser_deserializer.specs.Access.{inside_pairs}
use Rattle.bser_deserializer.specs.Askings.{asking_unit}
use Rattle.bser_deserializer.specs.Parts.{pair_value}
use Rattle.bser_deserializer.specs.Reading.{Answers, Asking, NamesAsked, NamesBy, bare, Needs}
use Rattle.bser_deserializer.specs.State.{State}
use Rattle.bser_deserializer.proofs.Refusals.{names_bare, names_by_more}
use Rattle.bser_types.specs.Askings.{counted}
use Rattle.bser_structs.specs.VariantAskings.{PayloadAsking, VariantAskings, AskedInside, asked_inside, AllAsked, joined, all_asked, asking_kept, asking_enum}
use Rattle.bser_structs.specs.EnumNames.{NamesEnum}
use Rattle.bser_structs.specs.VariantNames.{NamesVariant}
use Rattle.bser_structs.specs.ReadVariants.{reads_place, HoldsPlace, LacksPayload, OpenVariant, OpensEntry, before_payload}
use Rattle.bser_structs.proofs.EnumNames.{variant_named, lacking_named, payload_named}
use Rattle.bser_structs.proofs.VariantNames.{payload_at, names_of}

-- ---- a payload at its place

-- a payload, and what it asks for
pub record AskedPayload : Type 0 where
  pub payload : Payload
  pub asks : PayloadAsking payload

-- this payload, which asks for this
abbrev pub asking : (p : Payload) → PayloadAsking p → AskedPayload
asking p a = record { payload = p; asks = a }

-- the payload of the variant at this place, and what it asks for
abbrev pub asked_at : ℕ → (ws : List (List ℕ × Payload)) → VariantAskings ws → Option AskedPayload
asked_at n [] qs = None
asked_at zero (w ∷ ws) qs = Some (asking w.1 qs.0)
asked_at (suc n) (w ∷ ws) qs = asked_at n ws qs.1

-- it is the payload there
pub asked_payload : (place : ℕ) (ws : List (List ℕ × Payload)) (qs : VariantAskings ws) (q : AskedPayload) → asked_at place ws qs ≡ Some q → payload_at place ws ≡ Some q.payload
asked_payload place [] qs q e = absurd cc
asked_payload zero (w ∷ ws) qs q e = ap (option_map (λ (a : AskedPayload). a.payload)) e
asked_payload (suc n) (w ∷ ws) qs q e = asked_payload n ws qs.1 q e

-- each payload there asks for something, or tells of no names
pub place_asked : (place : ℕ) (ws : List (List ℕ × Payload)) (qs : VariantAskings ws) (p : Payload) → payload_at place ws ≡ Some p → (q : AskedPayload) × (asked_at place ws qs ≡ Some q)
place_asked place [] qs p e = absurd cc
place_asked zero (w ∷ ws) qs p e = (asking w.1 qs.0, refl)
place_asked (suc n) (w ∷ ws) qs p e = place_asked n ws qs.1 p e

-- what is asked for inside, where it is told
abbrev inside_of : {p : Payload} → Option (AskedInside p) → Option Asks
inside_of None = None
inside_of (Some b) = b.asks

-- what all ask for, where they tell
abbrev asks_of : {ws : List (List ℕ × Payload)} → Option (AllAsked ws) → Payloads
asks_of None = []
asks_of (Some r) = r.asks

-- what all ask for has at this place what this payload asks for
record AskedThere (place : ℕ) (ws : List (List ℕ × Payload)) (r : AllAsked ws) (q : AskedPayload) : Type 0 where
  inside : AskedInside q.payload
  told : asked_inside q.payload q.asks ≡ Some inside
  there : payload place r.asks ≡ inside.asks

-- the same of one that is there
abbrev SomeThere : (place : ℕ) (ws : List (List ℕ × Payload)) → AllAsked ws → Option AskedPayload → Type 0
SomeThere place ws r None = ⊥
SomeThere place ws r (Some q) = AskedThere place ws r q

first_there : (w : List ℕ × Payload) (ws : List (List ℕ × Payload)) (a : PayloadAsking w.1) (r : AllAsked (w ∷ ws)) (b : Option (AskedInside w.1)) (m : Option (AllAsked ws)) → asked_inside w.1 a ≡ b → joined {w = w} {ws = ws} b m ≡ Some r
    → AskedThere 0 (w ∷ ws) r (asking w.1 a)
first_there w ws a r None m is all = absurd cc
first_there w ws a r (Some b) None is all = absurd cc
first_there w ws a r (Some b) (Some m) is all =
    record { inside = b; told = is; there = ap (λ (t : Option (AllAsked (w ∷ ws))). payload 0 (asks_of t)) (sym all) }

later_there : (w : List ℕ × Payload) (ws : List (List ℕ × Payload)) (place : ℕ) (q : AskedPayload) (r : AllAsked (w ∷ ws)) (b : Option (AskedInside w.1)) (m : Option (AllAsked ws)) → ((t : AllAsked ws) → m ≡ Some t → AskedThere place ws t q)
    → joined {w = w} {ws = ws} b m ≡ Some r → AskedThere (suc place) (w ∷ ws) r q
later_there w ws place q r None m others all = absurd cc
later_there w ws place q r (Some b) None others all = absurd cc
later_there w ws place q r (Some b) (Some m) others all =
    let h = others m refl in
    record { inside = h.inside; told = h.told; there = ap (λ (t : Option (AllAsked (w ∷ ws))). payload (suc place) (asks_of t)) (sym all) ∙ h.there }

asked_there : (place : ℕ) (ws : List (List ℕ × Payload)) (qs : VariantAskings ws) (r : AllAsked ws) (q : AskedPayload) → all_asked ws qs ≡ Some r → asked_at place ws qs ≡ Some q → AskedThere place ws r q
asked_there place [] qs r q all there = absurd cc
asked_there zero (w ∷ ws) qs r q all there =
    subst (SomeThere 0 (w ∷ ws) r) there (first_there w ws qs.0 r (asked_inside w.1 qs.0) (all_asked ws qs.1) refl all)
asked_there (suc n) (w ∷ ws) qs r q all there =
    later_there w ws n q r (asked_inside w.1 qs.0) (all_asked ws qs.1) (λ t is. asked_there n ws qs.1 t q is there) all

-- ---- the enum

-- variants that pass over what others read have their names
same_labels : (vs : Payloads) (ws : List (List ℕ × Payload)) → PassVariants vs ws → labels vs ≡ names_of ws
same_labels [] [] fit = refl
same_labels [] (w ∷ ws) fit = absurd fit
same_labels (v ∷ vs) [] fit = absurd fit
same_labels (v ∷ vs) (w ∷ ws) fit = ap (λ l. l ∷ labels vs) fit.0 ∙ ap (λ ls. w.0 ∷ ls) (same_labels vs ws fit.2)

-- the enum is to be named where its name is kept whole and all payloads tell
enum_named : (name : List ℕ) (ws : List (List ℕ × Payload)) (qs : VariantAskings ws) (needs : Needs) (e : Error) (s : State) → ((enum : EnumName) (r : AllAsked ws) → kept_whole name ≡ Some enum → all_asked ws qs ≡ Some r → NamesEnum needs enum r.asks e s)
    → NamesAsked needs (asking_enum name ws qs) e s
enum_named name ws qs needs e s tells = at (kept_whole name) (all_asked ws qs) refl refl
  where
    at : (k : Option EnumName) (q : Option (AllAsked ws)) → kept_whole name ≡ k → all_asked ws qs ≡ q → NamesAsked needs (asking_kept k q) e s
    at None q i j = tt
    at (Some enum) None i j = tt
    at (Some enum) (Some r) i j = tells enum r i j

-- a name that is refused
pub variant_asked : (name : List ℕ) (ws : List (List ℕ × Payload)) (qs : VariantAskings ws) (needs : Needs) (e : Error) (s : State) → NamesVariant name (names_of ws) e s → NamesAsked needs (asking_enum name ws qs) e s
variant_asked name ws qs needs e s (enum, keeps, named) = enum_named name ws qs needs e s told
  where
    told : (only : EnumName) (r : AllAsked ws) → kept_whole name ≡ Some only → all_asked ws qs ≡ Some r → NamesEnum needs only r.asks e s
    told only r i j =
        let whole : NamesBy bare (variant_due only s.opened s.levels (names_of ws) s.due) e s.source = subst (λ (n : EnumName). NamesBy bare (variant_due n s.opened s.levels (names_of ws) s.due) e s.source) (keeps.known only i) named in
        let labelled : NamesBy bare (variant_due only s.opened s.levels (labels r.asks) s.due) e s.source = subst (λ (ns : List (List ℕ)). NamesBy bare (variant_due only s.opened s.levels ns s.due) e s.source) (sym (same_labels r.asks ws r.passes)) whole in
        variant_named only r.asks needs e s (names_bare needs (variant_due only s.opened s.levels (labels r.asks) s.due) e s.source labelled)

-- a type that tells asks for something
some_inside : (T : Meaning) (t : Option (Asking T)) (b : AskedInside (holds T)) → asked_inside (holds T) t ≡ Some b → (A : Asks) × (b.asks ≡ Some A)
some_inside T None b is = absurd cc
some_inside T (Some t) b is = (counted t.asks, ap (λ (c : Option (AskedInside (holds T))). inside_of c) (sym is))

-- a name alone where there has to be a payload
pub lacking_asked : (name : List ℕ) (ws : List (List ℕ × Payload)) (qs : VariantAskings ws) (T : Meaning) (tells : Option (Asking T)) (needs : Needs) (e : Error) (o v z : State) (place : ℕ) → asked_at place ws qs ≡ Some (asking (holds T) tells)
    → Answers (reads_place (names_of ws)) HoldsPlace o v place → LacksPayload e v z → NamesAsked needs (asking_enum name ws qs) e o
lacking_asked name ws qs T tells needs e o v z place there a lacks = enum_named name ws qs needs e o told
  where
    told : (enum : EnumName) (r : AllAsked ws) → kept_whole name ≡ Some enum → all_asked ws qs ≡ Some r → NamesEnum needs enum r.asks e o
    told enum r i j =
        let b = asked_there place ws qs r (asking (holds T) tells) j there in
        let some = some_inside T tells b.inside b.told in
        let known : Answers (reads_place (labels r.asks)) HoldsPlace o v place = subst (λ (ns : List (List ℕ)). Answers (reads_place ns) HoldsPlace o v place) (sym (same_labels r.asks ws r.passes)) a in
        lacking_named enum r.asks some.0 needs e o v z place (b.there ∙ some.1) known lacks

-- ---- a payload that is refused

-- what a payload is read by
abbrev pub reading : Payload → Meaning
reading unit = reads_unit
reading (holds T) = T

-- what it tells of names
abbrev pub telling : (p : Payload) → PayloadAsking p → Option (Asking (reading p))
telling unit a = Some asking_unit
telling (holds T) a = a

-- null is asked for alike whatever is open
unit_same : (o p n : ℕ) (w : WantedPairs) (x : List ℕ) → asks_unit o n (pair_value w) x ≡ asks_unit p n (pair_value w) x
unit_same o p n (entries_of_object k) x = refl
unit_same o p n (fields_of_row ks) x = refl

-- what names it is what the enum asks for there
payload_told : (p : Payload) (a : PayloadAsking p) (b : AskedInside p) (needs : Needs) (e : Error) (opened : ℕ) (v : OpenVariant) (w : WantedPairs) → asked_inside p a ≡ Some b → v.payload ≡ pair_value w → v.state.opened ≡ one_more opened
    → NamesAsked needs (telling p a) e (before_payload v) → NamesBy needs (payload_asked b.asks (suc opened) v.state.levels v.payload) e v.state.source
payload_told unit a b needs e opened v w is due counts named =
    let n : ℕ = v.state.levels in
    subst (λ (P : Option Asks). NamesBy needs (payload_asked P (suc opened) n v.payload) e v.state.source) (ap (λ (c : Option (AskedInside unit)). inside_of c) is)
    (names_by_more needs (asks_unit (suc opened) n v.payload) (asks_unit v.state.opened n v.payload) e v.state.source
    (λ f x h. ap (λ d. asks_unit (suc opened) n d x) due ∙ unit_same (suc opened) v.state.opened n w x ∙ ap (λ d. asks_unit v.state.opened n d x) (sym due) ∙ h) named)
payload_told (holds T) None b needs e opened v w is due counts named = absurd cc
payload_told (holds T) (Some t) b needs e opened v w is due counts named =
    let n : ℕ = v.state.levels in
    subst (λ (P : Option Asks). NamesBy needs (payload_asked P (suc opened) n v.payload) e v.state.source) (ap (λ (c : Option (AskedInside (holds T))). inside_of c) is)
    (subst (λ (k : ℕ). NamesBy needs (t.asks k n v.payload) e v.state.source) counts named)

-- one more container is open inside
opened_inside : (w : WantedPairs) (o : State) (r : Window) → (inside_pairs w o r).opened ≡ one_more o.opened
opened_inside (entries_of_object k) o r = refl
opened_inside (fields_of_row ks) o r = refl

pub payload_named_so : (name : List ℕ) (ws : List (List ℕ × Payload)) (qs : VariantAskings ws) (p : Payload) (a : PayloadAsking p) (needs : Needs) (e : Error) (o : State) (v : OpenVariant) (place : ℕ) → asked_at place ws qs ≡ Some (asking p a)
    → OpensEntry (names_of ws) o v place → NamesAsked needs (telling p a) e (before_payload v) → NamesAsked needs (asking_enum name ws qs) e o
payload_named_so name ws qs p a needs e o v place there h named = enum_named name ws qs needs e o told
  where
    counts : v.state.opened ≡ one_more o.opened
    counts =
        ap (λ (s : State). s.opened) h.key.state ∙ ap (λ (s : State). s.opened) h.opens.state ∙ opened_inside h.inside.wanted o h.inside.state.source

    told : (enum : EnumName) (r : AllAsked ws) → kept_whole name ≡ Some enum → all_asked ws qs ≡ Some r → NamesEnum needs enum r.asks e o
    told enum r i j =
        let b = asked_there place ws qs r (asking p a) j there in
        let opens : OpensEntry (labels r.asks) o v place = subst (λ (ns : List (List ℕ)). OpensEntry ns o v place) (sym (same_labels r.asks ws r.passes)) h in
        let said = payload_told p a b.inside needs e o.opened v h.inside.wanted b.told h.payload counts named in
        payload_named enum r.asks needs e o v place opens (subst (λ (P : Option Asks). NamesBy needs (payload_asked P (suc o.opened) v.state.levels v.payload) e v.state.source) (sym b.there) said)
