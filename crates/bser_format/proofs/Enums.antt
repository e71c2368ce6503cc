-- What enums read, reading them passes over.
use Rattle.std.proofs.Common.{◌≡◌, ℕ, zero, suc, ◌+◌, Bool, true, false, cond, List, [], ◌∷◌, ◌++◌, length, Option, Some, None, option_and_then, bytes_eq, nat_eq, append_assoc, refl, sym, ap, subst, ◌∙◌, inl, inr, arith}
use Rattle.std.proofs.lemmas.Option.{some_pair_parts}
use Rattle.std.specs.Str.{is_utf8}
use Rattle.bser_format.specs.Tree.{Tree, null, boolean, integer, real, bytes, text, array, object, template, no_entries, entry, Fields, no_fields, skip, field, fields}
use Rattle.bser_format.specs.Expand.{expand, expand_fields, key_tree}
use Rattle.bser_format.specs.Grammar.{Bytes, Each, Spells, SpellsCount, SpellsString, SpellsEntry, SpellsField, ◌then◌}
use Rattle.bser_format.specs.Content.{Content, variant}
use Rattle.bser_format.specs.ReadsScalars.{reads_unit}
use Rattle.bser_format.specs.Enums.{Payload, unit, holds, named, by_name, by_entry, reads_enum}
use Rattle.bser_format.specs.Expected.{Due, Fills, nothing_due, node_due, key_due, field_due, name_due, row_due}
use Rattle.bser_format.specs.declared.errors.Kind.TheVariants.{MapKey}
use Rattle.bser_format.specs.declared.errors.name.EnumName.{EnumName}
use Rattle.bser_format.specs.declared.errors.Complaint.TheVariants.{EnumObjectEntries}
use Rattle.bser_format.proofs.Fronts.{string_reads, utf8_reads, string_of_reads, kept}
use Rattle.bser_format.proofs.Sound.{only}
use Rattle.bser_format.specs.Named.{reads, Reader, give, and_then, ◌>>=◌, next, count, utf8, text_of, refuse, complain}
use Rattle.bser_format.specs.DueReaders.{value_tag, less_one, place_from, variant_after}
use Rattle.bser_format.specs.Asks.{Asks, Payloads, labels, payload, alone, payload_asked, is_object, asks_enum}
use Rattle.bser_format.specs.TypeLaws.{Passes, PassPayload, PassVariants}
use Rattle.bser_format.proofs.Steps as steps
use Rattle.bser_format.proofs.Steps.{front_leaves}
use Rattle.bser_format.proofs.Heads.{count_passes}
use Rattle.bser_format.proofs.Scalars.{unit_passes}
use Rattle.bser_format.proofs.Options.{mapped, chained, when_some}

-- ---- variants

-- the place of a variant, counted from i, and its payload
chosen : (i : ℕ) (vs : Payloads) (ws : List (List ℕ × Payload)) → PassVariants vs ws → (s : List ℕ) (q : ℕ × Payload) → named i s ws ≡ Some q
    → (k : ℕ) × ((y : List ℕ) → place_from i (labels vs) s y ≡ reads (i + k) y) × PassPayload (payload k vs) q.1
chosen i [] [] fit s q e = absurd cc
chosen i [] (w ∷ ws) fit s q e = absurd fit
chosen i (v ∷ vs) [] fit s q e = absurd fit
chosen i (v ∷ vs) (w ∷ ws) fit s q e = go (bytes_eq w.0 s) refl e (λ f. chosen (suc i) vs ws fit.2 s q f)
  where
    go : (c : Bool) → bytes_eq w.0 s ≡ c → cond c (Some (i, w.1)) (named (suc i) s ws) ≡ Some q
        → (named (suc i) s ws ≡ Some q → (k : ℕ) × ((y : List ℕ) → place_from (suc i) (labels vs) s y ≡ reads (suc i + k) y) × PassPayload (payload k vs) q.1)
        → (k : ℕ) × ((y : List ℕ) → place_from i (labels (v ∷ vs)) s y ≡ reads (i + k) y) × PassPayload (payload k (v ∷ vs)) q.1
    go true h e later =
        let same : i ≡ i + 0 = omega arith in
        (0, λ y. ap (λ z. cond z (give i) (place_from (suc i) (labels vs) s) y) (ap (λ l. bytes_eq l s) fit.0 ∙ h) ∙ ap (λ j. reads j y) same, subst (PassPayload v.1) (some_pair_parts i q.0 w.1 q.1 e).1 fit.1)
    go false h e later =
        let t = later e in
        let same : suc i + t.0 ≡ i + suc t.0 = omega arith in
        (suc t.0, λ y. ap (λ z. cond z (give i) (place_from (suc i) (labels vs) s) y) (ap (λ l. bytes_eq l s) fit.0 ∙ h) ∙ t.1 y ∙ ap (λ j. reads j y) same, t.2)

alone_passes : (P : Option Asks) (q : ℕ × Payload) (c : Content) → PassPayload P q.1 → by_name q ≡ Some c → (y : List ℕ) → alone P y ≡ reads tt y
alone_passes None (i, unit) c fit e y = refl
alone_passes None (i, holds T) c fit e y = absurd fit
alone_passes (Some A) (i, unit) c fit e y = absurd fit
alone_passes (Some A) (i, holds T) c fit e y = absurd cc

payload_passes : (P : Option Asks) (t : Tree) (q : ℕ × Payload) (c : Content) → PassPayload P q.1 → by_entry t q ≡ Some c → (o n : ℕ) (d : Due) (b x : List ℕ) → Fills n d t b → payload_asked P o n d (b ++ x) ≡ reads tt x
payload_passes None t (i, unit) c fit e o n d b x f = let w = mapped (variant i) (reads_unit t) c e in unit_passes o n d t w.0 b x f w.1
payload_passes None t (i, holds T) c fit e o n d b x f = absurd fit
payload_passes (Some A) t (i, unit) c fit e o n d b x f = absurd fit
payload_passes (Some A) t (i, holds T) c fit e o n d b x f = let w = mapped (variant i) (T t) c e in fit o n d t w.0 b x f w.1

-- a name alone
abbrev Named : List (List ℕ × Payload) → List ℕ → Content → Type 0
Named ws s c = option_and_then by_name (named 0 s ws) ≡ Some c

-- a name with a payload
abbrev Entered : List (List ℕ × Payload) → List ℕ → Tree → Content → Type 0
Entered ws s t c = option_and_then (by_entry t) (named 0 s ws) ≡ Some c

name_passes : (vs : Payloads) (ws : List (List ℕ × Payload)) → PassVariants vs ws → (s y : List ℕ) (c : Content) → Named ws s c → and_then (λ i. alone (payload i vs)) (place_from 0 (labels vs) s y) ≡ reads tt y
name_passes vs ws fit s y c e =
    let w = chained by_name (named 0 s ws) c e in
    let k = chosen 0 vs ws fit s w.0 w.1 in
    let same : 0 + k.0 ≡ k.0 = omega arith in
    ap (and_then (λ i. alone (payload i vs))) (k.1 y ∙ ap (λ j. reads j y) same) ∙ alone_passes (payload k.0 vs) w.0 c k.2 w.2 y

entry_passes : (vs : Payloads) (ws : List (List ℕ × Payload)) → PassVariants vs ws → (s : List ℕ) (t : Tree) (c : Content) → Entered ws s t c → (o n : ℕ) (d : Due) (b x : List ℕ) → Fills n d t b
    → and_then (λ i. payload_asked (payload i vs) o n d) (place_from 0 (labels vs) s (b ++ x)) ≡ reads tt x
entry_passes vs ws fit s t c e o n d b x f =
    let w = chained (by_entry t) (named 0 s ws) c e in
    let k = chosen 0 vs ws fit s w.0 w.1 in
    let same : 0 + k.0 ≡ k.0 = omega arith in
    ap (and_then (λ i. payload_asked (payload i vs) o n d)) (k.1 (b ++ x) ∙ ap (λ j. reads j (b ++ x)) same) ∙ payload_passes (payload k.0 vs) t w.0 c k.2 w.2 o n d b x f

-- ---- values

-- a key that is UTF-8
pub key_there : (s b : List ℕ) → is_utf8 s ≡ true → SpellsString s b → steps.Passes (text_of MapKey) s b
key_there s b u h x = ap (and_then utf8) (string_of_reads MapKey s b x h) ∙ kept s x u

-- an enum, after a look at what stands there
abbrev after_look : Bool → EnumName → Payloads → ℕ → ℕ → Reader Unit
after_look skips enum vs o n b =
    cond (is_object (and_then (value_tag skips) (next b))) (next >>= variant_after enum n (labels vs) >>= λ i. payload_asked (payload i vs) (suc o) (less_one n) node_due)
    (next >>= variant_after enum n (labels vs) >>= λ i. alone (payload i vs)) b

text_alone : (skips : Bool) (enum : EnumName) (vs : Payloads) (ws : List (List ℕ × Payload)) → PassVariants vs ws → (o n : ℕ) (s b x : List ℕ) (c : Content) → Spells n (text s) b → Named ws s c → after_look skips enum vs o n (b ++ x) ≡ reads tt x
text_alone skips enum vs ws fit o n s b x c h e =
    ap (λ l. after_look skips enum vs o n (l ++ x)) (h.whole ∙ ap (λ l. l ++ h.rest) h.first)
    ∙ ap (λ a. and_then (λ i. alone (payload i vs)) (and_then (place_from 0 (labels vs)) a)) (utf8_reads s h.rest x h.second) ∙ name_passes vs ws fit s x c e

bytes_alone : (skips : Bool) (enum : EnumName) (vs : Payloads) (ws : List (List ℕ × Payload)) → PassVariants vs ws → (o n : ℕ) (s b x : List ℕ) (c : Content) → is_utf8 s ≡ true → Spells n (bytes s) b → Named ws s c → after_look skips enum vs o n (b ++ x) ≡ reads tt x
bytes_alone skips enum vs ws fit o n s b x c u h e =
    ap (λ l. after_look skips enum vs o n (l ++ x)) (h.whole ∙ ap (λ l. l ++ h.rest) h.first)
    ∙ ap (λ a. and_then (λ i. alone (payload i vs)) (and_then (place_from 0 (labels vs)) a)) (ap (and_then utf8) (string_reads s h.rest x h.second) ∙ kept s x u) ∙ name_passes vs ws fit s x c e

-- an object of one entry
entry_there : (skips : Bool) (enum : EnumName) (vs : Payloads) (ws : List (List ℕ × Payload)) → PassVariants vs ws → (o n : ℕ) (k : List ℕ) (t : Tree) (b x : List ℕ) (c : Content) → is_utf8 k ≡ true
    → Spells (suc n) (object (entry k t no_entries)) b → Entered ws k (expand t) c → after_look skips enum vs o (suc n) (b ++ x) ≡ reads tt x
entry_there skips enum vs ws fit o n k t b x c u h e =
    let one = front_leaves count 1 (SpellsCount 1) (Each (SpellsEntry (Spells n)) ((k, t) ∷ [])) h.rest (count_passes 1) h.second in
    let pair : (SpellsString k then Spells n t) one.rest = only (SpellsString k then Spells n t) (Bytes []) one.rest one.form one.form.second in
    let split : one.rest ++ x ≡ pair.front ++ (pair.rest ++ x) = ap (λ l. l ++ x) pair.whole ∙ append_assoc pair.front pair.rest x in
    ap (λ l. after_look skips enum vs o (suc n) (l ++ x)) (h.whole ∙ ap (λ l. l ++ h.rest) h.first)
    ∙ ap (λ a. and_then (λ i. payload_asked (payload i vs) (suc o) n node_due) (and_then (λ m. cond (nat_eq m 1) (text_of MapKey) (refuse (complain EnumObjectEntries)) >>= place_from 0 (labels vs)) a)) (one.taken x)
    ∙ ap (λ l. and_then (λ i. payload_asked (payload i vs) (suc o) n node_due) (and_then (place_from 0 (labels vs)) (text_of MapKey l))) split
    ∙ ap (λ a. and_then (λ i. payload_asked (payload i vs) (suc o) n node_due) (and_then (place_from 0 (labels vs)) a)) (key_there k pair.front u pair.first (pair.rest ++ x))
    ∙ entry_passes vs ws fit k (expand t) c e (suc o) n node_due pair.rest x (record { tree = t; stands = refl; spelled = pair.second })

enum_node : (skips : Bool) (enum : EnumName) (vs : Payloads) (ws : List (List ℕ × Payload)) → PassVariants vs ws → (o n : ℕ) (t : Tree) (b x : List ℕ) (c : Content) → Spells n t b → reads_enum ws (expand t) ≡ Some c
    → after_look skips enum vs o n (b ++ x) ≡ reads tt x
enum_node skips enum vs ws fit o n (text s) b x c h r = text_alone skips enum vs ws fit o n s b x c h r
enum_node skips enum vs ws fit o n (bytes s) b x c h r = let w = when_some (is_utf8 s) _ c r in bytes_alone skips enum vs ws fit o n s b x c w.0 h w.1
enum_node skips enum vs ws fit o (suc n) (object (entry k t no_entries)) b x c h r = let w = when_some (is_utf8 k) _ c r in entry_there skips enum vs ws fit o n k t b x c w.0 h w.1
enum_node skips enum vs ws fit o zero (object (entry k t no_entries)) b x c h r = absurd h
enum_node skips enum vs ws fit o n (object (entry k t (entry l u es))) b x c h r = absurd cc
enum_node skips enum vs ws fit o n (object no_entries) b x c h r = absurd cc
enum_node skips enum vs ws fit o n null b x c h r = absurd cc
enum_node skips enum vs ws fit o n (boolean v) b x c h r = absurd cc
enum_node skips enum vs ws fit o n (integer v) b x c h r = absurd cc
enum_node skips enum vs ws fit o n (real v) b x c h r = absurd cc
enum_node skips enum vs ws fit o n (array ts) b x c h r = absurd cc
enum_node skips enum vs ws fit o n (template ks rs) b x c h r = absurd cc

-- a key's name
key_named : (ws : List (List ℕ × Payload)) (s : List ℕ) (c : Content) → reads_enum ws (key_tree s) ≡ Some c → (is_utf8 s ≡ true) × Named ws s c
key_named ws s c = go (is_utf8 s) refl
  where
    go : (b : Bool) → is_utf8 s ≡ b → reads_enum ws (cond b (text s) (bytes s)) ≡ Some c → (is_utf8 s ≡ true) × Named ws s c
    go true u e = (u, e)
    go false u e = when_some (is_utf8 s) _ c e

-- a row of one field
row_entered : (enum : EnumName) (vs : Payloads) (ws : List (List ℕ × Payload)) → PassVariants vs ws → (o n : ℕ) (ks : List (List ℕ)) (fs : Fields) (b x : List ℕ) (c : Content) → length (fields fs) ≡ length ks
    → Each (SpellsField (Spells n)) (fields fs) b → reads_enum ws (object (expand_fields ks fs)) ≡ Some c → asks_enum enum vs o n (row_due ks) (b ++ x) ≡ reads tt x
row_entered enum vs ws fit o n [] fs b x c even h r = absurd cc
row_entered enum vs ws fit o n (k ∷ ks) no_fields b x c even h r = absurd cc
row_entered enum vs ws fit o n (k ∷ []) (skip no_fields) b x c even h r =
    let w = when_some (is_utf8 k) _ c r in
    entry_passes vs ws fit k null c w.1 (suc o) n field_due b x (inl (refl, only (Bytes (0x0c ∷ [])) (Bytes []) b h h.second))
row_entered enum vs ws fit o n (k ∷ []) (field t no_fields) b x c even h r =
    let w = when_some (is_utf8 k) _ c r in
    entry_passes vs ws fit k (expand t) c w.1 (suc o) n field_due b x (inr (record { tree = t; stands = refl; spelled = only (Spells n t) (Bytes []) b h h.second }))
row_entered enum vs ws fit o n (k ∷ []) (skip (skip fs)) b x c even h r = absurd cc
row_entered enum vs ws fit o n (k ∷ []) (skip (field t fs)) b x c even h r = absurd cc
row_entered enum vs ws fit o n (k ∷ []) (field t (skip fs)) b x c even h r = absurd cc
row_entered enum vs ws fit o n (k ∷ []) (field t (field u fs)) b x c even h r = absurd cc
row_entered enum vs ws fit o n (k ∷ l ∷ ks) (skip no_fields) b x c even h r = absurd cc
row_entered enum vs ws fit o n (k ∷ l ∷ ks) (field t no_fields) b x c even h r = absurd cc
row_entered enum vs ws fit o n (k ∷ l ∷ ks) (skip (skip fs)) b x c even h r = absurd cc
row_entered enum vs ws fit o n (k ∷ l ∷ ks) (skip (field t fs)) b x c even h r = absurd cc
row_entered enum vs ws fit o n (k ∷ l ∷ ks) (field t (skip fs)) b x c even h r = absurd cc
row_entered enum vs ws fit o n (k ∷ l ∷ ks) (field t (field u fs)) b x c even h r = absurd cc

pub enum_passes : (enum : EnumName) (vs : Payloads) (ws : List (List ℕ × Payload)) → PassVariants vs ws → Passes (asks_enum enum vs) (reads_enum ws)
enum_passes enum vs ws fit o n nothing_due u c b x f r = absurd f
enum_passes enum vs ws fit o n node_due u c b x f r = enum_node false enum vs ws fit o n f.tree b x c f.spelled (ap (reads_enum ws) (sym f.stands) ∙ r)
enum_passes enum vs ws fit o n field_due u c b x (inl f) r = absurd (let k = ap (reads_enum ws) (sym f.0) ∙ r in cc)
enum_passes enum vs ws fit o n field_due u c b x (inr f) r = enum_node true enum vs ws fit o n f.tree b x c f.spelled (ap (reads_enum ws) (sym f.stands) ∙ r)
enum_passes enum vs ws fit o n key_due u c b x f r =
    let w = key_named ws f.key c (ap (reads_enum ws) (sym f.stands) ∙ r) in
    ap (λ a. and_then (λ i. alone (payload i vs)) (and_then (place_from 0 (labels vs)) a)) (key_there f.key b w.0 f.spelled x) ∙ name_passes vs ws fit f.key x c w.1
enum_passes enum vs ws fit o n (name_due s) u c b x f r =
    let w = key_named ws s c (ap (reads_enum ws) (sym f.0) ∙ r) in
    ap (λ l. asks_enum enum vs o n (name_due s) (l ++ x)) f.1 ∙ name_passes vs ws fit s x c w.1
enum_passes enum vs ws fit o n (row_due ks) u c b x f r = row_entered enum vs ws fit o n ks f.row b x c f.even f.spelled (ap (reads_enum ws) (sym f.stands) ∙ r)
