-- What a builder shows after a step.
use Rattle.std.proofs.Common.{◌≡◌, inl, ℕ, List, [], ◌∷◌, ◌++◌, map, take, drop, reverse, Option, Some, refl, sym, ap, subst, ◌∙◌, arith}
use Rattle.std.proofs.lemmas.Option.{same_Some}
use Rattle.std.proofs.lemmas.List.{reverse-append}
use Rattle.std.specs.List.{AllZip, zip}
use Rattle.bser_format.specs.Tree.{Tree}
use Rattle.bser_format.specs.Normal.{last_entries}
use Rattle.bser_format.proofs.Least.{map_some, then_some}
use Rattle.bser_events.specs.Events as events
use Rattle.bser_events.specs.Events.{Event, TakesAll, none, more}
use Rattle.bser_value.specs.Made.{Open, whole, in_array, in_object, in_keys, in_rows, Stack, begun, built, inside, give, closed, make, makes}
use Rattle.bser_value.specs.Shows.{ShowsOpen, Shows, Turns, Takes, Builds}
use Rattle.bser_value.specs.ValueView.{tree_of}
use Rattle.bser_value.specs.declared.value.Value.{Value}
use Rattle.bser_value.specs.declared.building.Building.{Building}
use Rattle.bser_value.specs.declared.building.Building.TheVariants.{Whole, Array, Object, Template}
use Rattle.bser_value.specs.declared.builder.ValueBuilder.{ValueBuilder}
use Rattle.bser_value.proofs.Slots.{entries_none}

-- ---- the innermost

-- what is done to the innermost is done to all
pub inside_turns : (f : Open → Option Open) (old new : ValueBuilder) → new.around ≡ old.around → Turns ShowsOpen f old.inner new.inner → Turns Shows (λ s. inside (f s.inner) s.around) old new
inside_turns f old new kept turns s t shows e =
    map_some (λ i. record { inner = i; around = s.around }) (f s.inner) t e λ i made same.
    subst (Shows new) same (record {
      inner = turns s.inner i shows.inner made;
      around = subst (λ v. AllZip ShowsOpen (reverse v.items) s.around) (sym kept) shows.around;
    })

-- the rows of a template begin
begun_turns : (b : Building) → Turns ShowsOpen begun b b
begun_turns (Template t) (in_keys ks) o h e = subst (ShowsOpen (Template t)) (same_Some (in_rows ks [] [] ks) o e) (inl (record {
  keys = h.keys;
  rows = ap (map tree_of) h.rows;
  within = omega (arith, h.place);
  part = λ some. absurd (omega (arith, some, h.place));
  entries = sym (ap (λ n. last_entries (zip ks (map tree_of (take n t.fields.items)))) h.place ∙ entries_none ks);
  left = ap (λ n. drop n ks) (sym h.place);
}))
begun_turns (Template t) (in_rows ks ts es ls) o h e = absurd cc
begun_turns (Template t) (whole u) o h e = absurd h
begun_turns (Template t) (in_array ts) o h e = absurd h
begun_turns (Template t) (in_object es k) o h e = absurd h
begun_turns (Whole v) (in_keys ks) o h e = absurd h
begun_turns (Whole v) (whole u) o h e = absurd cc
begun_turns (Whole v) (in_array ts) o h e = absurd h
begun_turns (Whole v) (in_object es k) o h e = absurd h
begun_turns (Whole v) (in_rows ks ts es ls) o h e = absurd h
begun_turns (Array vs) (in_keys ks) o h e = absurd h
begun_turns (Array vs) (whole u) o h e = absurd h
begun_turns (Array vs) (in_array ts) o h e = absurd cc
begun_turns (Array vs) (in_object es k) o h e = absurd h
begun_turns (Array vs) (in_rows ks ts es ls) o h e = absurd h
begun_turns (Object m k) (in_keys ks) o h e = absurd h
begun_turns (Object m k) (whole u) o h e = absurd h
begun_turns (Object m k) (in_array ts) o h e = absurd h
begun_turns (Object m k) (in_object es l) o h e = absurd cc
begun_turns (Object m k) (in_rows ks ts es ls) o h e = absurd h

pub rows_begin : (n : ℕ) (b : ValueBuilder) → Takes b (events.open_rows n) b
rows_begin n b = inside_turns begun b b refl (begun_turns b.inner)

-- ---- containers

-- its value is put into the container around it
pub closed_turns : (old mid new : ValueBuilder) (v : Value) → old.around.items ≡ mid.around.items ++ mid.inner ∷ [] → Builds old.inner (Some v) → Turns Shows (give (tree_of v)) mid new
    → Turns Shows (λ s. closed s.inner s.around) old new
closed_turns old mid new v around builds turns s t shows e =
    go s.around (subst (λ bs. AllZip ShowsOpen bs s.around) (ap reverse around ∙ reverse-append mid.around.items (mid.inner ∷ [])) shows.around) e
  where
    go : (os : List Open) → AllZip ShowsOpen (mid.inner ∷ reverse mid.around.items) os → closed s.inner os ≡ Some t → Shows new t
    go [] h e = absurd h
    go (o ∷ os) h e = then_some (λ u. give u (record { inner = o; around = os })) (built s.inner) t e λ u made given.
        let same : tree_of v ≡ u = same_Some (tree_of v) u (builds s.inner u shows.inner made) in
        turns (record { inner = o; around = os }) t (record { inner = h.0; around = h.1 }) (ap (λ w. give w (record { inner = o; around = os })) same ∙ given)

-- ---- events

-- the value that is put in has this tree
pub gives_as : (v : Value) (t : Tree) (old new : ValueBuilder) → tree_of v ≡ t → Turns Shows (give (tree_of v)) old new → Turns Shows (give t) old new
gives_as v t old new same turns = subst (λ u. Turns Shows (give u) old new) same turns

-- an event that gives a value
pub value_taken : (v : Value) (t : Tree) (e f : Event) (old new : ValueBuilder) → tree_of v ≡ t → e ≡ f → ((s : Stack) → make f s ≡ give t s) → Turns Shows (give (tree_of v)) old new → Takes old e new
value_taken v t e f old new same told makes turns =
    subst (λ x. Takes old x new) (sym told) (λ s u shows h. turns s u shows (ap (λ w. give w s) same ∙ sym (makes s) ∙ h))

-- another event
pub event_taken : (e f : Event) (old new : ValueBuilder) → e ≡ f → Takes old f new → Takes old e new
event_taken e f old new told h = subst (λ x. Takes old x new) (sym told) h

-- ---- one event after the other

pub all_taken : (old : ValueBuilder) (es : List Event) (new : ValueBuilder) → TakesAll Takes old es new → (s t : Stack) → Shows old s → makes es s ≡ Some t → Shows new t
all_taken old [] new (none b) s t shows e = subst (Shows b) (same_Some s t e) shows
all_taken old (x ∷ es) new (more a b c y ys first rest) s t shows e =
    then_some (makes ys) (make y s) t e λ u made later. all_taken b ys c rest u t (first s u shows made) later
