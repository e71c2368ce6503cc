-- A walk stays on its value by its steps, and where it goes back.
use Rattle.std.proofs.Common.{◌≡◌, ℕ, zero, suc, ◌<◌, ◌≤◌, List, [], ◌∷◌, ◌++◌, length, take, get_or, refl, sym, ap, subst, ◌∙◌, arith}
use Rattle.std.specs.Prelude.{Option, Some, None}
use Rattle.std.proofs.lemmas.List.{take-take, take_all, length-take-le}
use Rattle.bser_format.specs.Named.{with_text_keys}
use Rattle.bser_events.specs.Takes.{Takes}
use Rattle.bser_serde_format.specs.declared.open.Open.{Open}
use Rattle.bser_serde_format.specs.declared.walk.Walk.{Walk}
use Rattle.bser_serde_format.specs.declared.marks.Saved.{Saved}
use Rattle.bser_serde_format.specs.Left.{LeavesIn, Remains, Starts, Steps}
use Rattle.bser_serde_format.specs.Kept.{IsPlace, Places, StaysOn, IsBodyOf, ValueBefore}

module _ (bytes : List ℕ) (n : ℕ) where
  -- a place, where the first containers around are the same
  pub same_place : (os ps : List Open) (s : Saved) (floor : ℕ) → s.outer ≤ floor → take floor ps ≡ take floor os → IsPlace bytes n os s → IsPlace bytes n ps s
  same_place os ps s floor within same h rest l =
      let front : take s.outer ps ≡ take s.outer os =
      sym (take-take s.outer floor ps within) ∙ ap (take s.outer) same ∙ take-take s.outer floor os within in
      h rest (subst (λ xs. LeavesIn s.inner xs s.rest.now rest) front l)

  -- the places keep no more containers open than the last one
  pub low_floor : (os : List Open) (low floor : ℕ) (ss : List Saved) → Places bytes n os low ss floor → low ≤ floor
  low_floor os low floor [] h = omega (arith, h)
  low_floor os low floor (s ∷ ss) h = (let k = low_floor os s.outer floor ss h.3 in let l = h.1 in omega (arith, k, l))

  pub same_places : (os ps : List Open) (low floor top : ℕ) (ss : List Saved) → floor ≤ top → take top ps ≡ take top os → Places bytes n os low ss floor → Places bytes n ps low ss floor
  same_places os ps low floor top [] within same h = h
  same_places os ps low floor top (s ∷ ss) within same h =
      let k = low_floor os s.outer floor ss h.3 in
      (h.0, h.1, same_place os ps s top (omega (arith, k, within)) same h.2, same_places os ps s.outer floor top ss within same h.3)

  -- one place more
  pub new_place : (os : List Open) (low floor : ℕ) (ss : List Saved) (s : Saved) → Places bytes n os low ss floor → s.floor ≡ floor → floor ≤ s.outer → IsPlace bytes n os s
      → Places bytes n os low (ss ++ s ∷ []) s.outer
  new_place os low floor [] s h is within p = (is ∙ h, subst (λ k. k ≤ s.outer) h within, p, refl)
  new_place os low floor (t ∷ ss) s h is within p = (h.0, h.1, h.2, new_place os t.outer floor ss s h.3 is within p)

  -- the places before one
  pub before_place : (os : List Open) (low floor i : ℕ) (ss : List Saved) (d : Saved) → i < length ss → Places bytes n os low ss floor
      → Places bytes n os low (take i ss) (get_or ss i d).floor
  before_place os low floor i [] d within h = absurd (omega (arith, within))
  before_place os low floor zero (s ∷ ss) d within h = h.0
  before_place os low floor (suc i) (s ∷ ss) d within h = (h.0, h.1, h.2, before_place os s.outer floor i ss d (omega (arith, within)) h.3)

  -- the places up to one
  pub up_to_place : (os : List Open) (low floor i : ℕ) (ss : List Saved) (d : Saved) → i < length ss → Places bytes n os low ss floor
      → Places bytes n os low (take (suc i) ss) (get_or ss i d).outer
  up_to_place os low floor i [] d within h = absurd (omega (arith, within))
  up_to_place os low floor zero (s ∷ ss) d within h = (h.0, h.1, h.2, refl)
  up_to_place os low floor (suc i) (s ∷ ss) d within h = (h.0, h.1, h.2, up_to_place os s.outer floor i ss d (omega (arith, within)) h.3)

  -- that place
  pub the_place : (os : List Open) (low floor i : ℕ) (ss : List Saved) (d : Saved) → i < length ss → Places bytes n os low ss floor
      → IsPlace bytes n os (get_or ss i d) × ((get_or ss i d).floor ≤ (get_or ss i d).outer) × ((get_or ss i d).outer ≤ floor)
  the_place os low floor i [] d within h = absurd (omega (arith, within))
  the_place os low floor zero (s ∷ ss) d within h = (h.2, subst (λ k. k ≤ s.outer) (sym h.0) h.1, low_floor os s.outer floor ss h.3)
  the_place os low floor (suc i) (s ∷ ss) d within h = the_place os s.outer floor i ss d (omega (arith, within)) h.3

-- by a step
pub on_steps : (o : Option (List ℕ)) (n : ℕ) (a b : Walk) (saved : List Saved) → Steps a b → StaysOn o n a saved → StaysOn o n b saved
on_steps None n a b saved s h = tt
on_steps (Some bytes) n a b saved s h =
    let same = s.floors.kept h.within in
    let floor = s.floors.same in record {
      value = λ rest r. h.value rest (s.onward rest r);
      within = subst (λ f. f ≤ length b.outer.items) (sym floor) (s.floors.within h.within);
      places = subst (Places bytes n b.outer.items 0 saved) (sym floor) (same_places bytes n a.outer.items b.outer.items 0 a.floor a.floor saved (omega arith) same h.places);
    }

-- from its beginning
pub starts_on : (o : Option (List ℕ)) (n levels : ℕ) (bytes : List ℕ) (w : Walk) → IsBodyOf o n bytes levels → Starts levels bytes w → StaysOn o n w []
starts_on None n levels bytes w is s = tt
starts_on (Some b) n levels bytes w is s =
    let floor = s.floor in record {
      value = λ rest r. subst (λ k. Takes (with_text_keys k) b rest) (sym is.1) (subst (λ x. Takes (with_text_keys levels) x rest) (sym is.0) (s.value rest r));
      within = omega (arith, floor);
      places = floor;
    }

-- a walk that is done has read a value
pub value_before : (o : Option (List ℕ)) (n : ℕ) (w : Walk) (saved : List Saved) → StaysOn o n w saved → Remains w w.rest.now → ValueBefore o n (length w.rest.now)
value_before None n w saved h r = tt
value_before (Some bytes) n w saved h r = (w.rest.now, h.value w.rest.now r, refl)

-- with one place more, what is open there is kept open
pub marks_on : (o : Option (List ℕ)) (n : ℕ) (a b : Walk) (saved : List Saved) (s : Saved) → s.rest.now ≡ a.rest.now → s.inner ≡ a.inner → s.outer ≡ length a.outer.items → s.floor ≡ a.floor
    → b.rest.now ≡ a.rest.now → b.inner ≡ a.inner → b.outer.items ≡ a.outer.items → b.floor ≡ length a.outer.items → StaysOn o n a saved → StaysOn o n b (saved ++ s ∷ [])
marks_on None n a b saved s rest inner outer floor rest2 inner2 outer2 floor2 h = tt
marks_on (Some bytes) n a b saved s rest inner outer floor rest2 inner2 outer2 floor2 h =
    let on : (z : List ℕ) → LeavesIn a.inner a.outer.items a.rest.now z → Takes (with_text_keys n) bytes z = h.value in
    let within = h.within in
    let whole : take s.outer a.outer.items ≡ a.outer.items = take_all s.outer a.outer.items (omega (arith, outer)) in
    let place : IsPlace bytes n a.outer.items s = λ z l. on z
    (subst (λ i. LeavesIn i a.outer.items a.rest.now z) inner
    (subst (λ os. LeavesIn s.inner os a.rest.now z) whole (subst (λ r. LeavesIn s.inner (take s.outer a.outer.items) r z) rest l))) in
    let more : Places bytes n a.outer.items 0 (saved ++ s ∷ []) s.outer = new_place bytes n a.outer.items 0 a.floor saved s h.places floor (omega (arith, within, outer)) place in
    record {
      value = λ z r. on z
          (subst (λ i. LeavesIn i a.outer.items a.rest.now z) inner2
          (subst (λ os. LeavesIn b.inner os a.rest.now z) outer2 (subst (λ x. LeavesIn b.inner b.outer.items x z) rest2 r)));
      within = omega (arith, floor2, ap length outer2);
      places = subst (λ os. Places bytes n os 0 (saved ++ s ∷ []) b.floor) (sym outer2)
          (subst (Places bytes n a.outer.items 0 (saved ++ s ∷ [])) (outer ∙ sym floor2) more);
    }

-- back at a place
pub back_on : (o : Option (List ℕ)) (n i : ℕ) (a b : Walk) (saved : List Saved) (s : Saved) → i < length saved → get_or saved i s ≡ s → b.rest.now ≡ s.rest.now → b.inner ≡ s.inner
    → b.outer.items ≡ take s.outer a.outer.items → b.floor ≡ s.outer → StaysOn o n a saved → StaysOn o n b (take (suc i) saved)
back_on None n i a b saved s at is rest inner outer floor h = tt
back_on (Some bytes) n i a b saved s at is rest inner outer floor h =
    let the = the_place bytes n a.outer.items 0 a.floor i saved s at h.places in
    let place : IsPlace bytes n a.outer.items s = subst (IsPlace bytes n a.outer.items) is the.0 in
    let low : s.outer ≤ a.floor = subst (λ p. p.outer ≤ a.floor) is the.2 in
    let within = h.within in
    let long : length (take s.outer a.outer.items) ≡ s.outer = length-take-le s.outer a.outer.items (omega (arith, low, within)) in
    let front : take s.outer b.outer.items ≡ take s.outer a.outer.items = ap (take s.outer) outer ∙ take-take s.outer s.outer a.outer.items (omega arith) in
    let ups : Places bytes n a.outer.items 0 (take (suc i) saved) s.outer =
    subst (λ p. Places bytes n a.outer.items 0 (take (suc i) saved) p.outer) is (up_to_place bytes n a.outer.items 0 a.floor i saved s at h.places) in
    record {
      value = λ z r. place z
          (subst (λ x. LeavesIn s.inner (take s.outer a.outer.items) x z) rest
          (subst (λ os. LeavesIn s.inner os b.rest.now z) outer (subst (λ k. LeavesIn k b.outer.items b.rest.now z) inner r)));
      within = omega (arith, floor, ap length outer, long);
      places = subst (Places bytes n b.outer.items 0 (take (suc i) saved)) (sym floor)
          (same_places bytes n a.outer.items b.outer.items 0 s.outer s.outer (take (suc i) saved) (omega arith) front ups);
    }

-- without a place and those after it
pub drops_on : (o : Option (List ℕ)) (n i : ℕ) (a b : Walk) (saved : List Saved) (s : Saved) → i < length saved → get_or saved i s ≡ s → b.rest.now ≡ a.rest.now → b.inner ≡ a.inner
    → b.outer.items ≡ a.outer.items → b.floor ≡ s.floor → StaysOn o n a saved → StaysOn o n b (take i saved)
drops_on None n i a b saved s at is rest inner outer floor h = tt
drops_on (Some bytes) n i a b saved s at is rest inner outer floor h =
    let the = the_place bytes n a.outer.items 0 a.floor i saved s at h.places in
    let low : s.floor ≤ s.outer = subst (λ p. p.floor ≤ p.outer) is the.1 in
    let high : s.outer ≤ a.floor = subst (λ p. p.outer ≤ a.floor) is the.2 in
    let within = h.within in
    let befores : Places bytes n a.outer.items 0 (take i saved) s.floor =
    subst (λ p. Places bytes n a.outer.items 0 (take i saved) p.floor) is (before_place bytes n a.outer.items 0 a.floor i saved s at h.places) in
    record {
      value = λ z r. h.value z
          (subst (λ k. LeavesIn k a.outer.items a.rest.now z) inner
          (subst (λ os. LeavesIn b.inner os a.rest.now z) outer (subst (λ x. LeavesIn b.inner b.outer.items x z) rest r)));
      within = omega (arith, floor, low, high, within, ap length outer);
      places = subst (λ os. Places bytes n os 0 (take i saved) b.floor) (sym outer) (subst (Places bytes n a.outer.items 0 (take i saved)) (sym floor) befores);
    }
