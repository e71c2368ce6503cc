-- Steps of a walk leave what follows them.
use Rattle.std.proofs.Common.{◌≡◌, ℕ, suc, ◌+◌, ◌-◌, ◌<◌, ◌≤◌, List, [], ◌∷◌, ◌++◌, length, take, refl, sym, ap, subst, ◌∙◌, arith, length-append}
use Rattle.std.specs.Prelude.{Some}
use Rattle.std.proofs.lemmas.List.{take-append-le}
use Rattle.bser_format.specs.Named.{many, text_of, entry_of, field_of, with_text_keys}
use Rattle.bser_format.specs.declared.errors.Kind.TheVariants.{MapKey}
use Rattle.bser_events.specs.Takes.{Takes}
use Rattle.bser_events.proofs.Binds.{none_more, one_more}
use Rattle.bser_events.proofs.Begins.{value_field}
use Rattle.bser_serde_format.specs.declared.open.Form.{Form}
use Rattle.bser_serde_format.specs.declared.open.Form.TheVariants.{Array, Object, Rows, Row}
use Rattle.bser_serde_format.specs.declared.open.Open.{Open}
use Rattle.bser_serde_format.specs.declared.walk.Walk.{Walk}
use Rattle.bser_serde_format.specs.Left.{TakesOne, TakesValues, TakesMore, Leaves, IsSpent, LeavesAll, Remains, Steps}

-- ---- values

pub one_value : (f : Form) (n k : ℕ) (b c z : List ℕ) → TakesOne f n b c → TakesValues f n k c z → TakesValues f n (suc k) b z
one_value Array n k b c z h t = one_more (with_text_keys n) k b c z h t
one_value Object n k b c z h t = one_more (with_text_keys n) k b c z h t
one_value Rows n k b c z h t = one_more (field_of (with_text_keys n)) k b c z h t
one_value Row n k b c z h t = one_more (field_of (with_text_keys n)) k b c z h t

pub no_values : (f : Form) (n k : ℕ) (b : List ℕ) → k ≡ 0 → TakesValues f n k b b
no_values Array n k b none = none_more (with_text_keys n) k b none
no_values Object n k b none = none_more (with_text_keys n) k b none
no_values Rows n k b none = none_more (field_of (with_text_keys n)) k b none
no_values Row n k b none = none_more (field_of (with_text_keys n)) k b none

pub nothing_more : (f : Form) (n w k : ℕ) (b : List ℕ) → k ≡ 0 → TakesMore f n w k b b
nothing_more Array n w k b none = refl
nothing_more Object n w k b none = none_more (entry_of (text_of MapKey) (with_text_keys n)) k b none
nothing_more Rows n w k b none = none_more (many (field_of (with_text_keys n)) w) k b none
nothing_more Row n w k b none = none_more (many (field_of (with_text_keys n)) w) k b none

-- a value is a field of a row
pub any_one : (f : Form) (n : ℕ) (b z : List ℕ) → Takes (with_text_keys n) b z → TakesOne f n b z
any_one Array n b z t = t
any_one Object n b z t = t
any_one Rows n b z t = (Some t.0, value_field n b z t.0 t.1)
any_one Row n b z t = (Some t.0, value_field n b z t.0 t.1)

-- ---- the containers around

pub off_all : (os : List Open) (o : Open) (b z : List ℕ) → LeavesAll (os ++ o ∷ []) b z → (m : List ℕ) × Leaves o b m × LeavesAll os m z
off_all [] o b z l = (z, subst (λ k. Leaves o k z) (sym l.1) l.2, refl)
off_all (p ∷ os) o b z l = (let h = off_all os o b l.0 l.1 in (h.0, h.1, (l.0, h.2, l.2)))

pub onto_all : (os : List Open) (o : Open) (b m z : List ℕ) → Leaves o b m → LeavesAll os m z → LeavesAll (os ++ o ∷ []) b z
onto_all [] o b m z h l = (b, refl, subst (Leaves o b) l h)
onto_all (p ∷ os) o b m z h l = (l.0, onto_all os o b m l.0 h l.1, l.2)

-- ---- one container

-- a container of which nothing is left
pub none_left : (o : Open) (b : List ℕ) → IsSpent o → Leaves o b b
none_left o b spent =
    let left = spent.left in
    let held = spent.held in record {
      middle = b;
      values = no_values o.form o.levels (o.left + o.held) b (omega (arith, left, held));
      more = nothing_more o.form o.levels o.width o.more b spent.more;
    }

-- a value fewer
pub one_fewer : (o : Open) (k : ℕ) (b c z : List ℕ) → 0 < o.left → k ≡ o.left - 1 → TakesOne o.form o.levels b c → Leaves (record o { left = k }) c z → Leaves o b z
one_fewer o k b c z some is t l =
    let count : o.left + o.held ≡ suc (k + o.held) = omega arith in record {
      middle = l.middle;
      values = subst (λ j. TakesValues o.form o.levels j b l.middle) (sym count) (one_value o.form o.levels (k + o.held) b c l.middle t l.values);
      more = l.more;
    }

-- the values behind a key are those that were held
pub let_go : (o : Open) (b z : List ℕ) → o.left ≡ 0 → Leaves (record o { left = o.held; held = 0 }) b z → Leaves o b z
let_go o b z none l =
    let count : o.held + 0 ≡ o.left + o.held = omega arith in
    record { middle = l.middle; values = subst (λ j. TakesValues o.form o.levels j b l.middle) count l.values; more = l.more }

pub held_back : (o : Open) (b z : List ℕ) → o.held ≡ 0 → Leaves (record o { left = 0; held = o.left }) b z → Leaves o b z
held_back o b z none l =
    let count : 0 + o.left ≡ o.left + o.held = omega arith in
    record { middle = l.middle; values = subst (λ j. TakesValues o.form o.levels j b l.middle) count l.values; more = l.more }

-- ---- a walk

module _ (a : Walk) where
  -- a step inside the innermost container
  pub within_inner : (b : Walk) → b.floor ≡ a.floor → b.outer.items ≡ a.outer.items → ((z : List ℕ) → Leaves b.inner b.rest.now z → Leaves a.inner a.rest.now z) → Steps a b
  within_inner b floor outer on = record {
    onward = λ rest r. record { middle = r.middle; inside = on r.middle r.inside; around = subst (λ os. LeavesAll os r.middle rest) outer r.around };
    floors = record {
      same = floor;
      within = λ h. subst (λ os. a.floor ≤ length os) (sym outer) h;
      kept = λ h. ap (take a.floor) outer;
    };
  }

  -- a container was opened
  pub opens : (b : Walk) (o : Open) → b.floor ≡ a.floor → b.outer.items ≡ a.outer.items ++ o ∷ []
      → ((m z : List ℕ) → Leaves b.inner b.rest.now m → Leaves o m z → Leaves a.inner a.rest.now z) → Steps a b
  opens b o floor outer on = record {
    onward = λ rest r.
        (let h = off_all a.outer.items o r.middle rest (subst (λ os. LeavesAll os r.middle rest) outer r.around) in
        record { middle = h.0; inside = on r.middle h.0 r.inside h.1; around = h.2 });
    floors = record {
      same = floor;
      within = λ h. subst (λ os. a.floor ≤ length os) (sym outer) (longer a.outer.items h);
      kept = λ h. ap (take a.floor) outer ∙ take-append-le a.floor a.outer.items (o ∷ []) h;
    };
  }
    where
      longer : (os : List Open) → a.floor ≤ length os → a.floor ≤ length (os ++ o ∷ [])
      longer os h = omega (arith, length-append os (o ∷ []))

  -- one of which nothing is left was closed
  pub closes : (b : Walk) → b.floor ≡ a.floor → b.rest.now ≡ a.rest.now → a.outer.items ≡ b.outer.items ++ b.inner ∷ [] → a.floor ≤ length b.outer.items
      → Leaves a.inner a.rest.now a.rest.now → Steps a b
  closes b floor same outer low none = record {
    onward = λ rest r. record {
      middle = a.rest.now;
      inside = none;
      around = subst (λ os. LeavesAll os a.rest.now rest) (sym outer) (onto_all b.outer.items b.inner a.rest.now r.middle rest (subst (λ l. Leaves b.inner l r.middle) same r.inside) r.around);
    };
    floors = record {
      same = floor;
      within = λ h. low;
      kept = λ h. sym (ap (take a.floor) outer ∙ take-append-le a.floor b.outer.items (b.inner ∷ []) low);
    };
  }

-- one step after the other
pub then_steps : (a b c : Walk) → Steps a b → Steps b c → Steps a c
then_steps a b c p q = record {
  onward = λ rest r. p.onward rest (q.onward rest r);
  floors = record {
    same = q.floors.same ∙ p.floors.same;
    within = λ h. (let k : b.floor ≤ length b.outer.items = subst (λ n. n ≤ length b.outer.items) (sym p.floors.same) (p.floors.within h) in
        subst (λ n. n ≤ length c.outer.items) p.floors.same (q.floors.within k));
    kept = λ h. (let k : b.floor ≤ length b.outer.items = subst (λ n. n ≤ length b.outer.items) (sym p.floors.same) (p.floors.within h) in
        subst (λ n. take n c.outer.items ≡ take n b.outer.items) p.floors.same (q.floors.kept k) ∙ p.floors.kept h);
  };
}

-- what is done leaves nothing
pub nothing_remains : (w : Walk) → w.outer.items ≡ [] → IsSpent w.inner → Remains w w.rest.now
nothing_remains w outer spent = record {
  middle = w.rest.now;
  inside = none_left w.inner w.rest.now spent;
  around = subst (λ os. LeavesAll os w.rest.now w.rest.now) (sym outer) refl;
}
