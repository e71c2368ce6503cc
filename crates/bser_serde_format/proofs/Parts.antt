-- Entries and rows are gone past with their keys and fields.
use Rattle.std.proofs.Common.{◌≡◌, ℕ, zero, suc, ◌+◌, ◌-◌, ◌<◌, List, [], ◌∷◌, refl, sym, ap, subst, ◌∙◌, arith}
use Rattle.bser_format.specs.Named.{Reader, Answer, reads, refuses, give, and_then, ◌>>=◌, many, text_of, entry_of, field_of, value, with_text_keys}
use Rattle.bser_format.specs.declared.errors.Kind.TheVariants.{MapKey}
use Rattle.bser_events.specs.Takes.{Takes}
use Rattle.bser_events.proofs.Binds.{one_more}
use Rattle.bser_serde_format.specs.declared.open.Form.{Form}
use Rattle.bser_serde_format.specs.declared.open.Form.TheVariants.{Array, Object, Rows, Row}
use Rattle.bser_serde_format.specs.declared.open.Open.{Open}
use Rattle.bser_format.specs.Tree.{Tree}
use Rattle.bser_serde_format.specs.declared.walk.Walk.{Walk}
use Rattle.bser_serde_format.specs.Left.{TakesValues, TakesMore, Leaves, LeavesAll, Starts, Steps}
use Rattle.bser_serde_format.proofs.Onward.{no_values, within_inner}
use Rattle.bser_serde_format.proofs.Pieces.{entry_taken}
use Rattle.bser_serde_format.proofs.Rows.{parted, first_of}

-- one is one
pub only_one : {X : Type 0} (r : Reader X) (b z : List ℕ) → Takes (many r 1) b z → Takes r b z
only_one {X} r b z t = by_first (r b) refl t.1
  where
    by_first : (o : Answer X) → r b ≡ o → and_then (λ x. give [] >>= λ xs. give (x ∷ xs)) o ≡ reads t.0 z → Takes r b z
    by_first (refuses e) h q = absurd cc
    by_first (reads x c) h q = (let same : c ≡ z = cc in (x, h ∙ ap (reads x) same))

none_of : {X : Type 0} (r : Reader X) (k : ℕ) (b z : List ℕ) → k ≡ 0 → Takes (many r k) b z → b ≡ z
none_of r k b z none t = (let h = subst (λ j. Takes (many r j) b z) none t in nothing h.0 h.1)
  where
    nothing : {X : Type 0} (xs : List X) → Path (Answer (List X)) (reads [] b) (reads xs z) → b ≡ z
    nothing xs q = cc

-- none is nothing
pub none_is : (f : Form) (n k : ℕ) (b z : List ℕ) → k ≡ 0 → TakesValues f n k b z → b ≡ z
none_is Array n k b z none t = none_of (with_text_keys n) k b z none t
none_is Object n k b z none t = none_of (with_text_keys n) k b z none t
none_is Rows n k b z none t = none_of (field_of (with_text_keys n)) k b z none t
none_is Row n k b z none t = none_of (field_of (with_text_keys n)) k b z none t

-- an entry more
entry_more : (f : Form) (n w k : ℕ) (b c m z : List ℕ) → f ≡ Object → Takes (text_of MapKey) b c → TakesValues f n 1 c m → TakesMore f n w k m z → TakesMore f n w (suc k) b z
entry_more Array n w k b c m z is key value more = absurd cc
entry_more Object n w k b c m z is key value more =
    one_more (entry_of (text_of MapKey) (with_text_keys n)) k b m z (entry_taken n b c m key (only_one (with_text_keys n) c m value)) more
entry_more Rows n w k b c m z is key value more = absurd cc
entry_more Row n w k b c m z is key value more = absurd cc

-- a key was gone past, behind which its value comes
pub key_gone : (o : Open) (k : ℕ) (b c z : List ℕ) → o.form ≡ Object → o.left ≡ 0 → o.held ≡ 0 → 0 < o.more → k ≡ o.more - 1 → Takes (text_of MapKey) b c
    → Leaves (record o { left = 1; more = k }) c z → Leaves o b z
key_gone o k b c z is left held some less key l =
    let one : 1 + o.held ≡ 1 = omega (arith, held) in
    let count : suc k ≡ o.more = omega (arith, some, less) in record {
      middle = b;
      values = no_values o.form o.levels (o.left + o.held) b (omega (arith, left, held));
      more = subst (λ j. TakesMore o.form o.levels o.width j b z) count
          (entry_more o.form o.levels o.width k b c l.middle z is key (subst (λ j. TakesValues o.form o.levels j c l.middle) one l.values) l.more);
    }

-- a row begins
pub row_begun : (o : Open) (k w : ℕ) (b z : List ℕ) → o.form ≡ Rows → o.left ≡ 0 → 0 < o.more → k ≡ o.more - 1 → w ≡ o.width
    → Leaves (record o { form = Row; left = w; more = k }) b z → Leaves o b z
row_begun o k w b z is none some less width l =
    let r = field_of (with_text_keys o.levels) in
    let fields : Takes (many r (o.held + w)) b l.middle = subst (λ j. Takes (many r j) b l.middle) (omega arith) l.values in
    let p = parted r o.held w b l.middle fields in
    let rows : Takes (many (many r w) k) l.middle z = subst (λ j. Takes (many (many r j) k) l.middle z) (sym width) l.more in
    let more : Takes (many (many r w) (suc k)) p.rest z = one_more (many r w) k p.rest l.middle z p.others rows in
    let held : o.held ≡ o.left + o.held = omega (arith, none) in
    let count : suc k ≡ o.more = omega (arith, some, less) in
    as_rows o.form is (subst (λ j. Takes (many r j) b p.rest) held p.front) (subst (λ j. Takes (many (many r j) o.more) p.rest z) width (subst (λ j. Takes (many (many r w) j) p.rest z) count more))
  where
    as_rows : (f : Form) → f ≡ Rows → {m : List ℕ} → Takes (many (field_of (with_text_keys o.levels)) (o.left + o.held)) b m
        → Takes (many (many (field_of (with_text_keys o.levels)) o.width) o.more) m z → Leaves o b z
    as_rows f q {m} values more = record {
      middle = m;
      values = subst (λ j. TakesValues j o.levels (o.left + o.held) b m) (sym is) values;
      more = subst (λ j. TakesMore j o.levels o.width o.more m z) (sym is) more;
    }

-- a row ends
pub row_ended : (o : Open) (b z : List ℕ) → o.form ≡ Row → Leaves (record o { form = Rows }) b z → Leaves o b z
row_ended o b z is l = record {
  middle = l.middle;
  values = subst (λ f. TakesValues f o.levels (o.left + o.held) b l.middle) (sym is) l.values;
  more = subst (λ f. TakesMore f o.levels o.width o.more l.middle z) (sym is) l.more;
}

-- a row was gone past
pub row_gone : (o : Open) (k w : ℕ) (b c z : List ℕ) → o.form ≡ Rows → o.left ≡ 0 → o.held ≡ 0 → 0 < o.more → k ≡ o.more - 1 → w ≡ o.width
    → Takes (many (field_of (with_text_keys o.levels)) w) b c → Leaves (record o { more = k }) c z → Leaves o b z
row_gone o k w b c z is left held some less width t l =
    let r = field_of (with_text_keys o.levels) in
    let none : o.left + o.held ≡ 0 = omega (arith, left, held) in
    let same : c ≡ l.middle = none_is o.form o.levels (o.left + o.held) c l.middle none l.values in
    let rows : Takes (many (many r o.width) k) c z =
    subst (λ f. TakesMore f o.levels o.width k c z) is (subst (λ m. TakesMore o.form o.levels o.width k m z) (sym same) l.more) in
    let fields : Takes (many r o.width) b c = subst (λ j. Takes (many r j) b c) width t in
    let count : suc k ≡ o.more = omega (arith, some, less) in record {
      middle = b;
      values = no_values o.form o.levels (o.left + o.held) b none;
      more = subst (λ f. TakesMore f o.levels o.width o.more b z) (sym is)
          (subst (λ j. Takes (many (many r o.width) j) b z) count (one_more (many r o.width) k b c z fields rows));
    }

-- the value itself is the one item
pub starts : (n : ℕ) (bytes : List ℕ) (w : Walk) → w.floor ≡ 0 → w.rest.now ≡ bytes → w.outer.items ≡ [] → w.inner.form ≡ Array → w.inner.left ≡ 1 → w.inner.held ≡ 0
    → w.inner.levels ≡ n → Starts n bytes w
starts n bytes w floor rest outer form left held levels = record { floor = floor; value = λ z r. one z r.middle r.inside (subst (λ os. LeavesAll os r.middle z) outer r.around) }
  where
    one : (z m : List ℕ) → Leaves w.inner w.rest.now m → m ≡ z → Takes (with_text_keys n) bytes z
    one z m l same =
        let item : Takes (many (with_text_keys w.inner.levels) (w.inner.left + w.inner.held)) w.rest.now l.middle =
        subst (λ f. TakesValues f w.inner.levels (w.inner.left + w.inner.held) w.rest.now l.middle) form l.values in
        let count : w.inner.left + w.inner.held ≡ 1 = omega (arith, left, held) in
        let end : l.middle ≡ m = subst (λ f. TakesMore f w.inner.levels w.inner.width w.inner.more l.middle m) form l.more in
        let value = only_one (with_text_keys w.inner.levels) w.rest.now l.middle (subst (λ k. Takes (many (with_text_keys w.inner.levels) k) w.rest.now l.middle) count item) in
        subst (Takes (with_text_keys n) bytes) (end ∙ same) (subst (λ b. Takes (with_text_keys n) b l.middle) rest (subst (λ k. Takes (with_text_keys k) w.rest.now l.middle) levels value))

no_value : (n : ℕ) (x : Tree) (z : List ℕ) → with_text_keys n [] ≡ reads x z → ⊥
unfolding value
no_value zero x z h = absurd cc
no_value (suc n) x z h = absurd cc

-- a walk that stopped goes on nowhere
pub stopped : (a b : Walk) → b.floor ≡ a.floor → b.outer.items ≡ a.outer.items → b.inner.form ≡ Array → b.inner.left ≡ 1 → b.rest.now ≡ [] → Steps a b
stopped a b floor outer form left rest = within_inner a b floor outer (λ z l. absurd (never z l))
  where
    never : (z : List ℕ) → Leaves b.inner b.rest.now z → ⊥
    never z l =
        let count : b.inner.left + b.inner.held ≡ suc b.inner.held = omega (arith, left) in
        let items : Takes (many (with_text_keys b.inner.levels) (suc b.inner.held)) [] l.middle =
        subst (λ r. Takes (many (with_text_keys b.inner.levels) (suc b.inner.held)) r l.middle) rest
        (subst (λ k. Takes (many (with_text_keys b.inner.levels) k) b.rest.now l.middle) count
        (subst (λ f. TakesValues f b.inner.levels (b.inner.left + b.inner.held) b.rest.now l.middle) form l.values)) in
        let first = first_of (with_text_keys b.inner.levels) b.inner.held [] l.middle items in
        no_value b.inner.levels first.one.0 first.rest first.one.1

-- ---- what is left of a container that was just opened

pub array_leaves : (o : Open) (c z : List ℕ) → o.form ≡ Array → o.held ≡ 0 → Leaves o c z → Takes (many (with_text_keys o.levels) o.left) c z
array_leaves o c z form held l =
    let items : Takes (many (with_text_keys o.levels) (o.left + o.held)) c l.middle = subst (λ f. TakesValues f o.levels (o.left + o.held) c l.middle) form l.values in
    let end : l.middle ≡ z = subst (λ f. TakesMore f o.levels o.width o.more l.middle z) form l.more in
    let count : o.left + o.held ≡ o.left = omega (arith, held) in
    subst (Takes (many (with_text_keys o.levels) o.left) c) end (subst (λ k. Takes (many (with_text_keys o.levels) k) c l.middle) count items)

pub object_leaves : (o : Open) (c z : List ℕ) → o.form ≡ Object → o.left ≡ 0 → o.held ≡ 0 → Leaves o c z → Takes (many (entry_of (text_of MapKey) (with_text_keys o.levels)) o.more) c z
object_leaves o c z form left held l =
    let same : c ≡ l.middle = none_is o.form o.levels (o.left + o.held) c l.middle (omega (arith, left, held)) l.values in
    subst (λ m. Takes (many (entry_of (text_of MapKey) (with_text_keys o.levels)) o.more) m z) (sym same)
    (subst (λ f. TakesMore f o.levels o.width o.more l.middle z) form l.more)

pub rows_leave : (o : Open) (w : ℕ) (c z : List ℕ) → o.form ≡ Rows → o.left ≡ 0 → o.held ≡ 0 → w ≡ o.width → Leaves o c z
    → Takes (many (many (field_of (with_text_keys o.levels)) w) o.more) c z
rows_leave o w c z form left held width l =
    let same : c ≡ l.middle = none_is o.form o.levels (o.left + o.held) c l.middle (omega (arith, left, held)) l.values in
    subst (λ j. Takes (many (many (field_of (with_text_keys o.levels)) j) o.more) c z) (sym width)
    (subst (λ m. Takes (many (many (field_of (with_text_keys o.levels)) o.width) o.more) m z) (sym same)
    (subst (λ f. TakesMore f o.levels o.width o.more l.middle z) form l.more))
