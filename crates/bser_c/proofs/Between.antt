-- Events that are taken from one place to another, and on from there.
use Rattle.std.proofs.Common.{◌≡◌, ◌≤◌, ◌<◌, ◌+◌, ◌-◌, ◌^◌, ℕ, suc, Bool, List, [], ◌∷◌, ◌++◌, length, take, drop, get_or, take-add, length-append, length-drop, length-take-le, append-nil, append_assoc, refl, sym, ap, subst, ◌∙◌, arith}
use Rattle.std.proofs.Math.Seq.{drop-cons}
use Rattle.std.proofs.lemmas.List.{take-append-drop, drop-drop}
use Rattle.bser_format.specs.Named.{Reader, give, and_then, ◌>>=◌, many}
use Rattle.bser_events.specs.Events.{Event}
use Rattle.bser_events.specs.Places.{Marked, TakesIn, counted, more, none, place_at}
use Rattle.bser_events.specs.declared.event.Place.{Place}
use Rattle.bser_c.specs.Direct.{Tells, between}

-- ---- bytes

-- what lies behind a place that is so many bytes further on
pub further : (at to : ℕ) (bytes : List ℕ) → at ≤ to → drop (to - at) (drop at bytes) ≡ drop to bytes
further at to bytes forwards =
    let there : at + (to - at) ≡ to = omega (arith, forwards) in
    drop-drop (to - at) at bytes ∙ ap (λ k. drop k bytes) there

-- the bytes from a place on are those up to another, and those from there on
pub parted : (at to : ℕ) (bytes : List ℕ) → at ≤ to → drop at bytes ≡ between at to bytes ++ drop to bytes
parted at to bytes forwards =
    sym (take-append-drop (to - at) (drop at bytes)) ∙ ap (λ l. between at to bytes ++ l) (further at to bytes forwards)

pub length-between : (at to : ℕ) (bytes : List ℕ) → to ≤ length bytes → length (between at to bytes) ≡ to - at
length-between at to bytes within = length-take-le (to - at) (drop at bytes) (omega (arith, within, length-drop at bytes))

pub joined_between : (at mid to : ℕ) (bytes : List ℕ) → at ≤ mid → mid ≤ to → between at mid bytes ++ between mid to bytes ≡ between at to bytes
joined_between at mid to bytes first second =
    let whole : (mid - at) + (to - mid) ≡ to - at = omega (arith, first, second) in
    ap (λ l. between at mid bytes ++ take (to - mid) l) (sym (further at mid bytes first)) ∙ sym (take-add (mid - at) (to - mid) (drop at bytes)) ∙ ap (λ k. take k (drop at bytes)) whole

-- a byte that stands there
pub byte_there : (bytes : List ℕ) (at tag : ℕ) → at < length bytes → get_or bytes at 0 ≡ tag → drop at bytes ≡ tag ∷ drop (at + 1) bytes
byte_there bytes at tag within is =
    let next : suc at ≡ at + 1 = omega arith in
    drop-cons bytes at 0 within ∙ ap (λ x. x ∷ drop (suc at) bytes) is ∙ ap (λ k. tag ∷ drop k bytes) next

pub one_byte : (bytes : List ℕ) (at tag : ℕ) → at < length bytes → get_or bytes at 0 ≡ tag → between at (at + 1) bytes ≡ tag ∷ []
one_byte bytes at tag within is =
    let one : (at + 1) - at ≡ 1 = omega arith in
    ap (λ k. take k (drop at bytes)) one ∙ ap (take 1) (byte_there bytes at tag within is)

-- ---- events

-- some, and then others
takes_then : {B : Type 0} (takes : B → Event → Place → B → Type 0) (at : ℕ) (front rest : List ℕ) (a b c : B) (xs ys : List Event) → TakesIn takes at front a xs b → TakesIn takes (at + length front) rest b ys c → TakesIn takes at (front ++ rest) a (xs ++ ys) c
takes_then takes at front rest a b c xs ys (none n m) second =
    let here : n + 0 ≡ n = omega arith in
    subst (λ k. TakesIn takes k rest m ys c) here second
takes_then takes at front rest a b c xs ys (more n own behind m k o e es spelled first after) second =
    let there : n + length (own ++ behind) ≡ (n + length own) + length behind = omega (arith, length-append own behind) in
    subst (λ l. TakesIn takes n l m (e ∷ (es ++ ys)) c) (sym (append_assoc own behind rest))
    (more n own (behind ++ rest) m k c e (es ++ ys) spelled first (takes_then takes (n + length own) behind rest k o c es ys after (subst (λ j. TakesIn takes j rest o ys c) there second)))

pub told_then : {B : Type 0} (takes : B → Event → Place → B → Type 0) (bytes : List ℕ) (at mid to : ℕ) (a b c : B) (xs ys : List Event) → at ≤ mid → mid ≤ to → to ≤ length bytes
    → TakesIn takes at (between at mid bytes) a xs b → TakesIn takes mid (between mid to bytes) b ys c → TakesIn takes at (between at to bytes) a (xs ++ ys) c
told_then takes bytes at mid to a b c xs ys front back within first second =
    let there : mid ≡ at + length (between at mid bytes) = omega (arith, front, back, within, length-between at mid bytes (omega (arith, back, within))) in
    subst (λ l. TakesIn takes at l a (xs ++ ys) c) (joined_between at mid to bytes front back)
    (takes_then takes at (between at mid bytes) (between mid to bytes) a b c xs ys first (subst (λ k. TakesIn takes k (between mid to bytes) b ys c) there second))

-- one event, whose place is told without a bound
pub told_one : {B : Type 0} (takes : B → Event → Place → B → Type 0) (bytes : List ℕ) (at to : ℕ) (a b : B) (is_text : Bool) (e : Event) → length bytes < 2 ^ 64 → at ≤ to → to ≤ length bytes
    → Marked is_text e (between at to bytes) → takes a e (place_at at to is_text) b → TakesIn takes at (between at to bytes) a (e ∷ []) b
told_one takes bytes at to a b is_text e few forwards within mark taken =
    let own = between at to bytes in
    let start : at ≡ counted at = omega (arith, few, forwards, within) in
    let end : to ≡ counted (at + length own) = omega (arith, few, forwards, within, length-between at to bytes within) in
    subst (λ l. TakesIn takes at l a (e ∷ []) b) (append-nil own)
    (more at own [] a b b e [] mark.1
    (subst (λ m. takes a e (place_at (counted at) (counted (at + length own)) m) b) mark.0
    (subst (λ k. takes a e (place_at (counted at) k is_text) b) end
    (subst (λ k. takes a e (place_at k to is_text) b) start taken)))
    (none (at + length own) b))

-- none
told_none : {B : Type 0} (takes : B → Event → Place → B → Type 0) (bytes : List ℕ) (at : ℕ) (a : B) → TakesIn takes at (between at at bytes) a [] a
told_none takes bytes at a =
    let zero_long : at - at ≡ 0 = omega arith in
    subst (λ k. TakesIn takes at (take k (drop at bytes)) a [] a) (sym zero_long) (none at a)

-- ---- so many

-- the events of a list are those of its members, one after the other
pub record FoldsTo {X : Type 0} (one : X → List Event) (all : List X → List Event) : Type 0 where
  pub empty : all [] ≡ []
  pub next : (x : X) (xs : List X) → all (x ∷ xs) ≡ one x ++ all xs

-- of n there are m left, which begin here
pub record ToldOn {X B : Type 0} (takes : B → Event → Place → B → Type 0) (r : Reader X) (all : List X → List Event) (bytes : List ℕ) (n at : ℕ) (before : B) (m here : ℕ) (now : B) : Type 0 where
  pub forwards : at ≤ here
  pub within : here ≤ length bytes
  pub on : (to : ℕ) (after : B) → Tells takes (many r m) all bytes here to now after → Tells takes (many r n) all bytes at to before after

module _ {X B : Type 0} (takes : B → Event → Place → B → Type 0) (r : Reader X) (one : X → List Event) (all : List X → List Event) (folds : FoldsTo one all) (bytes : List ℕ) where
  abbrev Left : ℕ → ℕ → B → ℕ → ℕ → B → Type 0
  Left n at before m here now = ToldOn takes r all bytes n at before m here now

  pub on_begin : (n m at : ℕ) (before : B) → at ≤ length bytes → n ≡ m → Left n at before m at before
  on_begin n m at before within same = record {
    forwards = omega arith;
    within = within;
    on = λ to after t. subst (λ k. Tells takes (many r k) all bytes at to before after) (sym same) t;
  }

  one_more : (k at mid to : ℕ) (a b c : B) → Tells takes r one bytes at mid a b → Tells takes (many r k) all bytes mid to b c → Tells takes (many r (suc k)) all bytes at to a c
  one_more k at mid to a b c h t =
      let front = h.forwards in
      let back = t.forwards in
      record {
        forwards = omega (arith, front, back);
        within = t.within;
        value = h.value ∷ t.value;
        read = ap (and_then (λ x. many r k >>= λ xs. give (x ∷ xs))) h.read ∙ ap (and_then (λ xs. give (h.value ∷ xs))) t.read;
        told = subst (λ es. TakesIn takes at (between at to bytes) a es c) (sym (folds.next h.value t.value)) (told_then takes bytes at mid to a b c (one h.value) (all t.value) front back t.within h.told t.told);
      }

  pub on_step : (n at m k here there : ℕ) (before now after : B) → m ≡ suc k → Left n at before m here now → Tells takes r one bytes here there now after → Left n at before k there after
  on_step n at m k here there before now after is so h =
      let front = so.forwards in
      let back = h.forwards in
      record {
        forwards = omega (arith, front, back);
        within = h.within;
        on = λ to last t. so.on to last (subst (λ j. Tells takes (many r j) all bytes here to now last) (sym is) (one_more k here there to now after last h t));
      }

  pub on_end : (n at m here : ℕ) (before now : B) → m ≡ 0 → Left n at before m here now → Tells takes (many r n) all bytes at here before now
  on_end n at m here before now none_left so =
      let within = so.within in
      so.on here now (subst (λ j. Tells takes (many r j) all bytes here here now now) (sym none_left) (record {
        forwards = omega arith;
        within = within;
        value = [];
        read = refl;
        told = subst (λ es. TakesIn takes here (between here here bytes) now es now) (sym folds.empty) (told_none takes bytes here now);
      }))
