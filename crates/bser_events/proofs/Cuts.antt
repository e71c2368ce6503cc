-- A builder that took no more, or was told no more.
use Rattle.std.proofs.Common.{◌≡◌, ◌≤◌, ℕ, ◌+◌, ◌-◌, ◌^◌, min, Bool, false, List, [], length, take, drop, refl, sym, subst, arith, length-drop}
use Rattle.std.specs.Prelude.{Result, Ok, Err, OnErr, IfErr, is_ok, ◌++◌}
use Rattle.bser_source.specs.Window.{Window, AreOctets, Took, consumed}
use Rattle.bser_source.proofs.Windows.{taken, took_then, octets_rest}
use Rattle.bser_bunser.specs.Tagged.{TookSome}
use Rattle.bser_bunser.specs.declared.prefix.Token.{Token}
use Rattle.bser_bunser.specs.declared.prefix.Token.TheVariants.{Str}
use Rattle.bser_events.specs.Events as events
use Rattle.bser_events.specs.Events.{Event, TakesAll, none, more}
use Rattle.bser_events.specs.Cut.{Cut, nowhere, at_event, past, CutFrom, Stops}
use Rattle.bser_events.specs.Places.{Placed, Marked, place_at, counted, reading_at, mark_of}
use Rattle.bser_events.specs.declared.builder.Stop.{Stop}
use Rattle.bser_events.specs.declared.event.Place.{Place}
use Rattle.bser_events.proofs.InFront.{rest_whole}
use Rattle.bser_events.proofs.Midways.{took_none}
use Rattle.bser_events.proofs.Runs.{consumed_then}
use Rattle.bser_events.proofs.Placings.{bytes_spelled}

-- whatever the call answered
pub in_any : {X E : Type 0} (P : Type 0) (r : Result X E) → P → OnErr r P
in_any P (Ok x) p = tt
in_any P (Err e) p = p

-- nothing was told
pub cut_here : {X E B : Type 0} (takes : B → Event → Place → B → Type 0) (stopped : Stop → B → Event → Place → B → Type 0) (r : Result X E) (v : Window) (x : B)
    → OnErr r (Cut takes stopped (v, x) x)
cut_here takes stopped r v x = in_any (Cut takes stopped (v, x) x) r (nowhere v x)

pub cut_from_here : {X E B : Type 0} (takes : B → Event → Place → B → Type 0) (stopped : Stop → B → Event → Place → B → Type 0) (r : Result X E) (start : ℕ) (t : Token) (w : Window) (x : B)
    → OnErr r (CutFrom takes stopped start t w x x)
cut_from_here takes stopped r start t w x = in_any (CutFrom takes stopped start t w x x) r (λ v text is took head. nowhere v x)

pub in_from : {X E B : Type 0} (takes : B → Event → Place → B → Type 0) (stopped : Stop → B → Event → Place → B → Type 0) (r : Result X E) (start : ℕ) (t : Token) (w : Window) (x y : B)
    → CutFrom takes stopped start t w x y → OnErr r (CutFrom takes stopped start t w x y)
in_from takes stopped r start t w x y cut = in_any (CutFrom takes stopped start t w x y) r cut

-- some was told before
pub cut_then : {B : Type 0} (takes : B → Event → Place → B → Type 0) (stopped : Stop → B → Event → Place → B → Type 0) (a b : Window × B) (es : List Event) (y : B)
    → TakesAll (Placed takes) a es b → Cut takes stopped b y → Cut takes stopped a y
cut_then takes stopped a b es y (none m) cut = cut
cut_then takes stopped a b es y (more m n o e rest first others) cut = past m n e y first (cut_then takes stopped n o rest y others cut)

-- it took no more at an event that began at a start, and has the bytes that were read since then
pub cut_by : {B : Type 0} (takes : B → Event → Place → B → Type 0) (stopped : Stop → B → Event → Place → B → Type 0) (start : ℕ) (is_text : Bool) (e : Event) (text : List ℕ) (v w : Window) (x y : B)
    → Took v w text → start ≡ reading_at v → Marked is_text e text → Stops stopped x e (place_at start (reading_at w) is_text) y → Cut takes stopped (v, x) y
cut_by takes stopped start is_text e text v w x y took is mark stops =
    at_event v w x y e text took mark.1 (subst (λ k. Stops stopped x e (place_at k (reading_at w) (mark_of e text)) y) is
    (subst (λ m. Stops stopped x e (place_at start (reading_at w) m) y) mark.0 stops))

pub cut_close : {B : Type 0} (takes : B → Event → Place → B → Type 0) (stopped : Stop → B → Event → Place → B → Type 0) (w : Window) (x y : B)
    → w.failed ≡ false → Stops stopped x events.close (place_at (reading_at w) (reading_at w) false) y → Cut takes stopped (w, x) y
cut_close takes stopped w x y works stops = cut_by takes stopped (reading_at w) false events.close [] w w x y (took_none w works) refl (refl, refl) stops

-- at a piece of what is buffered
pub cut_piece : {B : Type 0} (takes : B → Event → Place → B → Type 0) (stopped : Stop → B → Event → Place → B → Type 0) (at n begun start : ℕ) (e : Event) (p : Place) (is_text : Bool)
    (bytes : List ℕ) (b : Window) (x y : B)
    → b.buffered ≡ bytes → AreOctets bytes → at + n ≤ length bytes → b.failed ≡ false
    → begun ≡ reading_at b → start ≡ min (begun + at) (2 ^ 64 - 1) → p ≡ place_at start (counted (start + n)) is_text
    → Marked is_text e (take n (take (length bytes - at) (drop at bytes))) → Stops stopped x e p y → Cut takes stopped (consumed at b, x) y
cut_piece takes stopped at n begun start e p is_text bytes b x y same small fits works is from placed mark stops =
    let octets : AreOctets b.buffered = subst AreOctets (sym same) small in
    let within : n ≤ length (drop at b.buffered) = subst (λ l. n ≤ length (drop at l)) (sym same) (omega (arith, fits, length-drop at bytes)) in
    let marked : Marked is_text e (take n (drop at b.buffered)) =
    subst (λ l. Marked is_text e (take n (drop at l))) (sym same) (subst (λ l. Marked is_text e (take n l)) (rest_whole at bytes) mark) in
    let first : start ≡ counted (b.count + at) = omega (arith, is, from) in
    let last : counted (start + n) ≡ counted (b.count + (at + n)) = omega (arith, is, from) in
    cut_by takes stopped start is_text e (take n (drop at b.buffered)) (consumed at b) (consumed (at + n) b) x y
    (subst (λ w. Took (consumed at b) w (take n (drop at b.buffered))) (consumed_then at n b) (taken n (consumed at b) (octets_rest at b.buffered octets) within works))
    first marked
    (subst (λ k. Stops stopped x e (place_at start k is_text) y) last (subst (λ q. Stops stopped x e q y) placed stops))

-- at a byte string that was passed over
pub passed_cut : {B : Type 0} (takes : B → Event → Place → B → Type 0) (stopped : Stop → B → Event → Place → B → Type 0) (n start : ℕ) (p : Place) (stop : Stop) (a b : Window) (x y : B)
    → TookSome n a b → p ≡ place_at start (reading_at b) false → ((s : List ℕ) → length s ≡ n → stopped stop x (events.bytes s) p y) → CutFrom takes stopped start (Str false n) a x y
passed_cut takes stopped n start p stop a b x y some placed told v pre is before head =
    cut_by takes stopped start false (events.bytes some.text) (pre ++ some.text) v b x y (took_then v a b pre some.text before some.took) is (refl, bytes_spelled n pre some.text some.text some.len refl head)
    (stop, subst (λ q. stopped stop x (events.bytes some.text) q y) placed (told some.text some.len))

-- the reason
pub if_ill : {X E : Type 0} (P : E → Type 0) (r : Result X E) → is_ok r ≡ false → IfErr r P → (e : E) × P e
if_ill P (Ok x) e p = absurd cc
if_ill P (Err x) e p = (x, p)
