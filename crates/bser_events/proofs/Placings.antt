-- Where the events of a reading stand.
use Rattle.std.proofs.Common.{◌≡◌, ◌≤◌, ℕ, ◌+◌, ◌-◌, ◌^◌, min, Bool, true, false, List, [], ◌∷◌, ◌++◌, length, take, drop, take-add, refl, sym, ap, subst, ◌∙◌, arith, inl, inr, IsUtf8, length-drop, length-take-le}
use Rattle.bser_format.specs.declared.errors.Kind.{Kind}
use Rattle.bser_format.specs.Grammar.{Format, Bytes, Given, ◌then◌, SpellsCount, SpellsBytes, SpellsText, SpellsString, SpellsKey}
use Rattle.bser_format.specs.Named.{Reader, front, text_of}
use Rattle.bser_source.specs.Window.{Window, AreOctets, Took, consumed}
use Rattle.bser_source.proofs.Windows.{taken, took_then, octets_rest}
use Rattle.bser_bunser.specs.Tagged.{TookCounted, TookSome, SpellsCounted}
use Rattle.bser_bunser.specs.declared.prefix.Token.{Token}
use Rattle.bser_bunser.specs.declared.prefix.Token.TheVariants as tokens
use Rattle.bser_bunser.specs.declared.prefix.Prefix.TheVariants as prefixes
use Rattle.bser_bunser.specs.Tokens.{IsTokenPrefix, SpellsToken, Headed, tag_of_string}
use Rattle.bser_events.specs.Events as events
use Rattle.bser_events.specs.Events.{Event, TakesAll, none, more}
use Rattle.bser_events.specs.Found.{Found, From, text_bytes}
use Rattle.bser_events.specs.Pieces.{IsScalar, IsDueScalar, IsDueString, IsFirst}
use Rattle.bser_events.specs.declared.frame.Part.{Part}
use Rattle.bser_events.specs.declared.frame.Part.TheVariants.{Item, Entry, Field}
use Rattle.bser_events.specs.Places as places
use Rattle.bser_events.specs.Places.{Placed, PlacedAs, SpellsEvent, AnyBytes, TakesIn, Marked, place_at, counted, reading_at, mark_of, begins_as_text}
use Rattle.bser_events.specs.declared.event.Place.{Place}
use Rattle.bser_events.proofs.InFront.{rest_whole}
use Rattle.bser_events.proofs.Midways.{Midway, took_none}
use Rattle.bser_events.proofs.Runs.{consumed_then}
use Rattle.bser_events.proofs.Texts.{TookKeyTag, IsStringTag, text_found, bytes_found, key_found}

-- an event that began at a start, and has the bytes that were read since then
pub stands_by : {B : Type 0} (spells : Event → Format) (takes : B → Event → Place → B → Type 0) (start : ℕ) (is_text : Bool) (e : Event) (text : List ℕ) (v w c : Window) (x y : B)
    → Took v w text → start ≡ reading_at v → is_text ≡ mark_of e text → spells e text → c ≡ w → takes x e (place_at start (reading_at w) is_text) y → PlacedAs spells takes (v, x) e (c, y)
stands_by spells takes start is_text e text v w c x y took at mark spelled same told =
    subst (λ z. PlacedAs spells takes (v, x) e (z, y)) (sym same) (record {
      text = text;
      took = took;
      spelled = spelled;
      told = subst (λ k. takes x e (place_at k (reading_at w) (mark_of e text)) y) at (subst (λ m. takes x e (place_at start (reading_at w) m) y) mark told);
    })

pub placed_by : {B : Type 0} (takes : B → Event → Place → B → Type 0) (start : ℕ) (is_text : Bool) (e : Event) (text : List ℕ) (v w c : Window) (x y : B)
    → Took v w text → start ≡ reading_at v → Marked is_text e text → c ≡ w → takes x e (place_at start (reading_at w) is_text) y → Placed takes (v, x) e (c, y)
placed_by takes start is_text e text v w c x y took at mark same told = stands_by SpellsEvent takes start is_text e text v w c x y took at mark.0 mark.1 same told

-- whatever their bytes are
pub with_any_bytes : {B : Type 0} {spells : Event → Format} (takes : B → Event → Place → B → Type 0) (a b : Window × B) (es : List Event)
    → TakesAll (PlacedAs spells takes) a es b → TakesAll (PlacedAs AnyBytes takes) a es b
with_any_bytes takes a b es (none m) = none m
with_any_bytes takes a b es (more m n o e rest first after) =
    more m n o e rest (record { text = first.text; took = first.took; spelled = tt; told = first.told }) (with_any_bytes takes n o rest after)

-- an end of a container
pub closed_placed : {B : Type 0} (takes : B → Event → Place → B → Type 0) (w c : Window) (x y : B)
    → w.failed ≡ false → c ≡ w → takes x events.close (place_at (reading_at w) (reading_at w) false) y → Placed takes (w, x) events.close (c, y)
closed_placed takes w c x y works same told = placed_by takes (reading_at w) false events.close [] w w c x y (took_none w works) refl (refl, refl) same told

-- a piece of what is buffered, which is not counted yet
pub piece_placed : {B : Type 0} (takes : B → Event → Place → B → Type 0) (at n begun start : ℕ) (e : Event) (p : Place) (is_text : Bool) (bytes : List ℕ) (b : Window) (x y : B)
    → b.buffered ≡ bytes → AreOctets bytes → at + n ≤ length bytes → b.failed ≡ false
    → begun ≡ reading_at b → start ≡ min (begun + at) (2 ^ 64 - 1) → p ≡ place_at start (counted (start + n)) is_text
    → Marked is_text e (take n (take (length bytes - at) (drop at bytes))) → takes x e p y → Placed takes (consumed at b, x) e (consumed (at + n) b, y)
piece_placed takes at n begun start e p is_text bytes b x y same small fits works is from placed mark told =
    let octets : AreOctets b.buffered = subst AreOctets (sym same) small in
    let within : n ≤ length (drop at b.buffered) = subst (λ l. n ≤ length (drop at l)) (sym same) (omega (arith, fits, length-drop at bytes)) in
    let marked : Marked is_text e (take n (drop at b.buffered)) =
    subst (λ l. Marked is_text e (take n (drop at l))) (sym same) (subst (λ l. Marked is_text e (take n l)) (rest_whole at bytes) mark) in
    let first : start ≡ counted (b.count + at) = omega (arith, is, from) in
    let last : counted (start + n) ≡ counted (b.count + (at + n)) = omega (arith, is, from) in
    record {
      text = take n (drop at b.buffered);
      took = subst (λ w. Took (consumed at b) w (take n (drop at b.buffered))) (consumed_then at n b) (taken n (consumed at b) (octets_rest at b.buffered octets) within works);
      spelled = marked.1;
      told = subst (λ k. takes x e (place_at k (counted (b.count + (at + n))) (mark_of e (take n (drop at b.buffered)))) y) first
          (subst (λ k. takes x e (place_at start k (mark_of e (take n (drop at b.buffered)))) y) last
          (subst (λ m. takes x e (place_at start (counted (start + n)) m) y) marked.0 (subst (λ q. takes x e q y) placed told)));
    }

-- the same window, where a builder is said to stand by it
pub moved : {Y B : Type 0} (takes : B → Event → B → Type 0) (whole : Reader Y) (Next : Reader Y → List Event → Type 0) (a b c : Window) (before : B) (after : Window → B)
    → c ≡ b → Midway takes whole Next a b before (after b) → Midway takes whole Next a c before (after c)
moved takes whole Next a b c before after same m = subst (λ w. Midway takes whole Next a w before (after w)) (sym same) m

-- ---- strings

-- a tag, a length, and as many bytes of a form
headed_then : (tag n : ℕ) (F : Format) (pre s : List ℕ) → length s ≡ n → F s → Headed tag (SpellsCount n) pre → (Bytes (tag ∷ []) then SpellsCount (length s) then F) (pre ++ s)
headed_then tag n F pre s len is h = record {
  front = tag ∷ [];
  rest = h.rest ++ s;
  whole = ap (λ l. l ++ s) h.whole;
  first = refl;
  second = record { front = h.rest; rest = s; whole = refl; first = subst (λ k. SpellsCount k h.rest) (sym len) h.body; second = is };
}

pub text_spelled : (n : ℕ) (pre s given t : List ℕ) → length s ≡ n → given ≡ s → t ≡ given → IsUtf8 given → Headed 0x0d (SpellsCount n) pre → SpellsText t (pre ++ s)
text_spelled n pre s given t len lent is utf8 h =
    subst (λ u. SpellsText u (pre ++ s)) (sym (is ∙ lent)) (headed_then 0x0d n (Given (IsUtf8 s) (Bytes s)) pre s len (subst (λ u. IsUtf8 u) lent utf8, refl) h)

pub bytes_spelled : (n : ℕ) (pre s given : List ℕ) → length s ≡ n → given ≡ s → Headed 0x02 (SpellsCount n) pre → SpellsBytes given (pre ++ s)
bytes_spelled n pre s given len lent h = subst (λ u. SpellsBytes u (pre ++ s)) (sym lent) (headed_then 0x02 n (Bytes s) pre s len refl h)

-- a string under a key's tag
keyed : (tag : ℕ) (s text : List ℕ) → IsStringTag tag → SpellsCounted s text → IsUtf8 s → SpellsString s ((tag ∷ []) ++ text)
keyed tag s text (inl is) counted utf8 =
    inl (subst (λ l. SpellsBytes s ((tag ∷ []) ++ l)) (sym counted.whole) (subst (λ z. SpellsBytes s ((z ∷ counted.number) ++ s)) (sym is)
    (headed_then 0x02 (length s) (Bytes s) (0x02 ∷ counted.number) s refl refl (record { rest = counted.number; whole = refl; body = counted.count }))))
keyed tag s text (inr is) counted utf8 =
    inr (subst (λ l. SpellsText s ((tag ∷ []) ++ l)) (sym counted.whole) (subst (λ z. SpellsText s ((z ∷ counted.number) ++ s)) (sym is)
    (headed_then 0x0d (length s) (Given (IsUtf8 s) (Bytes s)) (0x0d ∷ counted.number) s refl (utf8, refl) (record { rest = counted.number; whole = refl; body = counted.count }))))

pub key_spelled : (s given t : List ℕ) (a m b : Window) (tagged : TookKeyTag a m) (counted : TookCounted m b s) → given ≡ s → t ≡ given → IsUtf8 given
    → SpellsKey t ((tagged.tag ∷ []) ++ counted.text)
key_spelled s given t a m b tagged counted lent is utf8 =
    let text : IsUtf8 s = subst (λ u. IsUtf8 u) lent utf8 in
    subst (λ u. SpellsKey u ((tagged.tag ∷ []) ++ counted.text)) (sym (is ∙ lent)) (text, keyed tagged.tag s counted.text tagged.either counted.spelled text)

pub text_told : {B : Type 0} (takes : B → Event → Place → B → Type 0) (n start : ℕ) (s given t : List ℕ) (a b c : Window) (x y : B)
    → length s ≡ n → Took a b s → given ≡ s → t ≡ given → IsUtf8 given → c ≡ b → takes x (events.text t) (place_at start (reading_at b) true) y
    → From start (tokens.Str true n) a (λ v. Found (Placed takes) (text_bytes n) (λ u. events.text u ∷ []) a c (v, x) (c, y))
text_told takes n start s given t a b c x y len took lent is utf8 same told v pre at before head =
    subst (λ w. Found (Placed takes) (text_bytes n) (λ u. events.text u ∷ []) a w (v, x) (w, y)) (sym same)
    (text_found (Placed takes) n s given t a b b (v, x) (b, y) len took lent is utf8 refl
    (placed_by takes start true (events.text t) (pre ++ s) v b b x y (took_then v a b pre s before took) at (refl, text_spelled n pre s given t len lent is utf8 head) refl told))

pub bytes_told : {B : Type 0} (takes : B → Event → Place → B → Type 0) (n start : ℕ) (s given : List ℕ) (a b c : Window) (x y : B)
    → length s ≡ n → Took a b s → given ≡ s → c ≡ b → takes x (events.bytes given) (place_at start (reading_at b) false) y
    → From start (tokens.Str false n) a (λ v. Found (Placed takes) (front n) (λ u. events.bytes u ∷ []) a c (v, x) (c, y))
bytes_told takes n start s given a b c x y len took lent same told v pre at before head =
    subst (λ w. Found (Placed takes) (front n) (λ u. events.bytes u ∷ []) a w (v, x) (w, y)) (sym same)
    (bytes_found (Placed takes) n s given a b b (v, x) (b, y) len took lent refl
    (placed_by takes start false (events.bytes given) (pre ++ s) v b b x y (took_then v a b pre s before took) at (refl, bytes_spelled n pre s given len lent head) refl told))

-- bytes that were passed over
pub passed_told : {B : Type 0} (takes : B → Event → Place → B → Type 0) (n start : ℕ) (p : Place) (a b : Window) (x y : B)
    → TookSome n a b → p ≡ place_at start (reading_at b) false → ((s : List ℕ) → length s ≡ n → takes x (events.bytes s) p y)
    → From start (tokens.Str false n) a (λ v. Found (Placed takes) (front n) (λ u. events.bytes u ∷ []) a b (v, x) (b, y))
passed_told takes n start p a b x y some placed told =
    bytes_told takes n start some.text some.text a b b x y some.len some.took refl refl (subst (λ q. takes x (events.bytes some.text) q y) placed (told some.text some.len))

pub key_told : {B : Type 0} (takes : B → Event → Place → B → Type 0) (kind : Kind) (start : ℕ) (is_text : Bool) (s given t : List ℕ) (a m b c : Window) (x y : B)
    → (tagged : TookKeyTag a m) → TookCounted m b s → given ≡ s → t ≡ given → IsUtf8 given → c ≡ b → start ≡ reading_at a → is_text ≡ begins_as_text (tagged.tag ∷ [])
    → takes x (events.key t) (place_at start (reading_at b) is_text) y → Found (Placed takes) (text_of kind) (λ u. events.key u ∷ []) a c (a, x) (c, y)
key_told takes kind start is_text s given t a m b c x y tagged counted lent is utf8 same at mark told =
    subst (λ w. Found (Placed takes) (text_of kind) (λ u. events.key u ∷ []) a w (a, x) (w, y)) (sym same)
    (key_found (Placed takes) kind s given t a m b b (a, x) (b, y) tagged counted lent is utf8 refl
    (placed_by takes start is_text (events.key t) ((tagged.tag ∷ []) ++ counted.text) a b b x y (took_then a m b (tagged.tag ∷ []) counted.text tagged.took counted.took) at (mark, key_spelled s given t a m b tagged counted lent is utf8) refl told))

-- ---- scalars

-- a scalar has the bytes of its token, and is no string
pub scalar_mark : (t : Token) (e : Event) (text : List ℕ) → IsScalar t e → SpellsToken t text → Marked false e text
scalar_mark tokens.Null e text is head = subst (λ z. Marked false z text) (sym is) (refl, head)
scalar_mark tokens.Skip e text is head = absurd is
scalar_mark (tokens.Str s m) e text is head = absurd is
scalar_mark (tokens.Array m) e text is head = absurd is
scalar_mark (tokens.Object m) e text is head = absurd is
scalar_mark tokens.Template e text is head = absurd is
scalar_mark other e text is head = subst (λ z. Marked false z text) (sym is) (refl, head)

pub due_scalar_mark : (due : Part) (t : Token) (e : Event) (text : List ℕ) → IsDueScalar due t e → SpellsToken t text → Marked false e text
due_scalar_mark Entry t e text is head = absurd is
due_scalar_mark Item t e text is head = scalar_mark t e text is head
due_scalar_mark Field t e text (inl is) head = scalar_mark t e text is head
due_scalar_mark Field t e text (inr is) head = subst (λ z. Marked false z text) (sym is.1) (refl, subst (λ z. SpellsToken z text) is.0 head)

-- ---- strings that are buffered

-- a key, under either tag
key_mark : (b : Bool) (m : ℕ) (pre s : List ℕ) → length s ≡ m → IsUtf8 s → Headed (tag_of_string b) (SpellsCount m) pre → Marked b (events.key s) (pre ++ s)
key_mark true m pre s len utf8 h = (
  subst (λ l. true ≡ begins_as_text (l ++ s)) (sym h.whole) refl,
  (utf8, inr (headed_then 0x0d m (Given (IsUtf8 s) (Bytes s)) pre s len (utf8, refl) h)),
)
key_mark false m pre s len utf8 h = (
  subst (λ l. false ≡ begins_as_text (l ++ s)) (sym h.whole) refl,
  (utf8, inl (headed_then 0x02 m (Bytes s) pre s len refl h)),
)

string_mark : (due : Part) (b : Bool) (m : ℕ) (e : Event) (pre s : List ℕ) → length s ≡ m → Headed (tag_of_string b) (SpellsCount m) pre → IsDueString due b s e → Marked b e (pre ++ s)
string_mark Entry b m e pre s len h own = subst (λ z. Marked b z (pre ++ s)) (sym own.1) (key_mark b m pre s len own.0 h)
string_mark Item true m e pre s len h own = subst (λ z. Marked true z (pre ++ s)) (sym own.1) (refl, text_spelled m pre s s s len refl refl own.0 h)
string_mark Item false m e pre s len h own = subst (λ z. Marked false z (pre ++ s)) (sym own) (refl, bytes_spelled m pre s s len refl h)
string_mark Field true m e pre s len h own = subst (λ z. Marked true z (pre ++ s)) (sym own.1) (refl, text_spelled m pre s s s len refl refl own.0 h)
string_mark Field false m e pre s len h own = subst (λ z. Marked false z (pre ++ s)) (sym own) (refl, bytes_spelled m pre s s len refl h)

pub due_string_mark : (due : Part) (b : Bool) (m n : ℕ) (t : Token) (e : Event) (held s : List ℕ) → t ≡ tokens.Str b m → IsTokenPrefix held (prefixes.Found t n)
    → IsFirst m (drop n held) s → IsDueString due b s e → Marked b e (take (n + m) held)
due_string_mark due b m n t e held s is head first own =
    let h : IsTokenPrefix held (prefixes.Found (tokens.Str b m) n) = subst (λ z. IsTokenPrefix held (prefixes.Found z n)) is head in
    let len : length s ≡ m = ap length first.first ∙ length-take-le m (drop n held) first.within in
    let whole : take (n + m) held ≡ take n held ++ s = take-add n m held ∙ ap (λ l. take n held ++ l) (sym first.first) in
    subst (λ l. Marked b e l) (sym whole) (string_mark due b m e (take n held) s len h.1 own)

-- ---- where nothing is said of a builder

takes_any : (es : List Event) → TakesAll (λ (x : Unit {0}) (e : Event) (y : Unit {0}). Unit {0}) tt es tt
takes_any [] = none tt
takes_any (e ∷ es) = more tt tt tt e es tt (takes_any es)

pub untold : {X B : Type 0} (takes : B → Event → B → Type 0) (r : Reader X) (told_of : X → List Event) (a b : Window) (before after : B)
    → Found takes r told_of a b before after → Found (λ (x : Unit {0}) (e : Event) (y : Unit {0}). Unit {0}) r told_of a b tt tt
untold takes r told_of a b before after f = record { text = f.text; value = f.value; took = f.took; passes = f.passes; told = takes_any (told_of f.value) }

-- ---- one after the other

-- what was read while they were told, and where each of them stands in it
pub record ToldIn {B : Type 0} (takes : B → Event → Place → B → Type 0) (v w : Window) (x : B) (es : List Event) (y : B) : Type 0 where
  pub text : List ℕ
  pub took : Took v w text
  pub told : TakesIn takes v.count text x es y

pub takes_in : {B : Type 0} (takes : B → Event → Place → B → Type 0) (a b : Window × B) (es : List Event) → a.0.failed ≡ false → TakesAll (Placed takes) a es b → ToldIn takes a.0 b.0 a.1 es b.1
takes_in takes a b es works (none m) = record { text = []; took = took_none m.0 works; told = places.none m.0.count m.1 }
takes_in takes a b es works (more m n o e rest first after) =
    let others = takes_in takes n o rest first.took.failed after in
    let at : n.0.count ≡ m.0.count + length first.text = first.took.count in
    record {
      text = first.text ++ others.text;
      took = took_then m.0 n.0 o.0 first.text others.text first.took others.took;
      told = places.more m.0.count first.text others.text m.1 n.1 o.1 e rest first.spelled
          (subst (λ k. takes m.1 e (place_at (counted m.0.count) (counted k) (mark_of e first.text)) n.1) at first.told)
          (subst (λ k. TakesIn takes k others.text n.1 rest o.1) at others.told);
    }
