-- What a call that reads and reports came to.
use Rattle.std.specs.Prelude.{◌≡◌, ◌⊎◌, ◌<◌, ℕ, zero, suc, Bool, true, false, List, [], ◌∷◌, ◌++◌, Option, Some, None, ◌==◌, if◌then◌else◌, ⊤, drop}
use Rattle.bser_format.specs.Tree.{Tree}
use Rattle.bser_format.specs.declared.errors.Error.{Error}
use Rattle.bser_format.specs.declared.errors.Error.TheVariants.{OutOfMemory, DeRecursionLimitExceeded}
use Rattle.bser_format.specs.declared.errors.Kind.{Kind}
use Rattle.bser_format.specs.declared.errors.Kind.TheVariants as kinds
use Rattle.bser_format.specs.Named.{Reader, reads, refuse, and_then, give, ◌>>=◌, next, front, utf8, text_of, many, with_text_keys}
use Rattle.bser_format.specs.DueReaders.{less_one}
use Rattle.bser_source.specs.Window.{Window, Filled, Took}
use Rattle.bser_bunser.specs.Refusal.{Fails}
use Rattle.bser_bunser.specs.Names.{Names, RefusesBy}
use Rattle.bser_bunser.specs.Seen.{Seen}
use Rattle.bser_bunser.specs.Tokens.{SpellsToken, token, token_after, after_token}
use Rattle.bser_bunser.specs.declared.prefix.Token.{Token}
use Rattle.bser_bunser.specs.declared.prefix.Token.TheVariants as tokens
use Rattle.bser_events.specs.Events as told
use Rattle.bser_events.specs.Events.{Event, key, key_events, TakesAll, events, close}
use Rattle.bser_events.specs.Places.{Placed, reading_at}
use Rattle.bser_events.specs.declared.event.Place.{Place}
use Rattle.bser_events.specs.Frames.{Left, parts_of, Fits, left_events, IsSmall}
use Rattle.bser_events.specs.declared.frame.Part.{Part}
use Rattle.bser_events.specs.declared.frame.Part.TheVariants.{Entry}
use Rattle.bser_events.specs.declared.frame.Frame.{Frame}

-- ---- plain readers

-- the bytes of a text
abbrev pub text_bytes : ℕ → Reader (List ℕ)
text_bytes n = front n >>= utf8

-- so many keys of a template
abbrev pub keys_at : ℕ → Reader (List (List ℕ))
keys_at k = many (text_of kinds.TemplateKey) k

-- what follows a template's tag, with n levels left for what its rows hold
abbrev pub table_at : ℕ → Reader Tree
table_at n = after_token (text_of kinds.MapKey) n tokens.Template

-- a token after its tag, where no level is left
abbrev pub leaf_after : ℕ → Reader Token
leaf_after tag =
    if tag == 0x00 then refuse (DeRecursionLimitExceeded kinds.Array)
    else if tag == 0x01 then refuse (DeRecursionLimitExceeded kinds.Object)
    else if tag == 0x0b then refuse (DeRecursionLimitExceeded kinds.Template)
    else token_after tag

-- a token, where n levels are left
abbrev pub token_at : ℕ → Reader Token
token_at zero = next >>= leaf_after
token_at (suc n) = token

-- what follows a token where a value begins with n levels left
abbrev pub value_rest : ℕ → Token → Reader Tree
value_rest n t = after_token (text_of kinds.MapKey) (less_one n) t

-- the token opens a container
abbrev pub IsContainer : Token → Type 0
IsContainer (tokens.Array n) = Unit {0}
IsContainer (tokens.Object n) = Unit {0}
IsContainer tokens.Template = Unit {0}
IsContainer _ = ⊥

-- no container's tag is at the start
pub record LeafAhead (old new : Window) : Type 0 where
  pub tag : ℕ
  pub filled : Filled 1 old new
  pub next : new.buffered ≡ tag ∷ drop 1 new.buffered
  pub no_array : tag ≡ 0x00 → ⊥
  pub no_object : tag ≡ 0x01 → ⊥
  pub no_template : tag ≡ 0x0b → ⊥

-- with n levels left: none, and no container's tag is at the start, or some, and nothing changed
abbrev pub LevelsFor : ℕ → Window → Window → Type 0
LevelsFor zero old new = LeafAhead old new
LevelsFor (suc n) old new = new ≡ old

-- ---- what was found

-- what the plain reader reads was taken, and its events were reported
pub record Found {X B : Type 0} (takes : B → Event → B → Type 0) (r : Reader X) (told_of : X → List Event) (old new : Window) (before after : B) : Type 0 where
  pub text : List ℕ
  pub value : X
  pub took : Took old new text
  pub passes : (x : List ℕ) → r (text ++ x) ≡ reads value x
  pub told : TakesAll takes before (told_of value) after

-- a container was opened: the parts that are left of it are read, and make the tree
pub record Opened {B : Type 0} (takes : B → Event → B → Type 0) (r : Reader Tree) (f : Frame) (old new : Window) (before after : B) : Type 0 where
  pub text : List ℕ
  pub begun : List Event
  pub tree : Left f.parts → Tree
  pub took : Took old new text
  pub continues : (x : List ℕ) → r (text ++ x) ≡ and_then (λ l. give (tree l)) (parts_of f.levels f.parts x)
  pub whole : (l : Left f.parts) → Fits f.parts l → events (tree l) ≡ begun ++ (left_events f.parts l ++ close ∷ [])
  pub told : TakesAll takes before begun after

-- a value was read, or a container of these parts was opened
abbrev pub FoundOrOpened : {B : Type 0} → (B → Event → B → Type 0) → Reader Tree → Window → Window → B → B → Option Frame → Type 0
FoundOrOpened takes r old new before after None = Found takes r events old new before after
FoundOrOpened takes r old new before after (Some f) = Opened takes r f old new before after

-- the levels inside, and the parts, of a container that was opened
abbrev pub IsInside : ℕ → Option Frame → Type 0
IsInside levels None = ⊤
IsInside levels (Some f) = (levels ≡ suc f.levels) × IsSmall f.parts

-- a key was found, where an entry is expected, and else nothing changed
abbrev pub KeyFound : {B : Type 0} → (B → Event → B → Type 0) → Part → Window → Window → B → B → Type 0
KeyFound takes Entry old new before after = Found takes (text_of kinds.MapKey) (λ s. key s ∷ []) old new before after
KeyFound takes _ old new before after = (new ≡ old) × (after ≡ before)

-- ---- what failed

-- the plain reader's error, or out of memory on this condition
pub record Refuses {X : Type 0} (wants : Type 0) (r : Reader X) (e : Error) (old new : Window) : Type 0 where
  pub fails : Fails e old new
  pub name : Names r e old ⊎ ((e ≡ OutOfMemory) × wants)

-- ---- what callers see: bunser before and after, and the builder before and after

-- each event has the bytes that were read since the one before it: the first those from where reading
-- was, or from a start before it, and the last those up to where reading is

-- from each window on that is at this start, and of which the bytes up to this one were taken, and are
-- this token
abbrev pub From : ℕ → Token → Window → (Window → Type 0) → Type 0
From start t here P = (v : Window) (text : List ℕ) → start ≡ reading_at v → Took v here text → SpellsToken t text → P v

-- a value with so many levels was read and reported
abbrev pub TellsValue : {B : Type 0} → (B → Event → Place → B → Type 0) → ℕ → Seen → Seen → B → B → Type 0
TellsValue takes levels old new before after = Found (Placed takes) (with_text_keys levels) events old.window new.window (old.window, before) (new.window, after)

-- so many keys of a template were read and reported
abbrev pub TellsKeys : {B : Type 0} → (B → Event → Place → B → Type 0) → ℕ → Seen → Seen → B → B → Type 0
TellsKeys takes count old new before after = Found (Placed takes) (keys_at count) key_events old.window new.window (old.window, before) (new.window, after)

-- a key was read and reported
abbrev pub TellsKey : {B : Type 0} → (B → Event → Place → B → Type 0) → Kind → Seen → Seen → B → B → Type 0
TellsKey takes kind old new before after = Found (Placed takes) (text_of kind) (λ s. key s ∷ []) old.window new.window (old.window, before) (new.window, after)

-- a key was read and reported where an entry is expected, and else nothing changed
abbrev pub TellsDueKey : {B : Type 0} → (B → Event → Place → B → Type 0) → Part → Seen → Seen → B → B → Type 0
TellsDueKey takes due old new before after = KeyFound (Placed takes) due old.window new.window (old.window, before) (new.window, after)

-- so many bytes were read and reported as a text
abbrev pub TellsText : {B : Type 0} → (B → Event → Place → B → Type 0) → ℕ → ℕ → Seen → Seen → B → B → Type 0
TellsText takes len start old new before after =
    From start (tokens.Str true len) old.window (λ v. Found (Placed takes) (text_bytes len) (λ s. told.text s ∷ []) old.window new.window (v, before) (new.window, after))

-- so many bytes were read, or passed over, and reported as a byte string
abbrev pub TellsBytes : {B : Type 0} → (B → Event → Place → B → Type 0) → ℕ → ℕ → Seen → Seen → B → B → Type 0
TellsBytes takes len start old new before after =
    From start (tokens.Str false len) old.window (λ v. Found (Placed takes) (front len) (λ s. told.bytes s ∷ []) old.window new.window (v, before) (new.window, after))

-- a template was opened, of which this frame is left
abbrev pub OpensTemplate : {B : Type 0} → (B → Event → Place → B → Type 0) → ℕ → Frame → ℕ → Seen → Seen → B → B → Type 0
OpensTemplate takes levels f start old new before after =
    From start tokens.Template old.window (λ v. Opened (Placed takes) (table_at levels) f old.window new.window (v, before) (new.window, after))

-- what follows this token was read and reported, or it opened a container, of which this frame is
-- left
abbrev pub TellsRest : {B : Type 0} → (B → Event → Place → B → Type 0) → ℕ → Token → Option Frame → ℕ → Seen → Seen → B → B → Type 0
TellsRest takes levels t f start old new before after =
    From start t old.window (λ v. FoundOrOpened (Placed takes) (value_rest levels t) old.window new.window (v, before) (new.window, after) f)

-- no token was taken: the error is that of one where so many levels are left
abbrev pub NoToken : ℕ → Seen → Seen → Type 0
NoToken levels old new = RefusesBy (token_at levels) new.refusal old.window new.window

-- it fails with the error that r gives, or out of memory where a builder may take some
abbrev pub RefusesTelling : {X : Type 0} → Bool → Reader X → Seen → Seen → Type 0
RefusesTelling memory r old new = Refuses (memory ≡ true) r new.refusal old.window new.window

-- a value with so many levels fails, out of memory also where there is room for fewer frames
abbrev pub RefusesValue : Bool → ℕ → ℕ → Seen → Seen → Type 0
RefusesValue memory room levels old new =
    Refuses ((memory ≡ true) ⊎ (room < levels)) (with_text_keys levels) new.refusal old.window new.window
