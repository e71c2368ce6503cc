-- What each call of a client does, and what all of them do together.
use Rattle.std.specs.Prelude.{◌≡◌, ℕ, ◌+◌, Bool, true, false, if◌then◌else◌, List, [], ◌∷◌, ◌++◌, length, Option}
use Rattle.std.specs.List.{AllByRecursion, FoldsTo, concat}
use Rattle.std.specs.Io.KnownBytes.{Consumes}
use Rattle.bser_source.specs.declared.device.Sink as sink
use Rattle.watchman_client.specs.Arrivals.{Arrival, IsTold, bytes_of, answers_of, unsolicited_of}
use Rattle.watchman_client.specs.Kinds.{IsKind, IsWhole}
use Rattle.watchman_client.specs.Kept.{is_full}
use Rattle.watchman_client.specs.Views.{View}
use Rattle.watchman_client.specs.declared.bounds.Bounds.{Bounds}

-- ---- one call

-- whole messages were taken from the stream. Each that is no unsolicited one was given as an
-- answer. Those that are came behind the ones that were kept, and from their front some were given.
-- Nothing else was given, and the rest is kept
pub record Moves (answers unsolicited : List (List ℕ)) (old new : View) : Type 0 where
  pub came : List Arrival
  pub told : AllByRecursion IsTold came
  pub bytes : Consumes old.left new.left (bytes_of came)
  pub answered : answers_of came ≡ answers
  pub queued : old.kept ++ unsolicited_of came ≡ unsolicited ++ new.kept

-- a request was sent while none was outstanding, and now it is
abbrev pub Asks : View → View → Type 0
Asks old new = (old.failed ≡ false) × (old.waiting ≡ false) × (new ≡ record old { waiting = true })

-- what was outstanding, and whether a call failed, is as it was
abbrev pub SameState : View → View → Type 0
SameState old new = (new.waiting ≡ old.waiting) × (new.failed ≡ old.failed)

-- the message was given as the answer to the request that was outstanding
abbrev pub GivesAnswer : View → View → Type 0
GivesAnswer old new =
    Moves (new.message ∷ []) [] old new × (old.waiting ≡ true) × (new.waiting ≡ false) × (old.failed ≡ false) × (new.failed ≡ false)

-- the message was given as an unsolicited one
abbrev pub GivesUnsolicited : View → View → Type 0
GivesUnsolicited old new = Moves [] (new.message ∷ []) old new × SameState old new

-- nothing was given or lost, and what failed is failed still
abbrev pub GivesNothing : View → View → Type 0
GivesNothing old new = Moves [] [] old new × (new.waiting ≡ old.waiting) × (old.failed ≡ true → new.failed ≡ true)

-- the next message of what is left is unsolicited, or is not
pub record IsNextKind (unsolicited : Bool) (left : Option (List ℕ)) : Type 0 where
  pub bytes : List ℕ
  pub rest : Option (List ℕ)
  pub frame : IsWhole bytes
  pub kind : IsKind unsolicited bytes
  pub front : Consumes left rest bytes

-- the next message of what is left is unsolicited, and there is no room to keep it
pub record IsNextFull (bounds : Bounds) (v : View) : Type 0 where
  pub next : IsNextKind true v.left
  pub full : is_full bounds v.kept next.bytes ≡ true

-- ---- all calls

-- a client's view, and its writer
pub record State (W : Type 0) : Type 0 where
  pub view : View
  pub writer : W

-- a call: it sent this message, broke off while it sent it, gave this answer or unsolicited
-- message, or gave nothing
pub data Step : Type 0 where
  sent : List ℕ → Step
  broke : List ℕ → Step
  answered : List ℕ → Step
  told : List ℕ → Step
  idle : Step

-- a beginning of the message was taken
abbrev pub TookFront : {W : Type 0} → (W → W → List ℕ → Type 0) → List ℕ → W → W → Type 0
TookFront took message old new =
    (front : List ℕ) × (rest : List ℕ) × (message ≡ front ++ rest) × took old new front

-- what a call does, where a writer shows what it takes
abbrev pub IsStep : {W : Type 0} → (W → W → List ℕ → Type 0) → State W → Step → State W → Type 0
IsStep took a (sent m) b = Asks a.view b.view × took a.writer b.writer m
IsStep took a (broke m) b =
    (a.view.failed ≡ false) × (b.view ≡ record a.view { failed = true }) × TookFront took m a.writer b.writer
IsStep took a (answered m) b = GivesAnswer a.view b.view × (b.view.message ≡ m) × (b.writer ≡ a.writer)
IsStep took a (told m) b = GivesUnsolicited a.view b.view × (b.view.message ≡ m) × (b.writer ≡ a.writer)
IsStep took a idle b = GivesNothing a.view b.view × (b.writer ≡ a.writer)

-- the messages that were sent, given as answers, and given as unsolicited ones, in their order
abbrev pub all_sent : List Step → List (List ℕ)
all_sent [] = []
all_sent (sent m ∷ ss) = m ∷ all_sent ss
all_sent (_ ∷ ss) = all_sent ss

abbrev pub all_answers : List Step → List (List ℕ)
all_answers [] = []
all_answers (answered m ∷ ss) = m ∷ all_answers ss
all_answers (_ ∷ ss) = all_answers ss

abbrev pub all_told : List Step → List (List ℕ)
all_told [] = []
all_told (told m ∷ ss) = m ∷ all_told ss
all_told (_ ∷ ss) = all_told ss

-- one for a request that is outstanding
abbrev pub outstanding : View → ℕ
outstanding v = if v.waiting then 1 else 0

-- the messages were sent whole, in their order; behind them, where a call failed for good, there may be a
-- beginning of one more
pub record SendsAll {W : Type 0} (took : W → W → List ℕ → Type 0) (messages : List (List ℕ)) (a b : State W) : Type 0 where
  pub broken : List ℕ
  pub took_all : took a.writer b.writer (concat messages ++ broken)
  pub whole : b.view.failed ≡ false → broken ≡ []

-- what was sent, given and kept over all calls; each request has its answer or is the one outstanding
pub record Whole {W : Type 0} (took : W → W → List ℕ → Type 0) (steps : List Step) (a b : State W) : Type 0 where
  pub moves : Moves (all_answers steps) (all_told steps) a.view b.view
  pub sends : SendsAll took (all_sent steps) a b
  pub paired : length (all_sent steps) + outstanding a.view ≡ length (all_answers steps) + outstanding b.view

-- any calls together, of a writer that takes nothing where it is as it was, and what it took twice
-- in all
abbrev pub WholeRun : {W : Type 0} → sink.Ghosts W → Type 0
WholeRun {W} writer =
    ((w : W) → writer.took w w [])
    → ((a b c : W) (xs ys : List ℕ) → writer.took a b xs → writer.took b c ys → writer.took a c (xs ++ ys))
    → (steps : List Step) (a b : State W) → FoldsTo (IsStep writer.took) a steps b → Whole writer.took steps a b
