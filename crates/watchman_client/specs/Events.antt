-- What a loop over the events of a client gives in all.
use Rattle.std.specs.Prelude.{◌≡◌, ◌≢◌, ◌⊎◌, ◌+◌, ℕ, false, List, [], ◌∷◌, length, Option, Some, None, Result, Ok, Err}
use Rattle.std.specs.Io.KnownBytes.{IsAtEnd}
use Rattle.std.specs.List.{AllByRecursion, FoldsTo}
use Rattle.watchman_client.specs.Failures.{Hinders}
use Rattle.watchman_client.specs.Requests.{GivesItem, ends_with}
use Rattle.watchman_client.specs.Steps.{Moves}
use Rattle.watchman_client.specs.Views.{Connection, view_of}
use Rattle.watchman_client.specs.declared.errors.ClientError.{ClientError}

-- a loop: how many items may come, and the client
pub record Loop (S W : Type 0) : Type 0 where
  pub left : ℕ
  pub client : Connection S W

module _ {S A : Type 0} (W : Type 0) (remaining : S → Option (List ℕ)) (reads : List ℕ → A → Type 0) (unreads : List ℕ → ClientError → Type 0) where
  -- the item comes
  abbrev pub Gives : Loop S W → Result A ClientError → Loop S W → Type 0
  Gives a item b = GivesItem remaining reads unreads a.left b.left a.client b.client (Some item)

  -- no item comes
  abbrev pub GivesNone : Loop S W → Loop S W → Type 0
  GivesNone a b = GivesItem remaining reads unreads a.left b.left a.client b.client None

  -- the error gives no message, for its reason
  abbrev pub IsHindrance : ClientError → Type 0
  IsHindrance e = (c : Connection S W) × Hinders remaining e c

  -- the items are these messages, each once and in order: as what it reads as, or as the error why
  -- it is not read. Errors that give no message may stand between
  abbrev pub AreItems : List (Result A ClientError) → List (List ℕ) → Type 0
  AreItems [] messages = messages ≡ []
  AreItems (Ok v ∷ items) [] = ⊥
  AreItems (Ok v ∷ items) (m ∷ rest) = reads m v × AreItems items rest
  AreItems (Err e ∷ items) [] = IsHindrance e × AreItems items []
  AreItems (Err e ∷ items) (m ∷ rest) =
      (unreads m e × AreItems items rest) ⊎ (IsHindrance e × AreItems items (m ∷ rest))

  -- what the items are in all: the unsolicited messages that were kept and that came, each once and in
  -- order, and nothing was sent. The loop goes on behind each that does not end all
  pub record Gave (items : List (Result A ClientError)) (a b : Loop S W) : Type 0 where
    pub messages : List (List ℕ)
    pub moves : Moves [] messages (view_of remaining a.client) (view_of remaining b.client)
    pub given : AreItems items messages
    pub writer : b.client.writer ≡ a.client.writer
    pub goes_on : AllByRecursion (λ item. ends_with item ≡ false) items → b.left + length items ≡ a.left

  -- no item comes before the end of the stream, while items may come
  pub record GaveAll (items : List (Result A ClientError)) (a b : Loop S W) : Type 0 where
    pub gave : Gave items a b
    pub kept : b.client.kept ≡ []
    pub end : IsAtEnd (view_of remaining b.client).left

  -- over any items of a loop
  abbrev pub EventsInTurn : Type 0
  EventsInTurn = (items : List (Result A ClientError)) (a b : Loop S W)
      → FoldsTo Gives a items b → Gave items a b

  -- over all items of a loop, up to the first call that gives none
  abbrev pub EventsToTheEnd : Type 0
  EventsToTheEnd = (items : List (Result A ClientError)) (a b c : Loop S W)
      → FoldsTo Gives a items b → b.left ≢ 0 → GivesNone b c → GaveAll items a c
