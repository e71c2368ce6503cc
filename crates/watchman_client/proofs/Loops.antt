-- The items of a loop over events, one after another.
use Rattle.std.proofs.Common.{◌≢◌, ◌-◌, ℕ, List, [], ◌∷◌, append-nil, refl, ap, subst, ◌∙◌, arith, inl, inr}
use Rattle.std.specs.Prelude.{Option, Result, Ok, Err, if◌then◌else◌}
use Rattle.std.specs.List.{FoldsTo}
use Rattle.watchman_client.specs.Events.{Loop, Gives, GivesNone, IsHindrance, AreItems, Gave, GaveAll}
use Rattle.watchman_client.specs.Steps.{Moves}
use Rattle.watchman_client.specs.Views.{view_of}
use Rattle.watchman_client.specs.declared.errors.ClientError.{ClientError}
use Rattle.watchman_client.proofs.Moves.{moves_same, moves_then}

module _ {S A : Type 0} (W : Type 0) (remaining : S → Option (List ℕ)) (reads : List ℕ → A → Type 0) (unreads : List ℕ → ClientError → Type 0) where
  -- an error that gives no message stands before any items
  hindered_then : (e : ClientError) (items : List (Result A ClientError)) (ms : List (List ℕ)) → IsHindrance W remaining reads unreads e → AreItems W remaining reads unreads items ms → AreItems W remaining reads unreads (Err e ∷ items) ms
  hindered_then e items [] h rest = (h, rest)
  hindered_then e items (m ∷ ms) h rest = inr (h, rest)

  no_item : (a : Loop S W) → Gave W remaining reads unreads [] a a
  no_item a = record {
    messages = [];
    moves = moves_same (view_of remaining a.client) (view_of remaining a.client) refl refl;
    given = refl;
    writer = refl;
    goes_on = λ all. omega arith;
  }

  one_more : (item : Result A ClientError) (items : List (Result A ClientError)) (a j b : Loop S W) → Gives W remaining reads unreads a item j → Gave W remaining reads unreads items j b → Gave W remaining reads unreads (item ∷ items) a b
  one_more (Ok v) items a j b ((((moves, state), reading), stays), more, left) rest = record {
    messages = j.client.message ∷ rest.messages;
    moves = moves_then [] (j.client.message ∷ []) [] rest.messages (view_of remaining a.client) (view_of remaining j.client) (view_of remaining b.client) moves rest.moves;
    given = (reading, rest.given);
    writer = rest.writer ∙ stays.writer;
    goes_on = λ all. omega (arith, more, left, rest.goes_on all.1);
  }
  one_more (Err e) items a j b ((inl hindered, stays), more, left) rest = record {
    messages = rest.messages;
    moves = moves_then [] [] [] rest.messages (view_of remaining a.client) (view_of remaining j.client) (view_of remaining b.client) hindered.nothing.0 rest.moves;
    given = hindered_then e items rest.messages (j.client, hindered.reason) rest.given;
    writer = rest.writer ∙ stays.writer;
    goes_on = λ all. omega (arith, more, left ∙ ap (λ ends. if ends then 0 else a.left - 1) all.0, rest.goes_on all.1);
  }
  one_more (Err e) items a j b ((inr ((moves, state), unread), stays), more, left) rest = record {
    messages = j.client.message ∷ rest.messages;
    moves = moves_then [] (j.client.message ∷ []) [] rest.messages (view_of remaining a.client) (view_of remaining j.client) (view_of remaining b.client) moves rest.moves;
    given = inl (unread, rest.given);
    writer = rest.writer ∙ stays.writer;
    goes_on = λ all. omega (arith, more, left ∙ ap (λ ends. if ends then 0 else a.left - 1) all.0, rest.goes_on all.1);
  }

  pub gave : (items : List (Result A ClientError)) (a b : Loop S W) → FoldsTo (Gives W remaining reads unreads) a items b → Gave W remaining reads unreads items a b
  gave [] a b e = subst (λ c. Gave W remaining reads unreads [] a c) e (no_item a)
  gave (item ∷ items) a b (j, step, run) = one_more item items a j b step (gave items j b run)

  pub gave_all : (items : List (Result A ClientError)) (a b c : Loop S W) → FoldsTo (Gives W remaining reads unreads) a items b → b.left ≢ 0 → GivesNone W remaining reads unreads b c → GaveAll W remaining reads unreads items a c
  gave_all items a b c run some (left, inl (zero, same)) = absurd (some zero)
  gave_all items a b c run some (left, inr ((nothing, end, kept), stays)) =
      let g = gave items a b run in
      record {
        gave = record {
          messages = g.messages;
          moves = subst (λ l. Moves [] l (view_of remaining a.client) (view_of remaining c.client)) (append-nil g.messages) (moves_then [] g.messages [] [] (view_of remaining a.client) (view_of remaining b.client) (view_of remaining c.client) g.moves nothing.0);
          given = g.given;
          writer = stays.writer ∙ g.writer;
          goes_on = λ all. omega (arith, left, g.goes_on all);
        };
        kept = kept;
        end = end;
      }
