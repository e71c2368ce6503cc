-- Each call of a client as a step of all.
use Rattle.std.proofs.Common.{◌≡◌, Bool, true, false, ℕ, List, ◌++◌, Option, refl, sym, ap, ◌∙◌, inl, inr}
use Rattle.std.specs.Prelude.{Result, Ok, Err, IfOk, IfErr, OnOk, OnErr, MatchResult}
use Rattle.bser_format.specs.Tree.{Tree}
use Rattle.bser_format.specs.declared.errors.Error.{Error}
use Rattle.bser_ser.specs.Message.{Missed, Wrote}
use Rattle.bser_source.specs.declared.device.Sink as sink
use Rattle.watchman_client.specs.Calls.{Makes, MakesSent, MakesTold, MakesUnsent}
use Rattle.watchman_client.specs.Failures.{Unsent, may_be_sent}
use Rattle.watchman_client.specs.Steps.{Asks, GivesAnswer, GivesNothing, GivesUnsolicited, answered, idle}
use Rattle.watchman_client.specs.Views.{Connection, view_of}
use Rattle.watchman_client.specs.declared.errors.ClientError.{ClientError}
use Rattle.watchman_client.specs.declared.errors.ClientError.TheVariants.{Failed, Outstanding, Request}
use Rattle.watchman_client.proofs.Moves.{moves_same}
use Rattle.watchman_client.proofs.Runs.{false_true}

module _ {S W : Type 0} (remaining : S → Option (List ℕ)) (writer : sink.Ghosts W) (old new : Connection S W) where
  -- no more than whether a call failed is another
  idle_but : (b : Bool) → (old.failed ≡ true → b ≡ true) → view_of remaining new ≡ record (view_of remaining old) { failed = b } → new.writer ≡ old.writer → Makes remaining writer old new idle
  idle_but b failed view same = ((moves_same _ _ (ap (λ v. v.left) view) (ap (λ v. v.kept) view), ap (λ v. v.waiting) view, λ f. ap (λ v. v.failed) view ∙ failed f), same)

  or_idle : (m : Result Tree Error) → Makes remaining writer old new idle → MakesUnsent remaining writer old new m
  or_idle (Ok t) i = inl i
  or_idle (Err e) i = i

  unsent : (m : Result Tree Error) (e : ClientError) → Unsent remaining writer m old new e → MakesUnsent remaining writer old new m
  unsent m Failed (why, u) = or_idle m (idle_but old.failed (λ f. f) u.view u.writer)
  unsent m Outstanding (why, u) = or_idle m (idle_but old.failed (λ f. f) u.view u.writer)
  unsent m (Request e) (working, free, view, missed, kept) = go (may_be_sent e) refl m missed
    where
      go : (b : Bool) → may_be_sent e ≡ b → (m : Result Tree Error) → Missed writer m old.writer new.writer e → MakesUnsent remaining writer old new m
      go b is m (inl (why, same)) = or_idle m (idle_but (may_be_sent e) (λ f. false_true (sym working ∙ f)) view same)
      go b is (Err reason) (inr h) = absurd h
      go false is (Ok t) (inr p) = inl (idle_but (may_be_sent e) (λ f. false_true (sym working ∙ f)) view (kept is))
      go true is (Ok t) (inr p) = inr (working, view ∙ ap (λ b. record (view_of remaining old) { failed = b }) is, (p.front, p.pending ++ p.rest, p.is, p.took_it))
  unsent m _ u = absurd u

  pub sends : {A : Type 0} (r : Result A ClientError) (m : Result Tree Error) → OnOk r (Asks (view_of remaining old) (view_of remaining new)) → OnOk r (Wrote writer m old.writer new.writer) → IfErr r (Unsent remaining writer m old new)
      → MatchResult r (λ _. MakesSent remaining writer old new m) (λ _. MakesUnsent remaining writer old new m)
  sends (Ok v) (Ok t) asked wrote u = (asked, wrote.0.took_it)
  sends (Ok v) (Err e) asked wrote u = absurd wrote
  sends (Err e) m asked wrote u = unsent m e u

  pub answers : {A : Type 0} (r : Result A ClientError) → OnOk r (GivesAnswer (view_of remaining old) (view_of remaining new)) → OnErr r (GivesNothing (view_of remaining old) (view_of remaining new)) → new.writer ≡ old.writer
      → MatchResult r (λ _. Makes remaining writer old new (answered new.message)) (λ _. Makes remaining writer old new idle)
  answers (Ok v) given none same = (given, refl, same)
  answers (Err e) given none same = (none, same)

  pub gives : (r : Result Bool ClientError) → IfOk r (λ b. b ≡ true → GivesUnsolicited (view_of remaining old) (view_of remaining new)) → IfOk r (λ b. b ≡ false → GivesNothing (view_of remaining old) (view_of remaining new)) → OnErr r (GivesNothing (view_of remaining old) (view_of remaining new)) → new.writer ≡ old.writer
      → MatchResult r (MakesTold remaining writer old new) (λ _. Makes remaining writer old new idle)
  gives (Ok true) given none err same = (given refl, refl, same)
  gives (Ok false) given none err same = (none refl, same)
  gives (Err e) given none err same = (err, same)
