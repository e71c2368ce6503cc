-- All calls of a client together.
use Rattle.std.proofs.Common.{◌≡◌, ℕ, ◌+◌, Bool, true, false, List, [], ◌∷◌, ◌++◌, length, append_assoc, refl, sym, ap, subst, ◌∙◌, arith}
use Rattle.std.specs.Prelude.{if◌then◌else◌}
use Rattle.std.specs.List.{FoldsTo, concat}
use Rattle.watchman_client.specs.Views.{View}
use Rattle.watchman_client.specs.Steps.{Moves, State, Step, sent, broke, answered, told, idle, IsStep, all_sent, all_answers, all_told, outstanding, SendsAll, Whole}
use Rattle.watchman_client.proofs.Moves.{moves_same, moves_then}

pub false_true : {X : Type 0} → false ≡ true → X
false_true {X} p = absurd (subst {0, 0} IsFalse p tt)
  where
    IsFalse : Bool → Type 0
    IsFalse false = Unit {0}
    IsFalse true = ⊥

-- a view with another of these is left as it was
as_it_was : (f : View → View) (a b : View) → b ≡ f a → (f a).left ≡ a.left → (f a).kept ≡ a.kept → Moves [] [] a b
as_it_was f a b e left kept = moves_same a b (ap (λ v. v.left) e ∙ left) (ap (λ v. v.kept) e ∙ kept)

module _ {W : Type 0} (took : W → W → List ℕ → Type 0) (none : (w : W) → took w w []) (both : (a b c : W) (xs ys : List ℕ) → took a b xs → took b c ys → took a c (xs ++ ys)) where
  -- ---- what was given and kept

  pub run_moves : (ss : List Step) (a b : State W) → FoldsTo (IsStep took) a ss b → Moves (all_answers ss) (all_told ss) a.view b.view
  run_moves [] a b e = moves_same a.view b.view (ap (λ s. s.view.left) (sym e)) (ap (λ s. s.view.kept) (sym e))
  run_moves (sent m ∷ ss) a b (j, ((failed, waiting, view), taken), r) = moves_then [] [] _ _ a.view j.view b.view (as_it_was (λ v. record v { waiting = true }) a.view j.view view refl refl) (run_moves ss j b r)
  run_moves (broke m ∷ ss) a b (j, (failed, view, (front, rest, whole, taken)), r) = moves_then [] [] _ _ a.view j.view b.view (as_it_was (λ v. record v { failed = true }) a.view j.view view refl refl) (run_moves ss j b r)
  run_moves (answered m ∷ ss) a b (j, ((moves, waited, done, works, still), message, writer), r) = moves_then (m ∷ []) [] _ _ a.view j.view b.view (subst (λ x. Moves (x ∷ []) [] a.view j.view) message moves) (run_moves ss j b r)
  run_moves (told m ∷ ss) a b (j, ((moves, (waiting, failed)), message, writer), r) = moves_then [] (m ∷ []) _ _ a.view j.view b.view (subst (λ x. Moves [] (x ∷ []) a.view j.view) message moves) (run_moves ss j b r)
  run_moves (idle ∷ ss) a b (j, ((moves, waiting, failed), writer), r) = moves_then [] [] _ _ a.view j.view b.view moves (run_moves ss j b r)

  -- ---- what was sent

  -- what failed is failed at the end
  pub stays_failed : (ss : List Step) (a b : State W) → FoldsTo (IsStep took) a ss b → a.view.failed ≡ true → b.view.failed ≡ true
  stays_failed [] a b e f = ap (λ s. s.view.failed) (sym e) ∙ f
  stays_failed (sent m ∷ ss) a b (j, ((failed, waiting, view), taken), r) f = false_true (sym failed ∙ f)
  stays_failed (broke m ∷ ss) a b (j, (failed, view, (front, rest, whole, taken)), r) f = false_true (sym failed ∙ f)
  stays_failed (answered m ∷ ss) a b (j, ((moves, waited, done, works, still), message, writer), r) f = false_true (sym works ∙ f)
  stays_failed (told m ∷ ss) a b (j, ((moves, (waiting, failed)), message, writer), r) f = stays_failed ss j b r (failed ∙ f)
  stays_failed (idle ∷ ss) a b (j, ((moves, waiting, failed), writer), r) f = stays_failed ss j b r (failed f)

  -- nothing is sent once a call failed
  silent : (ss : List Step) (a b : State W) → FoldsTo (IsStep took) a ss b → a.view.failed ≡ true → (all_sent ss ≡ []) × (b.writer ≡ a.writer)
  silent [] a b e f = (refl, ap (λ s. s.writer) (sym e))
  silent (sent m ∷ ss) a b (j, ((failed, waiting, view), taken), r) f = false_true (sym failed ∙ f)
  silent (broke m ∷ ss) a b (j, (failed, view, (front, rest, whole, taken)), r) f = false_true (sym failed ∙ f)
  silent (answered m ∷ ss) a b (j, ((moves, waited, done, works, still), message, writer), r) f = false_true (sym works ∙ f)
  silent (told m ∷ ss) a b (j, ((moves, (waiting, failed)), message, writer), r) f =
      let s = silent ss j b r (failed ∙ f) in
      (s.0, s.1 ∙ writer)
  silent (idle ∷ ss) a b (j, ((moves, waiting, failed), writer), r) f =
      let s = silent ss j b r (failed f) in
      (s.0, s.1 ∙ writer)

  -- the same with the writer as it was
  same_writer : (ms : List (List ℕ)) (a j b : State W) → j.writer ≡ a.writer → SendsAll took ms j b → SendsAll took ms a b
  same_writer ms a j b e s = record {
    broken = s.broken;
    took_all = subst (λ w. took w b.writer (concat ms ++ s.broken)) e s.took_all;
    whole = s.whole;
  }

  pub run_sends : (ss : List Step) (a b : State W) → FoldsTo (IsStep took) a ss b → SendsAll took (all_sent ss) a b
  run_sends [] a b e = record {
    broken = [];
    took_all = subst (λ s. took a.writer s.writer []) e (none a.writer);
    whole = λ f. refl;
  }
  run_sends (sent m ∷ ss) a b (j, ((failed, waiting, view), taken), r) =
      let s = run_sends ss j b r in
      record {
        broken = s.broken;
        took_all = subst (λ l. took a.writer b.writer l) (sym (append_assoc m (concat (all_sent ss)) s.broken)) (both a.writer j.writer b.writer m (concat (all_sent ss) ++ s.broken) taken s.took_all);
        whole = s.whole;
      }
  run_sends (broke m ∷ ss) a b (j, (failed, view, (front, rest, whole, taken)), r) =
      let now : j.view.failed ≡ true = ap (λ v. v.failed) view in
      let quiet = silent ss j b r now in
      record {
        broken = front;
        took_all = subst (λ l. took a.writer b.writer (concat l ++ front)) (sym quiet.0) (subst (λ w. took a.writer w front) (sym quiet.1) taken);
        whole = λ f. false_true (sym f ∙ stays_failed ss j b r now);
      }
  run_sends (answered m ∷ ss) a b (j, ((moves, waited, done, works, still), message, writer), r) = same_writer _ a j b writer (run_sends ss j b r)
  run_sends (told m ∷ ss) a b (j, ((moves, (waiting, failed)), message, writer), r) = same_writer _ a j b writer (run_sends ss j b r)
  run_sends (idle ∷ ss) a b (j, ((moves, waiting, failed), writer), r) = same_writer _ a j b writer (run_sends ss j b r)

  -- ---- which request an answer is for

  pub run_pairs : (ss : List Step) (a b : State W) → FoldsTo (IsStep took) a ss b → length (all_sent ss) + outstanding a.view ≡ length (all_answers ss) + outstanding b.view
  run_pairs [] a b e = omega (arith, ap (λ s. outstanding s.view) e)
  run_pairs (sent m ∷ ss) a b (j, ((failed, waiting, view), taken), r) =
      let next : outstanding j.view ≡ 1 = ap (λ v. outstanding v) view in
      let now : outstanding a.view ≡ 0 = ap (λ w. if w then 1 else 0) waiting in
      omega (arith, next, now, run_pairs ss j b r)
  run_pairs (broke m ∷ ss) a b (j, (failed, view, (front, rest, whole, taken)), r) =
      let same : outstanding j.view ≡ outstanding a.view = ap (λ v. outstanding v) view in
      omega (arith, same, run_pairs ss j b r)
  run_pairs (answered m ∷ ss) a b (j, ((moves, waited, done, works, still), message, writer), r) =
      let next : outstanding j.view ≡ 0 = ap (λ w. if w then 1 else 0) done in
      let now : outstanding a.view ≡ 1 = ap (λ w. if w then 1 else 0) waited in
      omega (arith, next, now, run_pairs ss j b r)
  run_pairs (told m ∷ ss) a b (j, ((moves, (waiting, failed)), message, writer), r) =
      let same : outstanding j.view ≡ outstanding a.view = ap (λ w. if w then 1 else 0) waiting in
      omega (arith, same, run_pairs ss j b r)
  run_pairs (idle ∷ ss) a b (j, ((moves, waiting, failed), writer), r) =
      let same : outstanding j.view ≡ outstanding a.view = ap (λ w. if w then 1 else 0) waiting in
      omega (arith, same, run_pairs ss j b r)

  pub run_whole : (ss : List Step) (a b : State W) → FoldsTo (IsStep took) a ss b → Whole took ss a b
  run_whole ss a b r = record {
    moves = run_moves ss a b r;
    sends = run_sends ss a b r;
    paired = run_pairs ss a b r;
  }
