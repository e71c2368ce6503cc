-- How the calls of a client add up.
use Rattle.std.proofs.Common.{◌≡◌, ℕ, Bool, true, false, List, [], ◌∷◌, ◌++◌, Option, Some, None, map, append-nil, append_assoc, refl, sym, ap, subst, ◌∙◌}
use Rattle.std.specs.Prelude.{if◌then◌else◌, Result, Ok, Err, OnOk, OnErr, IfErr}
use Rattle.std.specs.List.{AllByRecursion, concat}
use Rattle.std.specs.Io.KnownBytes.{Consumes, Keeps}
use Rattle.std.proofs.KnownBytes.{Consumes-trans}
use Rattle.std.proofs.lemmas.List.{map-append}
use Rattle.std.proofs.lemmas.List.Folds.{concat-append}
use Rattle.watchman_client.specs.Kinds.{IsKind, IsWhole}
use Rattle.watchman_client.specs.Arrivals.{Arrival, IsTold, bytes_of, answers_of, unsolicited_of}
use Rattle.watchman_client.specs.Views.{View}
use Rattle.watchman_client.specs.Steps.{Moves, GivesNothing}

-- ---- of lists of messages

all_append : {X : Type 0} (P : X → Type 0) (xs ys : List X) → AllByRecursion P xs → AllByRecursion P ys → AllByRecursion P (xs ++ ys)
all_append P [] ys p q = q
all_append P (x ∷ xs) ys p q = (p.0, all_append P xs ys p.1 q)

bytes_append : (xs ys : List Arrival) → bytes_of (xs ++ ys) ≡ bytes_of xs ++ bytes_of ys
bytes_append xs ys = ap concat (map-append (λ a. a.bytes) xs ys) ∙ concat-append (map (λ a. a.bytes) xs) (map (λ a. a.bytes) ys)

answers_append : (xs ys : List Arrival) → answers_of (xs ++ ys) ≡ answers_of xs ++ answers_of ys
answers_append [] ys = refl
answers_append (x ∷ xs) ys = go x.unsolicited (answers_append xs ys)
  where
    go : (u : Bool) → answers_of (xs ++ ys) ≡ answers_of xs ++ answers_of ys → (if u then answers_of (xs ++ ys) else x.bytes ∷ answers_of (xs ++ ys)) ≡ (if u then answers_of xs else x.bytes ∷ answers_of xs) ++ answers_of ys
    go true e = e
    go false e = ap (λ l. x.bytes ∷ l) e

unsolicited_append : (xs ys : List Arrival) → unsolicited_of (xs ++ ys) ≡ unsolicited_of xs ++ unsolicited_of ys
unsolicited_append [] ys = refl
unsolicited_append (x ∷ xs) ys = go x.unsolicited (unsolicited_append xs ys)
  where
    go : (u : Bool) → unsolicited_of (xs ++ ys) ≡ unsolicited_of xs ++ unsolicited_of ys → (if u then x.bytes ∷ unsolicited_of (xs ++ ys) else unsolicited_of (xs ++ ys)) ≡ (if u then x.bytes ∷ unsolicited_of xs else unsolicited_of xs) ++ unsolicited_of ys
    go true e = ap (λ l. x.bytes ∷ l) e
    go false e = e

-- ---- of moves

keeps_consumes : (a b : Option (List ℕ)) → Keeps a b → Consumes a b []
keeps_consumes None b k = tt
keeps_consumes (Some x) None k = k
keeps_consumes (Some x) (Some y) k = sym k

pub keeps_refl : (a : Option (List ℕ)) → Keeps a a
keeps_refl None = tt
keeps_refl (Some x) = refl

-- nothing came
pub moves_none : (old new : View) → Keeps old.left new.left → new.kept ≡ old.kept → Moves [] [] old new
moves_none old new left kept = record {
  came = [];
  told = tt;
  bytes = keeps_consumes old.left new.left left;
  answered = refl;
  queued = append-nil old.kept ∙ sym kept;
}

-- what is left, and what is kept, is the same
pub moves_same : (old new : View) → new.left ≡ old.left → new.kept ≡ old.kept → Moves [] [] old new
moves_same old new left kept = moves_none old new (subst (λ l. Keeps old.left l) (sym left) (keeps_refl old.left)) kept

-- one call after another
pub moves_then : (xs gs ys hs : List (List ℕ)) (a b c : View) → Moves xs gs a b → Moves ys hs b c → Moves (xs ++ ys) (gs ++ hs) a c
moves_then xs gs ys hs a b c m n = record {
  came = m.came ++ n.came;
  told = all_append IsTold m.came n.came m.told n.told;
  bytes = subst (λ l. Consumes a.left c.left l) (sym (bytes_append m.came n.came)) (Consumes-trans a.left b.left c.left (bytes_of m.came) (bytes_of n.came) m.bytes n.bytes);
  answered = answers_append m.came n.came ∙ ap (λ l. l ++ answers_of n.came) m.answered ∙ ap (λ l. xs ++ l) n.answered;
  queued = ap (λ l. a.kept ++ l) (unsolicited_append m.came n.came)
      ∙ sym (append_assoc a.kept (unsolicited_of m.came) (unsolicited_of n.came))
      ∙ ap (λ l. l ++ unsolicited_of n.came) m.queued
      ∙ append_assoc gs b.kept (unsolicited_of n.came)
      ∙ ap (λ l. gs ++ l) n.queued
      ∙ sym (append_assoc gs hs c.kept);
}

-- the same whether it is unsolicited
came_bytes : (u : Bool) (a b : Option (List ℕ)) (m : List ℕ) → Consumes a b m → Consumes a b (bytes_of (record { bytes = m; unsolicited = u } ∷ []))
came_bytes u a b m c = subst (λ l. Consumes a b l) (sym (append-nil m)) c

-- a message was taken of what stayed
pub keeps_then : (a b c : Option (List ℕ)) (m : List ℕ) → Keeps a b → Consumes b c m → Consumes a c m
keeps_then a b c m k h = Consumes-trans a b c [] m (keeps_consumes a b k) h

-- the answer came, and was given
pub moves_answer : (m : List ℕ) (old new : View) → Consumes old.left new.left m → IsWhole m → IsKind false m → new.kept ≡ old.kept → Moves (m ∷ []) [] old new
moves_answer m old new h frame kind kept = record {
  came = record { bytes = m; unsolicited = false } ∷ [];
  told = ((frame, kind), tt);
  bytes = came_bytes false old.left new.left m h;
  answered = refl;
  queued = append-nil old.kept ∙ sym kept;
}

-- an unsolicited message came, and was given, while none was kept
pub moves_given : (m : List ℕ) (old new : View) → Consumes old.left new.left m → IsWhole m → IsKind true m → old.kept ≡ [] → new.kept ≡ [] → Moves [] (m ∷ []) old new
moves_given m old new h frame kind none still = record {
  came = record { bytes = m; unsolicited = true } ∷ [];
  told = ((frame, kind), tt);
  bytes = came_bytes true old.left new.left m h;
  answered = refl;
  queued = ap (λ l. l ++ m ∷ []) none ∙ ap (λ l. m ∷ l) (sym still);
}

-- an unsolicited message came, and was kept
pub moves_kept : (m : List ℕ) (old new : View) → Consumes old.left new.left m → IsWhole m → IsKind true m → new.kept ≡ old.kept ++ m ∷ [] → Moves [] [] old new
moves_kept m old new h frame kind kept = record {
  came = record { bytes = m; unsolicited = true } ∷ [];
  told = ((frame, kind), tt);
  bytes = came_bytes true old.left new.left m h;
  answered = refl;
  queued = sym kept;
}

-- a call that gave nothing after another
pub nothing_then : (a b c : View) → GivesNothing a b → GivesNothing b c → GivesNothing a c
nothing_then a b c (moves, waiting, failed) (more, still, fails) = (moves_then [] [] [] [] a b c moves more, still ∙ waiting, λ f. fails (failed f))

pub moves_of : (a b : View) → GivesNothing a b → Moves [] [] a b
moves_of a b (moves, waiting, failed) = moves

pub on_err : {A E : Type 0} (r : Result A E) (P : Type 0) → P → OnErr r P
on_err (Ok v) P p = tt
on_err (Err e) P p = p

pub on_ok : {A E : Type 0} (r : Result A E) (P : Type 0) → (A → P) → OnOk r P
on_ok (Ok v) P p = p v
on_ok (Err e) P p = tt

pub if_err : {A E : Type 0} (r : Result A E) (P Q : E → Type 0) → ((e : E) → P e → Q e) → IfErr r P → IfErr r Q
if_err (Ok v) P Q h p = tt
if_err (Err e) P Q h p = h e p

-- the same message
pub answer_at : (m n : List ℕ) (a b : View) → n ≡ m → Moves (m ∷ []) [] a b → Moves (n ∷ []) [] a b
answer_at m n a b e moves = subst (λ x. Moves (x ∷ []) [] a b) (sym e) moves

pub given_at : (m n : List ℕ) (a b : View) → n ≡ m → Moves [] (m ∷ []) a b → Moves [] (n ∷ []) a b
given_at m n a b e moves = subst (λ x. Moves [] (x ∷ []) a b) (sym e) moves
