-- How many bytes are kept.
use Rattle.std.proofs.Common.{◌≡◌, ℕ, ◌+◌, List, [], ◌∷◌, ◌++◌, length, append-nil, length-append, ap, ◌∙◌}
use Rattle.std.specs.List.{concat}
use Rattle.std.proofs.lemmas.List.Folds.{concat-append}
use Rattle.watchman_client.specs.Kept.{size_of}

-- one message more has its bytes
pub size_snoc : (xs : List (List ℕ)) (x : List ℕ) → size_of (xs ++ x ∷ []) ≡ size_of xs + length x
size_snoc xs x = ap length (concat-append xs (x ∷ [])) ∙ length-append (concat xs) (x ++ []) ∙ ap (λ l. size_of xs + length l) (append-nil x)
