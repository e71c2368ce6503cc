-- Values that are kept in pieces.
use Rattle.std.proofs.Common.{◌≡◌, List, [], ◌∷◌, ◌++◌, Vec, sym, ap, ◌∙◌, append_assoc, append-nil}
use Rattle.std.specs.declared.alloc.Global.{Global}
use Rattle.bser_value.specs.Gathered.{joined}
use Rattle.bser_value.specs.declared.value.Value.{Value}

-- a piece behind the others
pub joined_last : (ps : List (Vec Value Global)) (p : Vec Value Global) → joined (ps ++ p ∷ []) ≡ joined ps ++ p.items
joined_last [] p = append-nil p.items
joined_last (q ∷ qs) p = ap (λ l. q.items ++ l) (joined_last qs p) ∙ sym (append_assoc q.items (joined qs) p.items)
