-- The compact message is a message, and is read as the value.
use Rattle.std.proofs.Common.{◌≡◌, ℕ, ◌<◌, ◌≤◌, ◌^◌, List, ◌++◌, length, Option, Some, sym, ap, ◌∙◌, arith}
use Rattle.std.proofs.lemmas.Option.{same_Some}
use Rattle.bser_format.specs.Tree.{Tree}
use Rattle.bser_format.specs.Message.{IsMessage}
use Rattle.bser_format.specs.Expand.{expand}
use Rattle.bser_format.specs.Normal.{normal}
use Rattle.bser_format.specs.Measures.{depth}
use Rattle.bser_format.specs.Compact.{fold_templates, compact_body, compact_message}
use Rattle.bser_format.specs.ValueTree.{IsValueTree}
use Rattle.bser_format.proofs.GrammarLaws.{one_message}
use Rattle.bser_format.proofs.Back.{canon_message, normal_settled}
use Rattle.bser_format.proofs.Fits.{body_fits, equal_trees}
use Rattle.bser_format.proofs.Folded.{folded_stands, folded_reads, folded_depth}
use Rattle.bser_format.proofs.FoldedFits.{short_writable}

pub compact_is_message : (n : ℕ) (t : Tree) → IsValueTree t → depth t ≤ n → length (compact_message t) < 2 ^ 63 → IsMessage n 0 (fold_templates t) (compact_message t)
compact_is_message n t h l short = canon_message n (fold_templates t) (short_writable t h (body_fits (fold_templates t) short)) (omega (arith, l, folded_depth t)) short

pub compact_front : (n c : ℕ) (t u : Tree) (a x y : List ℕ) → IsValueTree t → depth t ≤ n → length (compact_message t) < 2 ^ 63 → IsMessage n c u a → compact_message t ++ x ≡ a ++ y
    → (compact_message t ≡ a) × (0 ≡ c) × (fold_templates t ≡ u)
compact_front n c t u a x y h l short m e = one_message n 0 c (compact_message t) a x y (fold_templates t) u (compact_is_message n t h l short) m e

pub compact_meaning : {C : Type 0} (reads : Tree → Option C) (n k : ℕ) (t u : Tree) (a x y : List ℕ) (c : C) → IsValueTree t → depth t ≤ n → length (compact_message t) < 2 ^ 63 → IsMessage n k u a
    → compact_message t ++ x ≡ a ++ y → reads t ≡ Some c → reads (expand u) ≡ Some c
compact_meaning reads n k t u a x y c h l short m e is =
    let same = (compact_front n k t u a x y h l short m e).2 in
    ap reads (sym (ap expand same) ∙ folded_stands t ∙ (normal_settled t h).0) ∙ is

-- values with equal compact messages are equal
pub equal_compact : (t u : Tree) → IsValueTree t → IsValueTree u → length (compact_body t) < 2 ^ 63 → length (compact_body u) < 2 ^ 63 → compact_message t ≡ compact_message u → t ≡ u
equal_compact t u h k l m e =
    let same = equal_trees (fold_templates t) (fold_templates u) (short_writable t h l) (short_writable u k m) l m e in
    same_Some t u (sym (folded_reads t h) ∙ ap (λ v. normal (expand v)) same ∙ folded_reads u k)
