-- Bounds on the value that a body reads as, and the one tree of a template written out.
use Rattle.std.proofs.Common.{◌≡◌, ℕ, suc, ◌-◌, ◌*◌, ◌^◌, ◌<◌, ◌≤◌, List, [], length, Some, refl, sym, ap, ◌∙◌, arith}
use Rattle.std.proofs.Math.Nat.{mul-le-mul_left}
use Rattle.bser_format.specs.Tree.{Tree, Rows, template}
use Rattle.bser_format.specs.Grammar.{Spells}
use Rattle.bser_format.specs.Message.{IsMessage}
use Rattle.bser_format.specs.Expand.{expand, IsTemplateFree}
use Rattle.bser_format.specs.Normal.{normal}
use Rattle.bser_format.specs.Measures.{depth, nodes}
use Rattle.bser_format.specs.Canonical.{canonical_body, canonical_message}
use Rattle.bser_format.specs.WrittenOut.{written_out, row_objects}
use Rattle.bser_format.proofs.Fronts.{one_value}
use Rattle.bser_format.proofs.Sizes.{nodes_below}
use Rattle.bser_format.proofs.Squares.{depth_below, text_squared}
use Rattle.bser_format.proofs.Least.{text_least}
use Rattle.bser_format.proofs.Lengths.{message_least}
use Rattle.bser_format.proofs.Values.{normal_within, expand_free}
use Rattle.bser_format.proofs.Written.{written_out_spelled}

pub least_message : (n c : ℕ) (u v : Tree) (b : List ℕ) → IsMessage n c u b → IsTemplateFree u → normal (expand u) ≡ Some v → length (canonical_message v) ≤ length b
least_message n c u v b m free e = message_least n c v u b m (text_least n u m.body v m.value (ap normal (sym (expand_free u free)) ∙ e))

pub value_nodes : (n : ℕ) (u v : Tree) (b : List ℕ) → Spells n u b → normal (expand u) ≡ Some v → nodes v ≤ 2 * length b
value_nodes n u v b h e = let within = normal_within (expand u) v e in omega (arith, nodes_below n u b h)

pub value_depth : (n : ℕ) (u v : Tree) (b : List ℕ) → Spells n u b → normal (expand u) ≡ Some v → depth v ≤ 2 * n - 1
value_depth n u v b h e = let within = normal_within (expand u) v e in omega (arith, depth_below n u b h)

pub value_body : (n : ℕ) (u v : Tree) (b : List ℕ) → Spells n u b → normal (expand u) ≡ Some v → length (canonical_body v) ≤ length b * length b
value_body n u v b h e = text_squared n u b v h e

small_square : (k : ℕ) → k ≤ 3037000499 → k * k < 2 ^ 63
small_square k l = let one : k * k ≤ k * 3037000499 = mul-le-mul_left k l in omega arith

pub value_fits : (n : ℕ) (u v : Tree) (b : List ℕ) → Spells n u b → normal (expand u) ≡ Some v → length b ≤ 3037000499 → length (canonical_body v) < 2 ^ 63
value_fits n u v b h e l = omega (arith, value_body n u v b h e, small_square (length b) l)

pub written_out_one_tree : (n : ℕ) (ks : List (List ℕ)) (rs : Rows) (b : List ℕ) (h : Spells n (template ks rs) b) (u : Tree) → Spells (suc n) u (written_out n ks rs b h) → row_objects ks rs ≡ u
written_out_one_tree n ks rs b h u s = (one_value (suc n) (written_out n ks rs b h) (written_out n ks rs b h) [] [] (row_objects ks rs) u (written_out_spelled n ks rs b h) s refl).1
