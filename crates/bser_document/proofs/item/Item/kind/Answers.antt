-- The node tells it.
use Rattle.std.proofs.Common.{List, ℕ, sym, ap}
use Rattle.bser_document.specs.Holds.{kind_of, node_tree}
use Rattle.bser_document.proofs.Holds.{kind_shown, null_shown}
use Rattle.bser_document.proofs.item.Item.kind.Goals as goal

pub returns-in-Array : goal.returns-in-Array
returns-in-Array c u h = kind_shown c.args.self.document.now c.node.result _ (λ (s : List ℕ). sym (ap (λ n. kind_of (node_tree s n)) c.in-Array.is)) u (c.node.ensures.shows u h)

pub returns-in-Template : goal.returns-in-Template
returns-in-Template c u h = kind_shown c.args.self.document.now c.node.result _ (λ (s : List ℕ). sym (ap (λ n. kind_of (node_tree s n)) c.in-Template.is)) u (c.node.ensures.shows u h)

pub returns-in-Object : goal.returns-in-Object
returns-in-Object c u h = kind_shown c.args.self.document.now c.node.result _ (λ (s : List ℕ). sym (ap (λ n. kind_of (node_tree s n)) c.in-Object.is)) u (c.node.ensures.shows u h)

pub returns-in_default : goal.returns-in_default
returns-in_default c u h =
    let d = c.in_default in
    kind_shown c.args.self.document.now c.node.result _ (λ (s : List ℕ). null_shown s c.node.result d.not-Bool d.not-Int d.not-Real d.not-Bytes d.not-Text d.not-Array d.not-Object d.not-Template) u (c.node.ensures.shows u h)
