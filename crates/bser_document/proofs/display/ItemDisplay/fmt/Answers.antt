-- The item is printed, which is no deeper than its document has nodes and one.
use Rattle.std.proofs.Common.{◌∙◌}
use Rattle.bser_value.specs.TreeText.{IsTextOf, tree_text}
use Rattle.bser_value.proofs.Displays.{shows_one, texts_agree}
use Rattle.bser_document.specs.Holds.{item_value}
use Rattle.bser_document.proofs.Places.{item_read, item_shallow}
use Rattle.bser_document.proofs.display.ItemDisplay.fmt.Goals as goal

pub returns-clause-text : goal.returns-clause-text
returns-clause-text g c = c.show.ensures (item_value c.args.self.now) (item_read c.args.self.now) (item_shallow c.args.self.now c.len.result (c.len.ensures ∙ c.args.self.now.document.now.nodes.ok.0))

pub returns-clause-writes : goal.returns-clause-writes
returns-clause-writes g c =
    let u = item_value c.args.self.now in
    shows_one g.W.Write.write_str_gives c.args.f.now c.show.new.f c.show.result (tree_text u) (IsTextOf u) (texts_agree u)
    (c.show.ensures u (item_read c.args.self.now) (item_shallow c.args.self.now c.len.result (c.len.ensures ∙ c.args.self.now.document.now.nodes.ok.0)))
