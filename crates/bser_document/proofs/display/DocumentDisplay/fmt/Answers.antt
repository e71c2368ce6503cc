-- The root is printed, which is no deeper than there are nodes.
use Rattle.std.proofs.Common.{◌∙◌, inl}
use Rattle.bser_value.specs.TreeText.{IsTextOf, tree_text}
use Rattle.bser_value.proofs.Displays.{shows_one, texts_agree}
use Rattle.bser_document.specs.DocumentView.{value_of}
use Rattle.bser_document.proofs.Whole.{document_shallow}
use Rattle.bser_document.proofs.display.DocumentDisplay.fmt.Goals as goal

pub returns-clause-text : goal.returns-clause-text
returns-clause-text g c = c.show.ensures (value_of c.args.self.now) (inl c.root.ensures.whole) (document_shallow c.args.self.now c.len.result (c.len.ensures ∙ c.args.self.now.nodes.ok.0))

pub returns-clause-writes : goal.returns-clause-writes
returns-clause-writes g c =
    let u = value_of c.args.self.now in
    shows_one g.W.Write.write_str_gives c.args.f.now c.show.new.f c.show.result (tree_text u) (IsTextOf u) (texts_agree u)
    (c.show.ensures u (inl c.root.ensures.whole) (document_shallow c.args.self.now c.len.result (c.len.ensures ∙ c.args.self.now.nodes.ok.0)))
