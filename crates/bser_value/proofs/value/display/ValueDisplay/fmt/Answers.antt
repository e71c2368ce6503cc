-- The text is the one that there is, where no finite real is in it.
use Rattle.bser_value.specs.Displayed.{IsValueText, displayed}
use Rattle.bser_value.specs.ValueView.{tree_of}
use Rattle.bser_value.proofs.Displays.{shows_one, texts_agree}
use Rattle.bser_value.proofs.value.display.ValueDisplay.fmt.Goals as goal

pub returns-clause-writes : goal.returns-clause-writes
returns-clause-writes g c =
    let v = c.args.self.now in
    shows_one g.W.Write.write_str_gives c.args.f.now c.show.new.f c.show.result (displayed v) (IsValueText v) (texts_agree (tree_of v)) c.show.ensures
