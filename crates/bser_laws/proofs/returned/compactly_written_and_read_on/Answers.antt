use Rattle.bser_format.specs.Compact.{fold_templates}
use Rattle.std.proofs.Common.{◌∙◌}
use Rattle.serde_bser.specs.ValueView.{tree_of}
use Rattle.bser_laws.proofs.Back.{reader_back, left_back, reader_refused}
use Rattle.bser_laws.proofs.returned.compactly_written_and_read_on.Goals as goal

pub returns : goal.returns
returns c =
    let is = c.as_slice.ensures.value ∙ c.in_ok-bytes.ensures.bytes in
    record {
      same = reader_back (λ r. r.value) (λ r. r.left.items) c.args.limit (fold_templates (tree_of c.args.value.now)) (tree_of c.args.value.now) _ c.args.following.now c.read_on.result c.in_ok-bytes.ensures.written is c.read_on.ensures.found;
      left = left_back (λ r. r.value) (λ r. r.left.items) c.args.limit (fold_templates (tree_of c.args.value.now)) (tree_of c.args.value.now) _ c.args.following.now c.read_on.result c.in_ok-bytes.ensures.written is c.read_on.ensures.found;
      refused = reader_refused c.args.limit _ (fold_templates (tree_of c.args.value.now)) (tree_of c.args.value.now) _ c.args.following.now c.read_on.result c.in_ok-bytes.ensures.written is c.read_on.ensures.refused;
    }
