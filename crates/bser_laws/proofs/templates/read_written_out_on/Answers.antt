use Rattle.bser_laws.proofs.WrittenOut.{both_readers, template_reader, objects_reader}
use Rattle.bser_laws.proofs.templates.read_written_out_on.Goals as goal

pub returns : goal.returns
returns g c = record {
  both = λ xs ys is out_is w. both_readers c.args.limit _ _ xs ys _ _ _ _ _ _ is out_is w c.from_reader_within-template.ensures.found c.from_reader_within-objects.ensures.found;
  template_alone = λ xs ys is out_is w. template_reader c.args.limit _ _ _ xs ys _ _ _ _ _ _ _ is out_is w c.from_reader_within-template.ensures.found c.from_reader_within-objects.ensures.refused;
  objects_alone = λ xs ys is out_is w. objects_reader c.args.limit _ _ _ xs ys _ _ _ _ _ _ _ is out_is w c.from_reader_within-template.ensures.refused c.from_reader_within-objects.ensures.found;
}
