use Rattle.bser_laws.proofs.WrittenOut.{both_slices, template_slice, objects_slice}
use Rattle.bser_laws.proofs.templates.read_written_out.Goals as goal

pub returns : goal.returns
returns g c = record {
  both = λ w. both_slices c.args.limit _ _ _ _ _ _ w c.from_slice_within-template.ensures.found c.from_slice_within-objects.ensures.found;
  template_alone = λ w. template_slice c.args.limit _ _ _ _ _ _ _ _ w c.from_slice_within-template.ensures.found c.from_slice_within-objects.ensures.refused;
  objects_alone = λ w. objects_slice c.args.limit _ _ _ _ _ _ _ _ w c.from_slice_within-template.ensures.refused c.from_slice_within-objects.ensures.found;
}
