use Rattle.bser_laws.proofs.Alike.{both_read, slice_alone, reader_alone, neither}
use Rattle.bser_laws.proofs.agreement.read_both_ways.Goals as goal

pub returns : goal.returns
returns g c = record {
  both = both_read _ _ _ _ _ _ _ _ c.requires.same c.from_slice-slice.ensures.found c.from_reader-reader.ensures.found;
  slice_alone = slice_alone _ _ _ _ _ _ _ _ _ _ c.requires.same c.from_slice-slice.ensures.found c.from_reader-reader.ensures.refused;
  reader_alone = reader_alone _ _ _ _ _ _ _ _ _ _ c.requires.same c.from_slice-slice.ensures.refused c.from_reader-reader.ensures.found;
  neither = neither _ _ _ _ _ _ _ _ _ _ c.requires.same c.from_slice-slice.ensures.refused c.from_reader-reader.ensures.refused;
}
