use Rattle.bser_format.proofs.Fits.{value_message, value_front, value_reads_as_itself}
use Rattle.serde_bser.proofs.laws.reads_back.Goals as goal

pub returns : goal.returns
returns c = record {
  message = λ n t h. value_message n t h.0 h.1 h.2;
  front = λ n c t u a x y h m e. value_front n c t u a x y h.0 h.1 h.2 m e;
  value = value_reads_as_itself;
}
