use Rattle.bser_format.proofs.Folded.{folded_reads}
use Rattle.bser_format.proofs.CompactMessages.{compact_is_message, compact_front, compact_meaning}
use Rattle.serde_bser.proofs.laws.compact_reads_back.Goals as goal

pub returns : goal.returns
returns g = record {
  message = λ n t h. compact_is_message n t h.0 h.1 h.2;
  front = λ n c t u a x y h m e. compact_front n c t u a x y h.0 h.1 h.2 m e;
  value = folded_reads;
  meaning = λ reads n k t u a x y c h m e is. compact_meaning reads n k t u a x y c h.0 h.1 h.2 m e is;
}
