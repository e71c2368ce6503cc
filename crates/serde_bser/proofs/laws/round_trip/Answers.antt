use Rattle.bser_format.proofs.Back.{canon_message}
use Rattle.bser_format.proofs.Fits.{body_fits, writable}
use Rattle.bser_format.proofs.RoundTrip.{meaning_stays, value_free, written_front}
use Rattle.bser_format.proofs.Values.{expand_free}
use Rattle.serde_bser.proofs.laws.round_trip.Goals as goal

pub returns : goal.returns
returns g = record {
  message = λ n t h. canon_message n t h.1 h.2 h.3;
  front = λ n c t u a x y h m e. written_front n c t u a x y h.1 h.2 h.3 m e;
  itself = expand_free;
  meaning = λ f n k t u a x y c h m e is. meaning_stays f n k t u a x y c h.0 h.1 h.2 h.3 m e is;
  values = λ n t h. (value_free t h.0, writable t h.0 (body_fits t h.2), h.1, h.2);
}
