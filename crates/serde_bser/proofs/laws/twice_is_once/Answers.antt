use Rattle.bser_format.proofs.Fits.{read_again}
use Rattle.serde_bser.proofs.laws.twice_is_once.Goals as goal

pub returns : goal.returns
returns g n c t u v a x y h m e made = read_again n c t u v a x y h.0 h.1 h.2 m e made
