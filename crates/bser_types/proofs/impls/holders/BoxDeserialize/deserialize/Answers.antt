-- A value that is refused is refused in a box, which needs more.
use Rattle.std.proofs.Common.{refl}
use Rattle.std.proofs.lemmas.Result.{err_from_is_err_and}
use Rattle.bser_types.proofs.Taken.{wider_type}
use Rattle.bser_types.proofs.impls.holders.BoxDeserialize.deserialize.Goals as goal

pub returns-in_err-value-clause-refused : goal.returns-in_err-value-clause-refused
returns-in_err-value-clause-refused g c =
    rw (err_from_is_err_and c.from_residual.result c.from_residual.ensures.1).1 (wider_type g.T.Shape.reads g.T.Shape.asks g.T.Shape.needs _ _ c.args.from.now.state c.deserialize.new.from.state (λ l. l) (λ m. refl) (λ t. refl) c.in_err-value.ensures.refused)
