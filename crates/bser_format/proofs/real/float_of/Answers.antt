use Rattle.std.proofs.Common.{Bool, Some, None, sym, ap, ◌∙◌}
use Rattle.std.proofs.lemmas.Bool.{lt-ltb, le-ltb}
use Rattle.std.proofs.lemmas.Float.{T_from_false}
use Rattle.std.specs.Prelude.{from_bits, if◌then◌else◌}
use Rattle.std.specs.Float.{binary64}
use lib.Ieee.Bits.{nan_bits_above}
use Rattle.bser_format.proofs.real.float_of.Goals as goal

pub float_from_bits-result : goal.float_from_bits-result
float_from_bits-result c =
    T_from_false _ (nan_bits_above binary64 c.args.bits ∙ le-ltb _ _ c.if-bits-gt-INFINITY.false)

pub returns-then-bits-gt-INFINITY : goal.returns-then-bits-gt-INFINITY
returns-then-bits-gt-INFINITY c =
    sym (ap (λ (nan : Bool). if nan then None else Some (from_bits binary64 c.args.bits)) (nan_bits_above binary64 c.args.bits ∙ lt-ltb _ _ c.if-bits-gt-INFINITY.true))

pub returns-else-bits-gt-INFINITY : goal.returns-else-bits-gt-INFINITY
returns-else-bits-gt-INFINITY c =
    sym (ap (λ (nan : Bool). if nan then None else Some (from_bits binary64 c.args.bits)) (nan_bits_above binary64 c.args.bits ∙ le-ltb _ _ c.if-bits-gt-INFINITY.false))
