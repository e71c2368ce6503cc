use Rattle.std.proofs.Common.{refl}
use Rattle.bser_deserializer.proofs.Openings.{if_ok}
use Rattle.bser_structs.proofs.payload.UnitReadPayload.read.Goals as goal

pub returns-clause-found : goal.returns-clause-found
returns-clause-found g c =
    if_ok _ _ c.read_null.result (λ v r. (r, refl)) c.read_null.ensures.found
