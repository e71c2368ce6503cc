use Rattle.std.proofs.Common.{◌≡◌, ◌-◌, suc, arith}
use Rattle.bser_deserializer.specs.State.{State}
use Rattle.bser_structs.specs.EnumAccess.{enum_head}
use Rattle.bser_structs.specs.ReadVariants.{OpenEnum}
use Rattle.bser_structs.proofs.VariantPlaces.{later_read}
use Rattle.bser_structs.proofs.payloads.Tuple2ReadPayloads.read_at.Goals as goal

pub returns-clause-found : goal.returns-clause-found
returns-clause-found g c =
    let v : OpenEnum = enum_head c.args.head c.args.from.now.state in
    let z : State = c.read_at.new.from.state in
    let later : c.args.place ≡ suc (c.args.place - 1) = omega (arith, c.if-place-eq0.false) in
    later_read (g.A.ReadPayload.payload c.args.self.now.0) (g.P.ReadPayloads.payloads c.args.self.now.1) g.P.ReadPayloads.holds c.in_ok-value-2.value c.args.place (c.args.place - 1) v z later c.in_ok-value-2.ensures.found
