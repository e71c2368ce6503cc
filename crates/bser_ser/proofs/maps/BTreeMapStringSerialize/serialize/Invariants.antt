use Rattle.std.proofs.Common.{string_bytes}
use Rattle.bser_ser.proofs.Texts.{EntriesPut}
use Rattle.bser_ser.proofs.maps.BTreeMapStringSerialize.serialize.Given as goal

abbrev pub invariant-loop-key : goal.invariant-loop-key
invariant-loop-key g l = EntriesPut g.W.Sink string_bytes g.V.Serialize.meaning l.self.entries l.key-iterator l.fn.out l.out
