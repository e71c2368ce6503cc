use Rattle.bser_format.specs.Written.{plain_bytes}
use Rattle.bser_ser.proofs.Texts.{EntriesPut}
use Rattle.bser_ser.proofs.maps.BTreeMapByteStringSerialize.serialize.Given as goal

abbrev pub invariant-loop-key : goal.invariant-loop-key
invariant-loop-key g l = EntriesPut g.W.Sink plain_bytes g.V.Serialize.meaning l.self.entries l.key-iterator l.fn.out l.out
