use Rattle.std.proofs.Common.{rules}
use Rattle.std.proofs.lemmas.Result.{MatchResult-weaker}
use Rattle.bser_ser.proofs.Structs.{payload_ends, payload_stops}
use Rattle.bser_ser.proofs.Writable.{variant_writable}
use Rattle.bser_structs.specs.Entries.{entries_tree}
use Rattle.bser_structs.proofs.variants.put_variant_fields.Goals as goal

pub returns-clause-ok : goal.returns-clause-ok
returns-clause-ok g c =
    MatchResult-weaker c.put_fields.result c.put_fields.ensures.ok (λ _ t. payload_ends g.W.Sink g.met.W.Sink.took_both c.args.name.now (entries_tree (g.F.PutFields.entries c.args.fields.now)) c.args.out.now c.put_newtype_variant.new.self c.put_fields.new.out c.in_ok-put_newtype_variant.ensures.0 t) (λ _ t. t)

pub returns-clause-err : goal.returns-clause-err
returns-clause-err g c =
    MatchResult-weaker c.put_fields.result c.put_fields.ensures.err (λ _ t. t) (λ e t. payload_stops g.W.Sink g.met.W.Sink.took_both c.args.name.now (entries_tree (g.F.PutFields.entries c.args.fields.now)) c.args.out.now c.put_newtype_variant.new.self c.put_fields.new.out e c.in_ok-put_newtype_variant.ensures.0 t)

pub returns-clause-writable : goal.returns-clause-writable
returns-clause-writable g c = MatchResult-weaker c.put_fields.result c.put_fields.ensures.writable (λ _ t. variant_writable c.args.name.now (entries_tree (g.F.PutFields.entries c.args.fields.now)) (search rules) t) (λ _ t. t)
