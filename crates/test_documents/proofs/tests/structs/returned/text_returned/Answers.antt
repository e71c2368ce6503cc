use Rattle.std.proofs.Common.{◌<◌, ◌^◌, length, string_bytes, arith, rules}
use Rattle.test_documents.proofs.ReadBack.{text_back}
use Rattle.test_documents.proofs.tests.structs.returned.text_returned.Goals as goal

pub returns : goal.returns
returns c =
    let t = c.args.text.now in
    let m = c.into_inner-message.result in
    let short : length m.items < 2 ^ 63 = omega (arith, m.ok.0, m.ok.1, m.small) in
    text_back string_bytes (string_bytes t) c.as_slice.result.now c.from_slice.result c.in_ok-serialize_to.ensures.ok.2 (rw c.as_slice.ensures.value short) (search rules) c.from_slice.ensures.found
