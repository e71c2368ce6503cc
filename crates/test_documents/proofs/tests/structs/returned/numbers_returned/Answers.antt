use Rattle.std.proofs.Common.{◌≡◌, ◌<◌, ◌^◌, ◌++◌, length, ap, ◌∙◌, arith}
use Rattle.bser_format.specs.Tree.{array}
use Rattle.bser_format.specs.Canonical.{canonical_message}
use Rattle.test_documents.proofs.ReadBack.{numbers_back, written_numbers, numbers_of}
use Rattle.test_documents.proofs.tests.structs.returned.numbers_returned.Goals as goal

pub returns : goal.returns
returns c =
    let v = c.args.numbers.now in
    let m = c.into_inner-message.result in
    let short : length m.items < 2 ^ 63 = omega (arith, m.ok.0, m.ok.1, m.small) in
    let wrote = rw (written_numbers v.items) at c.in_ok-serialize_to.ensures.ok in
    let is : c.as_slice.result.now ≡ canonical_message (array (numbers_of v.items)) =
    c.as_slice.ensures.value ∙ ap (λ m. m.items) c.into_inner-message.ensures ∙ wrote.0.took_it ∙ ap (λ b. b ++ canonical_message (array (numbers_of v.items))) (ap (λ w. w.items) c.new-writer.ensures.inner ∙ c.new.ensures.items) in
    numbers_back (λ b. b.items) v.items c.as_slice.result.now c.from_slice.result wrote.2 (rw c.as_slice.ensures.value short) is c.from_slice.ensures.found
