-- A run of spaces is put, and two for each level more.
use Rattle.std.proofs.Common.{◌≡◌, ℕ, ◌+◌, ◌*◌, ◌∷◌, ◌++◌, List, [], replicate, arith, ap, ◌∙◌, append_assoc}
use Rattle.std.proofs.lemmas.List.{take-replicate}
use lib.ListN.{replicate-append-replicate}
use Rattle.bser_json.proofs.text.put_line.Goals as goal

pub loop-preserved : goal.loop-preserved
loop-preserved c =
    let n = c.loop.counter in
    let base = c.extend_from_slice-2.new.self.items in
    let two : List ℕ = 32 ∷ 32 ∷ [] in
    let more : 2 * n + 2 ≡ 2 * (n + 1) = omega arith in
    c.in_ok-extend_from_slice-3.ensures.items ∙ ap (λ l. l ++ two) c.loop.invariant ∙ append_assoc base (replicate (2 * n) 32) two
    ∙ ap (λ l. base ++ l) (replicate-append-replicate (2 * n) 2 32 ∙ ap (λ m. replicate m 32) more)

pub returns : goal.returns
returns c =
    let few = c.min-few.result in
    let n = c.loop.counter in
    let old = c.args.text.now.items in
    let bytes = c.args.bytes.now in
    let front : List ℕ = replicate (2 * few) 32 in
    let back : List ℕ = replicate (2 * n) 32 in
    let sum : 2 * few + 2 * n ≡ 2 * c.args.levels = omega (arith, c.min-few.ensures, c.loop-test.false, c.loop.auto.counter-end) in
    c.loop.invariant
    ∙ ap (λ l. l ++ back) (c.in_ok-extend_from_slice-2.ensures.items ∙ (λ i. c.in_ok-extend_from_slice.ensures.items i ++ take-replicate (2 * few) 64 32 (omega (arith, c.min-few.ensures)) i) ∙ append_assoc old bytes front)
    ∙ append_assoc old (bytes ++ front) back
    ∙ ap (λ l. old ++ l) (append_assoc bytes front back ∙ ap (λ l. bytes ++ l) (replicate-append-replicate (2 * few) (2 * n) 32 ∙ ap (λ m. replicate m 32) sum))
