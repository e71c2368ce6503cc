-- The place of the fault in the whole.
use Rattle.std.proofs.Common.{◌≡◌, ◌+◌, ◌-◌, ◌<◌, ◌^◌, ◌∙◌, refl, ap, length, min, rules}
use Rattle.bser_from_json.specs.Lines.{place_in}
use Rattle.bser_from_json.proofs.Lines.{place_past}
use Rattle.bser_from_json.proofs.part.Part.error_at.Goals as goal

pub returns : goal.returns
returns c =
    let whole = c.args.self.whole.now in
    let start = c.args.self.start in
    let small : length whole < 2 ^ 64 = search rules in
    let there : c.place_of-place.result ≡ place_in whole (min (start + c.args.offset) (2 ^ 64 - 1)) = c.place_of-place.ensures ∙ ap (λ w. place_in w c.saturating_add.result) c.as_bytes.ensures.value ∙ ap (λ n. place_in whole n) c.saturating_add.ensures in
    (refl, there ∙ place_past whole (start + c.args.offset) small)
