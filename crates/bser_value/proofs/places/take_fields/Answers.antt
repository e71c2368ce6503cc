use Rattle.std.proofs.Common.{refl, rules}
use Rattle.bser_value.proofs.Slots.{takes_fields}
use Rattle.bser_value.specs.contracts.places.fn.take_fields.retain as closure
use Rattle.bser_value.proofs.places.take_fields.Goals as goal

pub returns : goal.returns
returns c = takes_fields _ (λ f. Unit {0}) (λ f. (closure.captures f).row.now.items) (λ f k v b w g i t. (search rules, search rules, tt)) _ _ _ _ tt refl c.retain.ensures.filtered
