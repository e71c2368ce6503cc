use Rattle.bser_structs.proofs.EnumNames.{variant_named, lacking_named, payload_named}
use Rattle.bser_structs.proofs.laws.enums_are_named.Goals as goal

pub returns : goal.returns
returns c = record { variants = variant_named; lacking = lacking_named; payloads = payload_named }
