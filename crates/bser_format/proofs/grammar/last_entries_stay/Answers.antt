use Rattle.bser_format.proofs.Entries.{last_values, keys_rise, no_others}
use Rattle.bser_format.proofs.grammar.last_entries_stay.Goals as goal

pub returns : goal.returns
returns c = record { values = last_values; order = keys_rise; no_others = no_others; content_values = last_values; content_order = keys_rise; content_no_others = no_others }
