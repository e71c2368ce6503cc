-- What was put so far leads to the rest, and each container has a level less.
use Rattle.std.proofs.Common.{◌≡◌, ◌≤◌, ◌*◌, ◌+◌, ℕ, suc, [], List, length}
use Rattle.json.specs.Reads.{token_of}
use Rattle.bser_format.specs.Tree.{Tree}
use Rattle.bser_from_json.specs.Made.{Around, an_item, member_step, most_levels}
use Rattle.bser_from_json.specs.Left.{due_to, step_to}
use Rattle.bser_from_json.proofs.Parts.{EntriesPut, ItemsPut}
use Rattle.bser_from_json.proofs.reading.Reading.+value.Given as goal

abbrev pub decreases-value : goal.decreases-value
decreases-value l = l.levels * 3 + 1

abbrev pub decreases-array : goal.decreases-array
decreases-array l = l.levels * 3

abbrev pub decreases-object : goal.decreases-object
decreases-object l = l.levels * 3

abbrev pub decreases-members : goal.decreases-members
decreases-members l = l.levels * 3 + 2

abbrev pub invariant-array-loop-items : goal.invariant-array-loop-items
invariant-array-loop-items l =
    ((us : List Tree) × ItemsPut l.items.items l.count us × ((os : List Around) → length os + l.levels ≡ most_levels
    → due_to l.self.strings l.initial.tokens (an_item [] os) ≡ due_to l.self.strings l.tokens (an_item us os)))
    × (length l.tokens.reader ≤ length l.initial.tokens.reader)

abbrev pub decreases-array-loop-items : goal.decreases-array-loop-items
decreases-array-loop-items l = length l.tokens.reader

abbrev pub invariant-members-loop-next : goal.invariant-members-loop-next
invariant-members-loop-next l =
    ((es : List (List ℕ × Tree)) × EntriesPut l.parts.items l.entries.entries es × ((os : List Around) → length os + suc l.levels ≡ most_levels
    → step_to l.self.strings l.initial.tokens (member_step [] os (token_of l.initial.next)) ≡ step_to l.self.strings l.tokens (member_step es os (token_of l.next))))
    × (length l.tokens.reader ≤ length l.initial.tokens.reader)

abbrev pub decreases-members-loop-next : goal.decreases-members-loop-next
decreases-members-loop-next l = length l.tokens.reader
