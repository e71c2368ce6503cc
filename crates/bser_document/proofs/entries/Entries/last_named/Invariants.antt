-- The entries up to here were looked at.
use Rattle.std.proofs.Common.{ℕ, List, ◌-◌}
use Rattle.bser_format.specs.Tree.{Tree}
use Rattle.bser_document.specs.Pairs.{HoldsEntries}
use Rattle.bser_document.specs.Pointer.{token_text}
use Rattle.bser_document.proofs.Looks.{Looked}
use Rattle.bser_document.proofs.entries.Entries.last_named.Given as goal

abbrev pub invariant-loop : goal.invariant-loop
invariant-loop l = (m : List (List ℕ × Tree)) → HoldsEntries l.fn.self m → Looked (token_text l.token) m l.rest l.found (l.end - l.counter)
