-- The token's text goes on as the key does.
use Rattle.std.proofs.Common.{◌≡◌, drop}
use Rattle.bser_format.specs.SameTree.{same_bytes}
use Rattle.bser_document.specs.Pointer.{token_text}
use Rattle.bser_document.proofs.pointer.is_text_of.Given as goal

abbrev pub invariant-loop-byte : goal.invariant-loop-byte
invariant-loop-byte l = same_bytes (token_text l.rest) (drop l.byte-index l.key) ≡ same_bytes (token_text l.fn.token) l.key
