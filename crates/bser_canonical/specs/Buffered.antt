-- A message that is made in memory, and then written.
use Rattle.std.specs.Prelude.{◌<◌, ◌^◌, length, Result, IfOk}
use Rattle.bser_format.specs.Canonical.{canonical_body}
use Rattle.bser_format.specs.Tree.{Tree}
use Rattle.bser_format.specs.declared.errors.Error.{Error}

-- where there is a tree, an i64 holds the length of its canonical body
abbrev pub HasShortBody : Result Tree Error → Type 0
HasShortBody m = IfOk m (λ t. length (canonical_body t) < 2 ^ 63)
