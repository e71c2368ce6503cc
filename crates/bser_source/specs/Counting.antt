-- What callers see of a writer that counts.
use Rattle.std.specs.Prelude.{ℕ}
use Rattle.bser_source.specs.declared.count.CountWrite.{CountWrite}

-- the bytes that were counted
abbrev pub count_of : CountWrite → ℕ
count_of c = c.count
