-- What callers see of a reader of tagged values.
use Rattle.std.specs.Prelude.{Option, Some, None}
use Rattle.bser_format.specs.declared.errors.Error.{Error}
use Rattle.bser_format.specs.declared.errors.Error.TheVariants.{DeReaderError}
use Rattle.bser_format.specs.declared.errors.ReadCause.TheVariants.{Failed}
use Rattle.bser_source.specs.Window.{Window}

-- the window of its byte source, and the error that is kept
pub record Seen : Type 0 where
  pub window : Window
  pub refusal : Error

-- the reason that is kept, or that of what has failed
abbrev pub kept_or_failed : Option Error → Error
kept_or_failed None = DeReaderError Failed
kept_or_failed (Some e) = e
