-- All that is said of a type that is read.
use Rattle.std.specs.Prelude.{Option}
use Rattle.bser_format.specs.Content.{Content, Meaning, ReadsNoObject}
use Rattle.bser_deserializer.specs.Reading.{Asking, Needs}

-- which trees the type reads, what a value holds, what reading needs, which reader gives its errors, and that it reads no object
pub record TypeMeaning (A : Type 0) : Type 1 where
  pub reads : Meaning
  pub holds : A → Content → Type 0
  pub needs : Needs
  pub asks : Option (Asking reads)
  pub plain : Option (ReadsNoObject reads)
