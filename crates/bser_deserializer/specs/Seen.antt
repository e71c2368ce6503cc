-- What callers see of a deserializer.
use Rattle.bser_format.specs.declared.errors.Error.{Error}
use Rattle.bser_deserializer.specs.State.{State}
use Rattle.bser_deserializer.specs.declared.note.Note.{Note}

-- its state, the error that is kept, and what is noted beside the first
pub record Seen : Type 0 where
  pub state : State
  pub refusal : Error
  pub note : Note
