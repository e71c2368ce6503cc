-- What was read as the values of a struct's fields is a value of the struct.
use Rattle.bser_format.specs.Content.{Content, Meaning}
use Rattle.bser_deserializer.specs.Reading.{Answers}
use Rattle.bser_deserializer.specs.State.{State}

pub fields_are : {A B : Type 0} (reads : Meaning) (F : A → Content → Type 0) (holds : B → Content → Type 0) (o z : State) (v : A) (w : B) → ((c : Content) → F v c → holds w c) → Answers reads F o z v → Answers reads holds o z w
fields_are reads F holds o z v w same a = record {
  tree = a.tree;
  content = a.content;
  text = a.text;
  filled = a.filled;
  read = a.read;
  held = same a.content a.held;
  took = a.took;
  state = a.state;
}
