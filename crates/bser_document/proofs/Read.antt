-- What was told of a value is kept.
use Rattle.std.proofs.Common.{◌≡◌, ℕ, ◌+◌, ◌≤◌, length, arith, List, [], option_map, refl, ap}
use Rattle.std.specs.Prelude.{Result, Ok, Err, IfOk}
use Rattle.std.proofs.lemmas.List.{length-map}
use Rattle.bser_format.specs.Grammar.{Spells}
use Rattle.bser_format.specs.Tree.{Tree}
use Rattle.bser_format.specs.Expand.{expand}
use Rattle.bser_format.specs.Content.{value}
use Rattle.bser_format.specs.ReadsAny.{reads_value}
use Rattle.bser_format.proofs.Settled.{filled_settles}
use Rattle.bser_events.specs.Events.{events}
use Rattle.bser_deserializer.specs.State.{State}
use Rattle.bser_deserializer.specs.Reading.{Answers}
use Rattle.bser_deserializer.specs.Any.{TookAny}
use Rattle.bser_value.proofs.Read.{value_there}
use Rattle.bser_document.specs.DocumentView.{event_of, Views, ViewsValue, ViewsDocument, Takes, HoldsDocument}
use Rattle.bser_document.specs.declared.document.Document.{Document}
use Rattle.bser_document.specs.declared.builder.DocumentBuilder.{DocumentBuilder}
use Rattle.bser_document.specs.Read.{TookDocument}
use Rattle.bser_document.proofs.Lengths.{value_long}
use Rattle.bser_document.proofs.Kept.{all_taken, as_document}

-- what a document keeps is its events
pub kept_long : (n : ℕ) (d : Document) (t : Tree) (b : List ℕ) → ViewsDocument d (events t) → Spells n t b → length d.nodes.items + length d.strings.items ≤ length b
kept_long n d t b v h = omega (arith, ap length v.shows.same, length-map d.nodes.items (event_of d.strings.items), v.shows.total, value_long n t b h)

-- all that was told is a whole value
abbrev pub value_told : (before after : DocumentBuilder) (old new : State) → Views before [] → TookAny Takes before after old new → ViewsValue after
value_told before after old new views k =
    let w = value_there k.tree k.keys in
    record {
      tree = k.tree;
      read = w.0;
      normal = w.1;
      values = filled_settles old.levels old.due (expand k.tree) w.0 k.text k.filled w.1;
      rows = k.rows;
      views = all_taken before (events k.tree) after k.told [] views;
    }

pub told_read : (before after : DocumentBuilder) (d : Document) (old new : State) → Views before [] → TookAny Takes before after old new
    → d.nodes ≡ after.nodes → d.strings ≡ after.strings → TookDocument old new d
told_read before after d old new views k nodes strings =
    let v = value_told before after old new views k in
    let kept : ViewsDocument d (events k.tree) = as_document after d (events k.tree) nodes strings v.views in
    record {
      tree = k.tree;
      read = v.read;
      text = k.text;
      filled = k.filled;
      spelled = k.spelled;
      normal = v.normal;
      values = v.values;
      rows = k.rows;
      views = kept;
      linear = λ e. kept_long old.levels d k.tree k.text kept (k.spelled e);
      took = k.took;
      state = k.state;
    }

pub read_answers : (d : Document) (old new : State) → TookDocument old new d → Answers reads_value HoldsDocument old new d
read_answers d old new k = record {
  tree = expand k.tree;
  content = value k.read;
  text = k.text;
  filled = k.filled;
  read = ap (option_map value) k.normal;
  held = record { tree = k.tree; read = k.read; normal = k.normal; values = k.values; rows = k.rows; views = k.views; same = refl };
  took = k.took;
  state = k.state;
}

pub each_answers : {E : Type 0} (r : Result Document E) (old new : State) → IfOk r (λ d. TookDocument old new d) → IfOk r (λ d. Answers reads_value HoldsDocument old new d)
each_answers (Ok d) old new h = read_answers d old new h
each_answers (Err e) old new h = tt
