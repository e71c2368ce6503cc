-- Each event is taken as what it tells.
use mir.Val.{SFits}
use Rattle.std.specs.Int.{w64}
use Rattle.std.proofs.lemmas.Int.{to_z-of_z}
use Rattle.std.proofs.Common.{refl, ap, rules, inl, inr}
use Rattle.bser_format.specs.Tree.{null, boolean, integer, real}
use Rattle.bser_events.specs.Events as events
use Rattle.bser_events.specs.Told.{told}
use Rattle.bser_events.proofs.Outcomes.{each_ok}
use Rattle.bser_value.proofs.Steps.{rows_begin, value_taken, event_taken}
use Rattle.bser_value.proofs.Views.{tree_of-Null, tree_of-Bool, tree_of-Integer, tree_of-Real}
use Rattle.bser_value.proofs.builder.ValueBuilder.put_event.Goals as goal

pub returns-in-Null : goal.returns-in-Null
returns-in-Null c = elim c.in-Null.is [
  | inl is ↦ each_ok _ _ c.put.result c.put.ensures (value_taken _ null (told c.args.event) events.null c.args.self.now c.put.new.self tree_of-Null (ap told is) (λ s. refl))
  | inr is ↦ each_ok _ _ c.put.result c.put.ensures (value_taken _ null (told c.args.event) events.skip c.args.self.now c.put.new.self tree_of-Null (ap told is) (λ s. refl))
]

pub returns-in-Bool : goal.returns-in-Bool
returns-in-Bool c =
    each_ok _ _ c.put-in-Bool.result c.put-in-Bool.ensures (value_taken _ (boolean c.in-Bool.truth) (told c.args.event) (events.boolean c.in-Bool.truth) c.args.self.now c.put-in-Bool.new.self (tree_of-Bool c.in-Bool.truth) (ap told c.in-Bool.is) (λ s. refl))

pub returns-in-Int : goal.returns-in-Int
returns-in-Int c =
    let fits : SFits w64 c.in-Int.number = search rules in
    each_ok _ _ c.put-in-Int.result (rw (to_z-of_z w64 c.in-Int.number fits) at c.put-in-Int.ensures)
    (value_taken _ (integer c.in-Int.number) (told c.args.event) (events.integer c.in-Int.number) c.args.self.now c.put-in-Int.new.self (tree_of-Integer c.in-Int.number) (ap told c.in-Int.is) (λ s. refl))

pub returns-in-Real : goal.returns-in-Real
returns-in-Real c =
    each_ok _ _ c.put-in-Real.result c.put-in-Real.ensures (value_taken _ (real c.in-Real.bits) (told c.args.event) (events.real c.in-Real.bits) c.args.self.now c.put-in-Real.new.self (tree_of-Real c.in-Real.bits) (ap told c.in-Real.is) (λ s. refl))

pub returns-in-Bytes : goal.returns-in-Bytes
returns-in-Bytes c = each_ok _ _ c.put_bytes.result c.put_bytes.ensures (event_taken (told c.args.event) (events.bytes c.in-Bytes.string.now) c.args.self.now c.put_bytes.new.self (ap told c.in-Bytes.is))

pub returns-in-Text : goal.returns-in-Text
returns-in-Text c = each_ok _ _ c.put_text.result c.put_text.ensures (event_taken (told c.args.event) (events.text c.in-Text.string.now) c.args.self.now c.put_text.new.self (ap told c.in-Text.is))

pub returns-in-Array : goal.returns-in-Array
returns-in-Array c = each_ok _ _ c.open_array.result c.open_array.ensures (event_taken (told c.args.event) (events.open_array c.in-Array.len) c.args.self.now c.open_array.new.self (ap told c.in-Array.is))

pub returns-in-Object : goal.returns-in-Object
returns-in-Object c = each_ok _ _ c.open_object.result c.open_object.ensures (event_taken (told c.args.event) (events.open_object c.in-Object.len) c.args.self.now c.open_object.new.self (ap told c.in-Object.is))

pub returns-in-Key : goal.returns-in-Key
returns-in-Key c = each_ok _ _ c.put_key.result c.put_key.ensures (event_taken (told c.args.event) (events.key c.in-Key.key.now) c.args.self.now c.put_key.new.self (ap told c.in-Key.is))

pub returns-in-Template : goal.returns-in-Template
returns-in-Template c = each_ok _ _ c.open_template.result c.open_template.ensures (event_taken (told c.args.event) (events.open_template c.in-Template.len) c.args.self.now c.open_template.new.self (ap told c.in-Template.is))

pub returns-in-Close : goal.returns-in-Close
returns-in-Close c = each_ok _ _ c.close.result c.close.ensures (event_taken (told c.args.event) (events.close) c.args.self.now c.close.new.self (ap told c.in-Close.is))

pub returns-in-Rows : goal.returns-in-Rows
returns-in-Rows c = event_taken (told c.args.event) (events.open_rows c.in-Rows.len) c.args.self.now c.args.self.now (ap told c.in-Rows.is) (rows_begin c.in-Rows.len c.args.self.now)
