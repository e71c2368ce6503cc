-- Each event is taken as what it tells.
use mir.Val.{SFits}
use Rattle.std.specs.Int.{w64}
use Rattle.std.proofs.lemmas.Int.{to_z-of_z}
use Rattle.std.proofs.Common.{refl, ap, length, rules, ◌∙◌, ◌++◌, subst, sym}
use Rattle.std.specs.Prelude.{IsUtf8}
use Rattle.bser_events.specs.Events as events
use Rattle.bser_events.specs.Told.{told}
use Rattle.bser_document.specs.declared.document.DocumentNode.TheVariants as nodes
use Rattle.bser_document.proofs.Kept.{plain_ok, begun_ok, string_ok, close_ok}
use Rattle.bser_document.proofs.builder.DocumentBuilder.put_event.Goals as goal

pub returns-in-Null : goal.returns-in-Null
returns-in-Null c = plain_ok c.args.self.now c.put.new.self nodes.Null (told c.args.event) events.null c.put.result (ap told c.in-Null.is) c.put.ensures.nodes c.put.ensures.strings c.put.ensures.innermost refl tt refl refl (λ m. refl)

pub returns-in-Skip : goal.returns-in-Skip
returns-in-Skip c = plain_ok c.args.self.now c.put-in-Skip.new.self nodes.Skip (told c.args.event) events.skip c.put-in-Skip.result (ap told c.in-Skip.is) c.put-in-Skip.ensures.nodes c.put-in-Skip.ensures.strings c.put-in-Skip.ensures.innermost refl tt refl refl (λ m. refl)

pub returns-in-Bool : goal.returns-in-Bool
returns-in-Bool c = plain_ok c.args.self.now c.put-in-Bool.new.self (nodes.Bool c.in-Bool.truth) (told c.args.event) (events.boolean c.in-Bool.truth) c.put-in-Bool.result (ap told c.in-Bool.is) c.put-in-Bool.ensures.nodes c.put-in-Bool.ensures.strings c.put-in-Bool.ensures.innermost refl tt refl refl (λ m. refl)

pub returns-in-Int : goal.returns-in-Int
returns-in-Int c =
    let fits : SFits w64 c.in-Int.number = search rules in
    plain_ok c.args.self.now c.put-in-Int.new.self (nodes.Int c.in-Int.number) (told c.args.event) (events.integer c.in-Int.number) c.put-in-Int.result (ap told c.in-Int.is) (rw (to_z-of_z w64 c.in-Int.number fits) at c.put-in-Int.ensures.nodes) c.put-in-Int.ensures.strings c.put-in-Int.ensures.innermost refl tt refl refl (λ m. refl)

pub returns-in-Real : goal.returns-in-Real
returns-in-Real c = plain_ok c.args.self.now c.put-in-Real.new.self (nodes.Real c.in-Real.bits) (told c.args.event) (events.real c.in-Real.bits) c.put-in-Real.result (ap told c.in-Real.is) c.put-in-Real.ensures.nodes c.put-in-Real.ensures.strings c.put-in-Real.ensures.innermost refl tt refl refl (λ m. refl)

pub returns-in-Array : goal.returns-in-Array
returns-in-Array c = begun_ok c.args.self.now c.begin.new.self (nodes.Array c.in-Array.len c.args.self.now.innermost) (told c.args.event) (events.open_array c.in-Array.len) c.begin.result (ap told c.in-Array.is) c.begin.ensures.nodes c.begin.ensures.strings c.begin.ensures.innermost refl tt refl refl (λ m. refl)

pub returns-in-Object : goal.returns-in-Object
returns-in-Object c = begun_ok c.args.self.now c.begin-in-Object.new.self (nodes.Object c.in-Object.len c.args.self.now.innermost) (told c.args.event) (events.open_object c.in-Object.len) c.begin-in-Object.result (ap told c.in-Object.is) c.begin-in-Object.ensures.nodes c.begin-in-Object.ensures.strings c.begin-in-Object.ensures.innermost refl tt refl refl (λ m. refl)

pub returns-in-Template : goal.returns-in-Template
returns-in-Template c = begun_ok c.args.self.now c.begin-in-Template.new.self (nodes.Template c.in-Template.len c.args.self.now.innermost) (told c.args.event) (events.open_template c.in-Template.len) c.begin-in-Template.result (ap told c.in-Template.is) c.begin-in-Template.ensures.nodes c.begin-in-Template.ensures.strings c.begin-in-Template.ensures.innermost refl tt refl refl (λ m. refl)

pub returns-in-Rows : goal.returns-in-Rows
returns-in-Rows c = plain_ok c.args.self.now c.put-in-Rows.new.self (nodes.Rows c.in-Rows.len) (told c.args.event) (events.open_rows c.in-Rows.len) c.put-in-Rows.result (ap told c.in-Rows.is) c.put-in-Rows.ensures.nodes c.put-in-Rows.ensures.strings c.put-in-Rows.ensures.innermost refl tt refl refl (λ m. refl)

pub returns-in_ok-at-in-Bytes : goal.returns-in_ok-at-in-Bytes
returns-in_ok-at-in-Bytes c =
    let k = c.in_ok-at-in-Bytes in
    string_ok c.args.self.now c.keep.new.self c.put-in-Bytes.new.self (λ l a. nodes.Bytes l a) (λ s. events.bytes s) c.in-Bytes.string.now (length c.in-Bytes.string.now) k.at (told c.args.event) c.put-in-Bytes.result (ap told c.in-Bytes.is) k.ensures.place refl k.ensures.strings k.ensures.nodes k.ensures.innermost c.put-in-Bytes.ensures.nodes c.put-in-Bytes.ensures.strings c.put-in-Bytes.ensures.innermost (λ s l a. refl) (λ s l a h e. h) refl (λ l a. refl) (λ m. refl)

pub returns-in_ok-at-in-Text : goal.returns-in_ok-at-in-Text
returns-in_ok-at-in-Text c =
    let k = c.in_ok-at-in-Text in
    let utf8 : IsUtf8 c.in-Text.string.now = search rules in
    string_ok c.args.self.now c.keep-in-Text.new.self c.put-in-Text.new.self (λ l a. nodes.Text l a) (λ s. events.text s) c.in-Text.string.now (length c.in-Text.string.now) k.at (told c.args.event) c.put-in-Text.result (ap told c.in-Text.is) k.ensures.place refl (k.ensures.strings ∙ ap (λ x. c.args.self.now.strings.items ++ x) c.as_bytes.ensures.value) k.ensures.nodes k.ensures.innermost c.put-in-Text.ensures.nodes c.put-in-Text.ensures.strings c.put-in-Text.ensures.innermost (λ s l a. refl) (λ s l a h e. (h, subst IsUtf8 (sym e) utf8)) refl (λ l a. refl) (λ m. refl)

pub returns-in_ok-at-in-Key : goal.returns-in_ok-at-in-Key
returns-in_ok-at-in-Key c =
    let k = c.in_ok-at-in-Key in
    let utf8 : IsUtf8 c.in-Key.key.now = search rules in
    string_ok c.args.self.now c.keep-in-Key.new.self c.put-in-Key.new.self (λ l a. nodes.Key l a) (λ s. events.key s) c.in-Key.key.now (length c.in-Key.key.now) k.at (told c.args.event) c.put-in-Key.result (ap told c.in-Key.is) k.ensures.place refl (k.ensures.strings ∙ ap (λ x. c.args.self.now.strings.items ++ x) c.as_bytes-in-Key.ensures.value) k.ensures.nodes k.ensures.innermost c.put-in-Key.ensures.nodes c.put-in-Key.ensures.strings c.put-in-Key.ensures.innermost (λ s l a. refl) (λ s l a h e. (h, subst IsUtf8 (sym e) utf8)) refl (λ l a. refl) (λ m. refl)

pub returns-in-Close : goal.returns-in-Close
returns-in-Close c = close_ok c.args.self.now c.close.new.self (told c.args.event) c.close.result (ap told c.in-Close.is) c.close.ensures.nodes c.close.ensures.strings c.close.ensures.ends
