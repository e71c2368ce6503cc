-- A template's head is its two tags, its keys and its number of rows.
use Rattle.std.proofs.Common.{◌≡◌, ◌∙◌, ◌+◌, ap, sym, subst}
use Rattle.std.proofs.lemmas.Result.{err_from_is_err_and}
use Rattle.bser_deserializer.specs.Reading.{owned}
use Rattle.bser_deserializer.specs.State.{State}
use Rattle.bser_deserializer.specs.View.{IsBefore}
use Rattle.bser_deserializer.specs.View.{seen_of}
use Rattle.bser_deserializer.proofs.Tags.{peeked}
use Rattle.bser_deserializer.proofs.Containers.{no_level_template, refused_items_in, opens_items_in}
use Rattle.bser_deserializer.proofs.TemplateHeads.{no_byte_refused, keys_byte_refused, keys_level_refused, keys_and_rows_refused, opens_template}
use Rattle.bser_deserializer.proofs.deserializer.Deserializer.open_template.Goals as goal

pub returns-in_err-inside-clause-refused : goal.returns-in_err-inside-clause-refused
returns-in_err-inside-clause-refused g c =
    let p = err_from_is_err_and c.from_residual.result c.from_residual.ensures.1 in
    let old : State = c.args.self.now.state in
    let new : State = c.levels_inside.new.self.state in
    rw p.1 (no_level_template _ old new c.requires c.in_err-inside.ensures.reason c.in_err-inside.ensures.none c.in_err-inside.ensures.state)

pub returns-in_err-fill-clause-refused : goal.returns-in_err-fill-clause-refused
returns-in_err-fill-clause-refused g c =
    let p = err_from_is_err_and c.from_residual-in_err-fill.result c.from_residual-in_err-fill.ensures.1 in
    let mid : State = (seen_of g.R.Lent.Lending.kept c.self.inside).state in
    let same = (rw (← c.self.view_is) at c.in_ok-inside.ensures.same) in
    let before : IsBefore 0x0b mid = subst (IsBefore 0x0b) (sym same) c.requires in
    let levels : mid.levels ≡ c.in_ok-inside.inside + 1 = ap (λ z. z.levels) same ∙ c.in_ok-inside.ensures.ok in
    rw p.1 (refused_items_in owned _ mid _ _ same (no_byte_refused _ mid c.in_ok-inside.inside _ _ before levels c.consume.ensures.window c.in_err-fill.ensures.refused.err c.in_err-fill.ensures.refused.names))

pub returns-then-byte-ne-BSER_ARRAY-clause-refused : goal.returns-then-byte-ne-BSER_ARRAY-clause-refused
returns-then-byte-ne-BSER_ARRAY-clause-refused g c =
    let mid : State = (seen_of g.R.Lent.Lending.kept c.self.inside).state in
    let same = (rw (← c.self.view_is) at c.in_ok-inside.ensures.same) in
    let before : IsBefore 0x0b mid = subst (IsBefore 0x0b) (sym same) c.requires in
    let levels : mid.levels ≡ c.in_ok-inside.inside + 1 = ap (λ z. z.levels) same ∙ c.in_ok-inside.ensures.ok in
    refused_items_in owned _ mid _ _ same (keys_byte_refused _ mid c.in_ok-inside.inside _ _ _ _ before levels c.consume.ensures.window (peeked _ _ c.buffered.result.now c.in_ok-fill.ensures.ok c.buffered.ensures) (ap (λ z. z.source) c.refuse.ensures.state) c.if-byte-ne-BSER_ARRAY.true c.refuse.ensures.reason)

pub returns-then-inside-eq0-clause-refused : goal.returns-then-inside-eq0-clause-refused
returns-then-inside-eq0-clause-refused g c =
    let mid : State = (seen_of g.R.Lent.Lending.kept c.self.inside).state in
    let same = (rw (← c.self.view_is) at c.in_ok-inside.ensures.same) in
    let before : IsBefore 0x0b mid = subst (IsBefore 0x0b) (sym same) c.requires in
    let levels : mid.levels ≡ c.in_ok-inside.inside + 1 = ap (λ z. z.levels) same ∙ c.in_ok-inside.ensures.ok in
    refused_items_in owned _ mid _ _ same (keys_level_refused _ mid c.in_ok-inside.inside _ _ _ _ before levels c.consume.ensures.window (peeked _ _ c.buffered.result.now c.in_ok-fill.ensures.ok c.buffered.ensures)
    (ap (λ z. z.source) c.refuse-then-inside-eq0.ensures.state) c.if-byte-ne-BSER_ARRAY.false c.if-inside-eq0.true c.refuse-then-inside-eq0.ensures.reason)

pub returns-in_err-keys-clause-refused : goal.returns-in_err-keys-clause-refused
returns-in_err-keys-clause-refused g c =
    let p = err_from_is_err_and c.from_residual-in_err-keys.result c.from_residual-in_err-keys.ensures.1 in
    let mid : State = (seen_of g.R.Lent.Lending.kept c.self.inside).state in
    let same = (rw (← c.self.view_is) at c.in_ok-inside.ensures.same) in
    let before : IsBefore 0x0b mid = subst (IsBefore 0x0b) (sym same) c.requires in
    let levels : mid.levels ≡ c.in_ok-inside.inside + 1 = ap (λ z. z.levels) same ∙ c.in_ok-inside.ensures.ok in
    rw p.1 (refused_items_in owned _ mid _ _ same (keys_and_rows_refused _ mid c.in_ok-inside.inside _ _ _ _ _ before levels c.consume.ensures.window (peeked _ _ c.buffered.result.now c.in_ok-fill.ensures.ok c.buffered.ensures)
    c.if-byte-ne-BSER_ARRAY.false c.if-inside-eq0.false c.consume-2.ensures.window c.in_err-keys.ensures.err c.in_err-keys.ensures.names))

pub returns-clause-found : goal.returns-clause-found
returns-clause-found g c =
    let mid : State = (seen_of g.R.Lent.Lending.kept c.self.inside).state in
    let same = (rw (← c.self.view_is) at c.in_ok-inside.ensures.same) in
    let before : IsBefore 0x0b mid = subst (IsBefore 0x0b) (sym same) c.requires in
    let levels : mid.levels ≡ c.in_ok-inside.inside + 1 = ap (λ z. z.levels) same ∙ c.in_ok-inside.ensures.ok in
    opens_items_in mid _ _ same (opens_template mid _ c.in_ok-inside.inside c.in_ok-keys.rows _ _ _ _ _ _ before levels c.consume.ensures.window (peeked _ _ c.buffered.result.now c.in_ok-fill.ensures.ok c.buffered.ensures)
    c.if-byte-ne-BSER_ARRAY.false c.if-inside-eq0.false c.consume-2.ensures.window c.in_ok-keys.ensures.ok c.in_ok-enter_template.ensures.ok)
