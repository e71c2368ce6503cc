-- A mark's string, and its end.
use Rattle.std.proofs.Common.{◌≡◌, Some, None, rules, refl, sym, subst, ◌∙◌}
use Rattle.std.proofs.lemmas.Result.{err_from_is_err_and}
use Rattle.json.specs.Reads.{token_of}
use Rattle.json.specs.declared.token.Token.TheVariants as kinds
use Rattle.bser_value.specs.ValueView.{tree_of}
use Rattle.bser_from_json.specs.Left.{IsRefused, due_to}
use Rattle.bser_from_json.specs.Made.{a_string, an_end, marked_made}
use Rattle.bser_from_json.proofs.Outcomes.{lacking, mark_ended, mark_goes_on, mark_refused, mark_taken, refused_is, refused_same}
use Rattle.bser_from_json.proofs.reading.Reading.marked.Goals as goal

pub returns-in_err-token-clause-comes : goal.returns-in_err-token-clause-comes
returns-in_err-token-clause-comes c =
    let p = err_from_is_err_and c.from_residual.result c.from_residual.ensures.1 in
    rw p.1 (λ os any. refused_is _ p.0 c.in_err-token.field-0.0 p.2 (lacking c.args.self.now.strings (a_string c.args.mark os) c.args.tokens.now c.next.new.self c.in_err-token.field-0.0 (refl, refl) c.in_err-token.ensures.taken))

pub returns-in_default-clause-comes : goal.returns-in_default-clause-comes
returns-in_default-clause-comes c os any =
    let none : None ≡ marked_made c.args.mark (token_of c.in_ok-token.token) = search (rules, c.in_ok-value.ensures, c.in_default.is) in
    mark_refused c.args.self.now.strings c.args.mark os c.args.tokens.now c.next.new.self c.in_ok-token.token c.fault.result c.refuse.result c.in_ok-token.ensures.taken none c.fault.ensures c.refuse.ensures

pub returns-in_err-next-clause-comes : goal.returns-in_err-next-clause-comes
returns-in_err-next-clause-comes c =
    let s = c.args.self.now.strings in
    let m = c.args.mark in
    let u = tree_of c.in-Some.value in
    let some : Some u ≡ marked_made m (token_of c.in_ok-token.token) = search (rules, c.in_ok-value.ensures, c.in-Some.is) in
    let p = err_from_is_err_and c.from_residual-in_err-next.result c.from_residual-in_err-next.ensures.1 in
    let e = c.in_err-next.field-0.0 in
    rw p.1 (λ os any. refused_is _ p.0 e p.2
    (refused_same _ _ e (mark_taken s m os c.args.tokens.now c.next.new.self c.in_ok-token.token u c.in_ok-token.ensures.taken some)
    (lacking s (an_end u os) c.next.new.self c.next-2.new.self e (refl, refl) c.in_err-next.ensures.taken)))

pub returns-in_ok-with_value-in-EndObject-clause-comes : goal.returns-in_ok-with_value-in-EndObject-clause-comes
returns-in_ok-with_value-in-EndObject-clause-comes c =
    let s = c.args.self.now.strings in
    let m = c.args.mark in
    let u = tree_of c.in-Some.value in
    let some : Some u ≡ marked_made m (token_of c.in_ok-token.token) = search (rules, c.in_ok-value.ensures, c.in-Some.is) in
    let is : c.in_ok-next.field-0 ≡ kinds.EndObject = search (rules, c.in-EndObject.is) in (
      u,
      c.in_ok-with_value-in-EndObject.ensures,
      λ os any. mark_taken s m os c.args.tokens.now c.next.new.self c.in_ok-token.token u c.in_ok-token.ensures.taken some
          ∙ mark_ended s u os c.next.new.self c.next-2.new.self c.in_ok-next.field-0 c.in_ok-next.ensures.taken is,
    )

pub returns-in_default-2-clause-comes : goal.returns-in_default-2-clause-comes
returns-in_default-2-clause-comes c os any =
    let s = c.args.self.now.strings in
    let m = c.args.mark in
    let u = tree_of c.in-Some.value in
    let some : Some u ≡ marked_made m (token_of c.in_ok-token.token) = search (rules, c.in_ok-value.ensures, c.in-Some.is) in
    subst (IsRefused (due_to s c.args.tokens.now (a_string m os))) (sym c.refuse-in_default-2.ensures)
    (mark_taken s m os c.args.tokens.now c.next.new.self c.in_ok-token.token u c.in_ok-token.ensures.taken some
    ∙ mark_goes_on s u os c.next.new.self c.next-2.new.self c.in_ok-next.field-0 c.in_ok-next.ensures.taken c.in_default-2.not-EndObject)
