-- A text with one more digit is a number, or not.
use Rattle.std.proofs.Common.{◌≡◌, ℕ, ◌↔◌, ◌&&◌, ◌++◌, List, [], ◌∷◌, Bool, true, false, Option, Some, None, IsTrue, codes, refl, sym, ap, ◌∙◌, rules}
use Rattle.std.proofs.lemmas.Bool.{false_from_ne_true}
use Rattle.std.proofs.lemmas.Str.{IsUtf8-from_is_utf8, is_utf8-from_IsUtf8}
use Rattle.std.specs.Str.{is_utf8}
use Rattle.json.specs.Word.{after_number}
use Rattle.bser_from_json.specs.Places.{has_ended}
use Rattle.bser_from_json.proofs.fault.lacks_a_digit.Goals as goal

ended : (b : Bool) (o : Option (List ℕ)) → IsTrue b ↔ (o ≡ Some []) → b ≡ has_ended o
ended true o h = sym (ap has_ended (h.0 refl))
ended false o h = not_ended o h.1
  where
    not_ended : (o : Option (List ℕ)) → (o ≡ Some [] → IsTrue false) → false ≡ has_ended o
    not_ended None back = refl
    not_ended (Some []) back = back refl
    not_ended (Some (x ∷ xs)) back = refl

pub returns-in_ok-push_str-in-Ok : goal.returns-in_ok-push_str-in-Ok
returns-in_ok-push_str-in-Ok c =
    let rest = c.args.rest.now in
    let text = is_utf8-from_IsUtf8 rest c.in-Ok.ensures.cases.1 in
    let number : c.as_str.result.now ≡ rest ++ codes "0" = search rules in
    ended c.is_number.result (after_number c.as_str.result.now) c.is_number.ensures
    ∙ ap (λ s. has_ended (after_number s)) number ∙ ap (λ b. b && has_ended (after_number (rest ++ codes "0"))) (sym text)

pub returns-in-Err : goal.returns-in-Err
returns-in-Err c =
    let rest = c.args.rest.now in
    let no : is_utf8 rest ≡ false = false_from_ne_true (is_utf8 rest) (λ e. c.in-Err.ensures.cases.0 (IsUtf8-from_is_utf8 rest e)) in
    ap (λ b. b && has_ended (after_number (rest ++ codes "0"))) (sym no)
