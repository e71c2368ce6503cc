-- An integer is what `parse` reads.
use Rattle.std.proofs.Common.{Ok, rules, sym, ap, ◌∙◌}
use Rattle.std.specs.Int.{w64}
use Rattle.std.proofs.lemmas.Int.{to_z-of_z}
use Rattle.bser_format.specs.Tree.{integer}
use Rattle.bser_value.proofs.Views.{tree_of-Integer}
use Rattle.bser_from_json.proofs.Numbers.{parsed_fits, parsed_integer, unparsed_integer}
use Rattle.bser_from_json.proofs.meaning.integer_of.Goals as goal

pub returns-in-Ok : goal.returns-in-Ok
returns-in-Ok c =
    let s = c.args.text.now in
    let z = c.in-Ok.number in
    let fits = parsed_fits s z c.parse.result (search (rules, c.in-Ok.is)) c.parse.ensures.value.0 in
    parsed_integer s z c.parse.result (search (rules, c.in-Ok.is)) c.parse.ensures.value.0
    ∙ ap (λ n. Ok (integer n)) (sym (to_z-of_z w64 z fits)) ∙ ap Ok (sym (tree_of-Integer _))

pub returns-in-Err : goal.returns-in-Err
returns-in-Err c = unparsed_integer c.args.text.now c.in-Err.field-0 c.parse.result (search (rules, c.in-Err.is)) c.parse.ensures.value.0
