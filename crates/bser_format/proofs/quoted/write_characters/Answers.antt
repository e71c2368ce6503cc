use Rattle.std.proofs.Common.{[], flat_map, encode_utf8_all, refl, sym, ap, ◌∙◌, map-id}
use Rattle.std.proofs.Output.{has_written_append, has_written_of_eq}
use Rattle.std.proofs.lemmas.Iterator.{YieldsList-from_chars}
use Rattle.std.proofs.lemmas.Iterator.Consumers.{YieldsList-end}
use Rattle.std.proofs.lemmas.List.{flat_map_more}
use Rattle.std.proofs.lemmas.Str.{encodes-append}
use Rattle.bser_format.specs.QuotedText.{json_escape}
use Rattle.bser_format.proofs.quoted.write_characters.Goals as goal

pub loop-c-preserved : goal.loop-c-preserved
loop-c-preserved g c =
    λ plain.
    let now = c.loop-c.invariant plain in
    has_written_of_eq _ _ _ _ _
    (sym (encodes-append (flat_map json_escape c.loop-c.yielded) (json_escape c.in-Some.c)) ∙ ap encode_utf8_all (flat_map_more json_escape [] c.loop-c.yielded c.in-Some.c))
    (has_written_append _ _ _ _ _ _ now (c.in_ok-write_escaped.ensures now.plain refl))

pub returns : goal.returns
returns g c =
    λ plain _.
    let end = YieldsList-end (YieldsList-from_chars c.args.text.now c.utf8.text cc) c.loop-c.yielded _ c.loop-c.yielded_by _ _ c.in-None.is c.next.ensures.steps in
    has_written_of_eq _ _ _ _ _ (ap (λ t. encode_utf8_all (flat_map json_escape t)) (sym (map-id c.loop-c.yielded) ∙ end.0)) (c.loop-c.invariant plain)
