use Rattle.std.proofs.Common.{◌<◌, ◌∙◌, List, ℕ, map, length, ap, sym, arith}
use Rattle.std.proofs.lemmas.List.{length-map}
use Rattle.std.proofs.lemmas.Str.{is_utf8-from_IsUtf8}
use Rattle.bser_deserializer.specs.Fields.{field_of}
use Rattle.bser_deserializer.proofs.Texts.{named_at}
use Rattle.bser_structs.proofs.entries.row_field.Goals as goal

pub returns : goal.returns
returns g c =
    let kept = g.R.Lent.Lending.kept in
    let keys = c.keys_of.result.now.items in
    let names : List (List ℕ) = map (λ r. r.now) c.args.names.now in
    let inside : c.args.at < length keys = omega (arith, length-map keys kept, ap length c.keys_of.ensures, c.requires) in
    let found = c.index.ensures in
    record {
      name = c.kept_text-name.result.now;
      due = rw (sym c.keys_of.ensures, c.kept_text-name.ensures) (named_at kept c.args.at keys c.index.result.now inside found);
      utf8 = is_utf8-from_IsUtf8 c.kept_text-name.result.now c.kept_text-name.utf8;
      found = c.find_field.ensures ∙ ap (field_of names) c.as_bytes.ensures.value;
    }
