-- A string of digits is put piece by piece.
use Rattle.std.proofs.Common.{◌≡◌, [], refl, rules}
use Rattle.hex.specs.Hex.{encode_lower}
use Rattle.bser_json.proofs.Parts.{hexadecimal_splits, no_digits, up_to_none, up_to_next, up_to_end, none_left}
use Rattle.bser_json.proofs.printing.Printing.long_hexadecimal.Goals as goal

pub loop-rest-init : goal.loop-rest-init
loop-rest-init g c = up_to_none g.W.Write.contents encode_lower c.args.bytes.now c.args.bytes.now c.args.self.now c.begin_string.new.self no_digits refl c.in_ok-begin_string.ensures

pub loop-rest-preserved : goal.loop-rest-preserved
loop-rest-preserved g c =
    up_to_next g.W.Write.contents encode_lower c.args.bytes.now c.loop-rest.rest.now c.split_at.result.0.now c.split_at.result.1.now c.as_str.result.now c.args.self.now c.loop-rest.self c.put_part.new.self
    hexadecimal_splits c.split_at.ensures.by_index.0 (search rules) c.in_ok-put_part.ensures c.loop-rest.invariant

pub returns : goal.returns
returns g c =
    let rest = c.loop-rest.rest.now in
    let none : rest ≡ [] = none_left rest c.is_empty.result c.is_empty.ensures c.loop-rest-test.false in
    up_to_end g.W.Write.contents encode_lower c.args.bytes.now rest c.args.self.now c.loop-rest.self c.end_string.new.self c.end_string.result none c.end_string.ensures c.loop-rest.invariant
