use Rattle.bser_events.proofs.InFront.{due_scalar_in_front, due_string_in_front, first_rest}
use Rattle.bser_events.proofs.Placings.{due_scalar_mark, due_string_mark}
use Rattle.bser_events.proofs.pieces.due_piece.Goals as goal

pub returns-in_default-value : goal.returns-in_default-value
returns-in_default-value c = record {
  front = due_scalar_in_front c.args.due c.in-Found.value _ c.args.bytes.now c.in-Found.len c.in-Found.ensures c.in_ok-event.ensures;
  mark = due_scalar_mark c.args.due c.in-Found.value _ _ c.in_ok-event.ensures c.in-Found.ensures.1;
}

pub returns : goal.returns
returns c =
    let f = c.in-Found in
    let string = first_rest f.len c.in-Str.size c.args.bytes.now _ c.in_ok-first.ensures in
    record {
      front = due_string_in_front c.args.due c.in-Str.is_text c.in-Str.size f.len f.value _ c.args.bytes.now _ c.in-Str.is f.ensures string c.in_ok-event-2.ensures;
      mark = due_string_mark c.args.due c.in-Str.is_text c.in-Str.size f.len f.value _ c.args.bytes.now _ c.in-Str.is f.ensures string c.in_ok-event-2.ensures;
    }
