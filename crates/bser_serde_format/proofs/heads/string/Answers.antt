-- What follows a string's bytes.
use Rattle.std.proofs.Common.{rules, take}
use Rattle.bser_events.proofs.AtStart.{front_cut}
use Rattle.bser_serde_format.proofs.heads.string.Goals as goal
use Rattle.bser_serde_format.proofs.heads.string.Goals.{else-is_text-via-then-is_text+else-is_none, else-is_text-via-else-is_text}

pub returns : goal.returns
returns c = record {
  string = take c.args.len c.args.bytes.now;
  front = front_cut c.args.len c.args.bytes.now c.if-bytes-len.false;
  text = λ e. elim c.else-is_text.branch [ else-is_text-via-then-is_text+else-is_none w ↦ search rules | else-is_text-via-else-is_text w ↦ search rules ];
}
