-- A token behind the value is refused.
use Rattle.bser_from_json.proofs.Outcomes.{refused_end}
use Rattle.bser_from_json.proofs.tokens.Tokens.end.Goals as goal

pub returns-in-Some : goal.returns-in-Some
returns-in-Some c s u = refused_end s c.args.self.now u _ _ c.break_off.result c.in-Some.ensures.value c.break_off.ensures
