-- The keys that were taken, and those that are left.
use Rattle.std.proofs.Common.{◌≡◌, ◌-◌, map}
use Rattle.bser_deserializer.proofs.Templates.{Progress}
use Rattle.bser_deserializer.proofs.template.take_keys.Given as goal

abbrev pub invariant-loop-key : goal.invariant-loop-key
invariant-loop-key g l =
    record {
      progress : Progress l.fn.bunser.window l.bunser.window (map g.R.Lent.Lending.kept l.keys.items) (l.count - l._key);
      kept : l.bunser.refusal ≡ l.fn.bunser.refusal;
    }
