use Rattle.std.proofs.Common.{rules}
use Rattle.watchman_index.proofs.Refusals.{not_read}
use Rattle.watchman_index.proofs.told.read_if.Goals as goal

pub returns-in-Err : goal.returns-in-Err
returns-in-Err g c = record {
  found = tt;
  none = not_read g.T.Shape c.args.bytes.now _ c.in-Err.ensures.refused (search rules);
}
