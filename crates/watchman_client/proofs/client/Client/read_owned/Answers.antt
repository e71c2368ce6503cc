use Rattle.std.proofs.Common.{subst, sym}
use Rattle.watchman_client.specs.Kinds.{TellsNoError}
use Rattle.watchman_client.proofs.client.Client.read_owned.Goals as goal

pub read_owned_value-requires : goal.read_owned_value-requires
read_owned_value-requires g c = subst TellsNoError (sym c.message.ensures) c.in_ok-refuse_error.ensures.none
