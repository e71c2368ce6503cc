-- An unsolicited message in hand.
use Rattle.std.proofs.Common.{rules, subst}
use Rattle.watchman_client.specs.Kinds.{IsKind, TellsNoError}
use Rattle.watchman_client.proofs.next.next_kind.Goals as goal

pub returns-in-Ok-clause-next : goal.returns-in-Ok-clause-next
returns-in-Ok-clause-next g c =
    let kind : IsKind c.in-Ok.kind.unsolicited c.reach.new.self.stream.frame = subst (λ m. IsKind c.in-Ok.kind.unsolicited m) c.frame.ensures c.in-Ok.ensures.kind in (
      record { hand = search rules; frame = search rules; kind = subst (λ b. IsKind b c.reach.new.self.stream.frame) c.if-kind.true kind },
      λ e. subst TellsNoError c.frame.ensures (c.in-Ok.ensures.errorless e),
    )
