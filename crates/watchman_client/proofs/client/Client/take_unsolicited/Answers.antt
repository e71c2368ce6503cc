use Rattle.std.proofs.Common.{rules, ◌≡◌, true, false, ap, subst, sym}
use Rattle.watchman_client.specs.Kinds.{TellsNoError}
use Rattle.watchman_client.specs.Views.{HasNext, left_of}
use Rattle.watchman_client.proofs.Moves.{given_at, moves_given, keeps_then}
use Rattle.watchman_client.proofs.Hands.{next_in_hand}
use Rattle.watchman_client.proofs.client.Client.take_unsolicited.Goals as goal

pub returns-then-self-2-clause-refused : goal.returns-then-self-2-clause-refused
returns-then-self-2-clause-refused g c =
    let h : HasNext false c.next_kind.new.incoming = search rules in
    (search rules, next_in_hand g.S.Source.remaining false c.next_kind.new.incoming h)

pub returns-else-self-2-clause-refused : goal.returns-else-self-2-clause-refused
returns-else-self-2-clause-refused g c =
    let h : HasNext false c.next_kind.new.incoming = search rules in
    (search rules, next_in_hand g.S.Source.remaining false c.next_kind.new.incoming h)

pub returns-in-Unsolicited-clause-given : goal.returns-in-Unsolicited-clause-given
returns-in-Unsolicited-clause-given g c =
    let h : HasNext true c.next_kind.new.incoming = search rules in
    let same : c.release.new.self.stream.frame ≡ c.next_kind.new.incoming.stream.frame = ap (λ s. s.frame) c.release.ensures.stream in
    λ e. (given_at c.next_kind.new.incoming.stream.frame c.release.new.self.stream.frame _ _ same (moves_given c.next_kind.new.incoming.stream.frame _ _ (keeps_then _ (left_of g.S.Source.remaining c.next_kind.new.incoming) _ _ (search rules) c.release.ensures.taken) h.frame h.kind (search rules) (search rules)), (search rules, search rules))

pub invariant_of-self-inside-in-Unsolicited : goal.invariant_of-self-inside-in-Unsolicited
invariant_of-self-inside-in-Unsolicited g c =
    let same : c.release.new.self.stream.frame ≡ c.next_kind.new.incoming.stream.frame = ap (λ s. s.frame) c.release.ensures.stream in
    let next = rw c.in-Unsolicited.is at c.in_ok-next_kind.ensures.next in
    (λ e. subst TellsNoError (sym same) (next.1 e), tt)
