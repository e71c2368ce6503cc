-- A header, and a body of which nothing is to come.
use Rattle.std.proofs.Common.{rules, ◌≡◌, ◌-◌, ◌++◌, ◌<◌, ◌^◌, List, ℕ, pos, length, drop, ap, subst, ◌∙◌}
use Rattle.bser_source.specs.Window.{AreOctets}
use Rattle.bser_ser.specs.Message.{front_of}
use Rattle.bser_draft.specs.Begun.{put_in}
use Rattle.bser_draft.proofs.Whole.{with_header, finished}
use Rattle.bser_draft.proofs.draft.Draft.finish.Goals as goal

pub returns-clause-whole : goal.returns-clause-whole
returns-clause-whole c =
    let put : List ℕ = put_in c.args.self.out in
    let sent : List ℕ = c.into_inner-message.result.items in
    let message : List ℕ = c.put_in_gap.new.message.items in
    let same : sent ≡ put = c.into_inner-message.ensures ∙ c.in-Ok.ensures.ok.took_it in
    let len : c.in-Ok-try_from.body ≡ pos (length sent - 8) = search rules in
    let whole : message ≡ front_of c.in-Ok-try_from.body ++ drop 8 sent = search rules in
    with_header put message c.in-Ok-try_from.body (len ∙ ap (λ xs. pos (length xs - 8)) same) (whole ∙ ap (λ xs. front_of c.in-Ok-try_from.body ++ drop 8 xs) same)

pub returns-clause-least : goal.returns-clause-least
returns-clause-least c =
    let message : List ℕ = c.put_in_gap.new.message.items in
    let short : length message < 2 ^ 63 = search rules in
    let octets : AreOctets message = subst AreOctets c.deref.ensures.value c.are_octets.ensures in
    finished c.args.self.containers (put_in c.args.self.out) message c.if-containers.false (c.are_done.ensures (search rules)) (returns-clause-whole c) octets short c.args.self.begun
