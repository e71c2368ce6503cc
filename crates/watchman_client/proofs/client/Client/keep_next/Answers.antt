use Rattle.std.proofs.Common.{rules, ◌≡◌, true, sym, subst}
use Rattle.bser_frames.specs.Stream.{left}
use Rattle.watchman_client.specs.Kept.{is_full}
use Rattle.watchman_client.specs.Views.{HasNext, left_of}
use Rattle.watchman_client.proofs.Moves.{moves_none, moves_kept, keeps_then}
use Rattle.watchman_client.proofs.Hands.{front_there}
use Rattle.watchman_client.proofs.client.Client.keep_next.Goals as goal

pub returns-in-Answer-clause-nothing : goal.returns-in-Answer-clause-nothing
returns-in-Answer-clause-nothing g c = (moves_none _ _ (search rules) (search rules), search rules, search rules)

pub returns-in-Ok-clause-nothing : goal.returns-in-Ok-clause-nothing
returns-in-Ok-clause-nothing g c =
    let h : HasNext true c.next_kind.new.incoming = search rules in
    (moves_kept c.next_kind.new.incoming.stream.frame _ _ (keeps_then _ (left_of g.S.Source.remaining c.next_kind.new.incoming) _ _ (search rules) c.release.ensures.taken) h.frame h.kind (search rules), search rules, search rules)

pub returns-in-Err-Full-clause-nothing : goal.returns-in-Err-Full-clause-nothing
returns-in-Err-Full-clause-nothing g c = (moves_none _ _ (search rules) (search rules), search rules, search rules)

pub returns-in-Err-Full-clause-refused : goal.returns-in-Err-Full-clause-refused
returns-in-Err-Full-clause-refused g c =
    let h : HasNext true c.next_kind.new.incoming = search rules in
    let f : is_full c.self.inside.bounds c.self.inside.kept c.frame.result.now ≡ true = c.in-Err-Full.ensures.full (search rules) in
    let k : c.push.new.self ≡ c.self.inside.kept = search rules in
    record {
      next = record {
        bytes = c.next_kind.new.incoming.stream.frame;
        rest = left g.S.Source.remaining c.next_kind.new.incoming.stream;
        frame = h.frame;
        kind = h.kind;
        front = front_there c.next_kind.new.incoming.held c.next_kind.new.incoming.stream.frame _ h.hand;
      };
      full = subst (λ x. is_full c.self.inside.bounds x c.next_kind.new.incoming.stream.frame ≡ true) (sym k) (subst (λ m. is_full c.self.inside.bounds c.self.inside.kept m ≡ true) c.frame.ensures f);
    }

pub returns-in-Err-Memory-clause-nothing : goal.returns-in-Err-Memory-clause-nothing
returns-in-Err-Memory-clause-nothing g c = (moves_none _ _ (search rules) (search rules), search rules, search rules)
