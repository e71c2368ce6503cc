use Rattle.std.proofs.Common.{◌≡◌, ◌||◌, false, ap, ◌∙◌, inl, inr}
use Rattle.watchman_client.specs.Failures.{fails}
use Rattle.watchman_client.specs.Requests.{Exchanges}
use Rattle.watchman_client.proofs.Moves.{on_ok, if_err}
use Rattle.watchman_client.proofs.client.Client.request.Goals as goal

pub returns-in-Err-clause-refused : goal.returns-in-Err-clause-refused
returns-in-Err-clause-refused g c =
    let asked = c.in_ok-send.ensures.asked in
    let works : c.send.new.self.failed ≡ false = ap (λ v. v.failed) asked.2 ∙ asked.0 in
    inr (inl (record {
      asked = c.send.new.self;
      sends = record { asked = asked; sent = c.in_ok-send.ensures.sent };
      nothing = c.in-Err.ensures.nothing;
      reason = c.in-Err.ensures.refused;
      failed = c.in-Err.ensures.failed ∙ ap (λ b. b || fails c.in-Err.unanswered) works;
      writer = c.in-Err.ensures.writer;
    }))

pub returns-in-Ok-clause-exchanged : goal.returns-in-Ok-clause-exchanged
returns-in-Ok-clause-exchanged g c =
    let exchanged : Exchanges g.S.Source.remaining g.W.Sink (g.Q.Serialize.meaning c.args.request.now) c.args.self.now c.answer.new.self = record {
      asked = c.send.new.self;
      sends = record { asked = c.in_ok-send.ensures.asked; sent = c.in_ok-send.ensures.sent };
      given = c.in-Ok.ensures.given;
      writer = c.in-Ok.ensures.writer;
    } in
    on_ok c.read_owned.result _ (λ v. exchanged)

pub returns-in-Ok-clause-refused : goal.returns-in-Ok-clause-refused
returns-in-Ok-clause-refused g c = if_err _ _ _ (λ e u. inr (inr (
  record {
    asked = c.send.new.self;
    sends = record { asked = c.in_ok-send.ensures.asked; sent = c.in_ok-send.ensures.sent };
    given = c.in-Ok.ensures.given;
    writer = c.in-Ok.ensures.writer;
  },
  u,
))) c.read_owned.ensures.refused
