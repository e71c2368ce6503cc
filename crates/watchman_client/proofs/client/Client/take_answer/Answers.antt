use Rattle.std.proofs.Common.{rules, ◌≡◌, [], ◌∷◌, false, ap, subst, ◌∙◌}
use Rattle.std.specs.Io.KnownBytes.{Consumes}
use Rattle.watchman_client.specs.Views.{HasNext, left_of, view_of}
use Rattle.watchman_client.proofs.Moves.{answer_at, moves_then, moves_answer, moves_of, nothing_then, on_err}
use Rattle.watchman_client.proofs.client.Client.take_answer.Goals as goal

pub returns-in_err-keep_next-clause-nothing : goal.returns-in_err-keep_next-clause-nothing
returns-in_err-keep_next-clause-nothing g c =
    on_err _ _ (nothing_then _ (view_of g.S.Source.remaining c.loop.self) _ c.loop.invariant.nothing c.keep_next.ensures.nothing)

pub loop-preserved : goal.loop-preserved
loop-preserved g c = record {
  nothing = nothing_then _ (view_of g.S.Source.remaining c.loop.self) _ c.loop.invariant.nothing c.keep_next.ensures.nothing;
  failed = search rules;
  writer = search rules;
  within = record { bounds = c.keep_next.ensures.within.bounds ∙ c.loop.invariant.within.bounds; limits = c.keep_next.ensures.within.limits ∙ c.loop.invariant.within.limits; within = c.keep_next.ensures.within.within };
}

pub returns-clause-given : goal.returns-clause-given
returns-clause-given g c =
    let mid = c.keep_next.new.self in
    let h : HasNext false mid.incoming = search rules in
    let n = nothing_then _ (view_of g.S.Source.remaining c.loop.self) (view_of g.S.Source.remaining mid) c.loop.invariant.nothing c.keep_next.ensures.nothing in
    let v : c.self-2.inside.incoming ≡ mid.incoming = search rules in
    let e : c.release.new.self.stream.frame ≡ mid.incoming.stream.frame = ap (λ s. s.frame) c.release.ensures.stream ∙ ap (λ i. i.stream.frame) v in
    let taken : Consumes (left_of g.S.Source.remaining mid.incoming) (left_of g.S.Source.remaining c.release.new.self) mid.incoming.stream.frame = subst (λ i. Consumes (left_of g.S.Source.remaining i) (left_of g.S.Source.remaining c.release.new.self) i.stream.frame) v c.release.ensures.taken in
    (answer_at mid.incoming.stream.frame c.release.new.self.stream.frame _ _ e (moves_then [] [] (mid.incoming.stream.frame ∷ []) [] _ (view_of g.S.Source.remaining mid) _ (moves_of _ _ n) (moves_answer mid.incoming.stream.frame _ _ taken h.frame h.kind (search rules))), search rules, search rules, search rules, search rules)

pub returns-in_err-keep_next-clause-within : goal.returns-in_err-keep_next-clause-within
returns-in_err-keep_next-clause-within g c = record { bounds = c.keep_next.ensures.within.bounds ∙ c.loop.invariant.within.bounds; limits = c.keep_next.ensures.within.limits ∙ c.loop.invariant.within.limits; within = c.keep_next.ensures.within.within }

pub returns-clause-within : goal.returns-clause-within
returns-clause-within g c =
    let v : c.self-2.inside.incoming ≡ c.keep_next.new.self.incoming = search rules in
    record {
      bounds = search rules;
      limits = c.release.ensures.limits ∙ ap (λ i. i.stream.limits) v ∙ c.keep_next.ensures.within.limits ∙ c.loop.invariant.within.limits;
      within = search rules;
    }
