-- One of the first entries is looked at, or one of those that are left.
use Rattle.std.proofs.Common.{◌≡◌, ◌&&◌, ◌||◌, List, Bool, true, false, bytes_eq, sym, ap, ◌∙◌}
use Rattle.watchman_types.specs.Capabilities.{one_is_true}
use Rattle.watchman_types.proofs.version.is_true.Goals as goal
use Rattle.watchman_types.proofs.version.is_true.Goals.{else-has-via-then-has+else-is_named, else-has-via-else-has}

pub loop-key-init : goal.loop-key-init
loop-key-init g c = ap (λ l. one_is_true g.S.MapKey.name l c.args.name.now) c.into_iter-key-iterator.ensures.into_iter_gives.0

pub returns-then-is_named : goal.returns-then-is_named
returns-then-is_named g c =
    let says : List (g.row.S.Denot × Bool) → Bool = λ l. one_is_true g.S.MapKey.name l c.args.name.now in
    let same = bytes_eq (g.S.MapKey.name c.in-Some.key.now) c.args.name.now in
    let here : (c.in-Some.has.now && same) ≡ true = ap (λ b. b && same) c.if-has.true ∙ sym c.if-is_named.ensures in
    sym (sym c.loop-key.invariant ∙ ap says c.in-Some.ensures.steps ∙ ap (λ b. b || says c.next.new.self) here)

pub loop-key-preserved : goal.loop-key-preserved
loop-key-preserved g c =
    let says : List (g.row.S.Denot × Bool) → Bool = λ l. one_is_true g.S.MapKey.name l c.args.name.now in
    let same = bytes_eq (g.S.MapKey.name c.in-Some.key.now) c.args.name.now in
    let none : (c.in-Some.has.now && same) ≡ false = elim c.else-has.branch [ else-has-via-then-has+else-is_named w ↦ ap (λ b. b && same) w.if-has.true ∙ sym w.if-is_named.ensures | else-has-via-else-has w ↦ ap (λ b. b && same) w.if-has.false ] in
    sym (ap says c.in-Some.ensures.steps ∙ ap (λ b. b || says c.next.new.self) none) ∙ c.loop-key.invariant

pub returns : goal.returns
returns g c = sym (ap (λ l. one_is_true g.S.MapKey.name l c.args.name.now) c.in-None.ensures.steps.0) ∙ c.loop-key.invariant
