use Rattle.std.proofs.Common.{◌≡◌, ◌+◌, suc, Some, drop, rules, arith, ap, sym, ◌∙◌}
use Rattle.std.proofs.lemmas.List.{take_rest}
use Rattle.watchman_index.proofs.Suffixes.{suffix_at, no_suffix_at, no_suffix, other_mark}
use Rattle.watchman_index.proofs.suffix.suffix_of.Goals as goal
use Rattle.watchman_index.proofs.suffix.suffix_of.Goals.{in_default-via-in-Some+else-name-at-eq46, in_default-via-in_default}

pub returns-in-Some : goal.returns-in-Some
returns-in-Some c =
    let xs = c.args.name.now in
    let at = c.in-Some.at in
    let behind : at + 1 ≡ suc at = omega arith in
    ap Some (take_rest xs (at + 1) ∙ ap (λ n. drop n xs) behind)
    ∙ sym (suffix_at xs at (search rules) (search rules) (search rules))

pub returns-in_default : goal.returns-in_default
returns-in_default c = elim c.in_default.branch [
  | in_default-via-in-Some+else-name-at-eq46 w ↦ sym (no_suffix_at c.args.name.now w.in-Some.at (search rules) (other_mark _ (search rules) (search rules)) (search rules))
  | in_default-via-in_default w ↦ sym (no_suffix c.args.name.now (search rules))
]
