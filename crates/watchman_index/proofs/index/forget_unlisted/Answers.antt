use Rattle.std.proofs.Common.{rules, ◌∙◌, ap}
use Rattle.std.specs.Prelude.{if◌then◌else◌}
use Rattle.std.specs.Option.{is_some}
use Rattle.watchman_index.specs.Rows.{gone}
use Rattle.watchman_index.specs.Tables.{of_name}
use Rattle.watchman_index.proofs.Puts.{at}
use Rattle.watchman_index.proofs.Forgets.{written, lookup_written, split_kept}
use Rattle.watchman_index.proofs.index.forget_unlisted.Goals as goal

pub returns : goal.returns
returns c =
    let n = c.args.number in
    let listed = c.args.listed.now in
    let e = written _ (λ name v. if is_some (of_name listed name) then v else gone n v) _
    (λ k v b w f' t. search rules) _ _ c.retain.ensures.filtered in
    λ q. ap (λ es. at es q) e
    ∙ lookup_written (λ name v. if is_some (of_name listed name) then v else gone n v) q
    c.args.files.now.entries
    ∙ split_kept n (is_some (of_name listed q)) (of_name c.args.files.now q)
