use Rattle.std.proofs.Common.{◌∙◌, [], sym, ap}
use Rattle.std.specs.BTreeSet.{insert_key}
use Rattle.bser_types.proofs.Lists.{where_ok}
use Rattle.bser_types.proofs.Sets.{insert_last}
use Rattle.bser_types.proofs.impls.sets.BTreeSetCollects.collect.Goals as goal

pub returns : goal.returns
returns g c ok vs made =
    where_ok c.insert.result (sym c.is_ok.ensures.value ∙ ok) c.insert.ensures.keys ∙ ap (λ ks. insert_key g.T.Ord.cmp ks c.args.item) made ∙ sym (insert_last g.T.Ord.cmp [] vs c.args.item)
