use Rattle.bser_source.specs.Refs.{bytes_of}
use Rattle.bser_bunser.proofs.Counted.{string_names, took_counted}
use Rattle.bser_bunser.proofs.bunser.Bunser.next_string.Goals as goal

pub returns-clause-names : goal.returns-clause-names
returns-clause-names g c =
    string_names c.bytes.result c.in_ok-len.len _ _ _ c.in_ok-len.ensures.ok c.bytes.ensures.names

pub returns-clause-ok : goal.returns-clause-ok
returns-clause-ok g c =
    took_counted (bytes_of g.R.Lent.Lending.bytes) c.bytes.result _ _ _ c.in_ok-len.len c.in_ok-len.ensures.ok c.bytes.ensures.length c.bytes.ensures.ok
