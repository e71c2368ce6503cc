use Rattle.watchman_sqlite.proofs.storing.put_source.Goals as goal

pub returns-clause-put : goal.returns-clause-put
returns-clause-put g c clean inside =
    rw (c.number_param.ensures, c.bytes_param.ensures, c.bytes_param-2.ensures, c.blob_param.ensures, c.as_bytes.ensures) at (c.run.ensures.put clean inside)
