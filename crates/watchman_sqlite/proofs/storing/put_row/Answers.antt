use Rattle.watchman_sqlite.proofs.storing.put_row.Goals as goal

pub returns-clause-put : goal.returns-clause-put
returns-clause-put g c clean inside =
    rw (
      c.blob_param.ensures,
      c.suffix_param.ensures,
      c.exists_param.ensures,
      c.size_param.ensures,
      c.mode_param.ensures,
      c.type_param.ensures,
      c.time_param.ensures,
      c.number_param.ensures,
      c.number_param-2.ensures,
      c.in_ok-suffix.ensures,
      c.as_bytes-name.ensures,
    ) at (c.run.ensures.put clean inside)
