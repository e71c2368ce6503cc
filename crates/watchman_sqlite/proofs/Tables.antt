-- Why a database has other tables than those of an index.
use Rattle.std.proofs.Common.{inl}
use Rattle.sqlite.specs.Held.{Held}
use Rattle.sqlite.specs.Store.{Ghosts}
use Rattle.watchman_sqlite.specs.Layouts.{AreNamed, HasOtherTables, HasOtherVersion, TellsNames, tables}
use Rattle.watchman_sqlite.specs.declared.error.IndexError.{IndexError}
use Rattle.watchman_sqlite.specs.declared.error.IndexError.TheVariants.{OtherLayout, Database as Failed}

-- it has the tables of an index, and another version
pub other_tables : {S : Type 0} (g : Ghosts S) (old mid new : Held S) (e : IndexError) → TellsNames g old mid (λ rows. AreNamed rows tables)
    → HasOtherVersion g mid new e → HasOtherTables g old new e
other_tables g old mid new OtherLayout names other = inl (mid, names, other)
other_tables g old mid new (Failed _) names other = tt
other_tables g old mid new _ names other = absurd other
