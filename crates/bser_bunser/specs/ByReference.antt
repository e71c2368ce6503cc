-- A byte source that is read through a reference.
use Rattle.std.specs.Prelude.{Some}
use Rattle.std.specs.Borrow.{GName, MutBor}
use Rattle.bser_source.specs.Window.{Window}
use Rattle.bser_bunser.specs.declared.by_reference.ByReference.{ByReference}

-- the reference
abbrev pub reference_of : {R : Type 0} → ByReference R → MutBor R
reference_of r = r.read

-- the same source, read through the reference of this name
abbrev pub read_through : GName → Window → Window
read_through name s = record s { through = Some name }
