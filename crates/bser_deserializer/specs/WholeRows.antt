-- Templates whose rows are whole.
use Rattle.bser_format.specs.Tree.{Tree, array, object, template, Items, no_items, item, Entries, no_entries, entry, Rows, no_rows, row, Fields, no_fields, skip, field, rows}
use Rattle.bser_format.specs.Grammar.{IsTemplate}

-- each row of each template has a field for each key, and there is no row where there is no key
abbrev mutual
  pub HasWholeRows : Tree → Type 0
  HasWholeRows (array ts) = ItemsHaveWholeRows ts
  HasWholeRows (object es) = EntriesHaveWholeRows es
  HasWholeRows (template ks rs) = IsTemplate ks (rows rs) × RowsHaveWholeRows rs
  HasWholeRows _ = Unit {0}

  pub ItemsHaveWholeRows : Items → Type 0
  ItemsHaveWholeRows no_items = Unit {0}
  ItemsHaveWholeRows (item t ts) = HasWholeRows t × ItemsHaveWholeRows ts

  pub EntriesHaveWholeRows : Entries → Type 0
  EntriesHaveWholeRows no_entries = Unit {0}
  EntriesHaveWholeRows (entry k t es) = HasWholeRows t × EntriesHaveWholeRows es

  pub RowsHaveWholeRows : Rows → Type 0
  RowsHaveWholeRows no_rows = Unit {0}
  RowsHaveWholeRows (row fs rs) = FieldsHaveWholeRows fs × RowsHaveWholeRows rs

  pub FieldsHaveWholeRows : Fields → Type 0
  FieldsHaveWholeRows no_fields = Unit {0}
  FieldsHaveWholeRows (skip fs) = FieldsHaveWholeRows fs
  FieldsHaveWholeRows (field t fs) = HasWholeRows t × FieldsHaveWholeRows fs
