-- The meaning of each question, computed over the tables of an index.
use Rattle.std.proofs.Common.{List, ◌++◌, refl, sym, subst}
use Rattle.sqlite.specs.Given.{IsPlain}
use Rattle.sqlite.specs.Listing.{understood}
use Rattle.sqlite.specs.Schema.{Schema}
use Rattle.sqlite.specs.Table.{Table}
use Rattle.sqlite_tied.specs.Compute.{everything}
use Rattle.watchman_sqlite.specs.Schemas.{IsPlainQuestion, index_schema}
use Rattle.watchman_sqlite.specs.declared.schema.TheConstants.{FILES, NAMED, PRESENT, SUFFIX}

-- others stand behind the tables of an index
abbrev with_tables : Schema → List Table → Schema
with_tables s others = record s { tables = index_schema.tables ++ others }

files_beside : (s : Schema) (others : List Table) → IsPlain (understood (with_tables s others) FILES.now)
unfolding understood everything
files_beside s others = (refl, refl)

pub files_plain : IsPlainQuestion FILES.now
files_plain schema (others, is) = subst (λ ts. IsPlain (understood (record schema { tables = ts }) FILES.now)) (sym is) (files_beside schema others)

present_beside : (s : Schema) (others : List Table) → IsPlain (understood (with_tables s others) PRESENT.now)
unfolding understood everything
present_beside s others = (refl, refl)

pub present_plain : IsPlainQuestion PRESENT.now
present_plain schema (others, is) = subst (λ ts. IsPlain (understood (record schema { tables = ts }) PRESENT.now)) (sym is) (present_beside schema others)

suffix_beside : (s : Schema) (others : List Table) → IsPlain (understood (with_tables s others) SUFFIX.now)
unfolding understood everything
suffix_beside s others = (refl, refl)

pub suffix_plain : IsPlainQuestion SUFFIX.now
suffix_plain schema (others, is) = subst (λ ts. IsPlain (understood (record schema { tables = ts }) SUFFIX.now)) (sym is) (suffix_beside schema others)

named_beside : (s : Schema) (others : List Table) → IsPlain (understood (with_tables s others) NAMED.now)
unfolding understood everything
named_beside s others = (refl, refl)

pub named_plain : IsPlainQuestion NAMED.now
named_plain schema (others, is) = subst (λ ts. IsPlain (understood (record schema { tables = ts }) NAMED.now)) (sym is) (named_beside schema others)
