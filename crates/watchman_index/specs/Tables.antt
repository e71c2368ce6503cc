-- What a message makes of all that is known of files, by their names.
use Rattle.std.specs.Prelude.{◌≡◌, ◌⊎◌, ℕ, Bool, List, Option, Some, None, if◌then◌else◌, nat_lt, filter}
use Rattle.std.specs.Option.{option_map, is_some}
use Rattle.std.specs.BTreeMap.{BTreeMap, get}
use Rattle.std.specs.Ordering.{nat_cmp}
use Rattle.std.specs.Cmp.Lexicographic.{slice_cmp}
use Rattle.watchman_index.specs.declared.listing.Listing.{Listing}
use Rattle.watchman_index.specs.declared.row.FileState.{FileState}
use Rattle.watchman_index.specs.declared.row.Row.{Row}
use Rattle.watchman_index.specs.Listings.{is_of_all}
use Rattle.watchman_index.specs.Rows.{changed_by, gone}

-- what a table has of a name
abbrev pub of_name : {X : Type 0} → BTreeMap (List ℕ) X → List ℕ → Option X
of_name table name = get (slice_cmp nat_cmp) table name

-- the row of a file that message n does not list: gone, where the message lists all files
abbrev pub unlisted : ℕ → Listing → Option Row → Option Row
unlisted n listing was = if is_of_all listing then option_map (gone n) was else was

-- the row of a file after message n, which says `listed` of it, if it lists it
abbrev pub row_after : ℕ → Listing → Option FileState → Option Row → Option Row
row_after n listing (Some s) was = Some (changed_by n s)
row_after n listing None was = unlisted n listing was

-- the row of a file that is put, where message n says `listed` of it, and else as it was
abbrev pub row_put : ℕ → Option FileState → Option Row → Option Row
row_put n (Some s) was = Some (changed_by n s)
row_put n None was = was

-- each file's row is that after message n, which lists these files
abbrev pub Applies : ℕ → Listing → BTreeMap (List ℕ) FileState
    → BTreeMap (List ℕ) Row → BTreeMap (List ℕ) Row → Type 0
Applies n listing listed old new = (name : List ℕ)
    → of_name new name ≡ row_after n listing (of_name listed name) (of_name old name)

-- each file's row is as before, or that after message n
abbrev pub AppliesPartly : ℕ → Listing → BTreeMap (List ℕ) FileState
    → BTreeMap (List ℕ) Row → BTreeMap (List ℕ) Row → Type 0
AppliesPartly n listing listed old new = (name : List ℕ) → (of_name new name ≡ of_name old name)
    ⊎ (of_name new name ≡ row_after n listing (of_name listed name) (of_name old name))

-- files that message n does not list are gone, and the others as they were
abbrev pub Forgets : ℕ → BTreeMap (List ℕ) FileState
    → BTreeMap (List ℕ) Row → BTreeMap (List ℕ) Row → Type 0
Forgets n listed old new = (name : List ℕ) → of_name new name
    ≡ (if is_some (of_name listed name) then of_name old name
    else option_map (gone n) (of_name old name))

-- files that message n lists are put, and the others as they were
abbrev pub Puts : ℕ → BTreeMap (List ℕ) FileState
    → BTreeMap (List ℕ) Row → BTreeMap (List ℕ) Row → Type 0
Puts n listed old new = (name : List ℕ)
    → of_name new name ≡ row_put n (of_name listed name) (of_name old name)

-- each file's row is as before, or put
abbrev pub PutsPartly : ℕ → BTreeMap (List ℕ) FileState
    → BTreeMap (List ℕ) Row → BTreeMap (List ℕ) Row → Type 0
PutsPartly n listed old new = (name : List ℕ) → (of_name new name ≡ of_name old name)
    ⊎ (of_name new name ≡ row_put n (of_name listed name) (of_name old name))

-- whether a message behind that of this number changed the row; behind none that is known, whether
-- the file exists
abbrev pub is_since : Option ℕ → Row → Bool
is_since (Some n) r = nat_lt n r.changed
is_since None r = r.state.exists

-- the entries of those rows, in the order of their names
abbrev pub since_entries : Option ℕ → BTreeMap (List ℕ) Row → List (List ℕ × Row)
since_entries number files = filter (λ e. is_since number e.1) files.entries
