-- What it says of files that a message lists them.
use Rattle.std.specs.Prelude.{Bool, true, false}
use Rattle.watchman_index.specs.declared.listing.Listing.{Listing}
use Rattle.watchman_index.specs.declared.listing.Listing.TheVariants.{Changed, All}

-- what the rows of a message say, by whether it is a fresh instance
abbrev pub listing_of : Bool → Listing
listing_of false = Changed
listing_of true = All

-- whether the files that are listed are all that there are
abbrev pub is_of_all : Listing → Bool
is_of_all Changed = false
is_of_all All = true
