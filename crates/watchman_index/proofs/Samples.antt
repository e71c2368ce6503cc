-- What the definitions say of single clocks, rows, files, types and names.
use Rattle.std.proofs.Common.{◌≡◌, refl, true, false, arith, inl, inr}
use Rattle.std.specs.Prelude.{Some, None, [], codes}
use Rattle.watchman_index.specs.Clocks.{HasTicks, IsToldBy}
use Rattle.watchman_index.specs.Rows.{changed_by, state_of}
use Rattle.watchman_index.specs.Suffixes.{suffix_of}
use Rattle.watchman_index.specs.Tables.{is_since}
use Rattle.watchman_index.specs.declared.listed.Listed.{Listed}
use Rattle.watchman_index.specs.declared.row.FileState.{FileState}
use Rattle.watchman_types.specs.Words.{file_type_word}
use Rattle.watchman_types.specs.declared.file_type.FileType.TheVariants.{Regular, Directory, Symlink, Fifo, Socket}

nine : HasTicks (codes "c:1:2:3:9") 9
nine = record { numeral = (omega arith, (omega arith, tt)); value = refl; fits = omega arith }

ten : HasTicks (codes "c:1:2:3:10") 10
ten = record { numeral = (omega arith, (omega arith, (omega arith, tt))); value = refl; fits = omega arith }

-- where ten ticks are told, nine are, and not the other way round: the numbers count
pub nine_by_ten : IsToldBy (codes "c:1:2:3:10") (codes "c:1:2:3:9")
nine_by_ten = inr (record {
  most = 10;
  ticks = 9;
  instance = refl;
  last_ticks = ten;
  clock_ticks = nine;
  no_more = omega arith;
})

pub ten_by_nine : ¬ IsToldBy (codes "c:1:2:3:9") (codes "c:1:2:3:10")
ten_by_nine (inl same) = absurd (grind (arith, same))
ten_by_nine (inr no_later) = omega (arith, no_later.last_ticks.value, no_later.clock_ticks.value, no_later.no_more)

-- ticks of another crawl are not told
pub another_crawl : ¬ IsToldBy (codes "c:1:2:3:10") (codes "c:1:2:4:9")
another_crawl (inl same) = absurd (grind (arith, same))
another_crawl (inr no_later) = absurd (grind (arith, no_later.instance))

-- a file that message 3 changed has changed since message 2, and not since message 3
pub changed_since_2 : (s : FileState) → is_since (Some 2) (changed_by 3 s) ≡ true
changed_since_2 s = refl

pub unchanged_since_3 : (s : FileState) → is_since (Some 3) (changed_by 3 s) ≡ false
unchanged_since_3 s = refl

-- since a clock that is not known a deleted file has not changed
pub deleted_is_not_told : (s : FileState) → is_since None (changed_by 3 (record s { exists = false })) ≡ false
deleted_is_not_told s = refl

-- a file that is listed as deleted is known to be
pub deleted_is_known : (f : Listed) → (state_of (record f { exists = false })).exists ≡ false
deleted_is_known f = refl

-- a suffix stands behind the last dot of the last component, and may be empty
pub suffix_of_a_path : suffix_of (codes "src/a.tar.gz") ≡ Some (codes "gz")
suffix_of_a_path = refl

pub suffix_of_a_hidden_file : suffix_of (codes "src/.profile") ≡ Some (codes "profile")
suffix_of_a_hidden_file = refl

pub empty_suffix : suffix_of (codes "a.") ≡ Some []
empty_suffix = refl

pub folder_with_a_dot : suffix_of (codes "a.b/c") ≡ None
folder_with_a_dot = refl

pub no_dot : suffix_of (codes "Makefile") ≡ None
no_dot = refl

-- the letters of files, folders, links, pipes and sockets
pub letters : (file_type_word Regular ≡ codes "f") × (file_type_word Directory ≡ codes "d") × (file_type_word Symlink ≡ codes "l") × (file_type_word Fifo ≡ codes "p") × (file_type_word Socket ≡ codes "s")
letters = (refl, refl, refl, refl, refl)
