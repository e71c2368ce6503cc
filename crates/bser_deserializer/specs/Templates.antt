-- A template's keys and its number of rows, after its tags.
use Rattle.std.specs.Prelude.{◌≡◌, ℕ, List, [], length}
use Rattle.bser_format.specs.Grammar.{Format, Given, ◌then◌, Each, SpellsCount, SpellsKey}
use Rattle.bser_format.specs.Expected.{WantedItems}
use Rattle.bser_format.specs.declared.errors.Kind.TheVariants.{TemplateKey}
use Rattle.bser_format.specs.Named.{Reader, ◌>>=◌, count, many, text_of}
use Rattle.bser_format.specs.DueReaders.{rows_wanted}
use Rattle.bser_source.specs.Window.{Window, Took}
use Rattle.bser_bunser.specs.Seen.{Seen}
use Rattle.bser_deserializer.specs.Reading.{NamesBy, owned}

-- ---- what is taken

-- bytes of this form were taken
pub record TookPart (F : Format) (old new : Window) : Type 0 where
  pub text : List ℕ
  pub spelled : F text
  pub took : Took old new text

-- the same, of what callers see
abbrev pub TakesPart : Format → Seen → Seen → Type 0
TakesPart F old new = TookPart F old.window new.window

-- a template's keys, after their number
abbrev pub SpellsKeys : List (List ℕ) → Format
SpellsKeys ks = SpellsCount (length ks) then Each SpellsKey ks

-- a template's keys and its number of rows, which is 0 where there are no keys
abbrev pub SpellsKeysAndRows : List (List ℕ) → ℕ → Format
SpellsKeysAndRows ks k = Given (ks ≡ [] → k ≡ 0) (SpellsCount (length ks) then Each SpellsKey ks then SpellsCount k)

-- ---- which readers give the errors

-- a template's keys, after their number
abbrev pub keys_after_number : Reader (List (List ℕ))
keys_after_number = count >>= λ n. many (text_of TemplateKey) n

-- a template's keys and its number of rows
abbrev pub keys_and_rows : Reader WantedItems
keys_and_rows = keys_after_number >>= λ ks. count >>= λ m. rows_wanted ks m

-- it is the first error, or out of memory
abbrev pub NamesPart : {X : Type 0} → Reader X → Seen → Seen → Type 0
NamesPart r old new = NamesBy owned r new.refusal old.window
