-- Strings and keys that are taken before their bytes are checked.
use Rattle.std.specs.Prelude.{◌≡◌, ℕ, Bool, false, List, [], ◌∷◌, length}
use Rattle.bser_format.specs.Grammar.{Format, Bytes, Never, Given, ◌then◌, SpellsCount}
use Rattle.bser_format.specs.Expected.{Due, nothing_due, node_due, key_due, field_due, name_due, row_due}
use Rattle.bser_source.specs.Window.{Took}
use Rattle.bser_bunser.specs.Tokens.{tag_of_string}
use Rattle.bser_deserializer.specs.State.{State, past}

-- a string under the text's tag or the other, UTF-8 or not
abbrev pub SpellsUnder : Bool → List ℕ → Format
SpellsUnder is_text s = Bytes (tag_of_string is_text ∷ []) then SpellsCount (length s) then Bytes s

-- these bytes, where a string or key is expected; the key of a row's field has no tag
abbrev pub StringDue : Due → Bool → List ℕ → Format
StringDue nothing_due is_text s = Never
StringDue node_due is_text s = SpellsUnder is_text s
StringDue key_due is_text s = SpellsUnder is_text s
StringDue field_due is_text s = SpellsUnder is_text s
StringDue (name_due k) is_text s = Given ((s ≡ k) × (is_text ≡ false)) (Bytes [])
StringDue (row_due ks) is_text s = Never

-- the string or key that was expected was taken: these bytes, under the text's tag or not
pub record TookBytes (old new : State) (is_text : Bool) (s : List ℕ) : Type 0 where
  pub text : List ℕ
  pub filled : StringDue old.due is_text s text
  pub took : Took old.source new.source text
  pub state : new ≡ past old new.source
