-- Strings and scalars at the start of bytes.
use Rattle.std.specs.Prelude.{◌≡◌, ℕ, Bool, true, false, List, IsUtf8, ◌==◌, ◌||◌, if◌then◌else◌}
use Rattle.bser_format.specs.Tree as trees
use Rattle.bser_format.specs.Tree.{Tree}
use Rattle.bser_format.specs.Named as named
use Rattle.bser_format.specs.Named.{reads, front, with_text_keys}

-- n bytes stand before the rest, and are UTF-8 where they are a text
pub record Cut (is_text : Bool) (n : ℕ) (b rest : List ℕ) : Type 0 where
  pub string : List ℕ
  pub front : front n b ≡ reads string rest
  pub text : is_text ≡ true → IsUtf8 string

-- the same, behind their length
pub record CutString (is_text : Bool) (b rest : List ℕ) : Type 0 where
  pub string : List ℕ
  pub read : named.string b ≡ reads string rest
  pub text : is_text ≡ true → IsUtf8 string

-- how many bytes a scalar with this tag has, or a skipped field, and 0 of other tags
abbrev pub size_of_scalar : ℕ → ℕ
size_of_scalar t =
    if (t == 0x08) || (t == 0x09) || (t == 0x0a) || (t == 0x0c) then 1
    else if t == 0x03 then 2
    else if t == 0x04 then 3
    else if t == 0x05 then 5
    else if (t == 0x06) || (t == 0x07) then 9
    else 0

-- what a string is read as
abbrev pub string_tree : Bool → List ℕ → Tree
string_tree true s = trees.text s
string_tree false s = trees.bytes s

-- a string stands before the rest, of a text where it is UTF-8
abbrev pub IsString : Bool → List ℕ → List ℕ → List ℕ → Type 0
IsString is_text b string rest =
    (levels : ℕ) → (is_text ≡ true → IsUtf8 string) → with_text_keys levels b ≡ reads (string_tree is_text string) rest
