-- What a key reads as, by the types of keys, is its bytes.
use Rattle.std.proofs.Common.{◌≡◌, ℕ, Bool, true, false, List, Some, None, option_map, refl, sym}
use Rattle.std.specs.Prelude.{if◌then◌else◌}
use Rattle.std.specs.Str.{is_utf8}
use Rattle.bser_format.specs.Tree.{text, bytes}
use Rattle.bser_format.specs.Expand.{key_tree}
use Rattle.bser_format.specs.Content.{Content, byte_list}
use Rattle.bser_format.specs.ReadsScalars.{reads_string, reads_slice, reads_byte_string}

utf8_name : (b : Bool) (name : List ℕ) (c : Content) → b ≡ is_utf8 name → reads_string (if b then text name else bytes name) ≡ Some c → c ≡ byte_list name
utf8_name true name c e h = cc
utf8_name false name c e h = absurd (let f : option_map byte_list (if is_utf8 name then Some name else None) ≡ None = rw (sym e) refl in cc)

slice_name : (b : Bool) (name : List ℕ) (c : Content) → reads_slice (if b then text name else bytes name) ≡ Some c → c ≡ byte_list name
slice_name true name c h = cc
slice_name false name c h = cc

byte_string_name : (b : Bool) (name : List ℕ) (c : Content) → reads_byte_string (if b then text name else bytes name) ≡ Some c → c ≡ byte_list name
byte_string_name true name c h = cc
byte_string_name false name c h = cc

-- as a text
pub string_key : (name : List ℕ) (c : Content) → reads_string (key_tree name) ≡ Some c → c ≡ byte_list name
string_key name c h = utf8_name (is_utf8 name) name c refl h

-- as lent bytes
pub slice_key : (name : List ℕ) (c : Content) → reads_slice (key_tree name) ≡ Some c → c ≡ byte_list name
slice_key name c h = slice_name (is_utf8 name) name c h

-- as a byte string
pub byte_string_key : (name : List ℕ) (c : Content) → reads_byte_string (key_tree name) ≡ Some c → c ≡ byte_list name
byte_string_key name c h = byte_string_name (is_utf8 name) name c h
