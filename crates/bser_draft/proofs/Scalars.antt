-- The bytes of a value without parts are its least.
use Rattle.std.proofs.Common.{ℕ, ℤ, Bool, ◌<◌, ◌^◌, List, length, FitsSigned, refl, arith, w64}
use Rattle.std.specs.Str.{IsUtf8}
use Rattle.bser_format.specs.Tree.{null, boolean, integer, real, bytes, text}
use Rattle.bser_format.specs.Pieces.{null_piece, bool_piece, integer_piece, real_piece, text_piece, bytes_piece}
use Rattle.bser_draft.specs.ToCome.{IsLeast}

pub null_least : (n : ℕ) → IsLeast n null_piece
null_least n = record { tree = null; writable = tt; plain = tt; deep = omega arith; least = refl }

pub bool_least : (n : ℕ) (v : Bool) → IsLeast n (bool_piece v)
bool_least n v = record { tree = boolean v; writable = tt; plain = tt; deep = omega arith; least = refl }

pub integer_least : (n : ℕ) (v : ℤ) → FitsSigned w64 v → IsLeast n (integer_piece v)
integer_least n v fits = record { tree = integer v; writable = fits; plain = tt; deep = omega arith; least = refl }

pub real_least : (n r : ℕ) → r < 2 ^ 64 → IsLeast n (real_piece r)
real_least n r fits = record { tree = real r; writable = fits; plain = tt; deep = omega arith; least = refl }

pub text_least : (n : ℕ) (s : List ℕ) → IsUtf8 s → length s < 2 ^ 63 → IsLeast n (text_piece s)
text_least n s utf8 short = record { tree = text s; writable = (utf8, short); plain = tt; deep = omega arith; least = refl }

pub bytes_least : (n : ℕ) (s : List ℕ) → length s < 2 ^ 63 → IsLeast n (bytes_piece s)
bytes_least n s short = record { tree = bytes s; writable = short; plain = tt; deep = omega arith; least = refl }
