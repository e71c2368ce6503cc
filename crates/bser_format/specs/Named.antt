-- The value at the start of a byte list and what follows it, or the first error in the order of
-- reading: a plain program for the format.
use Rattle.std.specs.Prelude.{ℕ, zero, suc, ◌+◌, ◌-◌, ◌^◌, ℤ, pos, negsuc, Bool, true, false, List, [], ◌∷◌, length, take, drop, Option, Some, None, bytes_eq, nat_lt, ◌==◌, if◌then◌else◌}
use Rattle.std.specs.Int.{w32, w64, from_le_bytes, cast_signed, byte_len}
use Rattle.std.specs.Str.{is_utf8}
use Rattle.bser_format.specs.Tree.{items_of, entries_of, rows_of, Tree, null, boolean, integer, real, bytes, text, array, object, template}
use Rattle.bser_format.specs.Grammar.{IntSize, int8, int16, int32, int64, width_of}
use Rattle.bser_format.specs.declared.errors.Error.{Error}
use Rattle.bser_format.specs.declared.errors.Error.TheVariants.{DeInvalidStartByte, DeCustom, DeRecursionLimitExceeded, DeEof, DeInvalidMagic, DeReaderError}
use Rattle.bser_format.specs.declared.errors.Kind.{Kind}
use Rattle.bser_format.specs.declared.errors.Kind.TheVariants.{NextItem, Integer, MapKey, TemplateKeys, TemplateKey, Array, Object, Template}
use Rattle.bser_format.specs.declared.errors.Message.TheVariants.{Fixed}
use Rattle.bser_format.specs.declared.errors.Complaint.{Complaint}
use Rattle.bser_format.specs.declared.errors.Complaint.TheVariants.{NegativeLength, NegativeCount, RowsWithoutKeys, CountTooGreat}
use Rattle.bser_format.specs.declared.errors.ReadCause.TheVariants.{Eof, Utf8}

-- what was read and what follows it, or why nothing was
pub data Answer (X : Type 0) : Type 0 where
  reads : X → List ℕ → Answer X
  refuses : Error → Answer X

-- what takes the start of a byte list, or gives an error
abbrev pub Reader : Type 0 → Type 0
Reader X = List ℕ → Answer X

-- no byte is taken
abbrev pub give : {X : Type 0} → X → Reader X
give x b = reads x b

-- an error, whatever the bytes are
abbrev pub refuse : {X : Type 0} → Error → Reader X
refuse e b = refuses e

-- what reads on after an answer, where it is no error
abbrev pub and_then : {X Y : Type 0} → (X → Reader Y) → Answer X → Answer Y
and_then k (reads x b) = k x b
and_then k (refuses e) = refuses e

-- one reader after the other, the first error being the answer
infixl 10 ◌>>=◌
abbrev pub ◌>>=◌ : {X Y : Type 0} → Reader X → (X → Reader Y) → Reader Y
(r >>= k) b = and_then k (r b)

-- ---- the errors

-- the bytes end too early
abbrev pub eof : Error
eof = DeReaderError Eof

-- the bytes of a text are not UTF-8
abbrev pub utf8_wanted : Error
utf8_wanted = DeReaderError Utf8

-- an error with a fixed complaint
abbrev pub complain : Complaint → Error
complain c = DeCustom (Fixed c)

-- ---- bytes, integers and strings

-- the next byte
abbrev pub next : Reader ℕ
next [] = refuses eof
next (x ∷ b) = reads x b

-- the next n bytes
abbrev pub front : ℕ → Reader (List ℕ)
front n b = if nat_lt (length b) n then refuses eof else reads (take n b) (drop n b)

-- so many, one after the other
abbrev pub many : {X : Type 0} → Reader X → ℕ → Reader (List X)
many r zero = give []
many r (suc n) = do
  x ← r
  xs ← many r n
  give (x ∷ xs)

-- a number of this size, in two's complement, the lowest byte first
abbrev pub number : IntSize → Reader ℤ
number s = do
  b ← front (byte_len (width_of s))
  give (cast_signed (width_of s) (from_le_bytes (width_of s) b))

-- an integer after its tag, another giving this error
abbrev pub int_after : Error → ℕ → Reader ℤ
int_after e tag = if tag == 0x03 then number int8 else if tag == 0x04 then number int16 else if tag == 0x05 then number int32 else if tag == 0x06 then number int64 else refuse e

-- an integer where a length or a count is
abbrev pub int : Reader ℤ
int = next >>= λ tag. int_after (DeInvalidStartByte Integer tag) tag

-- an integer of at least 0, with this complaint of another
abbrev pub natural : Complaint → ℤ → Reader ℕ
natural c (pos n) = give n
natural c (negsuc n) = refuse (complain c)

-- a length
abbrev pub size : Reader ℕ
size = int >>= natural NegativeLength

-- a count
abbrev pub count : Reader ℕ
count = int >>= natural NegativeCount

-- a string after its tag
abbrev pub string : Reader (List ℕ)
string = size >>= front

-- bytes that have to be UTF-8
abbrev pub utf8 : List ℕ → Reader (List ℕ)
utf8 s = if is_utf8 s then give s else refuse utf8_wanted

-- a string after either tag, another giving this error
abbrev pub string_after : Error → ℕ → Reader (List ℕ)
string_after e tag = if tag == 0x02 then string else if tag == 0x0d then (string >>= utf8) else refuse e

-- a string of this kind, under either tag
abbrev pub string_of : Kind → Reader (List ℕ)
string_of kind = next >>= λ tag. string_after (DeInvalidStartByte kind tag) tag

-- the same, of UTF-8 under either tag
abbrev pub text_of : Kind → Reader (List ℕ)
text_of kind = string_of kind >>= utf8

-- ---- values

-- an entry of an object, whose key and value are read so
abbrev pub entry_of : Reader (List ℕ) → Reader Tree → Reader (List ℕ × Tree)
entry_of key r = do
  k ← key
  t ← r
  give (k, t)

-- a field of a row, which may be skipped
abbrev pub field_of : Reader Tree → Reader (Option Tree)
field_of r [] = refuses eof
field_of r (x ∷ b) = if x == 0x0c then reads None b else (r >>= λ t. give (Some t)) (x ∷ b)

-- an array after its tag
abbrev pub array_body : Reader Tree → Reader Tree
array_body r = do
  n ← count
  ts ← many r n
  give (array (items_of ts))

-- an object after its tag
abbrev pub object_body : Reader (List ℕ) → Reader Tree → Reader Tree
object_body key r = do
  n ← count
  es ← many (entry_of key r) n
  give (object (entries_of es))

-- the rows of a template, whose keys are ks: m rows of n fields
abbrev pub rows_body : Reader Tree → List (List ℕ) → ℕ → ℕ → Reader Tree
rows_body r ks zero (suc m) = refuse (complain RowsWithoutKeys)
rows_body r ks n m = do
  rs ← many (many (field_of r) n) m
  give (template ks (rows_of rs))

-- a template after the tag of its keys
abbrev pub template_body : Reader Tree → Reader Tree
template_body r = do
  n ← count
  ks ← many (text_of TemplateKey) n
  m ← count
  rows_body r ks n m

-- a container takes a level, where one is left
abbrev pub within : {X : Type 0} → Bool → Kind → Reader X → Reader X
within deep kind r = if deep then r else refuse (DeRecursionLimitExceeded kind)

-- a template's list of keys takes one more level while it is read
abbrev pub template_after : Bool → Reader Tree → ℕ → Reader Tree
template_after deeper r tag = if tag == 0x00 then within deeper Array (template_body r) else refuse (DeInvalidStartByte TemplateKeys tag)

-- what follows a tag: whether a level is left, and another; how keys are read; and the values inside
abbrev pub value_after : Bool → Bool → Reader (List ℕ) → Reader Tree → ℕ → Reader Tree
value_after deep deeper key r tag =
    if tag == 0x0a then give null
    else if tag == 0x08 then give (boolean true)
    else if tag == 0x09 then give (boolean false)
    else if tag == 0x07 then (front 8 >>= λ b. give (real (from_le_bytes w64 b)))
    else if tag == 0x02 then (string >>= λ s. give (bytes s))
    else if tag == 0x0d then (string >>= utf8 >>= λ s. give (text s))
    else if tag == 0x00 then within deep Array (array_body r)
    else if tag == 0x01 then within deep Object (object_body key r)
    else if tag == 0x0b then within deep Template (next >>= template_after deeper r)
    else (int_after (DeInvalidStartByte NextItem tag) tag >>= λ v. give (integer v))

-- there is one more level
abbrev pub is_positive : ℕ → Bool
is_positive zero = false
is_positive (suc n) = true

-- a value with n levels left, whose objects' keys are read so
unfoldable pub value : Reader (List ℕ) → ℕ → Reader Tree
value key zero = next >>= value_after false false key (refuse eof)
value key (suc n) = next >>= value_after true (is_positive n) key (value key n)

-- any value of the format
abbrev pub any : ℕ → Reader Tree
any = value (string_of MapKey)

-- a value whose objects' keys are UTF-8, as those of a `Value` and of what is skipped
abbrev pub with_text_keys : ℕ → Reader Tree
with_text_keys = value (text_of MapKey)

-- ---- messages

-- the two bytes that begin each message
abbrev pub magic : Reader (List ℕ)
magic = front 2 >>= λ s. if bytes_eq s (0x00 ∷ 0x02 ∷ []) then give s else refuse (DeInvalidMagic s)

-- a message's header: its capabilities, and the length of its body
abbrev pub head : Reader (ℕ × ℕ)
head = do
  m ← magic
  c ← front 4
  k ← size
  give (from_le_bytes w32 c, k)

-- the body began at `start` and was announced with `k` bytes, and reading is at `now`
abbrev pub ends : {X : Type 0} → ℕ → ℕ → ℕ → X → Reader X
ends start k now x =
    if nat_lt (start + k) (2 ^ 63) then (if start + k == now then give x else refuse (DeEof (start + k) now))
    else refuse (complain CountTooGreat)

-- the same, of the bytes of which b are left at the start and c now
abbrev pub ends_at : {X : Type 0} → List ℕ → List ℕ → ℕ → X → Reader X
ends_at all b k x c = ends (length all - length b) k (length all - length c) x c

-- a message whose value is read so: its capabilities and the value
abbrev pub message : {X : Type 0} → Reader X → Reader (ℕ × X)
message r all = (do
  h ← head
  (λ b. (r >>= λ x. ends_at all b h.1 (h.0, x)) b)) all
