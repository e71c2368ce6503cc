-- The tags: those of integers, and the names of all.
use Rattle.std.specs.Prelude.{ℕ, List, ◌++◌, Option, Some, None, codes, ◌==◌, if◌then◌else◌}
use Rattle.std.specs.Fmt.{decimal}

-- the tag of an integer of so many bytes: 1, 2, 4 or 8
abbrev pub integer_tag : ℕ → ℕ
integer_tag width =
    if width == 1 then 0x03
    else if width == 2 then 0x04
    else if width == 4 then 0x05
    else 0x06

-- the name of the tag, where the byte is one
abbrev pub tag_name : ℕ → Option (List ℕ)
tag_name b =
    if b == 0x00 then Some (codes "BSER_ARRAY")
    else if b == 0x01 then Some (codes "BSER_OBJECT")
    else if b == 0x02 then Some (codes "BSER_BYTESTRING")
    else if b == 0x03 then Some (codes "BSER_INT8")
    else if b == 0x04 then Some (codes "BSER_INT16")
    else if b == 0x05 then Some (codes "BSER_INT32")
    else if b == 0x06 then Some (codes "BSER_INT64")
    else if b == 0x07 then Some (codes "BSER_REAL")
    else if b == 0x08 then Some (codes "BSER_TRUE")
    else if b == 0x09 then Some (codes "BSER_FALSE")
    else if b == 0x0a then Some (codes "BSER_NULL")
    else if b == 0x0b then Some (codes "BSER_TEMPLATE")
    else if b == 0x0c then Some (codes "BSER_SKIP")
    else if b == 0x0d then Some (codes "BSER_UTF8STRING")
    else None

abbrev pub name_or : ℕ → Option (List ℕ) → List ℕ
name_or b (Some name) = name
name_or b None = codes "unknown byte '" ++ decimal b ++ codes "'"

-- the name of the tag, or the byte in decimal
abbrev pub description : ℕ → List ℕ
description b = name_or b (tag_name b)
