-- What texts hold that are borrowed or owned.
use Rattle.std.specs.Cow.{cow_str_bytes}
use Rattle.std.specs.declared.borrow.CowStr.{CowStr}
use Rattle.bser_format.specs.Content.{Content}
use Rattle.bser_deserializer.specs.HoldsTexts.{HoldsBytes}

-- its bytes
abbrev pub HoldsCow : {Z : Type 0} → CowStr Z → Content → Type 0
HoldsCow s = HoldsBytes (cow_str_bytes s)
