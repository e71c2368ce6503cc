-- What the definitions say of single errors.
use Rattle.std.proofs.Common.{◌≡◌, refl}
use Rattle.bser_format.specs.declared.errors.Complaint.TheVariants.{NegativeLength, NegativeCount}
use Rattle.bser_format.specs.declared.errors.Error.TheVariants.{DeCustom, DeInvalidStartByte, OutOfMemory}
use Rattle.bser_format.specs.declared.errors.Kind.TheVariants.{MapKey}
use Rattle.bser_format.specs.declared.errors.Message.TheVariants.{Fixed}
use Rattle.bser_c.specs.Codes.{byte_of, code_of}

-- out of memory is no early end
pub memory_has_number_3 : code_of OutOfMemory ≡ 3
memory_has_number_3 = refl

-- two complaints have two numbers
pub length_has_number_32 : code_of (DeCustom (Fixed NegativeLength)) ≡ 32
length_has_number_32 = refl

pub count_has_number_33 : code_of (DeCustom (Fixed NegativeCount)) ≡ 33
count_has_number_33 = refl

-- an error about a byte has the byte, and no other has one
pub key_has_its_byte : byte_of (DeInvalidStartByte MapKey 0xff) ≡ 0xff
key_has_its_byte = refl

pub memory_has_no_byte : byte_of OutOfMemory ≡ 0
memory_has_no_byte = refl
