-- The errors of the layers above a byte source.
use Rattle.bser_format.specs.declared.errors.ReadCause.{ReadCause}
use Rattle.bser_format.specs.declared.errors.ReadCause.TheVariants.{Eof, Utf8, Reader, Memory, Failed}
use Rattle.bser_format.specs.declared.errors.Error.{Error}
use Rattle.bser_format.specs.declared.errors.Error.TheVariants.{DeReaderError, OutOfMemory}

-- the refusal for a byte source's cause
abbrev pub error_of : ReadCause → Error
error_of Eof = DeReaderError Eof
error_of Utf8 = DeReaderError Utf8
error_of (Reader e) = DeReaderError (Reader e)
error_of Memory = OutOfMemory
error_of Failed = DeReaderError Failed
