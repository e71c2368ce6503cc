-- Watchman's words for what is one of a few.
use Rattle.std.specs.Prelude.{ℕ, List, codes}
use Rattle.watchman_types.specs.declared.requests.comparison.Operator.{Operator}
use Rattle.watchman_types.specs.declared.requests.comparison.Operator.TheVariants.{Equal, NotEqual, Greater, GreaterOrEqual, Less, LessOrEqual}
use Rattle.watchman_types.specs.declared.file_type.FileType.{FileType}
use Rattle.watchman_types.specs.declared.file_type.FileType.TheVariants.{Regular, Directory, Symlink, BlockDevice, CharacterDevice, Fifo, Socket, Door, Unknown}
use Rattle.watchman_types.specs.declared.requests.log.Level.{Level}
use Rattle.watchman_types.specs.declared.requests.log.Level.TheVariants.{Debug, Error, Off}
use Rattle.watchman_types.specs.declared.requests.moment.TimeField.{TimeField}
use Rattle.watchman_types.specs.declared.requests.moment.TimeField.TheVariants.{ObservedClock, CreatedClock, ModificationTime, ChangeTime}
use Rattle.watchman_types.specs.declared.requests.terms.Scope.{Scope}
use Rattle.watchman_types.specs.declared.requests.terms.Scope.TheVariants.{Basename, Wholename}

-- the letter of a type of files
abbrev pub file_type_word : FileType → List ℕ
file_type_word Regular = codes "f"
file_type_word Directory = codes "d"
file_type_word Symlink = codes "l"
file_type_word BlockDevice = codes "b"
file_type_word CharacterDevice = codes "c"
file_type_word Fifo = codes "p"
file_type_word Socket = codes "s"
file_type_word Door = codes "D"
file_type_word Unknown = codes "?"

-- how two numbers are compared
abbrev pub operator_word : Operator → List ℕ
operator_word Equal = codes "eq"
operator_word NotEqual = codes "ne"
operator_word Greater = codes "gt"
operator_word GreaterOrEqual = codes "ge"
operator_word Less = codes "lt"
operator_word LessOrEqual = codes "le"

-- which time of a file
abbrev pub time_field_word : TimeField → List ℕ
time_field_word ObservedClock = codes "oclock"
time_field_word CreatedClock = codes "cclock"
time_field_word ModificationTime = codes "mtime"
time_field_word ChangeTime = codes "ctime"

-- which part of a path
abbrev pub scope_word : Scope → List ℕ
scope_word Basename = codes "basename"
scope_word Wholename = codes "wholename"

-- which lines of the log
abbrev pub log_level_word : Level → List ℕ
log_level_word Debug = codes "debug"
log_level_word Error = codes "error"
log_level_word Off = codes "off"
