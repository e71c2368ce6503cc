-- The terms of an expression, as the arrays that Watchman reads.
use Rattle.std.specs.Prelude.{ℕ, List, [], ◌∷◌, codes, Option, Some, None, Result, Ok}
use Rattle.bser_format.specs.Tree.{Tree, boolean, bytes, integer, text}
use Rattle.bser_format.specs.Written.{tuple_tree, slice_tree}
use Rattle.bser_format.specs.declared.errors.Error.{Error}
use Rattle.bser_structs.specs.Entries.{entries_tree}
use Rattle.watchman_types.specs.Words.{operator_word, time_field_word, scope_word}
use Rattle.watchman_types.specs.declared.requests.bytes.Bytes.{Bytes}
use Rattle.watchman_types.specs.declared.requests.comparison.Comparison.{Comparison}
use Rattle.watchman_types.specs.declared.requests.moment.Moment.{Moment}
use Rattle.watchman_types.specs.declared.requests.moment.Moment.TheVariants.{Clock, Time}
use Rattle.watchman_types.specs.declared.requests.terms.Scope.{Scope}
use Rattle.watchman_types.specs.declared.requests.terms.Scope.TheVariants.{Basename}
use Rattle.watchman_types.specs.declared.requests.terms.MatchFlags.{MatchFlags}
use Rattle.watchman_types.specs.declared.requests.terms.Names.{Names}
use Rattle.watchman_types.specs.declared.requests.terms.Names.TheVariants.{One, Several}
use Rattle.watchman_types.specs.declared.requests.terms.Name.{Name}
use Rattle.watchman_types.specs.declared.requests.terms.Match.{Match}
use Rattle.watchman_types.specs.declared.requests.terms.Pcre.{Pcre}
use Rattle.watchman_types.specs.declared.requests.terms.Dirname.{Dirname}
use Rattle.watchman_types.specs.declared.requests.terms.Since.{Since}

-- an array that begins with this word
abbrev pub tagged : List ℕ → List (Result Tree Error) → Result Tree Error
tagged word parts = tuple_tree (Ok (text word) ∷ parts)

-- a clock is a text, and a time a number
abbrev pub moment_tree : Moment → Result Tree Error
moment_tree (Clock s) = Ok (text s.now)
moment_tree (Time n) = Ok (integer n)

-- a name is a byte string, and several are the array of them
abbrev pub bytes_tree : Bytes → Result Tree Error
bytes_tree b = Ok (bytes b.0.now)

abbrev pub names_tree : Names → Result Tree Error
names_tree (One b) = bytes_tree b
names_tree (Several bs) = slice_tree bytes_tree bs.now

-- one part more, where it is there
abbrev pub given : {A : Type 0} → (A → Result Tree Error) → Option A → List (Result Tree Error)
given tree None = []
given tree (Some x) = tree x ∷ []

-- a scope is its word
abbrev pub scope_tree : Scope → Result Tree Error
scope_tree s = Ok (text (scope_word s))

-- which globs a pattern is, as an object
abbrev pub flags_tree : MatchFlags → Result Tree Error
flags_tree f = entries_tree (
    (codes "includedotfiles", Ok (boolean f.include_dot_files))
    ∷ (codes "noescape", Ok (boolean f.no_escape))
    ∷ [])

-- a scope and flags, which stand behind a scope
abbrev pub scope_and_flags : Option Scope → Option MatchFlags → List (Result Tree Error)
scope_and_flags scope None = given scope_tree scope
scope_and_flags None (Some f) = scope_tree Basename ∷ flags_tree f ∷ []
scope_and_flags (Some s) (Some f) = scope_tree s ∷ flags_tree f ∷ []

-- a word, an operator and a number
abbrev pub compared : List ℕ → Comparison → Result Tree Error
compared word c = tagged word (Ok (text (operator_word c.operator)) ∷ Ok (integer c.number) ∷ [])

-- ---- terms

abbrev pub name_tree : Name → Result Tree Error
name_tree t = tagged (codes "name") (names_tree t.names ∷ given scope_tree t.scope)

abbrev pub match_tree : Match → Result Tree Error
match_tree t = tagged (codes "match") (Ok (text t.pattern.now) ∷ scope_and_flags t.scope t.flags)

abbrev pub pcre_tree : Pcre → Result Tree Error
pcre_tree t = tagged (codes "pcre") (Ok (text t.pattern.now) ∷ given scope_tree t.scope)

abbrev pub dirname_tree : Dirname → Result Tree Error
dirname_tree t = tagged (codes "dirname") (bytes_tree t.path ∷ given (compared (codes "depth")) t.depth)

abbrev pub since_tree : Since → Result Tree Error
since_tree t = tagged (codes "since") (moment_tree t.moment ∷ given (λ f. Ok (text (time_field_word f))) t.field)
