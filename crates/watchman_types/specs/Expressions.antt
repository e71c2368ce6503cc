-- An expression as the nested arrays that Watchman reads, and how deep it nests.
use Rattle.std.specs.Prelude.{ℕ, suc, max, List, [], ◌∷◌, map, codes, nat_le, if◌then◌else◌, Result, Ok, Err}
use Rattle.bser_format.specs.Tree.{Tree, text}
use Rattle.bser_format.specs.Written.{slice_tree}
use Rattle.bser_format.specs.declared.errors.Error.{Error}
use Rattle.bser_format.specs.declared.errors.Error.TheVariants.{DeRecursionLimitExceeded}
use Rattle.bser_format.specs.declared.errors.Kind.TheVariants.{Array}
use Rattle.watchman_types.specs.Terms.{tagged, compared, name_tree, match_tree, pcre_tree, dirname_tree, since_tree}
use Rattle.watchman_types.specs.Words.{file_type_word}
use Rattle.watchman_types.specs.declared.requests.expression.Expression.{Expression, fold-Expression}
use Rattle.watchman_types.specs.declared.requests.expression.Expression.TheOpen.{Expression-F}
use Rattle.watchman_types.specs.declared.requests.expression.TheConstants.{MOST_NESTED}

-- ---- trees

-- one level, with each expression inside already seen as its tree
abbrev pub tree_step : Expression-F (Result Tree Error) → Result Tree Error
tree_step (Expression-F.AllOf es) = tagged (codes "allof") es.now
tree_step (Expression-F.AnyOf es) = tagged (codes "anyof") es.now
tree_step (Expression-F.Not e) = tagged (codes "not") (e.now ∷ [])
tree_step Expression-F.True = tagged (codes "true") []
tree_step Expression-F.False = tagged (codes "false") []
tree_step Expression-F.Exists = tagged (codes "exists") []
tree_step Expression-F.Empty = tagged (codes "empty") []
tree_step (Expression-F.Type t) = tagged (codes "type") (Ok (text (file_type_word t)) ∷ [])
tree_step (Expression-F.Suffix s) = tagged (codes "suffix") (Ok (text s.now) ∷ [])
tree_step (Expression-F.Suffixes ss) = tagged (codes "suffix") (slice_tree (λ s. Ok (text s.now)) ss.now ∷ [])
tree_step (Expression-F.Name t) = name_tree t
tree_step (Expression-F.Match t) = match_tree t
tree_step (Expression-F.Pcre t) = pcre_tree t
tree_step (Expression-F.Dirname t) = dirname_tree t
tree_step (Expression-F.Size c) = compared (codes "size") c
tree_step (Expression-F.Since t) = since_tree t

-- the tree of an expression
abbrev pub expression_tree : Expression → Result Tree Error
expression_tree = fold-Expression (Result Tree Error) tree_step

-- an array of the word and the trees of the operands
abbrev pub operands_tree : List ℕ → List Expression → Result Tree Error
operands_tree word es = tagged word (map expression_tree es)

-- an array of the word and the tree of the operand
abbrev pub negation_tree : Expression → Result Tree Error
negation_tree e = tagged (codes "not") (expression_tree e ∷ [])

-- ---- nesting

-- the greatest of these numbers
abbrev pub greatest : List ℕ → ℕ
greatest [] = 0
greatest (n ∷ ns) = max n (greatest ns)

-- one level, with the nesting of each expression inside
abbrev pub nesting_step : Expression-F ℕ → ℕ
nesting_step (Expression-F.AllOf ns) = suc (greatest ns.now)
nesting_step (Expression-F.AnyOf ns) = suc (greatest ns.now)
nesting_step (Expression-F.Not n) = suc n.now
nesting_step _ = 0

-- how many operators are one in another
abbrev pub nesting : Expression → ℕ
nesting = fold-Expression ℕ nesting_step

-- how many are in one of these at most
abbrev pub most_nesting : List Expression → ℕ
most_nesting es = greatest (map nesting es)

-- ---- what is written

-- the error with which a reader rejects an array that is too deep
abbrev pub too_deep : Error
too_deep = DeRecursionLimitExceeded Array

-- the tree of an expression, or the error where too many operators are one in another
abbrev pub expression_meaning : Expression → Result Tree Error
expression_meaning e = if nat_le (nesting e) MOST_NESTED then expression_tree e else Err too_deep
