-- What a value of a readable type holds, whatever the type, and what a type's meaning is.
use Rattle.std.specs.Prelude.{◌≡◌, ℕ, ℤ, Bool, List, [], ◌∷◌, Option, Some, None, option_map, option_and_then}
use Rattle.bser_format.specs.Tree.{Tree, Entries, object}

mutual
  -- the one value, a truth value, a number, bytes, nothing, something, a list, a pair, a variant by its place, a `Value`
  pub data Content : Type 0 where
    one : Content
    truth : Bool → Content
    number : ℤ → Content
    byte_list : List ℕ → Content
    nothing : Content
    just : Content → Content
    list : Contents → Content
    pair : Content → Content → Content
    variant : ℕ → Content → Content
    value : Tree → Content

  pub data Contents : Type 0 where
    no_contents : Contents
    content : Content → Contents → Contents

-- the contents that a list gives
abbrev pub contents_of : List Content → Contents
contents_of [] = no_contents
contents_of (c ∷ cs) = content c (contents_of cs)

-- a type's meaning: which trees without templates it reads, and as what
abbrev pub Meaning : Type 0
Meaning = Tree → Option Content

-- what f makes of each, or none where one has none
abbrev pub each_some : {X Y : Type 0} → (X → Option Y) → List X → Option (List Y)
each_some f [] = Some []
each_some f (x ∷ xs) = option_and_then (λ y. option_map (λ ys. y ∷ ys) (each_some f xs)) (f x)

-- no object is read
abbrev pub ReadsNoObject : Meaning → Type 0
ReadsNoObject reads = (es : Entries) → reads (object es) ≡ None
