-- Which capabilities the server says that it has.
use Rattle.std.specs.Prelude.{ℕ, Bool, false, not, ◌&&◌, List, Option, Some, None, bytes_eq}
use Rattle.std.specs.List.{list_any, find}
use Rattle.std.specs.BTreeMap.{BTreeMap}
use Rattle.std.specs.Borrow.{Bor}

-- whether one of the entries has the name, and is true
abbrev pub one_is_true : {S : Type 0} → (S → List ℕ) → List (S × Bool) → List ℕ → Bool
one_is_true name_of entries name = list_any (λ e. e.1 && bytes_eq (name_of e.0) name) entries

-- whether the server says of the capability of this name that it has it
abbrev pub says_true : {S : Type 0} → (S → List ℕ) → Option (BTreeMap S Bool) → List ℕ → Bool
says_true name_of None name = false
says_true name_of (Some told) name = one_is_true name_of told.entries name

-- the first name of which it does not say so
abbrev pub first_missing : {S : Type 0} → (S → List ℕ) → Option (BTreeMap S Bool) → List (Bor (List ℕ)) → Option (Bor (List ℕ))
first_missing name_of told names = find (λ name. not (says_true name_of told name.now)) names
