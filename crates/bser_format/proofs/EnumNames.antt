-- A name that is kept whole is kept in one form.
use Rattle.std.proofs.Common.{◌≡◌, ◌≤◌, ◌-◌, ◌++◌, List, ℕ, Bool, true, false, Option, Some, None, length, take, replicate, refl, ap, ◌∙◌, subst}
use Rattle.std.specs.Prelude.{IsUtf8}
use Rattle.std.specs.Coded.{le_prop}
use Rattle.std.specs.Str.{is_utf8}
use Rattle.std.proofs.Math.Dec.{leb}
use Rattle.std.proofs.lemmas.Bool.{leb-true}
use Rattle.std.specs.Prelude.{unwrap_or}
use Rattle.bser_format.specs.EnumName.{padded_if, kept_whole}
use Rattle.bser_format.specs.declared.errors.name.EnumName.{EnumName}

-- the bytes and their number fix what is kept
pub same_name : (a b : EnumName) → a.bytes ≡ b.bytes → a.len ≡ b.len → a ≡ b
same_name a b p q =
    subst (λ (cs : List ℕ). (u : ∥ IsUtf8 (take b.len cs) ∥₁) → a ≡ record { bytes = cs; len = b.len; within = b.within; text = u }) p
    (subst (λ (n : ℕ). (v : n ≤ 60) (u : ∥ IsUtf8 (take n a.bytes) ∥₁) → a ≡ record { bytes = a.bytes; len = n; within = v; text = u }) q
    (λ v u. ap (λ (x : a.len ≤ 60). record { bytes = a.bytes; len = a.len; within = x; text = a.text }) (le_prop a.within v) ∙ ap (λ (y : ∥ IsUtf8 (take a.len a.bytes) ∥₁). record { bytes = a.bytes; len = a.len; within = v; text = y }) (squash₁ a.text u)) b.within) b.text

-- what is known of a name that is kept whole
pub record IsWhole (name : List ℕ) (enum : EnumName) : Type 0 where
  pub short : length name ≤ 60
  pub bytes : enum.bytes ≡ name ++ replicate (60 - length name) 0
  pub len : enum.len ≡ length name

only_one : (a b : EnumName) → Some a ≡ Some b → a ≡ b
only_one a b is = ap (λ (m : Option EnumName). unwrap_or m a) is

pub whole_known : (name : List ℕ) (enum : EnumName) → kept_whole name ≡ Some enum → IsWhole name enum
whole_known name enum is = go (leb (length name) 60) (is_utf8 name) refl refl is
  where
    go : (short text : Bool) (p : leb (length name) 60 ≡ short) (q : is_utf8 name ≡ text) → padded_if name short text p q ≡ Some enum → IsWhole name enum
    go true true p q is = subst (IsWhole name) (only_one _ _ is) (record { short = leb-true (length name) 60 p; bytes = refl; len = refl })
    go true false p q is = absurd (let k : None ≡ Some enum = is in cc)
    go false true p q is = absurd (let k : None ≡ Some enum = is in cc)
    go false false p q is = absurd (let k : None ≡ Some enum = is in cc)
