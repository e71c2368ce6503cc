-- Values that are no containers.
use Rattle.std.proofs.Common.{◌≡◌, ℕ, ℤ, Bool, List, Some, None, refl}
use Rattle.bser_format.specs.Tree.{Tree, null, boolean, integer, real, bytes, text, array, object, template}
use Rattle.bser_value.specs.Contents.{as_bool, as_i64, as_bytes, as_str}
use Rattle.bser_document.specs.Holds.{as_real_bits, kind_of}
use Rattle.bser_document.specs.declared.item.ItemKind.TheVariants as kinds
use Rattle.bser_document.specs.Put.{IsPlain}

pub bool_is : (u : Tree) (x : Bool) → Some x ≡ as_bool u → u ≡ boolean x
bool_is null x e = absurd cc
bool_is (boolean v) x e = cc
bool_is (integer v) x e = absurd cc
bool_is (real v) x e = absurd cc
bool_is (bytes l) x e = absurd cc
bool_is (text l) x e = absurd cc
bool_is (array us) x e = absurd cc
bool_is (object es) x e = absurd cc
bool_is (template ks rs) x e = absurd cc

pub i64_is : (u : Tree) (x : ℤ) → Some x ≡ as_i64 u → u ≡ integer x
i64_is null x e = absurd cc
i64_is (boolean v) x e = absurd cc
i64_is (integer v) x e = cc
i64_is (real v) x e = absurd cc
i64_is (bytes l) x e = absurd cc
i64_is (text l) x e = absurd cc
i64_is (array us) x e = absurd cc
i64_is (object es) x e = absurd cc
i64_is (template ks rs) x e = absurd cc

pub real_is : (u : Tree) (x : ℕ) → Some x ≡ as_real_bits u → u ≡ real x
real_is null x e = absurd cc
real_is (boolean v) x e = absurd cc
real_is (integer v) x e = absurd cc
real_is (real v) x e = cc
real_is (bytes l) x e = absurd cc
real_is (text l) x e = absurd cc
real_is (array us) x e = absurd cc
real_is (object es) x e = absurd cc
real_is (template ks rs) x e = absurd cc

pub text_is : (u : Tree) (x : List ℕ) → Some x ≡ as_str u → u ≡ text x
text_is null x e = absurd cc
text_is (boolean v) x e = absurd cc
text_is (integer v) x e = absurd cc
text_is (real v) x e = absurd cc
text_is (bytes l) x e = absurd cc
text_is (text l) x e = cc
text_is (array us) x e = absurd cc
text_is (object es) x e = absurd cc
text_is (template ks rs) x e = absurd cc

-- bytes that are no text
pub bytes_is : (u : Tree) (x : List ℕ) → None ≡ as_str u → Some x ≡ as_bytes u → u ≡ bytes x
bytes_is null x n e = absurd cc
bytes_is (boolean v) x n e = absurd cc
bytes_is (integer v) x n e = absurd cc
bytes_is (real v) x n e = absurd cc
bytes_is (bytes l) x n e = cc
bytes_is (text l) x n e = absurd cc
bytes_is (array us) x n e = absurd cc
bytes_is (object es) x n e = absurd cc
bytes_is (template ks rs) x n e = absurd cc

pub null_is : (u : Tree) → IsPlain u → None ≡ as_bool u → None ≡ as_i64 u → None ≡ as_real_bits u → None ≡ as_bytes u → u ≡ null
null_is null h b i r s = refl
null_is (boolean v) h b i r s = absurd cc
null_is (integer v) h b i r s = absurd cc
null_is (real v) h b i r s = absurd cc
null_is (bytes l) h b i r s = absurd cc
null_is (text l) h b i r s = absurd cc
null_is (array us) h b i r s = absurd h
null_is (object es) h b i r s = absurd h
null_is (template ks rs) h b i r s = absurd h

-- a kind of its own is no container
pub plain_kind : (u : Tree) → (kind_of u ≡ kinds.Array → ⊥) → (kind_of u ≡ kinds.Object → ⊥) → IsPlain u
plain_kind null a o = record {}
plain_kind (boolean v) a o = record {}
plain_kind (integer v) a o = record {}
plain_kind (real v) a o = record {}
plain_kind (bytes l) a o = record {}
plain_kind (text l) a o = record {}
plain_kind (array us) a o = absurd (a refl)
plain_kind (object es) a o = absurd (o refl)
plain_kind (template ks rs) a o = absurd (a refl)
