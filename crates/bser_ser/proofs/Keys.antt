-- Keys that are texts, and others.
use Rattle.std.proofs.Common.{◌≡◌, ℕ, Bool, true, false, List, refl, sym, subst}
use Rattle.std.specs.Str.{is_utf8, IsUtf8}
use Rattle.std.proofs.lemmas.Str.{is_utf8-from_IsUtf8, IsUtf8-from_is_utf8}
use Rattle.bser_format.specs.Canonical.{canonical_key, canonical_text, canonical_bytes}
use Rattle.bser_ser.specs.Sent.{Sent}
use Rattle.bser_ser.specs.Stopped.{Tells}
use Rattle.bser_ser.specs.declared.serializer.Serializer.{Serializer}

other : (s : List ℕ) (b : Bool) → is_utf8 s ≡ b → ¬ (IsUtf8 s) → is_utf8 s ≡ false
other s true e h = absurd (h (IsUtf8-from_is_utf8 s e))
other s false e h = e

pub key_of_text : (s : List ℕ) → IsUtf8 s → canonical_key s ≡ canonical_text s
unfolding canonical_key
key_of_text s h = rw (is_utf8-from_IsUtf8 s h)

pub key_of_bytes : (s : List ℕ) → ¬ (IsUtf8 s) → canonical_key s ≡ canonical_bytes s
unfolding canonical_key
key_of_bytes s h = rw (other s (is_utf8 s) refl h)

-- a text that was put is its key
pub key_sent : {S : Type 0} (sink : Tells S) (a b : Serializer S) (s : List ℕ) → IsUtf8 s → Sent sink a b (canonical_text s) → Sent sink a b (canonical_key s)
key_sent sink a b s h t = subst (λ (bs : List ℕ). Sent sink a b bs) (sym (key_of_text s h)) t
