-- Which errors are not that of an integer that the type does not hold.
use Rattle.std.proofs.Common.{◌≡◌, ℕ, zero, suc, Bool, true, false, inl, inr, refl, sym, subst}
use Rattle.std.specs.Prelude.{Option, IsSomeAnd, if◌then◌else◌}
use Rattle.bser_format.specs.Clauses.{after_a_refusal}
use Rattle.bser_format.specs.DueReaders.{is_tag, is_key_tag, stray_at, wrong_type, nothing_here}
use Rattle.bser_format.specs.Expected.{Due, nothing_due, node_due, key_due, field_due, name_due, row_due}
use Rattle.bser_format.specs.declared.errors.Error.{Error}
use Rattle.bser_format.specs.declared.errors.Error.TheVariants.{DeInvalidStartByte, DeCustom, DeRecursionLimitExceeded, DeEof, DeInvalidMagic, DeTooLong, DeReaderError, SerCustom, SerNeedSize, SerU64TooBig, Io, OutOfMemory}
use Rattle.bser_format.specs.declared.errors.Kind.{Kind}
use Rattle.bser_format.specs.declared.errors.Kind.TheVariants.{NextItem, MapKey}
use Rattle.bser_format.specs.declared.errors.ReadCause.{ReadCause}
use Rattle.bser_source.specs.Window.{Window}
use Rattle.bser_bunser.specs.Names.{CutsInteger}
use Rattle.bser_bunser.specs.Refusal.{ShortOf, cause_of}
use Rattle.bser_deserializer.specs.Calls.{is_out_of_range}

choose : (b : Bool) (k : Kind) (t : ℕ) → is_out_of_range (if b then wrong_type else DeInvalidStartByte k t) ≡ false
choose true k t = refl
choose false k t = refl

-- that of a tag of another kind is none
pub stray_other : (d : Due) (t : ℕ) → is_out_of_range (stray_at d t) ≡ false
stray_other nothing_due t = refl
stray_other node_due t = choose (is_tag false t) NextItem t
stray_other key_due t = choose (is_key_tag t) MapKey t
stray_other field_due t = choose (is_tag true t) NextItem t
stray_other (name_due n) t = refl
stray_other (row_due ks) t = refl

pub nothing_other : (opened : ℕ) → is_out_of_range (nothing_here opened) ≡ false
nothing_other zero = refl
nothing_other (suc opened) = refl

-- nor is that of a call after an error
pub refused_other : (failed : Bool) (e f : Error) → is_out_of_range e ≡ false → f ≡ after_a_refusal failed e → is_out_of_range f ≡ false
refused_other true e f other same = subst (λ x. is_out_of_range x ≡ false) (sym same) refl
refused_other false e f other same = subst (λ x. is_out_of_range x ≡ false) (sym same) other

by_cause : (P : ReadCause → Type 0) (e : Error) → IsSomeAnd (cause_of e) P → is_out_of_range e ≡ false
by_cause P (DeCustom m) h = absurd h
by_cause P (DeInvalidStartByte k b) h = refl
by_cause P (DeRecursionLimitExceeded k) h = refl
by_cause P (DeEof x y) h = refl
by_cause P (DeInvalidMagic m) h = refl
by_cause P (DeTooLong x y) h = refl
by_cause P (DeReaderError c) h = refl
by_cause P (SerCustom m) h = refl
by_cause P (SerNeedSize k) h = refl
by_cause P (SerU64TooBig v) h = refl
by_cause P (Io f) h = refl
by_cause P OutOfMemory h = refl

-- nor is that of bytes that are not there
pub short_other : (n : ℕ) (e : Error) (a b : Window) → ShortOf n e a b → is_out_of_range e ≡ false
short_other n e a b h = by_cause _ e h.excuse

-- nor is that of an integer that is cut short
pub cut_other : (e : Error) (s : Window) → CutsInteger e s → is_out_of_range e ≡ false
cut_other e s (inl (b, left, cut)) = subst (λ x. is_out_of_range x ≡ false) (sym cut.1) refl
cut_other (DeCustom m) s (inr h) = absurd h
cut_other (DeInvalidStartByte k b) s (inr h) = refl
cut_other (DeRecursionLimitExceeded k) s (inr h) = refl
cut_other (DeEof x y) s (inr h) = refl
cut_other (DeInvalidMagic m) s (inr h) = refl
cut_other (DeTooLong x y) s (inr h) = refl
cut_other (DeReaderError c) s (inr h) = refl
cut_other (SerCustom m) s (inr h) = refl
cut_other (SerNeedSize k) s (inr h) = refl
cut_other (SerU64TooBig v) s (inr h) = refl
cut_other (Io f) s (inr h) = refl
cut_other OutOfMemory s (inr h) = refl
