-- What a type of integers reads, reading it passes over.
use Rattle.std.proofs.Common.{◌≡◌, ℕ, ℤ, Bool, true, false, cond, List, ◌++◌, Option, Some, None, refl, ap, ◌∙◌, FitsSigned}
use Rattle.bser_format.specs.Tree.{Tree, null, boolean, integer, real, bytes, text, array, object, template}
use Rattle.bser_format.specs.Expand.{expand}
use Rattle.bser_format.specs.Grammar.{Spells, SpellsInteger, IntSize, int8, int16, int32, int64, width_of, int_bytes}
use Rattle.bser_format.specs.Content.{Content, number}
use Rattle.bser_format.specs.ReadsScalars.{reads_integer}
use Rattle.bser_format.specs.declared.errors.Complaint.TheVariants.{IntegerOutOfRange}
use Rattle.bser_format.proofs.Fronts.{number_reads}
use Rattle.bser_format.specs.Named as named
use Rattle.bser_format.specs.Named.{reads, and_then, complain}
use Rattle.bser_format.specs.DueReaders.{integer_at, value_tag}
use Rattle.bser_format.specs.Asks.{asks_integer, in_range}
use Rattle.bser_format.specs.TypeLaws.{Passes}
use Rattle.bser_format.proofs.Dues.{passes_by, leaf_handles}

after_tag : (skips : Bool) (s : IntSize) (v : ℤ) (x : List ℕ) → FitsSigned (width_of s) v → and_then integer_at (and_then (value_tag skips) (named.next (int_bytes s v ++ x))) ≡ reads v x
after_tag skips int8 v x h = number_reads int8 v x h
after_tag skips int16 v x h = number_reads int16 v x h
after_tag skips int32 v x h = number_reads int32 v x h
after_tag skips int64 v x h = number_reads int64 v x h

when_true : (c : Bool) (k : Option Content) (l : Content) → cond c k None ≡ Some l → c ≡ true
when_true true k l e = refl
when_true false k l e = absurd cc

ranged : (fits : ℤ → Bool) (skips : Bool) (v : ℤ) (c : Content) (b x : List ℕ) → SpellsInteger v b → reads_integer fits (integer v) ≡ Some c
    → and_then (in_range fits) (and_then integer_at (and_then (value_tag skips) (named.next (b ++ x)))) ≡ reads tt x
ranged fits skips v c b x h r =
    ap (λ l. and_then (in_range fits) (and_then integer_at (and_then (value_tag skips) (named.next (l ++ x))))) h.spelled
    ∙ ap (and_then (in_range fits)) (after_tag skips h.size v x h.fits)
    ∙ ap (λ k. cond k (named.give tt) (named.refuse (complain IntegerOutOfRange)) x) (when_true (fits v) (Some (number v)) c r)

at_node : (fits : ℤ → Bool) (skips : Bool) (n : ℕ) (t : Tree) (b x : List ℕ) (c : Content) → Spells n t b → reads_integer fits (expand t) ≡ Some c
    → and_then (in_range fits) (and_then integer_at (and_then (value_tag skips) (named.next (b ++ x)))) ≡ reads tt x
at_node fits skips n (integer v) b x c h r = ranged fits skips v c b x h r
at_node fits skips n null b x c h r = absurd cc
at_node fits skips n other b x c h r = absurd cc

pub integer_passes : (fits : ℤ → Bool) → Passes (asks_integer fits) (reads_integer fits)
integer_passes fits = passes_by (leaf_handles (λ n. integer_at) (λ o n. in_range fits) (reads_integer fits) (λ o n skips t b x c h r. at_node fits skips n t b x c h r) refl (λ s. refl) (λ s. refl) (λ es. refl))
