-- What truth values, reals and units read, reading them passes over.
use Rattle.std.proofs.Common.{◌≡◌, ℕ, Bool, true, false, List, ◌++◌, Some, refl, ap, ◌∙◌}
use Rattle.std.specs.Int.{w64, to_le_bytes, from_le_bytes}
use Rattle.bser_format.specs.Tree.{Tree, null, boolean, integer, real, bytes, text, array, object, template}
use Rattle.bser_format.specs.Expand.{expand}
use Rattle.bser_format.specs.Grammar.{Spells}
use Rattle.bser_format.specs.Content.{Content}
use Rattle.bser_format.specs.ReadsScalars.{reads_bool, reads_real, reads_unit}
use Rattle.bser_format.proofs.Fronts.{front_reads}
use Rattle.bser_format.specs.Named.{reads, give, and_then, next}
use Rattle.bser_format.specs.DueReaders.{bool_at, real_at, unit_at, value_tag}
use Rattle.bser_format.specs.Asks.{done, asks_bool, asks_real, asks_unit}
use Rattle.bser_format.specs.TypeLaws.{Passes}
use Rattle.bser_format.proofs.Dues.{passes_by, leaf_handles, no_key}

bool_node : (skips : Bool) (n : ℕ) (t : Tree) (b x : List ℕ) (c : Content) → Spells n t b → reads_bool (expand t) ≡ Some c → and_then done (and_then bool_at (and_then (value_tag skips) (next (b ++ x)))) ≡ reads tt x
bool_node skips n (boolean true) b x c h r = ap (λ l. and_then done (and_then bool_at (and_then (value_tag skips) (next (l ++ x))))) h
bool_node skips n (boolean false) b x c h r = ap (λ l. and_then done (and_then bool_at (and_then (value_tag skips) (next (l ++ x))))) h
bool_node skips n null b x c h r = absurd cc
bool_node skips n other b x c h r = absurd cc

pub bool_passes : Passes asks_bool reads_bool
bool_passes = passes_by (leaf_handles (λ n. bool_at) (λ o n. done) reads_bool (λ o n skips t b x c h r. bool_node skips n t b x c h r) refl (λ s. refl) (λ s. refl) (λ es. refl))

real_node : (skips : Bool) (n : ℕ) (t : Tree) (b x : List ℕ) (c : Content) → Spells n t b → reads_real (expand t) ≡ Some c → and_then done (and_then real_at (and_then (value_tag skips) (next (b ++ x)))) ≡ reads tt x
real_node skips n (real v) b x c h r = ap (λ l. and_then done (and_then real_at (and_then (value_tag skips) (next (l ++ x))))) h.1 ∙ ap (λ a. and_then (done {X = ℕ}) (and_then (λ d. give (from_le_bytes w64 d)) a)) (front_reads 8 (to_le_bytes w64 v) x refl)
real_node skips n null b x c h r = absurd cc
real_node skips n other b x c h r = absurd cc

pub real_passes : Passes asks_real reads_real
real_passes = passes_by (leaf_handles (λ n. real_at) (λ o n. done) reads_real (λ o n skips t b x c h r. real_node skips n t b x c h r) refl (λ s. refl) (λ s. refl) (λ es. refl))

unit_node : (skips : Bool) (n : ℕ) (t : Tree) (b x : List ℕ) (c : Content) → Spells n t b → reads_unit (expand t) ≡ Some c → and_then done (and_then unit_at (and_then (value_tag skips) (next (b ++ x)))) ≡ reads tt x
unit_node skips n null b x c h r = ap (λ l. and_then done (and_then unit_at (and_then (value_tag skips) (next (l ++ x))))) h
unit_node skips n (boolean v) b x c h r = absurd cc
unit_node skips n other b x c h r = absurd cc

pub unit_passes : Passes asks_unit reads_unit
unit_passes = passes_by (record {
  node = λ o n skips t b x c h r. unit_node skips n t b x c h r;
  skipped = λ o n x c r. refl;
  key = λ o n s b x c h r. no_key reads_unit s c refl refl r;
  named = λ o n s x c r. no_key reads_unit s c refl refl r;
  of_row = λ o n ks fs b x c even h r. absurd cc;
})
