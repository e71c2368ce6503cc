-- The size that an export wants, and why one wrote nothing.
use Rattle.std.proofs.Common.{◌≡◌, inl, inr, ℕ, List, length, sym, ap, subst, ◌∙◌}
use Rattle.std.proofs.lemmas.Option.{same_Some}
use Rattle.bser_format.specs.Tree.{Tree}
use Rattle.bser_canonical.specs.Slices.{RefusesSliceRewriting, RewritesToSize, RewroteSlice}
use Rattle.bser_canonical.specs.declared.slice.RewriteError.{RewriteError}
use Rattle.bser_canonical.specs.declared.slice.RewriteError.TheVariants.{TooLong}
use Rattle.bser_c.specs.Failures.{TellsWhyUntaped}
use Rattle.bser_c.specs.Parts.{size_with_header}
use Rattle.bser_c.specs.Untaped.{AreTape, StopAt, WantsBytes}

-- that of a message that was made
pub rewrote_size : (form : Tree → Tree) (bytes message : List ℕ) (n : ℕ) → RewroteSlice form bytes message → n ≡ length message → RewritesToSize form bytes n
rewrote_size form bytes message n r is = (r.tree, r.read, is ∙ ap length r.written)

-- that of a message that was too long
pub wanted_size : (form : Tree → Tree) (bytes : List ℕ) (n : ℕ) (u : RewriteError) → RefusesSliceRewriting form bytes u → u ≡ TooLong n → RewritesToSize form bytes n
wanted_size form bytes n u r is = subst (RefusesSliceRewriting form bytes) is r

-- words that are no tape
pub no_tape : (strings words : List ℕ) (code place : ℕ) → (AreTape strings words → ⊥) → StopAt strings words place → code ≡ 4 → TellsWhyUntaped strings words code place
no_tape strings words code place none stop is = inl (is, none, stop)

-- words without memory
pub no_memory : (strings words : List ℕ) (code place : ℕ) → code ≡ 3 → TellsWhyUntaped strings words code place
no_memory strings words code place is = inr is

-- one size is wanted: so whoever makes as much room as is wanted has enough
pub one_wanted : (strings words : List ℕ) (m n : ℕ) → WantsBytes strings words m → WantsBytes strings words n → m ≡ n
one_wanted strings words m n a b =
    let same = same_Some a.body b.body (sym a.told ∙ b.told) in
    a.size_is ∙ ap size_with_header same ∙ sym b.size_is
