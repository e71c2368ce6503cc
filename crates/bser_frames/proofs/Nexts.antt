-- What is left after a call.
use Rattle.std.proofs.Common.{◌≡◌, ℕ, Bool, true, false, List, [], ◌∷◌, ◌++◌, Option, Some, None, length, append_assoc, refl, sym, ap, ◌∙◌, arith}
use Rattle.std.specs.Prelude.{if◌then◌else◌}
use Rattle.std.specs.Io.KnownBytes.{Consumes, IsAtEnd, Keeps, prepend_known}
use Rattle.bser_source.specs.Pull.{Reads}
use Rattle.bser_frames.specs.Stream.{IsFrameWithin, IsNextFrame}

taken : (a b : Option (List ℕ)) (due new more : List ℕ) → new ≡ due ++ more → Consumes a b more → Consumes (prepend_known due a) (prepend_known [] b) new
taken None b due new more e h = tt
taken (Some x) None due new more e h = absurd h
taken (Some x) (Some y) due new more e h = ap (λ l. due ++ l) h ∙ sym (append_assoc due more y) ∙ ap (λ l. l ++ y) (sym e)

-- what came of a message stays left
pub kept : (a b : Option (List ℕ)) (due new : List ℕ) → Reads a b due new → Keeps (prepend_known due a) (prepend_known new b)
kept a b due new r = go a b r.device
  where
    go : (a b : Option (List ℕ)) → Consumes a b r.more → Keeps (prepend_known due a) (prepend_known new b)
    go None b h = tt
    go (Some x) None h = absurd h
    go (Some x) (Some y) h = ap (λ l. l ++ y) r.items ∙ append_assoc due r.more y ∙ ap (λ l. due ++ l) (sym h)

ended : (a b : Option (List ℕ)) (due more : List ℕ) → [] ≡ due ++ more → Consumes a b more → IsAtEnd b → IsAtEnd (prepend_known due a)
ended None b due more e h end = tt
ended (Some x) None due more e h end = absurd h
ended (Some x) (Some y) [] more e h end = h ∙ ap (λ l. more ++ l) end ∙ ap (λ l. l ++ []) (sym e)
ended (Some x) (Some y) (z ∷ due) more e h end = absurd (omega (arith, ap length e))

at_end : (b : Option (List ℕ)) (frame : List ℕ) → frame ≡ [] → IsAtEnd b → IsAtEnd (prepend_known frame b)
at_end None frame e end = tt
at_end (Some y) frame e end = ap (λ l. l ++ y) e ∙ end

-- the next frame was taken, or nothing was left
pub next_found : (most : ℕ) (whole : Bool) (old new : Option (List ℕ)) (due frame : List ℕ) → Reads old new due frame → (whole ≡ true → IsFrameWithin most frame)
    → (whole ≡ false → frame ≡ []) → (whole ≡ false → IsAtEnd new) → IsNextFrame most whole (prepend_known due old) (prepend_known (if whole then [] else frame) new) frame
next_found most true old new due frame r is none end = (is refl, taken old new due frame r.more r.items r.device)
next_found most false old new due frame r is none end = ((ended old new due r.more (sym (none refl) ∙ r.items) r.device (end refl), kept old new due frame r, at_end new frame (none refl) (end refl)), none refl)
