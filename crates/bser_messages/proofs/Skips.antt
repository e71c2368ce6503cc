-- What passing over the rest of a message took, and why it failed.
use Rattle.std.proofs.Common.{◌≡◌, ℕ, ◌+◌, ◌^◌, ◌<◌, ◌≤◌, ◌⊎◌, List, [], Option, Some, length, sym, ap, subst, ◌∙◌}
use Rattle.std.specs.Io.KnownBytes.{Consumes}
use Rattle.bser_source.specs.Window.{Window, Took, with_limit}
use Rattle.bser_bunser.specs.Tagged.{TookSome}
use Rattle.bser_messages.proofs.Readers.{reader_gave}

pub took_rest : (n : ℕ) (rest : Option ℕ) (old new : Option (List ℕ)) (before after : ℕ) (a t : Window) → rest ≡ Some n → a.buffered ≡ [] → a.limit ≡ 0 → a.beyond ≡ old → t.beyond ≡ new → a.failures ≡ before → t.failures ≡ after
    → TookSome n a t → (m : ℕ) × (text : List ℕ) × (rest ≡ Some m) × (length text ≡ m) × Consumes old new text × (after ≡ before)
took_rest n rest old new before after a t known empty unlimited p q r s h =
    let same : t ≡ with_limit a.limit t = ap (λ l. with_limit l t) h.took.limit in
    let took : Took a (with_limit a.limit t) h.text = subst (λ w. Took a w h.text) same h.took in
    (n, h.text, known, h.len, rw (sym p, sym q) (reader_gave a t h.text empty unlimited took), sym s ∙ h.took.failures ∙ r)
