-- A look at what is buffered, which may buffer more bytes and then looks again.
use Rattle.std.proofs.Common.{◌≡◌, ℕ, ◌+◌, ◌-◌, ◌≤◌, ◌<◌, Bool, true, false, List, [], ◌++◌, length, take, drop, length-append, nat_lt, refl, sym, ap, subst, ◌∙◌, arith}
use Rattle.std.proofs.lemmas.List.{take-append-drop, take-take, length-take}
use Rattle.std.proofs.lemmas.Bool.{ltb-true, ltb-false}
use Rattle.std.proofs.Math.Seq.{take-append-add}
use Rattle.bser_format.specs.declared.errors.Error.{Error}
use Rattle.bser_format.specs.Named.{Reader, Answer, reads, refuses, eof}
use Rattle.bser_format.proofs.Steps.{Passes}
use Rattle.bser_source.specs.Window.{Window, Grown, AreOctets, Filled, Took, consumed}
use Rattle.bser_source.proofs.Windows.{grown_none, grown_then, taken_after, works}
use Rattle.bser_bunser.specs.Refusal.{ShortOf}
use Rattle.bser_bunser.specs.Names.{Names}
use Rattle.bser_bunser.specs.Tokens.{TooShort}
use Rattle.bser_bunser.proofs.Names.{short_blames, blames_before}

-- as many bytes came to be buffered as what r reads has at least
pub record Looking {X : Type 0} (r : Reader X) (a b : Window) : Type 0 where
  pub need : ℕ
  pub grown : Grown need a b
  pub had : need ≤ length b.buffered
  -- one fewer ended too early
  pub least : 0 < need → r (take (need - 1) b.buffered) ≡ refuses eof

pub look : {X : Type 0} (r : Reader X) (a : Window) → Looking r a a
look r a =
    record { need = 0; grown = grown_none a; had = omega arith; least = λ some. absurd (omega (arith, some)) }

-- the first bytes of a list that begins so
begun : (held more : List ℕ) (n : ℕ) → length held ≤ n
    → take n (held ++ more) ≡ held ++ take (n - length held) more
begun held more n le =
    let parts : n ≡ length held + (n - length held) = omega (arith, le) in
    ap (λ k. take k (held ++ more)) parts ∙ take-append-add held more (n - length held)

pub look_again : {X : Type 0} (r : Reader X) (n : ℕ) (a b c : Window) → Looking r a b
    → TooShort r b.buffered n → Filled n b c → Looking r a c
look_again r n a b c is short filled = record {
  need = n;
  grown = grown_then is.need n a b c (omega (arith, is.had, short.some)) is.grown filled.grown;
  had = filled.enough;
  least = λ some.
      let more = take (n - 1 - length b.buffered) filled.grown.more in
      let front : take (n - 1) c.buffered ≡ b.buffered ++ more = ap (take (n - 1)) filled.grown.buffered ∙ begun b.buffered filled.grown.more (n - 1) (omega (arith, short.some)) in
      let fewer : length (b.buffered ++ more) < n = omega (arith, some, short.some, length-append b.buffered more, length-take (n - 1 - length b.buffered) filled.grown.more) in
      ap r front ∙ short.cut more fewer;
}

pub look_works : {X : Type 0} (r : Reader X) (a b : Window) → Looking r a b
    → (b.failed ≡ true → b.buffered ≡ []) → 0 < length b.buffered → a.failed ≡ false
look_works r a b is closes some =
    sym is.grown.failed ∙ works b.failed b.buffered (length b.buffered) closes some (omega arith)

-- what is read has as many bytes
least_len : {X : Type 0} (r : Reader X) (v : X) (held : List ℕ) (need len : ℕ)
    → (0 < need → r (take (need - 1) held) ≡ refuses eof) → Passes r v (take len held) → need ≤ len
least_len {X = X} r v held need len least passes = go (nat_lt len need) refl
  where
    both : (o : Answer X) (y : List ℕ) → o ≡ reads v y → o ≡ refuses eof → ⊥
    both o y p q = absurd cc

    go : (c : Bool) → nat_lt len need ≡ c → need ≤ len
    go false e = ltb-false len need e
    go true e =
        let less : len < need = ltb-true len need e in
        let short = take (need - 1) held in
        let parts : take len held ++ drop len short ≡ short = ap (λ l. l ++ drop len short) (sym (take-take len (need - 1) held (omega (arith, less)))) ∙ take-append-drop len short in
        absurd (both (r short) (drop len short) (ap r (sym parts) ∙ passes (drop len short)) (least (omega (arith, less))))

pub look_took : {X : Type 0} (r : Reader X) (v : X) (len : ℕ) (a b : Window) → Looking r a b
    → AreOctets (take len b.buffered) → (b.failed ≡ true → b.buffered ≡ []) → 0 < len → len ≤ length b.buffered
    → Passes r v (take len b.buffered)
    → Took a (consumed len b) (take len b.buffered)
look_took r v len a b is small closes some le passes =
    taken_after is.need len a b is.grown small (least_len r v b.buffered is.need len is.least passes) le (look_works r a b is closes (omega (arith, some, le)))

pub look_names : {X : Type 0} (r : Reader X) (n : ℕ) (e : Error) (a b c : Window) → Looking r a b
    → TooShort r b.buffered n → ShortOf n e b c → Names r e a
look_names r n e a b c is short refused =
    blames_before _ is.need e a b is.grown
    (short_blames _ n e b c refused (λ x m fewer. ap r m.whole ∙ short.cut m.more (subst (λ l. length l < n) m.whole fewer)))
