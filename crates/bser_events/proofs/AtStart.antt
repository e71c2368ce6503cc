-- Counts, texts and keys are read off the start of bytes.
use Rattle.std.proofs.Common.{◌≡◌, ℕ, ◌≤◌, ◌-◌, Bool, true, false, List, ◌∷◌, ◌++◌, length, take, drop, length-take-le, refl, sym, ap, subst, ◌∙◌, inl, inr}
use Rattle.std.proofs.lemmas.List.{take-append-drop, take_rest}
use Rattle.bser_format.specs.Grammar.{SpellsCount}
use Rattle.bser_format.specs.declared.errors.Complaint.{Complaint}
use Rattle.bser_format.specs.declared.errors.Complaint.TheVariants.{NegativeLength}
use Rattle.bser_format.specs.Named as named
use Rattle.bser_format.specs.Named.{reads, and_then, front, utf8, text_of}
use Rattle.bser_bunser.specs.declared.prefix.Token.{Token}
use Rattle.bser_bunser.specs.declared.prefix.Token.TheVariants as tokens
use Rattle.bser_bunser.specs.Tokens.{SpellsToken, Headed, tag_of_string}
use Rattle.bser_bunser.proofs.Readers.{front_there, counted_there}
use Rattle.bser_events.specs.Takes.{CutsText, ReadsKey, counting}
use Rattle.bser_events.proofs.Texts.{utf8_reads, after_tag, IsStringTag}

-- a token is in front of these bytes, as their first n
abbrev pub Fronts : Token → ℕ → List ℕ → Type 0
Fronts t n held = (n ≤ length held) × SpellsToken t (take n held)

-- what follows the first n bytes
abbrev pub behind : ℕ → List ℕ → List ℕ
behind n held = take (length held - n) (drop n held)

pub counted : (c : Complaint) (n len : ℕ) (held : List ℕ) → (len ≤ length held) × SpellsCount n (take len held) → counting c held ≡ reads n (behind len held)
counted c n len held h =
    ap (counting c) (sym (take-append-drop len held)) ∙ counted_there c n (take len held) h.1 (drop len held) ∙ ap (reads n) (sym (take_rest held len))

pub front_cut : (n : ℕ) (b : List ℕ) → n ≤ length b → front n b ≡ reads (take n b) (behind n b)
front_cut n b within =
    ap (front n) (sym (take-append-drop n b)) ∙ front_there n (take n b) (length-take-le n b within) (drop n b) ∙ ap (reads (take n b)) (sym (take_rest b n))

string_tag : (b : Bool) → IsStringTag (tag_of_string b)
string_tag true = inr refl
string_tag false = inl refl

pub key_reads : (b : Bool) (t : Token) (n m : ℕ) (held s rest : List ℕ) → t ≡ tokens.Str b m → Fronts t n held → CutsText m (behind n held) s rest → ReadsKey held s rest
key_reads b t n m held s rest is h cut =
    let head : Headed (tag_of_string b) (SpellsCount m) (take n held) = subst (λ z. SpellsToken z (take n held)) is h.1 in
    let mid = behind n held in
    let whole : held ≡ tag_of_string b ∷ (head.rest ++ mid) =
    sym (take-append-drop n held) ∙ ap (λ l. l ++ drop n held) head.whole ∙ ap (λ l. tag_of_string b ∷ (head.rest ++ l)) (sym (take_rest held n)) in
    let read : named.string (head.rest ++ mid) ≡ reads s rest = ap (and_then front) (counted_there NegativeLength m head.rest head.body mid) ∙ cut.front in
    let once : and_then utf8 (named.string (head.rest ++ mid)) ≡ reads s rest = ap (and_then utf8) read ∙ utf8_reads s rest cut.utf8 in record {
      read = λ kind.
          ap (text_of kind) whole
          ∙ after_tag kind (tag_of_string b) (λ o. o ≡ reads s rest) (head.rest ++ mid) (string_tag b) once (ap (and_then utf8) once ∙ utf8_reads s rest cut.utf8);
      utf8 = cut.utf8;
    }
