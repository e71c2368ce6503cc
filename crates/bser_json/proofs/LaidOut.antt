-- Texts of tokens in a layout, of which some first bytes are written.
use Rattle.std.proofs.Common.{◌≡◌, ℕ, false, List, [], ◌∷◌, ◌++◌, fold, Option, Result, Ok, Err, OnOk, is_ok, if◌then◌else◌, refl, sym, ap, subst, ◌∙◌, append_assoc, append-nil}
use Rattle.std.proofs.lemmas.Grind.{flat_map-append}
use Rattle.std.specs.Io.KnownBytes.{Appends}
use Rattle.json.specs.Layout.{Last, nothing, after, depth_at, is_value, pretty, pretty_from, state_after, step}
use Rattle.json.specs.Print.{begins, ends, escape, escape_byte, print, print_from, quoted, separator, token_text}
use Rattle.json.specs.Token as tokens
use Rattle.json.proofs.Printed.Tokens.{pretty_from_push, print_from_push, step_push}
use Rattle.bser_source.specs.Sinks.{Appends-none, Appends-both}
use Rattle.bser_json.specs.Printed.{Prints, Puts, WritesKept, gap_in, laid_out, last_of}
use Rattle.bser_json.specs.Strings.{AddsPart, BeginsString, EndsString, PrintsPart, with_string}
use Rattle.bser_json.specs.declared.printing.Layout.{Layout}
use Rattle.bser_json.specs.declared.printing.Layout.TheVariants as layouts
use Rattle.bser_json.specs.declared.printing.Printing.{Printing}

-- ---- the text of one more token

pub ends_then : (s : Last × ℕ) (t : tokens.Token) → is_value (step s t).0 ≡ ends t
ends_then s tokens.begin_object = refl
ends_then s tokens.end_object = refl
ends_then s tokens.begin_array = refl
ends_then s tokens.end_array = refl
ends_then s (tokens.key k) = refl
ends_then s (tokens.string k) = refl
ends_then s (tokens.number k) = refl
ends_then s (tokens.boolean b) = refl
ends_then s tokens.null = refl
ends_then s tokens.bad = refl

-- a value is last where the last token ends one
ends_behind : (s : Last × ℕ) (ts : List tokens.Token) → is_value (fold step s ts).0 ≡ fold (λ _ u. ends u) (is_value s.0) ts
ends_behind s [] = refl
ends_behind s (t ∷ ts) = ends_behind (step s t) ts ∙ ap (λ b. fold (λ _ u. ends u) b ts) (ends_then s t)

pub printed_alone : (t : tokens.Token) → print (t ∷ []) ≡ token_text t
unfolding print_from
printed_alone t = append-nil (token_text t)

-- where bytes were appended or none
pub appended : {E : Type 0} (r : Result (Unit {0}) E) (old new bytes : List ℕ) → new ≡ (if is_ok r then old ++ bytes else old) → OnOk r (new ≡ old ++ bytes)
appended (Ok v) old new bytes h = h
appended (Err e) old new bytes h = tt

-- what stands before a token
abbrev pub before : Layout → Last × ℕ → tokens.Token → List ℕ
before layout s t = separator (is_value s.0) t ++ gap_in layout s.0 (begins t) (depth_at s.1 t)

laid_push : (layout : Layout) (ts : List tokens.Token) (t : tokens.Token) → laid_out layout (ts ++ t ∷ []) ≡ laid_out layout ts ++ (before layout (state_after ts) t ++ token_text t)
laid_push layouts.Line ts t =
    let sep = separator (is_value (state_after ts).0) t in
    print_from_push false ts t
    ∙ ap (λ b. print ts ++ (separator b t ++ token_text t)) (sym (ends_behind (nothing, 0) ts))
    ∙ ap (λ l. print ts ++ (l ++ token_text t)) (sym (append-nil sep))
laid_push layouts.Pretty ts t =
    pretty_from_push (nothing, 0) ts t ∙ ap (λ l. pretty ts ++ l) (sym (append_assoc (separator (is_value (state_after ts).0) t) _ (token_text t)))

nothing_laid : (layout : Layout) → laid_out layout [] ≡ []
unfolding print_from pretty_from
nothing_laid layouts.Line = refl
nothing_laid layouts.Pretty = refl

-- ---- what is put

-- what was put last, and how many brackets are open
abbrev pub state_of : {W : Type 0} → Printing W → Last × ℕ
state_of p = (last_of p.last, p.depth)

pub nothing_put : {W : Type 0} (contents : W → Option (List ℕ)) (p : Printing W) → p.text.items ≡ [] → state_of p ≡ (nothing, 0) → Prints contents (contents p.out) p.layout [] p
nothing_put contents p none state = record {
  written = [];
  same = refl;
  text = nothing_laid p.layout ∙ sym none;
  state = state;
  appended = Appends-none (contents p.out);
}

still_prints : {W : Type 0} (contents : W → Option (List ℕ)) (start : Option (List ℕ)) (layout : Layout) (ts : List tokens.Token) (p q : Printing W) → WritesKept contents p q → Prints contents start layout ts p → Prints contents start layout ts q
still_prints contents start layout ts p q m h = record {
  written = h.written ++ m.written;
  same = m.layout ∙ h.same;
  text = h.text ∙ ap (λ l. h.written ++ l) m.text ∙ sym (append_assoc h.written m.written q.text.items);
  state = (λ i. (last_of (m.last i), m.depth i)) ∙ h.state;
  appended = Appends-both start (contents p.out) (contents q.out) h.written m.written h.appended m.appended;
}

pub puts_still : {W E : Type 0} (contents : W → Option (List ℕ)) (r : Result (Unit {0}) E) (more : List tokens.Token) (x y z : Printing W) → Puts contents more x y → OnOk r (WritesKept contents y z) → OnOk r (Puts contents more x z)
puts_still contents (Ok v) more x y z put kept = λ start layout ts h. still_prints contents start layout (ts ++ more) y z kept (put start layout ts h)
puts_still contents (Err e) more x y z put kept = tt

pub token_put : {W : Type 0} (contents : W → Option (List ℕ)) (p q : Printing W) (t : tokens.Token) (spaced : List ℕ) → q.out ≡ p.out → q.layout ≡ p.layout → spaced ≡ p.text.items ++ before p.layout (state_of p) t → q.text.items ≡ spaced ++ token_text t → state_of q ≡ after t (depth_at p.depth t) → Puts contents (t ∷ []) p q
token_put contents p q t spaced out same gap_put text_put state start layout ts h =
    let written = h.written in
    let old = p.text.items in
    let piece = before layout (state_after ts) t ++ token_text t in
    let new : q.text.items ≡ old ++ piece =
    text_put ∙ ap (λ l. l ++ token_text t) (gap_put ∙ (λ i. old ++ before (h.same i) (h.state i) t)) ∙ append_assoc old (before layout (state_after ts) t) (token_text t) in
    record {
      written = written;
      same = same ∙ h.same;
      text = laid_push layout ts t ∙ ap (λ l. l ++ piece) h.text ∙ append_assoc written old piece ∙ ap (λ l. written ++ l) (sym new);
      state = state ∙ ap (λ s. step s t) h.state ∙ sym (step_push (nothing, 0) ts t);
      appended = subst (λ w. Appends start (contents w) written) (sym out) h.appended;
    }

-- ---- a string in parts

still_in_string : {W : Type 0} (contents : W → Option (List ℕ)) (start : Option (List ℕ)) (layout : Layout) (ts : List tokens.Token) (part : List ℕ) (p q : Printing W) → WritesKept contents p q → PrintsPart contents start layout ts part p → PrintsPart contents start layout ts part q
still_in_string contents start layout ts part p q m h = record {
  written = h.written ++ m.written;
  same = m.layout ∙ h.same;
  text = λ rest.
      let more = escape rest ++ 34 ∷ [] in
      h.text rest ∙ ap (λ l. h.written ++ (l ++ more)) m.text ∙ ap (λ l. h.written ++ l) (append_assoc m.written q.text.items more) ∙ sym (append_assoc h.written m.written (q.text.items ++ more));
  state = λ s. (λ i. (last_of (m.last i), m.depth i)) ∙ h.state s;
  appended = Appends-both start (contents p.out) (contents q.out) h.written m.written h.appended m.appended;
}

pub adds_still : {W E : Type 0} (contents : W → Option (List ℕ)) (r : Result (Unit {0}) E) (more : List ℕ) (x y z : Printing W) → AddsPart contents more x y → OnOk r (WritesKept contents y z) → OnOk r (AddsPart contents more x z)
adds_still contents (Ok v) more x y z put kept = λ start layout ts part h. still_in_string contents start layout ts (part ++ more) y z kept (put start layout ts part h)
adds_still contents (Err e) more x y z put kept = tt

pub string_begun : {W : Type 0} (contents : W → Option (List ℕ)) (p q : Printing W) (spaced : List ℕ) → q.out ≡ p.out → q.layout ≡ p.layout → spaced ≡ p.text.items ++ before p.layout (state_of p) (tokens.string []) → q.text.items ≡ spaced ++ 34 ∷ [] → state_of q ≡ after (tokens.string []) p.depth → BeginsString contents p q
string_begun contents p q spaced out same gap_put quote_put state start layout ts h =
    let written = h.written in
    let old = p.text.items in
    let space = before layout (state_after ts) (tokens.string []) in
    let begun : q.text.items ≡ old ++ (space ++ 34 ∷ []) =
    quote_put ∙ ap (λ l. l ++ 34 ∷ []) (gap_put ∙ (λ i. old ++ before (h.same i) (h.state i) (tokens.string []))) ∙ append_assoc old space (34 ∷ []) in
    record {
      written = written;
      same = same ∙ h.same;
      text = λ rest.
          let more = escape rest ++ 34 ∷ [] in
          let new : q.text.items ++ more ≡ old ++ (space ++ quoted rest) =
          ap (λ l. l ++ more) begun ∙ append_assoc old (space ++ 34 ∷ []) more ∙ ap (λ l. old ++ l) (append_assoc space (34 ∷ []) more) in
          laid_push layout ts (tokens.string rest) ∙ ap (λ l. l ++ (space ++ quoted rest)) h.text ∙ append_assoc written old (space ++ quoted rest) ∙ ap (λ l. written ++ l) (sym new);
      state = λ s. state ∙ ap (λ x. step x (tokens.string s)) h.state ∙ sym (step_push (nothing, 0) ts (tokens.string s));
      appended = subst (λ w. Appends start (contents w) written) (sym out) h.appended;
    }

pub part_put : {W : Type 0} (contents : W → Option (List ℕ)) (more : List ℕ) (p q : Printing W) → q.out ≡ p.out → q.layout ≡ p.layout → q.text.items ≡ p.text.items ++ escape more → state_of q ≡ state_of p → AddsPart contents more p q
part_put contents more p q out same put state start layout ts part h =
    let written = h.written in
    record {
      written = written;
      same = same ∙ h.same;
      text = λ rest.
          let end = escape rest ++ 34 ∷ [] in
          ap (λ s. laid_out layout (with_string ts s)) (append_assoc part more rest) ∙ h.text (more ++ rest)
          ∙ ap (λ l. written ++ (p.text.items ++ l)) (ap (λ l. l ++ 34 ∷ []) (flat_map-append escape_byte more rest) ∙ append_assoc (escape more) (escape rest) (34 ∷ []))
          ∙ ap (λ l. written ++ l) (sym (append_assoc p.text.items (escape more) end) ∙ ap (λ l. l ++ end) (sym put));
      state = λ s. state ∙ h.state s;
      appended = subst (λ w. Appends start (contents w) written) (sym out) h.appended;
    }

pub string_ended : {W : Type 0} (contents : W → Option (List ℕ)) (p q : Printing W) → q.out ≡ p.out → q.layout ≡ p.layout → q.text.items ≡ p.text.items ++ 34 ∷ [] → state_of q ≡ state_of p → EndsString contents p q
string_ended contents p q out same put state start layout ts part h =
    let written = h.written in
    record {
      written = written;
      same = same ∙ h.same;
      text = ap (λ s. laid_out layout (with_string ts s)) (sym (append-nil part)) ∙ h.text [] ∙ ap (λ l. written ++ l) (sym put);
      state = state ∙ h.state part;
      appended = subst (λ w. Appends start (contents w) written) (sym out) h.appended;
    }
