-- Messages of texts, one behind the other.
use Rattle.std.proofs.Common.{◌≡◌, inr, ℕ, List, [], ◌∷◌, ◌++◌, Bool, true, false, ◌==◌, length, Option, Some, None, arith, refl, sym, ap, subst, ◌∙◌, append_assoc, append-nil}
use Rattle.std.specs.Io.KnownBytes.{Appends, Keeps}
use Rattle.bser_source.specs.Sinks.{Appends-none, Appends-both}
use Rattle.bser_format.specs.Canonical.{canonical_message}
use Rattle.bser_format.specs.Compact.{compact_message}
use Rattle.bser_format.specs.Tree.{Tree}
use Rattle.json.specs.Lex.{tokens}
use Rattle.bser_from_json.specs.Bodies.{MakesMessage}
use Rattle.bser_from_json.specs.Errors.{IsErrorOf}
use Rattle.bser_from_json.specs.declared.fault.JsonError.{JsonError}
use Rattle.bser_from_json.specs.Made as outcomes
use Rattle.bser_from_json.specs.Written.{AreMessagesOf, BreaksOff, IsMessageOf, IsWithin, LacksMessage, LeavesText, LeavesTexts, WritesText, WritesTexts, written_tree}
use Rattle.bser_from_json.specs.declared.fault.JsonError.TheVariants as errors
use Rattle.bser_from_json.specs.declared.fault.Place.{Place}
use Rattle.bser_from_json.specs.declared.texts.TextError.{TextError}
use Rattle.bser_from_json.specs.declared.texts.TextError.TheVariants as failures
use Rattle.bser_from_json.specs.declared.texts.Writing.{Writing}

pub no_texts : (w : Writing) (old : Option (List ℕ)) → WritesTexts w old old
no_texts w old = ([], [], refl, Appends-none old)

are_more : (w : Writing) (texts : List (List ℕ)) (bytes text message : List ℕ) → AreMessagesOf w texts bytes → IsMessageOf w text message → AreMessagesOf w (texts ++ text ∷ []) (bytes ++ message)
are_more w [] bytes text message none is = (message, [], is, refl, ap (λ b. b ++ message) none ∙ sym (append-nil message))
are_more w (t ∷ ts) bytes text message h is = (h.0, h.1 ++ message, h.2, are_more w ts h.1 text message h.3 is, ap (λ b. b ++ message) h.4 ∙ append_assoc h.0 h.1 message)

-- the message of one more text is written
pub one_more : (w : Writing) (text : List ℕ) (a b c : Option (List ℕ)) → WritesTexts w a b → WritesText w text b c → WritesTexts w a c
one_more w text a b c ts t = (ts.0 ++ text ∷ [], ts.1 ++ t.0, are_more w ts.0 ts.1 text t.0 ts.2 t.1, Appends-both a b c ts.1 t.0 ts.3 t.2)

-- nothing is
pub no_more : (w : Writing) (a b c : Option (List ℕ)) → WritesTexts w a b → Appends b c [] → WritesTexts w a c
no_more w a b c ts none = (ts.0, ts.1, ts.2, subst (Appends a c) (append-nil ts.1) (Appends-both a b c ts.1 [] ts.3 none))

pub nothing_appended : (b c : Option (List ℕ)) → Keeps b c → Appends b c []
nothing_appended None c h = tt
nothing_appended (Some xs) None h = absurd h
nothing_appended (Some xs) (Some ys) h = h ∙ sym (append-nil xs)

-- the error of the next text
pub left_by : (w : Writing) (text : List ℕ) (start : Place) (a b c : Option (List ℕ)) (e shown : TextError) → WritesTexts w a b → LeavesText w text b c e → IsWithin e start shown → LeavesTexts w a c shown
left_by w text start a b c (failures.Json (errors.Text f q)) shown ts l is = subst (LeavesTexts w a c) (sym is) (no_more w a b c ts l.1, (text, start, q, l.0, refl))
left_by w text start a b c (failures.Json errors.OutOfMemory) shown ts l is = subst (LeavesTexts w a c) (sym is) (no_more w a b c ts l)
left_by w text start a b c (failures.Message e) shown ts l is = subst (LeavesTexts w a c) (sym is) (b, ts, inr (text, l.0, l.1, l.2))
left_by w text start a b c (failures.Input e) shown ts l is = absurd l

-- ---- the message of one

pub compact_is : (w : Writing) (text bytes : List ℕ) (t : Tree) → w.is_compact ≡ true → text ≡ bytes → outcomes.made w.strings (tokens text) ≡ outcomes.makes t → IsMessageOf w bytes (compact_message t)
compact_is w text bytes t is same makes = (t, ap (λ s. outcomes.made w.strings (tokens s)) (sym same) ∙ makes, ap (λ b. canonical_message (written_tree b t)) (sym is))

pub plain_is : (w : Writing) (text bytes message : List ℕ) → w.is_compact ≡ false → text ≡ bytes → MakesMessage (outcomes.made w.strings (tokens text)) message → IsMessageOf w bytes message
plain_is w text bytes message is same h = (h.tree, ap (λ s. outcomes.made w.strings (tokens s)) (sym same) ∙ h.made, h.message ∙ ap (λ b. canonical_message (written_tree b h.tree)) (sym is))

pub lacks_by_json : (w : Writing) (text : List ℕ) (e : JsonError) → IsErrorOf text text 0 (outcomes.made w.strings (tokens text)) e → LacksMessage w text (failures.Json e)
lacks_by_json w text (errors.Text f p) h = h
lacks_by_json w text errors.OutOfMemory h = tt

-- nothing is written of a text that has no message
pub left_unwritten : (w : Writing) (text bytes : List ℕ) (old : Option (List ℕ)) (e : TextError) → text ≡ bytes → LacksMessage w text e → LeavesText w bytes old old e
left_unwritten w text bytes old e same h = subst (λ s. LeavesText w s old old e) same (by e h)
  where
    by : (e : TextError) → LacksMessage w text e → LeavesText w text old old e
    by (failures.Json (errors.Text f p)) h = (inr h, Appends-none old)
    by (failures.Json errors.OutOfMemory) h = Appends-none old
    by (failures.Message e) h = (h.0, h.1, ([], h.0, refl, Appends-none old))
    by (failures.Input e) h = absurd h

-- ---- bytes that are written one after the other

-- the bytes before the rest were appended
abbrev pub WrittenTo : List ℕ → List ℕ → Option (List ℕ) → Option (List ℕ) → Type 0
WrittenTo bytes rest old new = (front : List ℕ) × (bytes ≡ front ++ rest) × Appends old new front

pub none_written : (bytes : List ℕ) (old : Option (List ℕ)) → WrittenTo bytes bytes old old
none_written bytes old = ([], refl, Appends-none old)

pub more_written : (bytes rest taken behind : List ℕ) (a b c : Option (List ℕ)) → WrittenTo bytes rest a b → rest ≡ taken ++ behind → Appends b c taken → WrittenTo bytes behind a c
more_written bytes rest taken behind a b c h cut more = (h.0 ++ taken, h.1 ∙ ap (λ r. h.0 ++ r) cut ∙ sym (append_assoc h.0 taken behind), Appends-both a b c h.0 taken h.2 more)

pub breaks_there : (bytes rest : List ℕ) (a b c : Option (List ℕ)) → WrittenTo bytes rest a b → Appends b c [] → BreaksOff bytes a c
breaks_there bytes rest a b c h none = (h.0, rest, h.1, subst (Appends a c) (append-nil h.0) (Appends-both a b c h.0 [] h.2 none))

pub all_written : (bytes rest : List ℕ) (a b : Option (List ℕ)) (empty : Bool) → WrittenTo bytes rest a b → empty ≡ (length rest == 0) → empty ≡ true → Appends a b bytes
all_written bytes [] a b empty h is told = subst (Appends a b) (sym (h.1 ∙ append-nil h.0)) h.2
all_written bytes (x ∷ xs) a b empty h is told = absurd (grind (arith, sym is ∙ told))
