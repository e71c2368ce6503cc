-- The message of a text's value, and the value that it is read as.
use Rattle.std.proofs.Common.{◌≡◌, ℕ, pos, max, ◌<◌, ◌≤◌, ◌^◌, List, [], ◌++◌, length, drop, Some, option_map, sym, ap, subst, ◌∙◌, arith, append-nil}
use Rattle.std.proofs.lemmas.List.{drop_at}
use Rattle.std.proofs.lemmas.Option.{same_Some}
use Rattle.bser_format.specs.Content.{Content, value}
use Rattle.bser_format.specs.Expand.{expand}
use Rattle.bser_format.specs.Measures.{depth}
use Rattle.bser_format.specs.Message.{IsMessage}
use Rattle.bser_format.specs.ReadsAny.{reads_value}
use Rattle.bser_format.specs.Tree.{Tree, null}
use Rattle.bser_format.specs.Canonical.{canonical_body, canonical_message}
use Rattle.bser_format.proofs.Fits.{value_message, value_reads_as_itself}
use Rattle.bser_format.proofs.GrammarLaws.{more_levels, one_message}
use Rattle.bser_messages.specs.Messages.{BeginsWith}
use Rattle.bser_ser.specs.Message.{front_of}
use Rattle.bser_value.specs.ValueView.{HoldsValue, tree_of}
use Rattle.bser_value.specs.declared.value.Value.{Value}
use Rattle.bser_from_json.specs.Bodies.{Follows, MakesMessage}
use Rattle.bser_from_json.specs.Made.{Outcome, makes}

-- a header in the place of the gap before the body
pub message_made : (o : Outcome) (gap all message : List ℕ) (t : Tree) → length gap ≡ 8 → Follows gap all t → o ≡ makes t → message ≡ front_of (pos (length (drop 8 all))) ++ drop 8 all → MakesMessage o message
message_made o gap all message t size put made whole =
    let rest : drop 8 all ≡ canonical_body t = ap (drop 8) put.body ∙ drop_at gap (canonical_body t) 8 size in
    record { tree = t; made = made; message = whole ∙ ap (λ b. front_of (pos (length b)) ++ b) rest; value = put.value }

-- a message, where more levels may be
deeper : (n m c : ℕ) (t : Tree) (b : List ℕ) → n ≤ m → IsMessage n c t b → IsMessage m c t b
deeper n m c t b le h = record { body = h.body; capabilities = h.capabilities; whole = h.whole; value = more_levels n m h.body t le h.value; short = h.short }

said : Content → Tree
said (value t) = t
said _ = null

-- the message is read as the value of the tree that is made
pub message_read : (o : Outcome) (bytes : List ℕ) (v : Value) → MakesMessage o bytes → length bytes < 2 ^ 63 → BeginsWith 128 reads_value HoldsValue bytes v → o ≡ makes (tree_of v)
unfolding said
message_read o bytes v m short h =
    let t = m.tree in
    let r = h.message in
    let n : ℕ = max 128 (depth t) in
    let ours : IsMessage n 0 t (canonical_message t) = value_message n t m.value (omega arith) (subst (λ xs. length xs < 2 ^ 63) m.message short) in
    let theirs : IsMessage n r.capabilities r.tree h.text = deeper 128 n r.capabilities r.tree h.text (omega arith) r.message in
    let front : canonical_message t ++ [] ≡ h.text ++ h.rest = append-nil (canonical_message t) ∙ sym m.message ∙ h.front in
    let same = one_message n 0 r.capabilities (canonical_message t) h.text [] h.rest t r.tree ours theirs front in
    let read : Some (value t) ≡ Some (value (tree_of v)) =
    ap (option_map value) (sym (value_reads_as_itself t m.value)) ∙ ap (λ w. reads_value (expand w)) same.2 ∙ r.read ∙ ap Some h.held.same in
    m.made ∙ ap makes (ap said (same_Some (value t) (value (tree_of v)) read))
