-- A message that was read, as the tree of its value; and an error of writing, which is one of the whole.
use Rattle.std.proofs.Common.{◌≡◌, ℕ, List, Option, Result, Ok, Err, OnOk, IfErr, refl, ap, subst, ◌∙◌, inr}
use Rattle.std.proofs.lemmas.Result.{IfErr-weaker}
use Rattle.bser_format.specs.Content.{Content, value}
use Rattle.bser_format.specs.Tree.{Tree}
use Rattle.bser_format.specs.ReadsAny.{reads_value}
use Rattle.bser_format.specs.ValueTree.{IsValueTree}
use Rattle.bser_format.specs.declared.errors.Error.{Error}
use Rattle.bser_ser.specs.Message.{Missed, Wrote}
use Rattle.bser_ser.specs.Stopped.{Tells}
use Rattle.bser_messages.specs.Messages.{TookMessage}
use Rattle.bser_value.specs.ValueView.{tree_of, HoldsValue}
use Rattle.bser_value.specs.declared.value.Value.{Value}
use Rattle.bser_document.specs.declared.document.Document.{Document}
use Rattle.bser_document.specs.DocumentView.{HoldsDocument, value_of}
use Rattle.bser_document.proofs.Whole.{document_value}
use Rattle.bser_canonical.specs.Canon.{Gives, IsReadAs, RefusesRewriting, Rewrote, canonical}

pub value_read : (v : Value) (c : Content) → HoldsValue v c → IsReadAs (tree_of v) c
value_read v c h = record { same = h.same; values = h.tree }

pub read_value : (v : Value) (c : Content) → IsReadAs (tree_of v) c → HoldsValue v c
read_value v c h = record { same = h.same; tree = h.values }

pub document_read : (d : Document) (c : Content) → HoldsDocument d c → IsReadAs (value_of d) c
document_read d c h =
    let bare : HoldsDocument d (value h.read) = record { tree = h.tree; read = h.read; normal = h.normal; values = h.values; rows = h.rows; views = h.views; same = refl } in
    let same : h.read ≡ value_of d = document_value d h.read bare in
    record { same = h.same ∙ ap value same; values = subst IsValueTree same h.values }

-- what was taken as a value of a type was taken as the tree of that value
took_as : {A : Type 0} (n : ℕ) (holds : A → Content → Type 0) (tree : A → Tree) (old new : Option (List ℕ)) (v : A) → ((c : Content) → holds v c → IsReadAs (tree v) c) → TookMessage n reads_value holds old new v → TookMessage n reads_value IsReadAs old new (tree v)
took_as n holds tree old new v is h = record { text = h.text; bytes = h.bytes; content = h.content; message = h.message; held = is h.content h.held }

pub took_value : (old new : Option (List ℕ)) (v : Value) → TookMessage 128 reads_value HoldsValue old new v → TookMessage 128 reads_value IsReadAs old new (tree_of v)
took_value old new v h = took_as 128 HoldsValue tree_of old new v (value_read v) h

pub took_document : (old new : Option (List ℕ)) (d : Document) → TookMessage 128 reads_value HoldsDocument old new d → TookMessage 128 reads_value IsReadAs old new (value_of d)
took_document old new d h = took_as 128 HoldsDocument value_of old new d (document_read d) h

on_ok : {A E P Q : Type 0} (r : Result A E) → (P → Q) → OnOk r P → OnOk r Q
on_ok (Ok x) f h = f h
on_ok (Err e) f h = h

-- a document was read, and its message written
pub document_rewritten : {R W A : Type 0} (source : Gives R) (sink : Tells W) (old new : R) (before after : W) (d : Document) (r : Result A Error) → TookMessage 128 reads_value HoldsDocument (source.remaining old) (source.remaining new) d → source.failures new ≡ source.failures old → OnOk r (Wrote sink (Ok (value_of d)) before after) → OnOk r (Rewrote canonical source sink old new before after)
document_rewritten source sink old new before after d r read kept h =
    on_ok r (λ w. record { tree = value_of d; read = took_document (source.remaining old) (source.remaining new) d read; kept = kept; written = w.0; short = w.1 }) h

pub writing_refused : {R W A : Type 0} (form : Tree → Tree) (source : Gives R) (sink : Tells W) (old new : R) (before after : W) (u : Tree) (r : Result A Error) → TookMessage 128 reads_value IsReadAs (source.remaining old) (source.remaining new) u → source.failures new ≡ source.failures old → IfErr r (Missed sink (Ok (form u)) before after) → IfErr r (RefusesRewriting form source sink old new before after)
writing_refused form source sink old new before after u r read kept h =
    IfErr-weaker r _ _ (λ e missed. inr (record { tree = u; read = read; kept = kept; missed = missed })) h
