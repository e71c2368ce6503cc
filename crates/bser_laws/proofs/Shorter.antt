-- What is written of a message that reads as a value.
use Rattle.std.proofs.Common.{◌≡◌, ℕ, ◌≤◌, List, ◌++◌, length, Option, Some, None, Result, Ok, Err, refl, sym, ap, subst, ◌∙◌, inr}
use Rattle.std.specs.Prelude.{option_map, IfOk, IfErr}
use Rattle.bser_format.specs.Tree.{Tree}
use Rattle.bser_format.specs.Canonical.{canonical_message}
use Rattle.bser_format.specs.Compact.{compact_message}
use Rattle.bser_format.specs.declared.errors.Error.{Error}
use Rattle.bser_format.specs.Expand.{expand, IsTemplateFree}
use Rattle.bser_format.specs.Content.{Content, value}
use Rattle.bser_format.specs.Normal.{normal}
use Rattle.bser_format.specs.ReadsAny.{reads_value}
use Rattle.bser_format.proofs.Bounds.{least_message, value_nodes, value_depth, value_body, value_fits}
use Rattle.bser_format.proofs.LeastCompact.{least_compact}
use Rattle.bser_ser.proofs.Messages.{same_message}
use Rattle.bser_ser.specs.Message.{message_of, IsUnmeasured}
use Rattle.bser_value.specs.declared.value.Value.{Value}
use Rattle.serde_bser.specs.Reading.{Asking, Needs}
use Rattle.serde_bser.specs.ValueView.{tree_of, HoldsValue}
use Rattle.serde_bser.specs.Messages.{BeginsWith}
use Rattle.bser_laws.specs.Bounds.{IsBoundedByBody}
use Rattle.bser_laws.specs.Least.{IsAny, IsLeast, IsNotRewritten, Rewritten}

-- what a value's tree reads as, without the content's wrapping
pub read_as : (u t : Tree) (c : Content) → reads_value u ≡ Some c → c ≡ value t → normal u ≡ Some t
read_as u t c read is = go (normal u) (read ∙ ap Some is)
  where
    said : Option Content → Tree
    said (Some (value x)) = x
    said _ = t

    go : (o : Option Tree) → option_map value o ≡ Some (value t) → o ≡ Some t
    go None e = absurd cc
    go (Some x) e = ap Some (ap (λ c. said c) e)

-- ---- what is written is least

pub message_is : {A : Type 0} (items : A → List ℕ) (t : Tree) (r : Result A Error) → IfOk r (λ m. message_of (Ok t) ≡ Ok (items m)) → IfOk r (λ m. items m ≡ canonical_message t)
message_is items t (Err e) h = tt
message_is items t (Ok m) h = sym (same_message t (items m) h)

pub least_written : {A : Type 0} (items : A → List ℕ) (t : Tree) (r : Result A Error) → IfOk r (λ m. message_of (Ok t) ≡ Ok (items m)) → IfOk r (λ m. IsLeast IsTemplateFree t (items m))
least_written items t (Err e) h = tt
least_written items t (Ok m) h = λ n c u b message free read. subst (λ l. length l ≤ length b) (same_message t (items m) h) (least_message n c u t b message free read)

pub least_folded : {A : Type 0} (items : A → List ℕ) (t : Tree) (r : Result A Error) → IfOk r (λ m. items m ≡ compact_message t) → IfOk r (λ m. IsLeast IsAny t (items m))
least_folded items t (Err e) h = tt
least_folded items t (Ok m) h = λ n c u b message any read. subst (λ l. length l ≤ length b) (sym h) (least_compact n c u t b message read)

-- ---- what is written of what was read

pub rewritten : {A : Type 0} (items : A → List ℕ) (message_of : Tree → List ℕ) (P : Tree → Type 0) (bytes : List ℕ) (v : Value) (r : Result A Error) → BeginsWith 128 reads_value HoldsValue bytes v
    → IfOk r (λ m. items m ≡ message_of (tree_of v)) → IfOk r (λ m. IsLeast P (tree_of v) (items m)) → IfOk r (λ m. Rewritten message_of P bytes (items m))
rewritten items message_of P bytes v (Err e) found is least = tt
rewritten items message_of P bytes v (Ok written) found is least =
    let m = found.message in
    let read = read_as (expand m.tree) (tree_of v) found.content m.read found.held.same in
    record {
      text = found.text;
      rest = found.rest;
      front = found.front;
      capabilities = m.capabilities;
      tree = m.tree;
      message = m.message;
      value = tree_of v;
      read = read;
      is = is;
      short = λ p. least 128 m.capabilities m.tree found.text m.message p read;
    }

pub not_rewritten : {A : Type 0} (form : Tree → Tree) (asks : Option (Asking reads_value)) (needs : Needs) (bytes : List ℕ) (v : Value) (r : Result A Error) → BeginsWith 128 reads_value HoldsValue bytes v
    → IfErr r (IsUnmeasured (Ok (form (tree_of v)))) → IfErr r (IsNotRewritten form reads_value asks needs bytes)
not_rewritten form asks needs bytes v (Ok m) found h = tt
not_rewritten form asks needs bytes v (Err e) found h = inr (v, found, h)

-- ---- bounds

pub bounded : {A : Type 0} (tree : A → Tree) (holds : A → Content → Type 0) (bytes : List ℕ) (r : Result A Error) → ((v : A) (c : Content) → holds v c → c ≡ value (tree v)) → IfOk r (BeginsWith 128 reads_value holds bytes) → IfOk r (λ v. IsBoundedByBody bytes (tree v))
bounded tree holds bytes (Err e) told found = tt
bounded tree holds bytes (Ok v) told found =
    let m = found.message in
    let read = read_as (expand m.tree) (tree v) found.content m.read (told v found.content found.held) in
    let body = m.message.body in
    let spelled = m.message.value in
    record {
      text = found.text;
      rest = found.rest;
      front = found.front;
      capabilities = m.capabilities;
      tree = m.tree;
      message = m.message;
      read = read;
      nodes = value_nodes 128 m.tree (tree v) body spelled read;
      depth = value_depth 128 m.tree (tree v) body spelled read;
      body = value_body 128 m.tree (tree v) body spelled read;
      fits = value_fits 128 m.tree (tree v) body spelled read;
    }
