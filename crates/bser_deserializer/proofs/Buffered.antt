-- What is expected is read after a byte of it was buffered.
use Rattle.std.proofs.Common.{◌≡◌, ◌≤◌, ◌⊎◌, ℕ, zero, suc, List, [], ◌∷◌, length, subst, ap, inl, inr}
use Rattle.std.specs.Prelude.{Some}
use Rattle.bser_format.specs.Content.{Content, Meaning}
use Rattle.bser_format.specs.Named as named
use Rattle.bser_format.specs.Named.{refuses, front, eof, with_text_keys}
use Rattle.bser_format.specs.Expected.{Fills, FillsNode, node_due}
use Rattle.bser_format.specs.Tree.{Tree}
use Rattle.bser_format.specs.declared.errors.Error.{Error}
use Rattle.bser_source.specs.Window.{Window}
use Rattle.bser_source.proofs.Windows.{took_grown}
use Rattle.bser_bunser.specs.Names.{Names}
use Rattle.bser_events.proofs.Begins.{nothing_refused}
use Rattle.bser_deserializer.specs.Buffered.{Buffers, BuffersValue}
use Rattle.bser_deserializer.specs.Calls.{Reads}
use Rattle.bser_deserializer.specs.Reading.{Answers, Asking, Needs, NamesBy, Refuses, FillsReadably, owned}
use Rattle.bser_deserializer.specs.Seen.{Seen}
use Rattle.bser_deserializer.specs.State.{State, with_source}
use Rattle.bser_deserializer.proofs.Openings.{refused_grown}
use Rattle.bser_deserializer.proofs.Refusals.{narrower, names_any, names_by_grown, names_by_more}
use Rattle.bser_deserializer.proofs.Told.{spelled_some}

-- a value has a byte
value_some : (n : ℕ) (t : Tree) (b : List ℕ) → FillsNode n t b → 1 ≤ length b
value_some n t b h = spelled_some n h.tree b h.spelled

pub reads_buffered : {A : Type 0} (reads : Meaning) (holds : A → Content → Type 0) (a b c : Seen) (v : A) → Buffers a b → Reads reads holds b c v → Reads reads holds a c v
reads_buffered reads holds a b c v (inl same) h = subst (λ s. Answers reads holds s c.state v) same h
reads_buffered reads holds a b c v (inr f) h =
    let m : Window = b.state.source in
    let k : Answers reads holds (with_source a.state m) c.state v = subst (λ s. Answers reads holds s c.state v) f.state h in record {
      tree = k.tree;
      content = k.content;
      text = k.text;
      filled = k.filled;
      read = k.read;
      held = k.held;
      took = took_grown a.state.source m c.state.source 1 k.text f.filled.grown (value_some a.state.levels k.tree k.text (subst (λ d. Fills a.state.levels d k.tree k.text) f.due k.filled)) k.took;
      state = k.state;
    }

pub refuses_buffered : (reads : Meaning) (asking : Asking reads) (needs : Needs) (e : Error) (a b : Seen) (c : State) → Buffers a b → Refuses reads (Some asking) needs e b.state c
    → Refuses reads (Some asking) needs e a.state c
refuses_buffered reads asking needs e a b c (inl same) h = subst (λ s. Refuses reads (Some asking) needs e s c) same h
refuses_buffered reads asking needs e a b c (inr f) h =
    let m : Window = b.state.source in
    let s : State = a.state in
    let r = asking.asks s.opened s.levels s.due in
    let k : Refuses reads (Some asking) needs e (with_source s m) c = subst (λ s. Refuses reads (Some asking) needs e s c) f.state h in
    refused_grown needs (FillsReadably reads s) (NamesBy needs r e m) (NamesBy needs r e s.source) e 1 s.source m c.source f.filled.grown
    (names_by_grown needs r r e 1 s.source m f.filled.grown (λ f x more whole p. p))
    (narrower needs (FillsReadably reads (with_source s m)) (FillsReadably reads s) (NamesBy needs r e m) (NamesBy needs r e m) e m c.source
    (λ text w. record { tree = w.tree; content = w.content; filled = w.filled; read = w.read }) (λ n. n) k)

-- ---- where no byte is left

none_read : (n : ℕ) (x : List ℕ) (e : Error) → front 1 x ≡ refuses e → with_text_keys n x ≡ refuses e
unfolding named.value
none_read zero [] e h = (let same : eof ≡ e = cc in ap refuses same)
none_read (suc n) [] e h = (let same : eof ≡ e = cc in ap refuses same)
none_read n (c ∷ y) e h = absurd (nothing_refused c y e h)

pub value_missing : (n : ℕ) (e : Error) (a : Window) → Names (front 1) e a → NamesBy owned (with_text_keys n) e a
value_missing n e a h = names_by_more owned (with_text_keys n) (front 1) e a (λ f x p. none_read n x f p) (names_any owned (front 1) e a h)
