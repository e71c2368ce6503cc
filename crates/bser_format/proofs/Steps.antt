-- Reading in steps: what the whole would answer is what is still to be read answers now.
use Rattle.std.proofs.Common.{◌≡◌, ℕ, suc, List, ◌++◌, ap, ◌∙◌, append_assoc}
use Rattle.bser_format.specs.Named.{reads, Reader, and_then, ◌>>=◌}
use Rattle.bser_format.specs.Grammar.{Format, ◌then◌}
use Rattle.bser_format.specs.Asks.{all}

-- after these bytes were taken, `now` is left of `whole`
abbrev pub Continues : {X : Type 0} → Reader X → Reader X → List ℕ → Type 0
Continues whole now taken = (x : List ℕ) → whole (taken ++ x) ≡ now x

-- r reads v off this text, whatever follows
abbrev pub Passes : {X : Type 0} → Reader X → X → List ℕ → Type 0
Passes r v text = (x : List ℕ) → r (text ++ x) ≡ reads v x

-- one step after the others
pub goes_on : {X : Type 0} (r s t : Reader X) (a b : List ℕ) → Continues r s a → Continues s t b → Continues r t (a ++ b)
goes_on r s t a b first second x = ap r (append_assoc a b x) ∙ first (b ++ x) ∙ second x

-- the first part was read
pub first_read : {X Y : Type 0} (r : Reader X) (k : X → Reader Y) (v : X) (text : List ℕ) → Passes r v text → Continues (r >>= k) (k v) text
first_read r k v text is x = ap (and_then k) (is x)

-- one of so many parts was read
pub part_read : (r : Reader Unit) (k : ℕ) (text : List ℕ) → Passes r tt text → Continues (all r (suc k)) (all r k) text
part_read r k text is = first_read r (λ u. all r k) tt text is

-- r reads v off a front of these bytes, and leaves a rest of the form G
pub record Leaves {X : Type 0} (r : Reader X) (v : X) (G : Format) (b : List ℕ) : Type 0 where
  pub rest : List ℕ
  pub form : G rest
  pub taken : (x : List ℕ) → r (b ++ x) ≡ reads v (rest ++ x)

-- a front of the form F is taken
pub front_leaves : {X : Type 0} (r : Reader X) (v : X) (F G : Format) (b : List ℕ) → ((c : List ℕ) → F c → Passes r v c) → (F then G) b → Leaves r v G b
front_leaves r v F G b first h = record {
  rest = h.rest;
  form = h.second;
  taken = λ x. ap (λ l. r (l ++ x)) h.whole ∙ ap r (append_assoc h.front h.rest x) ∙ first h.front h.first (h.rest ++ x);
}

-- nothing is taken
pub stays : {X : Type 0} (r : Reader X) (v : X) (G : Format) (b : List ℕ) → G b → ((x : List ℕ) → r (b ++ x) ≡ reads v (b ++ x)) → Leaves r v G b
stays r v G b h is = record { rest = b; form = h; taken = is }

-- one reader after the other
pub bind_leaves : {X Y : Type 0} (r : Reader X) (k : X → Reader Y) (v : X) (w : Y) (G H : Format) (b : List ℕ) → Leaves r v G b → ((c : List ℕ) → G c → Leaves (k v) w H c) → Leaves (r >>= k) w H b
bind_leaves r k v w G H b first second =
    let more = second first.rest first.form in
    record { rest = more.rest; form = more.form; taken = λ x. ap (and_then k) (first.taken x) ∙ more.taken x }

-- all is read
pub passes_then : {X Y : Type 0} (r : Reader X) (k : X → Reader Y) (v : X) (w : Y) (F G : Format) (b : List ℕ) → ((c : List ℕ) → F c → Passes r v c) → ((c : List ℕ) → G c → Passes (k v) w c) → (F then G) b → Passes (r >>= k) w b
passes_then r k v w F G b first second h x = let l = front_leaves r v F G b first h in ap (and_then k) (l.taken x) ∙ second l.rest l.form x
