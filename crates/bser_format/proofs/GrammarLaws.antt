-- One integer, one message, more levels.
use Rattle.std.proofs.Common.{◌≡◌, ℕ, zero, suc, ◌+◌, ◌-◌, ◌≤◌, ℤ, List, [], ◌∷◌, ◌++◌, Option, Some, None, sym, ap, subst, ◌∙◌, arith}
use Rattle.std.proofs.lemmas.List.{append_cancel_right}
use Rattle.bser_format.specs.Tree.{Tree, null, boolean, integer, real, bytes, text, array, object, template, items, entries, rows}
use Rattle.bser_format.specs.Grammar.{Format, Each, SpellsInteger, SpellsString, SpellsEntry, SpellsField, Spells, ◌then◌}
use Rattle.bser_format.specs.Named.{int, any, message}
use Rattle.bser_format.specs.Message.{IsMessage}
use Rattle.bser_format.proofs.Fronts.{int_reads}
use Rattle.bser_format.proofs.Sifting.{same_answer}
use Rattle.bser_format.proofs.Messages.{tree_reads}

pub one_int : (b c x y : List ℕ) (v w : ℤ) → SpellsInteger v b → SpellsInteger w c → b ++ x ≡ c ++ y → (b ≡ c) × (v ≡ w)
one_int b c x y v w p q e =
    let same = same_answer v w x y (sym (int_reads v b x p) ∙ ap int e ∙ int_reads w c y q) in
    (append_cancel_right b c y (subst (λ r. b ++ r ≡ c ++ y) same.1 e), same.0)

-- ---- levels

pub then_more : (F F' G G' : Format) → ((b : List ℕ) → F b → F' b) → ((b : List ℕ) → G b → G' b) → (b : List ℕ) → (F then G) b → (F' then G') b
then_more F F' G G' f g b h = record { front = h.front; rest = h.rest; whole = h.whole; first = f h.front h.first; second = g h.rest h.second }

pub after : (F G G' : Format) → ((b : List ℕ) → G b → G' b) → (b : List ℕ) → (F then G) b → (F then G') b
after F G G' g = then_more F F G G' (λ c f. f) g

each_more : {X : Type 0} (F G : X → Format) → ((x : X) (b : List ℕ) → F x b → G x b) → (xs : List X) (b : List ℕ) → Each F xs b → Each G xs b
each_more F G more [] b h = h
each_more F G more (x ∷ xs) b h = then_more (F x) (G x) (Each F xs) (Each G xs) (more x) (each_more F G more xs) b h

entry_more : (F G : Tree → Format) → ((t : Tree) (b : List ℕ) → F t b → G t b) → (e : List ℕ × Tree) (b : List ℕ) → SpellsEntry F e b → SpellsEntry G e b
entry_more F G more e = after (SpellsString e.0) (F e.1) (G e.1) (more e.1)

field_more : (F G : Tree → Format) → ((t : Tree) (b : List ℕ) → F t b → G t b) → (f : Option Tree) (b : List ℕ) → SpellsField F f b → SpellsField G f b
field_more F G more None b h = h
field_more F G more (Some t) b h = more t b h

pub one_more : (n : ℕ) (t : Tree) (b : List ℕ) → Spells n t b → Spells (suc n) t b
one_more n null b h = h
one_more zero (array ts) b h = absurd h
one_more (suc n) (array ts) b h = after _ _ _ (after _ _ _ (each_more (Spells n) (Spells (suc n)) (one_more n) (items ts))) b h
one_more zero (object es) b h = absurd h
one_more (suc n) (object es) b h = after _ _ _ (after _ _ _ (each_more (SpellsEntry (Spells n)) (SpellsEntry (Spells (suc n))) (entry_more _ _ (one_more n)) (entries es))) b h
one_more zero (template ks rs) b h = absurd h
one_more (suc zero) (template ks rs) b h = absurd h
one_more (suc (suc n)) (template ks rs) b h =
    (h.0, after _ _ _ (after _ _ _ (after _ _ _ (after _ _ _ (after _ _ _ (each_more _ _ (each_more _ _ (field_more (Spells (suc n)) (Spells (suc (suc n))) (one_more (suc n)))) (rows rs)))))) b h.1)
one_more n other b h = h

more_by : (k n m : ℕ) (t : Tree) (b : List ℕ) → n + k ≡ m → Spells n t b → Spells m t b
more_by zero n m t b e h = let same : n ≡ m = omega arith in subst (λ j. Spells j t b) same h
more_by (suc k) n m t b e h = more_by k (suc n) m t b (omega arith) (one_more n t b h)

pub more_levels : (n m : ℕ) (b : List ℕ) (t : Tree) → n ≤ m → Spells n t b → Spells m t b
more_levels n m b t l h = more_by (m - n) n m t b (omega arith) h

-- ---- messages

pub one_message : (n c d : ℕ) (a b x y : List ℕ) (t u : Tree) → IsMessage n c t a → IsMessage n d u b → a ++ x ≡ b ++ y → (a ≡ b) × (c ≡ d) × (t ≡ u)
one_message n c d a b x y t u p q e =
    let same = same_answer (c, t) (d, u) x y (sym (tree_reads n c t a x p) ∙ ap (message (any n)) e ∙ tree_reads n d u b y q) in
    (append_cancel_right a b y (subst (λ r. a ++ r ≡ b ++ y) same.1 e), ap (λ v. v.0) same.0, ap (λ v. v.1) same.0)
