-- A draft of which all has come is a message.
use mathlib.Core.Logic.{∥∥₁_elim, ∥∥₁_map, ∥∥₁_prop}
use mathlib.Core.HLevel.{⊥_prop}
use mathlib.Core.List.{is_set as List-set}
use native.Mathlib.Nat.{ℕ_set}
use Rattle.std.proofs.Common.{◌≡◌, ℕ, ℤ, pos, false, ◌<◌, ◌-◌, ◌^◌, List, [], ◌++◌, length, refl, sym, ap, subst, ◌∙◌, arith, append-nil, length-drop, Option, Some, None}
use Rattle.std.proofs.Math.ListN.{drop_of_length-le}
use Rattle.std.specs.Coded.{×_prop, Unit-prop}
use Rattle.bser_format.specs.Tree.{Tree, null, boolean, integer, real, bytes, text, array, object, template, Items, no_items, item, Entries, no_entries, entry}
use Rattle.bser_format.specs.Canonical.{canonical_message}
use Rattle.bser_format.specs.Expand.{IsTemplateFree, ItemsAreTemplateFree, EntriesAreTemplateFree}
use Rattle.bser_format.specs.Message.{IsMessage}
use Rattle.bser_format.specs.Plain.{message}
use Rattle.bser_format.proofs.Back.{canon_message}
use Rattle.bser_format.proofs.Messages.{message_exact}
use Rattle.bser_format.proofs.Sound.{IsBytes}
use Rattle.bser_ser.specs.Message.{front_of}
use Rattle.bser_ser.specs.declared.message.TheConstants.{SHORTEST_HEADER}
use Rattle.bser_draft.specs.declared.containers.OpenContainers.{OpenContainers}
use Rattle.bser_deserializer.specs.declared.deserializer.TheConstants.{LEVELS}
use Rattle.bser_draft.specs.ToCome.{IsLeast, Comes, ComesOfAll}
use Rattle.bser_draft.specs.Steps.{IsNew, IsDone}
use Rattle.bser_draft.specs.Begun.{Begun, HasBody, body_of}
use Rattle.bser_draft.specs.Written.{IsLeastMessage}
use Rattle.bser_draft.proofs.Coming.{nothing_comes, first_comes}

-- ---- the beginning

pub begun_new : (c : OpenContainers) (put : List ℕ) → length put ≡ SHORTEST_HEADER → IsNew LEVELS c → ∥ Begun put c ∥₁
begun_new c put gap new = ∣ record {
  gap = omega (arith, gap);
  least = λ fine x y cx cy.
      let none : y ≡ [] = subst (λ os. ComesOfAll os y) new.outer cy in
      let body : body_of put ≡ [] = drop_of_length-le put {i = SHORTEST_HEADER} (omega (arith, gap)) in
      let whole : x ≡ body_of put ++ (x ++ y) = sym (append-nil x) ∙ ap (λ z. x ++ z) (sym none) ∙ ap (λ z. z ++ (x ++ y)) (sym body) in
      ∣ subst (IsLeast LEVELS) whole (first_comes LEVELS x (subst (λ o. Comes o x) new.inner cx)) ∣₁;
} ∣₁

-- ---- facts of which there is one proof at most

mutual
  free-prop : (t : Tree) → IsProp (IsTemplateFree t)
  free-prop null = Unit-prop
  free-prop (boolean v) = Unit-prop
  free-prop (integer v) = Unit-prop
  free-prop (real r) = Unit-prop
  free-prop (bytes s) = Unit-prop
  free-prop (text s) = Unit-prop
  free-prop (array ts) = items_free-prop ts
  free-prop (object es) = entries_free-prop es
  free-prop (template ks rs) = ⊥_prop

  items_free-prop : (ts : Items) → IsProp (ItemsAreTemplateFree ts)
  items_free-prop no_items = Unit-prop
  items_free-prop (item t ts) = ×_prop (free-prop t) (items_free-prop ts)

  entries_free-prop : (es : Entries) → IsProp (EntriesAreTemplateFree es)
  entries_free-prop no_entries = Unit-prop
  entries_free-prop (entry k t es) = ×_prop (free-prop t) (entries_free-prop es)

-- ---- the end

-- what a message without capabilities reads as
abbrev Reading : Type 0
Reading = (ℕ × Tree) × List ℕ

abbrev bare : Tree → Reading
bare t = ((0, t), [])

-- a least message, as it is read
record IsRead (b : List ℕ) : Type 0 where
  tree : Tree
  read : message LEVELS b ≡ Some (bare tree)
  plain : IsTemplateFree tree
  least : b ≡ canonical_message tree

-- the tree that was read is that of the message
of_reading : (b : List ℕ) → IsBytes b → (o : Option Reading) → message LEVELS b ≡ o → ∥ IsRead b ∥₁ → IsLeastMessage b
of_reading b all None e h = absurd (∥∥₁_elim h ⊥_prop (λ r. let other : message LEVELS b ≡ Some (bare r.tree) = r.read in cc))
of_reading b all (Some p) e h =
    let same : (r : IsRead b) → p ≡ bare r.tree = λ r. let both : message LEVELS b ≡ Some (bare r.tree) = r.read in cc in
    let none : p.0.0 ≡ 0 = ∥∥₁_elim h (ℕ_set p.0.0 0) (λ r. ap (λ (x : Reading). x.0.0) (same r)) in
    let nothing : p.1 ≡ [] = ∥∥₁_elim h (List-set ℕ_set p.1 []) (λ r. ap (λ (x : Reading). x.1) (same r)) in
    let m = (message_exact LEVELS p.0.0 b p.1 p.0.1 all).0 e in
    let whole : b ≡ m.0 = m.1 ∙ ap (λ x. m.0 ++ x) nothing ∙ append-nil m.0 in record {
      tree = p.0.1;
      message = subst (λ c. IsMessage LEVELS c p.0.1 b) none (subst (IsMessage LEVELS p.0.0 p.0.1) (sym whole) m.2);
      plain = ∥∥₁_elim h (free-prop p.0.1) (λ r. subst IsTemplateFree (sym (ap (λ (x : Reading). x.0.1) (same r))) r.plain);
      least = ∥∥₁_elim h (List-set ℕ_set b (canonical_message p.0.1)) (λ r. r.least ∙ ap canonical_message (sym (ap (λ (x : Reading). x.0.1) (same r))));
    }

-- a header before a least body
read_back : (b body : List ℕ) → IsBytes b → length b < 2 ^ 63 → HasBody b body → IsLeast LEVELS body → IsRead b
read_back b body all short is h =
    let whole : b ≡ canonical_message h.tree = is ∙ ap (λ xs. front_of (pos (length xs)) ++ xs) h.least in
    let m : IsMessage LEVELS 0 h.tree b = subst (IsMessage LEVELS 0 h.tree) (sym whole) (canon_message LEVELS h.tree h.writable h.deep (subst (λ z. length z < 2 ^ 63) whole short)) in record {
      tree = h.tree;
      read = (message_exact LEVELS 0 b [] h.tree all).1 (b, sym (append-nil b), m);
      plain = h.plain;
      least = whole;
    }

-- a header before what was put
pub with_header : (put b : List ℕ) (len : ℤ) → len ≡ pos (length put - SHORTEST_HEADER) → b ≡ front_of len ++ body_of put → HasBody b (body_of put)
with_header put b len is whole = whole ∙ ap (λ k. front_of k ++ body_of put) (is ∙ ap pos (sym (length-drop SHORTEST_HEADER put)))

pub finished : (c : OpenContainers) (put b : List ℕ) → c.is_rough ≡ false → IsDone c → HasBody b (body_of put) → IsBytes b → length b < 2 ^ 63 → ∥ Begun put c ∥₁ → IsLeastMessage b
finished c put b fine done front all short h =
    let body : List ℕ = body_of put in
    let least : ∥ IsLeast LEVELS body ∥₁ = ∥∥₁_elim h ∥∥₁_prop (λ g. subst (λ z. ∥ IsLeast LEVELS z ∥₁) (append-nil body) (g.least fine [] [] (nothing_comes c.inner done.no_values done.no_entries) (subst (λ os. ComesOfAll os []) (sym done.outer) refl))) in
    of_reading b all (message LEVELS b) refl (∥∥₁_map least (read_back b body all short front))
