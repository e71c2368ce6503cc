-- What was put, and what is to come then.
use mathlib.Core.Logic.{∥∥₁_map}
use Rattle.std.proofs.Common.{◌≡◌, ◌≢◌, ◌-◌, ℕ, true, ◌<◌, ◌≤◌, ◌^◌, List, [], ◌++◌, length, refl, sym, ap, subst, ◌∙◌, arith, append_assoc, append-nil, Result, Ok, Err, MatchResult, OnOk, OnErr}
use Rattle.std.proofs.lemmas.Bool.{false≢true}
use Rattle.std.proofs.lemmas.List.{drop-append-le, length-append}
use Rattle.bser_format.specs.Pieces.{array_head, object_head, key_piece}
use Rattle.bser_source.specs.Memory.{bytes_in}
use Rattle.bser_source.specs.declared.memory.InMemory.{InMemory}
use Rattle.bser_ser.specs.Sent.{writer_of, pending_of, Adds}
use Rattle.bser_ser.specs.Stopped.{Tells}
use Rattle.bser_ser.specs.declared.message.TheConstants.{SHORTEST_HEADER}
use Rattle.bser_ser.specs.declared.serializer.Serializer.{Serializer}
use Rattle.bser_draft.specs.declared.containers.OpenContainers.{OpenContainers}
use Rattle.bser_deserializer.specs.declared.deserializer.TheConstants.{LEVELS}
use Rattle.bser_draft.specs.ToCome.{IsLeast, Comes, ComesOfAll}
use Rattle.bser_draft.specs.Steps.{outer_of, holding, less_value, Stays, TakesValue, TakesKey, Enters, Leaves}
use Rattle.bser_draft.specs.Begun.{Begun, put_in, body_of}
use Rattle.bser_draft.proofs.Coming.{value_comes, key_comes, array_comes, object_comes, nothing_comes, comes_inside, innermost_comes}

-- ---- bytes

-- what the writer took and what is pending grew by a piece
pub put_more : (a b : Serializer InMemory) (taken p : List ℕ) → bytes_in (writer_of b) ≡ bytes_in (writer_of a) ++ taken → pending_of a ++ p ≡ taken ++ pending_of b → put_in b ≡ put_in a ++ p
put_more a b taken p took grew =
    ap (λ x. x ++ pending_of b) took ∙ append_assoc (bytes_in (writer_of a)) taken (pending_of b)
    ∙ ap (λ x. bytes_in (writer_of a) ++ x) (sym grew) ∙ sym (append_assoc (bytes_in (writer_of a)) (pending_of a) p)

gap_stays : (old new p : List ℕ) → new ≡ old ++ p → SHORTEST_HEADER ≤ length old → SHORTEST_HEADER ≤ length new
gap_stays old new p is gap = omega (arith, gap, ap length is, length-append old p)

-- the piece that was put, and what comes then
moved : (old new p x y : List ℕ) → new ≡ old ++ p → SHORTEST_HEADER ≤ length old → body_of old ++ ((p ++ x) ++ y) ≡ body_of new ++ (x ++ y)
moved old new p x y is gap =
    ap (λ z. body_of old ++ z) (append_assoc p x y) ∙ sym (append_assoc (body_of old) p (x ++ y))
    ∙ ap (λ z. z ++ (x ++ y)) (sym (ap body_of is ∙ drop-append-le SHORTEST_HEADER old p gap))

-- ---- parts

value_put : (c d : OpenContainers) (old new p : List ℕ) → new ≡ old ++ p → IsLeast c.inner.levels p → c.inner.values ≢ 0 → TakesValue c d → Begun old c → Begun new d
value_put c d old new p is h due t b = record {
  gap = gap_stays old new p is b.gap;
  least = λ fine x y cx cy. subst (λ z. ∥ IsLeast LEVELS z ∥₁) (moved old new p x y is b.gap)
      (b.least (sym t.rough ∙ fine) (p ++ x) y (value_comes c.inner p x due h (subst (λ o. Comes o x) t.inner cx)) (subst (λ os. ComesOfAll os y) t.outer cy));
}

key_put : (c d : OpenContainers) (old new key : List ℕ) → new ≡ old ++ key_piece key → length key < 2 ^ 63 → c.inner.values ≡ 0 → c.inner.entries ≢ 0 → TakesKey c d → Begun old c → Begun new d
key_put c d old new key is short none due t b = record {
  gap = gap_stays old new (key_piece key) is b.gap;
  least = λ fine x y cx cy. subst (λ z. ∥ IsLeast LEVELS z ∥₁) (moved old new (key_piece key) x y is b.gap)
      (b.least (sym t.rough ∙ fine) (key_piece key ++ x) y (key_comes c.inner key x short none due (subst (λ o. Comes o x) t.inner cx)) (subst (λ os. ComesOfAll os y) t.outer cy));
}

-- the head of a container that was opened, with which what comes of it makes a value
head_put : (c d : OpenContainers) (values entries : ℕ) (old new head : List ℕ) → new ≡ old ++ head → ((x : List ℕ) → Comes (holding values entries (c.inner.levels - 1)) x → IsLeast c.inner.levels (head ++ x)) → Enters c d values entries → Begun old c → Begun new d
head_put c d values entries old new head is makes t b = record {
  gap = gap_stays old new head is b.gap;
  least = λ fine x y cx cy.
      let i = innermost_comes (outer_of c) (less_value c.inner) y (subst (λ os. ComesOfAll os y) t.outer cy) in
      let behind : ((head ++ x) ++ i.inner) ++ i.outer ≡ (head ++ x) ++ y = append_assoc (head ++ x) i.inner i.outer ∙ ap (λ z. (head ++ x) ++ z) (sym i.whole) in
      subst (λ z. ∥ IsLeast LEVELS z ∥₁) (ap (λ z. body_of old ++ z) behind ∙ moved old new head x y is b.gap)
      (b.least (sym t.rough ∙ fine) ((head ++ x) ++ i.inner) i.outer (value_comes c.inner (head ++ x) i.inner t.due (makes x (subst (λ o. Comes o x) t.inner cx)) i.of_inner) i.of_outer);
}

pub array_opened : (c d : OpenContainers) (count : ℕ) (old new : List ℕ) → new ≡ old ++ array_head count → count < 2 ^ 63 → Enters c d count 0 → Begun old c → Begun new d
array_opened c d count old new is short t b = head_put c d count 0 old new (array_head count) is (λ x h. array_comes c.inner.levels count x t.level short h) t b

pub object_opened : (c d : OpenContainers) (count : ℕ) (old new : List ℕ) → new ≡ old ++ object_head count → count < 2 ^ 63 → Enters c d 0 count → Begun old c → Begun new d
object_opened c d count old new is short t b = head_put c d 0 count old new (object_head count) is (λ x h. object_comes c.inner.levels count x t.level short h) t b

pub left : (c d : OpenContainers) (bytes : List ℕ) → Leaves c d → Begun bytes c → Begun bytes d
left c d bytes t b = record {
  gap = b.gap;
  least = λ fine x y cx cy.
      b.least (sym t.rough ∙ fine) [] (x ++ y) (nothing_comes c.inner t.no_values t.no_entries) (subst (λ os. ComesOfAll os (x ++ y)) (sym t.outer) (comes_inside (outer_of d) d.inner x y cx cy));
}

pub stayed : (c d : OpenContainers) (old new : List ℕ) → new ≡ old → Stays c d → Begun old c → Begun new d
stayed c d old new same t b = record {
  gap = subst (λ z. SHORTEST_HEADER ≤ length z) (sym same) b.gap;
  least = λ fine x y cx cy. subst (λ z. ∥ IsLeast LEVELS (body_of z ++ (x ++ y)) ∥₁) (sym same)
      (b.least (sym t.rough ∙ fine) x y (subst (λ o. Comes o x) t.inner cx) (subst (λ os. ComesOfAll os y) t.outer cy));
}

-- no message comes of it any more
rough : (d : OpenContainers) (new : List ℕ) → SHORTEST_HEADER ≤ length new → d.is_rough ≡ true → Begun new d
rough d new gap is = record { gap = gap; least = λ fine x y cx cy. absurd (false≢true (sym fine ∙ is)) }

-- ---- parts that may be refused

module _ {A E : Type 0} where
  -- a piece was put, or nothing
  abbrev pub Grows : Result A E → List ℕ → List ℕ → List ℕ → Type 0
  Grows r old new p = MatchResult r (λ _. new ≡ old ++ p) (λ _. new ≡ old)

  pub grown : (sink : Tells InMemory) → ((x y : InMemory) (zs : List ℕ) → sink.took x y zs → bytes_in y ≡ bytes_in x ++ zs) → (r : Result A E) (a b : Serializer InMemory) (p : List ℕ) → Adds sink a b p r → Grows r (put_in a) (put_in b) p
  grown sink took (Ok v) a b p h = put_more a b h.0.taken p (took (writer_of a) (writer_of b) h.0.taken h.0.took_it) h.0.grew
  grown sink took (Err e) a b p h = put_more a b h.0.taken [] (took (writer_of a) (writer_of b) h.0.taken h.0.took_it) h.0.grew ∙ append-nil (put_in a)

  pub value_tried : (r : Result A E) (c d : OpenContainers) (old new p : List ℕ) → Grows r old new p → MatchResult r (λ _. TakesValue c d) (λ _. Stays c d) → IsLeast c.inner.levels p → c.inner.values ≢ 0 → ∥ Begun old c ∥₁ → ∥ Begun new d ∥₁
  value_tried (Ok v) c d old new p is t h due b = ∥∥₁_map b (value_put c d old new p is h due t)
  value_tried (Err e) c d old new p is t h due b = ∥∥₁_map b (stayed c d old new is t)

  pub key_tried : (r : Result A E) (c d : OpenContainers) (old new key : List ℕ) → Grows r old new (key_piece key) → MatchResult r (λ _. TakesKey c d) (λ _. Stays c d) → length key < 2 ^ 63 → c.inner.values ≡ 0 → c.inner.entries ≢ 0 → ∥ Begun old c ∥₁ → ∥ Begun new d ∥₁
  key_tried (Ok v) c d old new key is t short none due b = ∥∥₁_map b (key_put c d old new key is short none due t)
  key_tried (Err e) c d old new key is t short none due b = ∥∥₁_map b (stayed c d old new is t)

  -- the head of a container, without which no message comes
  abbrev pub Settles : Result A E → OpenContainers → OpenContainers → Type 0
  Settles r d e = MatchResult r (λ _. Stays d e) (λ _. e.is_rough ≡ true)

  head_tried : (r : Result A E) (c d e : OpenContainers) (old new head : List ℕ) → Grows r old new head → (new ≡ old ++ head → Begun old c → Begun new d) → Settles r d e → ∥ Begun old c ∥₁ → ∥ Begun new e ∥₁
  head_tried (Ok v) c d e old new head is opened t b = ∥∥₁_map b (λ h. stayed d e new new refl t (opened is h))
  head_tried (Err f) c d e old new head is opened t b = ∥∥₁_map b (λ h. rough e new (subst (λ z. SHORTEST_HEADER ≤ length z) (sym is) h.gap) t)

  pub array_tried : (r : Result A E) (c d e : OpenContainers) (count : ℕ) (old new : List ℕ) → Grows r old new (array_head count) → count < 2 ^ 63 → Enters c d count 0 → Settles r d e → ∥ Begun old c ∥₁ → ∥ Begun new e ∥₁
  array_tried r c d e count old new is short t s b = head_tried r c d e old new (array_head count) is (λ put h. array_opened c d count old new put short t h) s b

  pub object_tried : (r : Result A E) (c d e : OpenContainers) (count : ℕ) (old new : List ℕ) → Grows r old new (object_head count) → count < 2 ^ 63 → Enters c d 0 count → Settles r d e → ∥ Begun old c ∥₁ → ∥ Begun new e ∥₁
  object_tried r c d e count old new is short t s b = head_tried r c d e old new (object_head count) is (λ put h. object_opened c d count old new put short t h) s b

  -- a container of another count
  pub roughly_tried : (r : Result A E) (c d e : OpenContainers) (old new head : List ℕ) → Grows r old new head → d.is_rough ≡ true → Settles r d e → ∥ Begun old c ∥₁ → ∥ Begun new e ∥₁
  roughly_tried (Ok v) c d e old new head is r t b = ∥∥₁_map b (λ h. rough e new (gap_stays old new head is h.gap) (t.rough ∙ r))
  roughly_tried (Err f) c d e old new head is r t b = ∥∥₁_map b (λ h. rough e new (subst (λ z. SHORTEST_HEADER ≤ length z) (sym is) h.gap) t)

  pub close_tried : (r : Result A E) (c d : OpenContainers) (bytes : List ℕ) → OnOk r (Leaves c d) → OnErr r (Stays c d) → ∥ Begun bytes c ∥₁ → ∥ Begun bytes d ∥₁
  close_tried (Ok v) c d bytes ok err b = ∥∥₁_map b (left c d bytes ok)
  close_tried (Err e) c d bytes ok err b = ∥∥₁_map b (stayed c d bytes bytes refl err)

pub kept : (c d : OpenContainers) (bytes : List ℕ) → Stays c d → ∥ Begun bytes c ∥₁ → ∥ Begun bytes d ∥₁
kept c d bytes t b = ∥∥₁_map b (stayed c d bytes bytes refl t)

pub roughened : (c d : OpenContainers) (bytes : List ℕ) → d.is_rough ≡ true → ∥ Begun bytes c ∥₁ → ∥ Begun bytes d ∥₁
roughened c d bytes is b = ∥∥₁_map b (λ h. rough d bytes h.gap is)
