-- What is left of the containers that are open: what is read of them, and where that leads.
use Rattle.std.proofs.Common.{◌≡◌, ℕ, zero, suc, List, [], ◌∷◌, ◌++◌, length, append_assoc, append-nil, refl, sym, ap, subst, ◌∙◌, inl, inr}
use Rattle.bser_format.specs.Tree.{Tree, null, items_of, rows_of}
use Rattle.bser_format.specs.declared.errors.Kind.TheVariants.{MapKey}
use Rattle.bser_format.specs.Named.{Answer, reads, refuses, Reader, give, and_then, ◌>>=◌, many, entry_of, field_of, text_of, with_text_keys}
use Rattle.std.specs.Prelude.{Option, Some, None}
use Rattle.bser_events.specs.Events.{Event, key, close, events, part_events, item_events, row_events}
use Rattle.bser_events.specs.Frames.{Left, parts_of, Fits, left_events, Takes, IsDone}
use Rattle.bser_events.specs.declared.frame.Frame.{Frame}
use Rattle.bser_events.specs.declared.frame.Remaining.{Remaining}
use Rattle.bser_events.specs.declared.frame.Remaining.TheVariants.{Items, Entries, Rows}
use Rattle.bser_events.specs.declared.frame.Part.{Part}
use Rattle.bser_events.specs.declared.frame.Part.TheVariants.{Item, Entry, Field}

-- ---- readers one after the other

pub map_then : {X Y Z : Type 0} (o : Answer X) (f : X → Y) (k : Y → Reader Z) → and_then k (and_then (λ x. give (f x)) o) ≡ and_then (λ x. k (f x)) o
map_then (reads x b) f k = refl
map_then (refuses e) f k = refl

-- a part, and then the others
pub two_steps : {W X Y Z : Type 0} (o : Answer X) (q : Reader Y) (c : X → Y → W) (k : W → Reader Z)
    → and_then k (and_then (λ x. q >>= λ y. give (c x y)) o) ≡ and_then (λ x. q >>= λ y. k (c x y)) o
two_steps (reads x b) q c k = map_then (q b) (λ y. c x y) k
two_steps (refuses e) q c k = refl

then_assoc : {X Y Z : Type 0} (o : Answer X) (j : X → Reader Y) (k : Y → Reader Z) → and_then k (and_then j o) ≡ and_then (λ x. j x >>= k) o
then_assoc (reads x b) j k = refl
then_assoc (refuses e) j k = refl

-- ---- what is left

-- a container that stands in another is closed after its last part
abbrev pub closes : List Frame → List Event
closes [] = []
closes (f ∷ fs) = close ∷ []

-- what is still read of these containers, the innermost first, is what `now` reads, and its events go on from those told
abbrev pub Leads : {Y : Type 0} → (Y → List Event) → List Frame → Reader Y → List Event → Type 0
Leads {Y = Y} ev [] now es = (v : Y) × ((x : List ℕ) → now x ≡ reads v x) × (ev v ≡ es)
Leads {Y = Y} ev (f ∷ fs) now es =
    (k : Left f.parts → Reader Y) × ((x : List ℕ) → now x ≡ (parts_of f.levels f.parts >>= k) x)
    × ((l : Left f.parts) → Fits f.parts l → Leads ev fs (k l) (es ++ (left_events f.parts l ++ closes fs)))

-- `now` reads first as r does, and after that it leads on
abbrev pub Awaits : {X Y : Type 0} → Reader X → (X → List Event) → (Reader Y → List Event → Type 0) → Reader Y → List Event → Type 0
Awaits {X = X} {Y = Y} r told Next now es =
    (k : X → Reader Y) × ((x : List ℕ) → now x ≡ (r >>= k) x) × ((v : X) → Next (k v) (es ++ told v))

-- a value is due, or a field
abbrev pub AwaitsPart : {Y : Type 0} → Part → ℕ → (Reader Y → List Event → Type 0) → Reader Y → List Event → Type 0
AwaitsPart Field n Next now es = Awaits (field_of (with_text_keys n)) part_events Next now es
AwaitsPart _ n Next now es = Awaits (with_text_keys n) events Next now es

-- the same, after a key where an entry is due
abbrev pub AwaitsDue : {Y : Type 0} → Part → ℕ → (Reader Y → List Event → Type 0) → Reader Y → List Event → Type 0
AwaitsDue Entry n Next now es = Awaits (text_of MapKey) (λ s. key s ∷ []) (Awaits (with_text_keys n) events Next) now es
AwaitsDue due n Next now es = AwaitsPart due n Next now es

-- a container of these parts
abbrev pub frame_of : ℕ → Remaining → Frame
frame_of n p = record { levels = n; parts = p }

regroup : (a b c d : List Event) → a ++ ((b ++ c) ++ d) ≡ (a ++ b) ++ (c ++ d)
regroup a b c d = ap (λ l. a ++ l) (append_assoc b c d) ∙ sym (append_assoc a b (c ++ d))

item_due : {Y : Type 0} (ev : Y → List Event) (n k : ℕ) (fs : List Frame) (now : Reader Y) (es : List Event)
    → Leads ev (frame_of n (Items (suc k)) ∷ fs) now es → Awaits (with_text_keys n) events (Leads ev (frame_of n (Items k) ∷ fs)) now es
item_due ev n k fs now es (k0, same, rest) = (
  λ t. many (with_text_keys n) k >>= λ ts. k0 (t ∷ ts),
  λ x. same x ∙ two_steps (with_text_keys n x) (many (with_text_keys n) k) (λ t ts. t ∷ ts) k0,
  λ t. (
    λ ts. k0 (t ∷ ts),
    λ x. refl,
    λ ts fits. subst (Leads ev fs (k0 (t ∷ ts))) (regroup es (events t) (left_events (Items k) ts) (closes fs)) (rest (t ∷ ts) (ap suc fits)),
  ),
)

entry_due : {Y : Type 0} (ev : Y → List Event) (n k : ℕ) (fs : List Frame) (now : Reader Y) (es : List Event)
    → Leads ev (frame_of n (Entries (suc k)) ∷ fs) now es
    → Awaits (text_of MapKey) (λ s. key s ∷ []) (Awaits (with_text_keys n) events (Leads ev (frame_of n (Entries k) ∷ fs))) now es
entry_due ev n k fs now es (k0, same, rest) = (
  λ s. with_text_keys n >>= λ t. many (entry_of (text_of MapKey) (with_text_keys n)) k >>= λ m. k0 ((s, t) ∷ m),
  λ x. same x ∙ two_steps (entry_of (text_of MapKey) (with_text_keys n) x) (many (entry_of (text_of MapKey) (with_text_keys n)) k) (λ e m. e ∷ m) k0
      ∙ two_steps (text_of MapKey x) (with_text_keys n) (λ s t. (s, t)) (λ e. many (entry_of (text_of MapKey) (with_text_keys n)) k >>= λ m. k0 (e ∷ m)),
  λ s. (
    λ t. many (entry_of (text_of MapKey) (with_text_keys n)) k >>= λ m. k0 ((s, t) ∷ m),
    λ x. refl,
    λ t. (
      λ m. k0 ((s, t) ∷ m),
      λ x. refl,
      λ m fits. subst (Leads ev fs (k0 ((s, t) ∷ m)))
          (regroup es (key s ∷ events t) (left_events (Entries k) m) (closes fs) ∙ ap (λ l. l ++ (left_events (Entries k) m ++ closes fs)) (sym (append_assoc es (key s ∷ []) (events t))))
          (rest ((s, t) ∷ m) (ap suc fits)),
    ),
  ),
)

-- the rows after the one in work
abbrev after_row : ℕ → ℕ → ℕ → List (Option Tree) → Reader (List (Option Tree) × List (List (Option Tree)))
after_row n r w fs = many (many (field_of (with_text_keys n)) w) r >>= λ rs. give (fs, rs)

part_first : (v : Option Tree) (fs : List (Option Tree)) (r w f : ℕ) (rs : List (List (Option Tree)))
    → left_events (Rows (suc f) r w) (v ∷ fs, rs) ≡ part_events v ++ left_events (Rows f r w) (fs, rs)
part_first None fs r w f rs = refl
part_first (Some t) fs r w f rs = append_assoc (events t) _ (row_events (rows_of rs))

row_begun : {Y : Type 0} (n r w : ℕ) (o : Answer (List (Option Tree))) (v : Option Tree) (k0 : List (Option Tree) × List (List (Option Tree)) → Reader Y)
    → and_then (λ fs. after_row n r w (v ∷ fs) >>= k0) o ≡ and_then (λ l. k0 (v ∷ l.0, l.1)) (and_then (after_row n r w) o)
row_begun n r w (reads fs b) v k0 =
    map_then (many (many (field_of (with_text_keys n)) w) r b) (λ rs. (v ∷ fs, rs)) k0
    ∙ sym (map_then (many (many (field_of (with_text_keys n)) w) r b) (λ rs. (fs, rs)) (λ l. k0 (v ∷ l.0, l.1)))
row_begun n r w (refuses e) v k0 = refl

field_due : {Y : Type 0} (ev : Y → List Event) (n f r w : ℕ) (fs : List Frame) (now : Reader Y) (es : List Event)
    → Leads ev (frame_of n (Rows (suc f) r w) ∷ fs) now es
    → Awaits (field_of (with_text_keys n)) part_events (Leads ev (frame_of n (Rows f r w) ∷ fs)) now es
field_due ev n f r w fs now es (k0, same, rest) = (
  λ v. many (field_of (with_text_keys n)) f >>= λ vs. after_row n r w (v ∷ vs) >>= k0,
  λ x. same x ∙ then_assoc (many (field_of (with_text_keys n)) (suc f) x) (after_row n r w) k0
      ∙ two_steps (field_of (with_text_keys n) x) (many (field_of (with_text_keys n)) f) (λ v vs. v ∷ vs) (λ vs. after_row n r w vs >>= k0),
  λ v. (
    λ l. k0 (v ∷ l.0, l.1),
    λ x. row_begun n r w (many (field_of (with_text_keys n)) f x) v k0,
    λ l fits. subst (Leads ev fs (k0 (v ∷ l.0, l.1)))
        (ap (λ m. es ++ (m ++ closes fs)) (part_first v l.0 r w f l.1) ∙ regroup es (part_events v) (left_events (Rows f r w) l) (closes fs))
        (rest (v ∷ l.0, l.1) (ap suc fits.0, fits.1)),
  ),
)

row_due : {Y : Type 0} (ev : Y → List Event) (n r w : ℕ) (fs : List Frame) (now : Reader Y) (es : List Event)
    → Leads ev (frame_of n (Rows 0 (suc r) w) ∷ fs) now es → Leads ev (frame_of n (Rows w r w) ∷ fs) now es
row_due ev n r w fs now es (k0, same, rest) =
    let row = many (field_of (with_text_keys n)) w in (
      λ l. k0 ([], l.0 ∷ l.1),
      λ x. same x ∙ map_then (many row (suc r) x) (λ rs. ([], rs)) k0
          ∙ two_steps (row x) (many row r) (λ v rs. v ∷ rs) (λ rs. k0 ([], rs))
          ∙ sym (two_steps (row x) (many row r) (λ v rs. (v, rs)) (λ l. k0 ([], l.0 ∷ l.1))),
      λ l fits. rest ([], l.0 ∷ l.1) (refl, ap suc fits.1),
    )

-- the next part is due
pub leads_due : {Y : Type 0} (ev : Y → List Event) (due : Part) (n : ℕ) (p q : Remaining) (fs : List Frame) (now : Reader Y) (es : List Event)
    → Takes due p q → Leads ev (frame_of n p ∷ fs) now es → AwaitsDue due n (Leads ev (frame_of n q ∷ fs)) now es
leads_due ev Item n p q fs now es (k, old, new) h =
    subst (λ z. Awaits (with_text_keys n) events (Leads ev (frame_of n z ∷ fs)) now es) (sym new)
    (item_due ev n k fs now es (subst (λ z. Leads ev (frame_of n z ∷ fs) now es) old h))
leads_due ev Entry n p q fs now es (k, old, new) h =
    subst (λ z. Awaits (text_of MapKey) (λ s. key s ∷ []) (Awaits (with_text_keys n) events (Leads ev (frame_of n z ∷ fs))) now es) (sym new)
    (entry_due ev n k fs now es (subst (λ z. Leads ev (frame_of n z ∷ fs) now es) old h))
leads_due ev Field n p q fs now es (f, r, w, new, inl old) h =
    subst (λ z. Awaits (field_of (with_text_keys n)) part_events (Leads ev (frame_of n z ∷ fs)) now es) (sym new)
    (field_due ev n f r w fs now es (subst (λ z. Leads ev (frame_of n z ∷ fs) now es) old h))
leads_due ev Field n p q fs now es (f, r, w, new, inr (wide, old)) h =
    subst (λ z. Awaits (field_of (with_text_keys n)) part_events (Leads ev (frame_of n z ∷ fs)) now es) (sym new)
    (field_due ev n f r w fs now es (subst (λ z. Leads ev (frame_of n (Rows z r w) ∷ fs) now es) wide
    (row_due ev n r w fs now es (subst (λ z. Leads ev (frame_of n z ∷ fs) now es) old h))))

-- ---- no part is left

no_rows : (n r : ℕ) → (rs : List (List (Option Tree))) × (length rs ≡ r) × ((x : List ℕ) → many (many (field_of (with_text_keys n)) 0) r x ≡ reads rs x) × (row_events (rows_of rs) ≡ [])
no_rows n zero = ([], refl, (λ x. refl), refl)
no_rows n (suc r) =
    let h = no_rows n r in
    ([] ∷ h.0, ap suc h.1, (λ x. ap (and_then (λ rs. give ([] ∷ rs))) (h.2 x)), h.3)

-- nothing is read then
pub done_reads : (n : ℕ) (p : Remaining) → IsDone p → (l : Left p) × Fits p l × ((x : List ℕ) → parts_of n p x ≡ reads l x) × (left_events p l ≡ [])
done_reads n (Items k) none = subst (λ z. (l : Left (Items z)) × Fits (Items z) l × ((x : List ℕ) → parts_of n (Items z) x ≡ reads l x) × (left_events (Items z) l ≡ [])) (sym none) ([], refl, (λ x. refl), refl)
done_reads n (Entries k) none = subst (λ z. (l : Left (Entries z)) × Fits (Entries z) l × ((x : List ℕ) → parts_of n (Entries z) x ≡ reads l x) × (left_events (Entries z) l ≡ [])) (sym none) ([], refl, (λ x. refl), refl)
done_reads n (Rows f r w) (none, inl last) =
    subst (λ z. (l : Left (Rows z r w)) × Fits (Rows z r w) l × ((x : List ℕ) → parts_of n (Rows z r w) x ≡ reads l x) × (left_events (Rows z r w) l ≡ [])) (sym none)
    (subst (λ z. (l : Left (Rows 0 z w)) × Fits (Rows 0 z w) l × ((x : List ℕ) → parts_of n (Rows 0 z w) x ≡ reads l x) × (left_events (Rows 0 z w) l ≡ [])) (sym last)
    (([], []), (refl, refl), (λ x. refl), refl))
done_reads n (Rows f r w) (none, inr narrow) =
    let h = no_rows n r in
    subst (λ z. (l : Left (Rows z r w)) × Fits (Rows z r w) l × ((x : List ℕ) → parts_of n (Rows z r w) x ≡ reads l x) × (left_events (Rows z r w) l ≡ [])) (sym none)
    (subst (λ z. (l : Left (Rows 0 r z)) × Fits (Rows 0 r z) l × ((x : List ℕ) → parts_of n (Rows 0 r z) x ≡ reads l x) × (left_events (Rows 0 r z) l ≡ [])) (sym narrow)
    (([], h.0), (refl, h.1), (λ x. ap (and_then (λ rs. give ([], rs))) (h.2 x)), h.3))

-- the innermost container is done, and the one around it goes on
pub leads_closed : {Y : Type 0} (ev : Y → List Event) (f g : Frame) (fs : List Frame) (now : Reader Y) (es : List Event) → IsDone f.parts
    → Leads ev (f ∷ g ∷ fs) now es → (next : Reader Y) × ((x : List ℕ) → now x ≡ next x) × Leads ev (g ∷ fs) next (es ++ close ∷ [])
leads_closed ev f g fs now es done (k, same, rest) =
    let d = done_reads f.levels f.parts done in
    (k d.0, (λ x. same x ∙ ap (and_then k) (d.2 x)), subst (λ z. Leads ev (g ∷ fs) (k d.0) (es ++ (z ++ close ∷ []))) d.3 (rest d.0 d.1))

-- all is done
pub leads_ended : {Y : Type 0} (ev : Y → List Event) (f : Frame) (now : Reader Y) (es : List Event) → IsDone f.parts
    → Leads ev (f ∷ []) now es → (v : Y) × ((x : List ℕ) → now x ≡ reads v x) × (ev v ≡ es)
leads_ended ev f now es done (k, same, rest) =
    let d = done_reads f.levels f.parts done in
    let h = rest d.0 d.1 in
    (h.0, (λ x. same x ∙ ap (and_then k) (d.2 x) ∙ h.1 x), h.2 ∙ ap (λ z. es ++ (z ++ [])) d.3 ∙ append-nil es)

-- of a value nothing was read: it is one item, and no container around it is closed
abbrev first_item : List Tree → Reader Tree
first_item [] = give null
first_item (t ∷ ts) = give t

pub leads_begins : (n : ℕ) → Leads events (frame_of n (Items 1) ∷ []) (with_text_keys n) []
leads_begins n = (first_item, (λ x. one (with_text_keys n x)), λ l fits. alone l fits)
  where
    one : (o : Answer Tree) → o ≡ and_then first_item (and_then (λ t. many (with_text_keys n) 0 >>= λ ts. give (t ∷ ts)) o)
    one (reads t b) = refl
    one (refuses e) = refl

    alone : (l : List Tree) → length l ≡ 1 → Leads events [] (first_item l) (item_events (items_of l) ++ [])
    alone [] fits = absurd cc
    alone (t ∷ []) fits = (t, (λ x. refl), sym (append-nil (events t ++ []) ∙ append-nil (events t)))
    alone (t ∷ u ∷ us) fits = absurd cc
