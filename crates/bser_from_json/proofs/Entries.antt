-- The entries of an object that stand in bytes, and what is put of them in the order of their names.
use Rattle.std.proofs.Common.{◌≡◌, ℕ, ◌≤◌, List, [], ◌∷◌, ◌++◌, length, refl, sym, ap, ap₂, subst, ◌∙◌, arith, append_assoc, append-nil, Ordering, Less, Equal, Greater, nat_cmp, Bor}
use Rattle.std.proofs.lemmas.Grind.{common_steps}
use Rattle.std.proofs.lemmas.List.{length-append}
use Rattle.std.proofs.lemmas.Map.Text.{is_eq-slice_cmp}
use Rattle.std.proofs.lemmas.Slice.Eq.{bytes_eq-Decides}
use Rattle.std.specs.BTreeMap.{insert_entry}
use Rattle.std.specs.Cmp.Lexicographic.{slice_cmp}
use Rattle.std.specs.List.{slice_range}
use Rattle.std.specs.Ordering.{is_eq, match_ordering}
use Rattle.bser_format.specs.Tree.{Tree, object, entries, entries_of}
use Rattle.bser_format.specs.Canonical.{canonical_body, canonical_entries, canonical_key}
use Rattle.bser_format.specs.Pieces.{object_head}
use Rattle.bser_from_json.specs.Bodies.{AreNamed, EntriesStand, Places, Stands}
use Rattle.bser_from_json.specs.declared.body.EntrySpan.{EntrySpan}

-- ---- what stands in bytes

pub stand_named : (bytes : List ℕ) (ps : Places) (es : List (List ℕ × Tree)) → EntriesStand bytes ps es → AreNamed ps es
stand_named bytes [] [] h = refl
stand_named bytes [] (e ∷ es) h = absurd h
stand_named bytes (p ∷ ps) [] h = absurd h
stand_named bytes (p ∷ ps) (e ∷ es) h = ap₂ (λ k ks. k ∷ ks) h.0 (stand_named bytes ps es h.2)

pub stand_counted : (bytes : List ℕ) (ps : Places) (es : List (List ℕ × Tree)) → EntriesStand bytes ps es → length ps ≡ length (entries (entries_of es))
stand_counted bytes [] [] h = refl
stand_counted bytes [] (e ∷ es) h = absurd h
stand_counted bytes (p ∷ ps) [] h = absurd h
stand_counted bytes (p ∷ ps) (e ∷ es) h = omega (arith, stand_counted bytes ps es h.2)

same_slice : (bytes more : List ℕ) (i j : ℕ) → i ≤ j → j ≤ length bytes → slice_range (bytes ++ more) i j ≡ slice_range bytes i j
same_slice bytes more i j le within = grind (arith, common_steps, le, within)

stays : (bytes more piece : List ℕ) (s : EntrySpan) → Stands bytes s piece → Stands (bytes ++ more) s piece
stays bytes more piece s h = record { ordered = h.ordered; within = grind (arith, common_steps, h.within); there = same_slice bytes more s.start s.end h.ordered h.within ∙ h.there }

-- what stands there still does with more bytes behind
pub stand_on : (bytes more : List ℕ) (ps : Places) (es : List (List ℕ × Tree)) → EntriesStand bytes ps es → EntriesStand (bytes ++ more) ps es
stand_on bytes more [] [] h = tt
stand_on bytes more [] (e ∷ es) h = absurd h
stand_on bytes more (p ∷ ps) [] h = absurd h
stand_on bytes more (p ∷ ps) (e ∷ es) h = (h.0, stays bytes more _ p.1 h.1, stand_on bytes more ps es h.2)

last_slice : (bytes piece : List ℕ) → slice_range (bytes ++ piece) (length bytes) (length (bytes ++ piece)) ≡ piece
last_slice bytes piece = grind (arith, common_steps)

-- a piece stands where it was put last
pub last_stands : (bytes piece all : List ℕ) (s : EntrySpan) → all ≡ bytes ++ piece → s.start ≡ length bytes → s.end ≡ length all → Stands all s piece
last_stands bytes piece all s whole start end = record {
  ordered = omega (arith, start, end, ap length whole, length-append bytes piece);
  within = omega (arith, end);
  there = ap₂ (slice_range all) start (end ∙ ap length whole) ∙ ap (λ xs. slice_range xs (length bytes) (length (bytes ++ piece))) whole ∙ last_slice bytes piece;
}

abbrev cmp : List ℕ → List ℕ → Ordering
cmp = slice_cmp nat_cmp

-- an entry more stands under its name
pub stand_more : (bytes : List ℕ) (ps : Places) (es : List (List ℕ × Tree)) (k : Bor (List ℕ)) (s : EntrySpan) (t : Tree) → Stands bytes s (canonical_key k.now ++ canonical_body t) → EntriesStand bytes ps es
    → EntriesStand bytes (insert_entry (λ a b. cmp a.now b.now) ps k s) (insert_entry cmp es k.now t)
stand_more bytes [] [] k s t there h = (refl, there, tt)
stand_more bytes [] (e ∷ es) k s t there h = absurd h
stand_more bytes (p ∷ ps) [] k s t there h = absurd h
stand_more bytes (p ∷ ps) (e ∷ es) k s t there h =
    subst (λ j. EntriesStand bytes (match_ordering (cmp k.now j) ((k, s) ∷ p ∷ ps) ((p.0, s) ∷ ps) (p ∷ insert_entry (λ a b. cmp a.now b.now) ps k s)) (match_ordering (cmp k.now e.0) ((k.now, t) ∷ e ∷ es) ((e.0, t) ∷ es) (e ∷ insert_entry cmp es k.now t)))
    (sym h.0) (go (cmp k.now e.0) (λ equal. is_equal equal) (stand_more bytes ps es k s t there h.2))
  where
    is_equal : cmp k.now e.0 ≡ Equal → k.now ≡ e.0
    is_equal equal = (bytes_eq-Decides k.now e.0).0 (sym (is_eq-slice_cmp k.now e.0) ∙ ap is_eq equal)

    go : (o : Ordering) → (o ≡ Equal → k.now ≡ e.0) → EntriesStand bytes (insert_entry (λ a b. cmp a.now b.now) ps k s) (insert_entry cmp es k.now t)
        → EntriesStand bytes (match_ordering o ((k, s) ∷ p ∷ ps) ((p.0, s) ∷ ps) (p ∷ insert_entry (λ a b. cmp a.now b.now) ps k s)) (match_ordering o ((k.now, t) ∷ e ∷ es) ((e.0, t) ∷ es) (e ∷ insert_entry cmp es k.now t))
    go Less same r = (refl, there, h)
    go Equal same r = (h.0, subst (λ j. Stands bytes s (canonical_key j ++ canonical_body t)) (same refl) there, h.2)
    go Greater same r = (h.0, h.1, r)

-- ---- what is put of them

-- with the bodies of the entries that are left, all is the object behind the bytes
abbrev pub EntriesCome : List ℕ → List ℕ → Places → Places → List ℕ → Type 0
EntriesCome bytes parts ps left all =
    (es : List (List ℕ × Tree)) → EntriesStand parts ps es
    → (more : List (List ℕ × Tree)) × EntriesStand parts left more × (bytes ++ canonical_body (object (entries_of es)) ≡ all ++ canonical_entries (entries_of more))

pub come_begun : (bytes parts all : List ℕ) (ps left : Places) (n : ℕ) → left ≡ ps → n ≡ length ps → all ≡ bytes ++ object_head n → EntriesCome bytes parts ps left all
come_begun bytes parts all ps left n whole count head es h = (
  es,
  subst (λ qs. EntriesStand parts qs es) (sym whole) h,
  ap (λ k. bytes ++ (object_head k ++ canonical_entries (entries_of es))) (sym (count ∙ stand_counted parts ps es h)) ∙ sym (append_assoc bytes (object_head n) _) ∙ ap (λ xs. xs ++ canonical_entries (entries_of es)) (sym head),
)

-- the entry that comes next
abbrev Next : List ℕ → Places → List (List ℕ × Tree) → Type 0
Next parts left more = (p : Bor (List ℕ) × EntrySpan) (rest : Places) → left ≡ p ∷ rest → (e : List ℕ × Tree) × (es : List (List ℕ × Tree)) × (more ≡ e ∷ es) × Stands parts p.1 (canonical_key e.0 ++ canonical_body e.1) × EntriesStand parts rest es

next : (parts : List ℕ) (left : Places) (more : List (List ℕ × Tree)) → EntriesStand parts left more → Next parts left more
next parts left [] h p rest is = absurd (subst (λ qs. EntriesStand parts qs []) is h)
next parts left (e ∷ es) h p rest is = let k = subst (λ qs. EntriesStand parts qs (e ∷ es)) is h in (e, es, refl, k.1, k.2)

pub come_on : (bytes parts all new : List ℕ) (ps left rest : Places) (p : Bor (List ℕ) × EntrySpan) → left ≡ p ∷ rest → new ≡ all ++ slice_range parts p.1.start p.1.end → EntriesCome bytes parts ps left all → EntriesCome bytes parts ps rest new
come_on bytes parts all new ps left rest p is put come es h =
    let c = come es h in
    let n = next parts left c.0 c.1 p rest is in
    let piece : List ℕ = canonical_key n.0.0 ++ canonical_body n.0.1 in (
      n.1,
      n.4,
      c.2 ∙ ap (λ m. all ++ canonical_entries (entries_of m)) n.2 ∙ sym (append_assoc all piece _)
          ∙ ap (λ xs. xs ++ canonical_entries (entries_of n.1)) (sym (put ∙ ap (λ xs. all ++ xs) n.3.there)),
    )

-- the next entry stands there
pub come_stands : (bytes parts all : List ℕ) (ps left rest : Places) (p : Bor (List ℕ) × EntrySpan) → left ≡ p ∷ rest → EntriesCome bytes parts ps left all → (es : List (List ℕ × Tree)) → EntriesStand parts ps es → (p.1.start ≤ p.1.end) × (p.1.end ≤ length parts)
come_stands bytes parts all ps left rest p is come es h =
    let c = come es h in
    let n = next parts left c.0 c.1 p rest is in
    (n.3.ordered, n.3.within)

-- all entries were put
pub come_all : (bytes parts all : List ℕ) (ps left : Places) → left ≡ [] → EntriesCome bytes parts ps left all → (es : List (List ℕ × Tree)) → EntriesStand parts ps es → all ≡ bytes ++ canonical_body (object (entries_of es))
come_all bytes parts all ps left none come es h =
    let c = come es h in
    let nothing : c.0 ≡ [] = no_more c.0 (subst (λ qs. EntriesStand parts qs c.0) none c.1) in
    sym (append-nil all) ∙ ap (λ m. all ++ canonical_entries (entries_of m)) (sym nothing) ∙ sym c.2
  where
    no_more : (more : List (List ℕ × Tree)) → EntriesStand parts [] more → more ≡ []
    no_more [] h = refl
    no_more (e ∷ es) h = absurd h
