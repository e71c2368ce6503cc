-- Each open container has the one around it in the place of its end.
use Rattle.std.proofs.Common.{◌≡◌, ℕ, zero, suc, ◌≤◌, ◌<◌, ◌+◌, List, [], ◌∷◌, ◌++◌, length, get_or, refl, ap, ◌∙◌, arith}
use Rattle.std.specs.Prelude.{Option, Some, None}
use Rattle.std.proofs.Math.Seq.{get_or-append_seam}
use Rattle.std.proofs.lemmas.List.{length-append, get_or_append_left}
use Rattle.bser_events.specs.Events as told
use Rattle.bser_events.specs.Events.{Event}
use Rattle.bser_document.specs.DocumentView.{Marks, change, closed, innermost, mark, marks, Linked}

wider : (n m : ℕ) (ends : List (Option ℕ)) (around : List ℕ) → n ≤ m → Linked n ends around → Linked m ends around
wider n m ends [] h l = tt
wider n m ends (at ∷ around) h l = (omega (arith, h, l.0), l.1, l.2)

-- one more node
more : (n : ℕ) (ends : List (Option ℕ)) (x : Option ℕ) (around : List ℕ) → n ≤ length ends → Linked n ends around → Linked n (ends ++ x ∷ []) around
more n ends x [] h l = tt
more n ends x (at ∷ around) h l = (
  l.0,
  get_or_append_left ends (x ∷ []) None at (omega (arith, h, l.0)) ∙ l.1,
  more at ends x around (omega (arith, h, l.0)) l.2,
)

other : (ends : List (Option ℕ)) (i at n : ℕ) → i < at → get_or (change ends at n) i None ≡ get_or ends i None
other [] i at n h = refl
other (x ∷ ends) i zero n h = absurd (omega (arith, h))
other (x ∷ ends) zero (suc at) n h = refl
other (x ∷ ends) (suc i) (suc at) n h = other ends i at n (omega (arith, h))

-- the end of one behind them was written
changed : (n at k : ℕ) (ends : List (Option ℕ)) (around : List ℕ) → n ≤ at → Linked n ends around → Linked n (change ends at k) around
changed n at k ends [] h l = tt
changed n at k ends (i ∷ around) h l = (l.0, other ends i at k (omega (arith, h, l.0)) ∙ l.1, changed i at k ends around (omega (arith, h, l.0)) l.2)

pub change_length : (ends : List (Option ℕ)) (at n : ℕ) → length (change ends at n) ≡ length ends
change_length [] at n = refl
change_length (x ∷ ends) zero n = refl
change_length (x ∷ ends) (suc at) n = ap suc (change_length ends at n)

-- the containers that are open are linked
abbrev Links : Marks → Type 0
Links m = Linked (length m.ends) m.ends m.around

noted_linked : (x : Option ℕ) (m : Marks) → Links m → Linked (length (m.ends ++ x ∷ [])) (m.ends ++ x ∷ []) m.around
noted_linked x m l =
    wider (length m.ends) (length (m.ends ++ x ∷ [])) (m.ends ++ x ∷ []) m.around (omega (arith, length-append m.ends (x ∷ []))) (more (length m.ends) m.ends x m.around (omega arith) l)

begun_linked : (m : Marks) → Links m → Links (record { ends = m.ends ++ Some (innermost m.around) ∷ []; around = length m.ends ∷ m.around })
begun_linked m l = (
  omega (arith, length-append m.ends (Some (innermost m.around) ∷ [])),
  get_or-append_seam m.ends (Some (innermost m.around)) [] None,
  more (length m.ends) m.ends (Some (innermost m.around)) m.around (omega arith) l,
)

closed_linked : (ends : List (Option ℕ)) (around : List ℕ) → Linked (length ends) ends around → Links (closed ends around)
closed_linked ends [] l = tt
closed_linked ends (at ∷ around) l =
    let n : ℕ = length ends + 1 in
    let ys : List (Option ℕ) = change (ends ++ None ∷ []) at n in
    wider at (length ys) ys around (omega (arith, l.0, change_length (ends ++ None ∷ []) at n, length-append ends (None ∷ [])))
    (changed at at n (ends ++ None ∷ []) around (omega arith) (more at ends None around (omega (arith, l.0)) l.2))

mark_linked : (e : Event) (m : Marks) → Links m → Links (mark e m)
mark_linked told.null m l = noted_linked None m l
mark_linked told.skip m l = noted_linked None m l
mark_linked (told.boolean x) m l = noted_linked None m l
mark_linked (told.integer x) m l = noted_linked None m l
mark_linked (told.real x) m l = noted_linked None m l
mark_linked (told.bytes x) m l = noted_linked None m l
mark_linked (told.text x) m l = noted_linked None m l
mark_linked (told.key x) m l = noted_linked None m l
mark_linked (told.open_rows x) m l = noted_linked None m l
mark_linked (told.open_array x) m l = begun_linked m l
mark_linked (told.open_object x) m l = begun_linked m l
mark_linked (told.open_template x) m l = begun_linked m l
mark_linked told.close m l = closed_linked m.ends m.around l

pub marks_linked : (es : List Event) (m : Marks) → Linked (length m.ends) m.ends m.around → Linked (length (marks es m).ends) (marks es m).ends (marks es m).around
marks_linked [] m l = l
marks_linked (e ∷ es) m l = marks_linked es (mark e m) (mark_linked e m l)
