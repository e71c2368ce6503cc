-- Where the nodes of parts lie, inside those of a whole.
use Rattle.std.proofs.Common.{◌≡◌, ◌≤◌, ◌<◌, ◌+◌, ℕ, zero, suc, List, [], ◌∷◌, ◌++◌, length, map, drop, replicate, Option, Some, None, refl, sym, ap, ◌∙◌, arith}
use Rattle.std.proofs.lemmas.List.{length-append, length-replicate, length-map, append_assoc, drop-drop, drop-map, drop_at}
use Rattle.bser_events.specs.Events as told
use Rattle.bser_events.specs.Events.{Event}
use Rattle.bser_document.specs.declared.document.Document.{Document}
use Rattle.bser_document.specs.declared.document.DocumentNode.{DocumentNode}
use Rattle.bser_document.specs.DocumentView.{event_of, end_of, Marks, closed, innermost, mark, marks}
use Rattle.bser_document.specs.Spans.{around, Lies}
use Rattle.bser_document.proofs.Ends.{Adds}
use Rattle.bser_document.proofs.Links.{change_length}

-- ---- an end for each event

one_more : (xs : List (Option ℕ)) (x : Option ℕ) → length (xs ++ x ∷ []) ≡ length xs + 1
one_more xs x = length-append xs (x ∷ [])

closed_length : (xs : List (Option ℕ)) (around : List ℕ) → length (closed xs around).ends ≡ length xs + 1
closed_length xs [] = one_more xs None
closed_length xs (at ∷ around) = change_length (xs ++ None ∷ []) at (length xs + 1) ∙ one_more xs None

mark_length : (e : Event) (m : Marks) → length (mark e m).ends ≡ length m.ends + 1
mark_length told.null m = one_more m.ends None
mark_length (told.boolean v) m = one_more m.ends None
mark_length (told.integer v) m = one_more m.ends None
mark_length (told.real v) m = one_more m.ends None
mark_length (told.bytes s) m = one_more m.ends None
mark_length (told.text s) m = one_more m.ends None
mark_length (told.open_array n) m = one_more m.ends (Some (innermost m.around))
mark_length (told.open_object n) m = one_more m.ends (Some (innermost m.around))
mark_length (told.key s) m = one_more m.ends None
mark_length (told.open_template n) m = one_more m.ends (Some (innermost m.around))
mark_length (told.open_rows n) m = one_more m.ends None
mark_length told.skip m = one_more m.ends None
mark_length told.close m = closed_length m.ends m.around

marks_length : (es : List Event) (m : Marks) → length (marks es m).ends ≡ length m.ends + length es
marks_length [] m = omega arith
marks_length (e ∷ es) m = omega (arith, marks_length es (mark e m), mark_length e m)

pub adds_length : (es : List Event) (f : ℕ → List (Option ℕ)) → Adds es f → (n : ℕ) → length (f n) ≡ length es
adds_length es f adds n =
    let nothing : Option ℕ = None in
    let m : Marks = record { ends = replicate n nothing; around = [] } in
    let long : length m.ends ≡ n = length-replicate n nothing in
    let e : length (marks es m).ends ≡ length (m.ends ++ f (length m.ends)) = ap (λ x. length x.ends) (adds m) in
    ap (λ k. length (f k)) (sym long) ∙ omega (arith, e, marks_length es m, length-append m.ends (f (length m.ends)))

-- ---- parts

beyond : {X : Type 0} (f : DocumentNode → X) (ns : List DocumentNode) (at n : ℕ) (xs ys : List X) → n ≡ length xs → map f (drop at ns) ≡ xs ++ ys → map f (drop (at + n) ns) ≡ ys
beyond f ns at n xs ys long e =
    ap (map f) (sym (drop-drop n at ns)) ∙ sym (drop-map f n (drop at ns)) ∙ ap (drop n) e ∙ drop_at xs ys n (sym long)

-- the first part
pub front_lies : (d : Document) (at : ℕ) (a b : List Event) (x y : List (Option ℕ)) → Lies d at (a ++ b) (x ++ y) → Lies d at a x
front_lies d at a b x y h = record {
  after = b ++ h.after;
  here = h.here ∙ append_assoc a b h.after;
  behind = y ++ h.behind;
  ends = h.ends ∙ append_assoc x y h.behind;
}

-- the part behind it
pub rest_lies : (d : Document) (at : ℕ) (a b : List Event) (x y : List (Option ℕ)) → length x ≡ length a → Lies d at (a ++ b) (x ++ y) → Lies d (at + length x) b y
rest_lies d at a b x y long h = record {
  after = h.after;
  here = beyond (event_of d.strings.items) d.nodes.items at (length x) a (b ++ h.after) long (h.here ∙ append_assoc a b h.after);
  behind = h.behind;
  ends = beyond end_of d.nodes.items at (length x) x (y ++ h.behind) refl (h.ends ∙ append_assoc x y h.behind);
}

-- what is inside a container
pub inner_lies : (d : Document) (at : ℕ) (e : Event) (es : List Event) (f : ℕ → List (Option ℕ)) → length (f (at + 1)) ≡ length es → Lies d at (e ∷ (es ++ told.close ∷ [])) (around (at + 1) (f (at + 1))) → Lies d (at + 1) es (f (at + 1))
inner_lies d at e es f long h =
    front_lies d (at + 1) es (told.close ∷ []) (f (at + 1)) (None ∷ [])
    (rest_lies d at (e ∷ []) (es ++ told.close ∷ []) (Some (at + 1 + length (f (at + 1)) + 1) ∷ []) (f (at + 1) ++ None ∷ []) refl h)

-- as many nodes as events are there
filled : {X : Type 0} (f : DocumentNode → X) (ns : List DocumentNode) (at : ℕ) (xs ys : List X) → at ≤ length ns → map f (drop at ns) ≡ xs ++ ys → at + length xs ≤ length ns
filled f ns zero xs ys less e = omega (arith, ap length e, length-append xs ys, length-map ns f)
filled f [] (suc at) xs ys less e = absurd (omega (arith, less))
filled f (n ∷ ns) (suc at) xs ys less e = omega (arith, filled f ns at xs ys (omega (arith, less)) e)

some_there : {X : Type 0} (f : DocumentNode → X) (ns : List DocumentNode) (at : ℕ) (x : X) (xs : List X) → map f (drop at ns) ≡ x ∷ xs → at < length ns
some_there f [] zero x xs e = absurd cc
some_there f [] (suc at) x xs e = absurd cc
some_there f (n ∷ ns) zero x xs e = omega arith
some_there f (n ∷ ns) (suc at) x xs e = omega (arith, some_there f ns at x xs e)

pub lies_within : (d : Document) (at : ℕ) (e : Event) (es : List Event) (xs : List (Option ℕ)) → Lies d at (e ∷ es) xs → at + length (e ∷ es) ≤ length d.nodes.items
lies_within d at e es xs h =
    let less : at < length d.nodes.items = some_there (event_of d.strings.items) d.nodes.items at e (es ++ h.after) h.here in
    filled (event_of d.strings.items) d.nodes.items at (e ∷ es) h.after (omega (arith, less)) h.here
