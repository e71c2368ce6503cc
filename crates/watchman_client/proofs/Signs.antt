-- A message's mark and its error, read together.
use Rattle.std.proofs.Common.{◌≡◌, ℕ, Bool, true, false, List, [], ◌∷◌, ◌⊎◌, Option, Some, None, refl, sym, ap, subst, ◌∙◌, inl, inr}
use Rattle.std.specs.Prelude.{codes, if◌then◌else◌, option_map, option_and_then}
use Rattle.std.specs.Str.{bytes_eq, is_utf8}
use Rattle.std.proofs.lemmas.Slice.Eq.{bytes_eq-Decides}
use Rattle.bser_format.specs.Content.{Content, Meaning, just, nothing, one, truth}
use Rattle.bser_format.specs.ReadsAny.{has_utf8_keys, reads_ignored}
use Rattle.bser_format.specs.ReadsHolders.{list_of, reads_option}
use Rattle.bser_format.specs.ReadsScalars.{reads_bool, reads_byte_string}
use Rattle.bser_format.specs.Structs.{read_once}
use Rattle.bser_format.specs.Tree.{Tree, null, boolean, object, entries}
use Rattle.bser_deserializer.specs.declared.field.Field.TheVariants.{Known, Unknown}
use Rattle.bser_types.specs.Fold.{folds, step_by_name}
use Rattle.bser_types.specs.Slots.{StructField, all_at_end, fill_field, optional, required, with_found}
use Rattle.watchman_client.specs.Kinds.{reads_failure, reads_mark, reads_signs}

abbrev mark_name : List ℕ
mark_name = codes "unilateral"

abbrev error_name : List ℕ
error_name = codes "error"

-- a field alone, of which this was read
abbrev alone : Meaning → Option Content → List StructField
alone T c = with_found (required T) c ∷ []

-- both fields, of which this was read
abbrev both : Option Content → Option Content → List StructField
both u e = with_found (required reads_bool) u ∷ with_found (optional reads_ignored) e ∷ []

abbrev step_both : List StructField → List ℕ → Tree → Option (List StructField)
step_both = step_by_name (mark_name ∷ error_name ∷ []) fill_field

abbrev step_one : List ℕ → List StructField → List ℕ → Tree → Option (List StructField)
step_one name = step_by_name (name ∷ []) fill_field

-- ---- one entry

mapped : {X Y : Type 0} (f : X → Y) (x : Option X) (y : Y) → option_map f x ≡ Some y → (z : X) × (x ≡ Some z) × (y ≡ f z)
mapped f None y e = absurd cc
mapped f (Some z) y e = (z, refl, (let same : y ≡ f z = cc in same))

chained : {X Y : Type 0} (f : X → Option Y) (x : Option X) (y : Y) → option_and_then f x ≡ Some y → (z : X) × (x ≡ Some z) × (f z ≡ Some y)
chained f None y e = absurd cc
chained f (Some z) y e = (z, refl, e)

once : (T : Meaning) (f : Option Content) (t : Tree) (g : Option Content) → read_once T f t ≡ Some g → (c : Content) × (f ≡ None) × (T t ≡ Some c) × (g ≡ Some c)
once T (Some c) t g e = absurd cc
once T None t g e =
    let m = chained (λ c. Some (Some c)) (T t) g e in
    (m.0, refl, m.1, (let same : g ≡ Some m.0 = cc in same))

some_one : (k : Bool) (c : Content) → option_map just (if k then Some one else None) ≡ Some c → ((if k then Some one else None) ≡ Some one) × (c ≡ just one)
some_one true c e = (refl, (let same : c ≡ just one = cc in same))
some_one false c e = absurd cc

only_one : (k : Bool) (c : Content) → (if k then Some one else None) ≡ Some c → (if k then Some one else None) ≡ Some one
only_one true c e = refl
only_one false c e = absurd cc

-- what an option of anything reads is passed over, and is something but for null
passed : (t : Tree) (c : Content) → reads_option reads_ignored t ≡ Some c → (reads_ignored t ≡ Some one) × ((t ≡ null) ⊎ (c ≡ just one))
passed null c e = (refl, inl refl)
passed t c e =
    let r = some_one (has_utf8_keys t) c e in
    (r.0, inr r.1)

truth_passed : (t : Tree) (c : Content) → reads_bool t ≡ Some c → reads_ignored t ≡ Some one
truth_passed (boolean v) c e = refl
truth_passed _ c e = absurd cc

something : (t : Tree) (c d : Content) → reads_option reads_ignored t ≡ Some c → reads_byte_string t ≡ Some d → c ≡ just one
something t c d read lone = elim ((passed t c read).1) [ inl e ↦ absurd (let same : None ≡ Some d = sym (ap reads_byte_string e) ∙ lone in cc) | inr e ↦ e ]

-- a mark's name is no error's
other_name : (n : List ℕ) → bytes_eq mark_name n ≡ true → bytes_eq error_name n ≡ false
other_name n y = subst (λ m. bytes_eq error_name m ≡ false) ((bytes_eq-Decides mark_name n).0 y) refl

-- what an entry makes of both fields: its mark was read, or its error, or another part passed over
data Turn (u e : Option Content) (n : List ℕ) (t : Tree) (next : List StructField) : Type 0 where
  marks : (c : Content) → bytes_eq mark_name n ≡ true → u ≡ None → reads_bool t ≡ Some c → next ≡ both (Some c) e → Turn u e n t next
  errs : (c : Content) → bytes_eq mark_name n ≡ false → bytes_eq error_name n ≡ true → e ≡ None → reads_option reads_ignored t ≡ Some c → next ≡ both u (Some c) → Turn u e n t next
  passes : bytes_eq mark_name n ≡ false → bytes_eq error_name n ≡ false → reads_ignored t ≡ Some one → next ≡ both u e → Turn u e n t next

turn : (u e : Option Content) (n : List ℕ) (t : Tree) (next : List StructField) → step_both (both u e) n t ≡ Some next → (is_utf8 n ≡ true) × Turn u e n t next
turn u e n t next is = go (is_utf8 n) (bytes_eq mark_name n) (bytes_eq error_name n) refl refl refl is
  where
    go : (p b d : Bool) → is_utf8 n ≡ p → bytes_eq mark_name n ≡ b → bytes_eq error_name n ≡ d
        → (if p then fill_field (both u e) (if b then Known 0 else if d then Known 1 else Unknown) t else None) ≡ Some next → (is_utf8 n ≡ true) × Turn u e n t next
    go false b d x y z is = absurd cc
    go true true d x y z is =
        let made = mapped _ _ next is in
        let slot = mapped _ _ made.0 made.1 in
        let read = once reads_bool u t slot.0 slot.1 in
        (x, marks read.0 y read.1 read.2 (made.2 ∙ ap (λ r. r ∷ with_found (optional reads_ignored) e ∷ []) (slot.2 ∙ ap (λ g. with_found (required reads_bool) g) read.3)))
    go true false true x y z is =
        let whole = mapped _ _ next is in
        let made = mapped _ _ whole.0 whole.1 in
        let slot = mapped _ _ made.0 made.1 in
        let read = once (reads_option reads_ignored) e t slot.0 slot.1 in
        (x, errs read.0 y z read.1 read.2 (whole.2 ∙ ap (λ r. with_found (required reads_bool) u ∷ r) (made.2 ∙ ap (λ r. r ∷ []) (slot.2 ∙ ap (λ g. with_found (optional reads_ignored) g) read.3))))
    go true false false x y z is =
        let made = mapped _ _ next is in
        (x, passes y z (only_one (has_utf8_keys t) made.0 made.1) made.2)

-- ---- all entries

-- the mark alone is read as it is with the error, and an error that was read stays
abbrev WithMark : List (List ℕ × Tree) → Option Content → Option Content → List StructField → Type 0
WithMark es u e next = (v : Option Content) × (f : Option Content) × (next ≡ both v f) × (folds (step_one mark_name) (alone reads_bool u) es ≡ Some (alone reads_bool v)) × ((c : Content) → e ≡ Some c → f ≡ Some c)

mark_turn : (n : List ℕ) (t : Tree) (es : List (List ℕ × Tree)) (u e : Option Content) (next mid : List StructField) → ((v f : Option Content) → folds step_both (both v f) es ≡ Some next → WithMark es v f next)
    → is_utf8 n ≡ true → Turn u e n t mid → folds step_both mid es ≡ Some next → WithMark ((n, t) ∷ es) u e next
mark_turn n t es u e next mid again utf8 (marks c y none read at) more =
    let r = again (Some c) e (subst (λ m. folds step_both m es ≡ Some next) at more) in
    (r.0, r.1, r.2, rw (utf8, y, none, read) r.3, r.4)
mark_turn n t es u e next mid again utf8 (errs c y z none read at) more =
    let r = again u (Some c) (subst (λ m. folds step_both m es ≡ Some next) at more) in
    (r.0, r.1, r.2, rw (utf8, y, (passed t c read).0) r.3, λ d h. absurd (let same : None ≡ Some d = sym none ∙ h in cc))
mark_turn n t es u e next mid again utf8 (passes y z read at) more =
    let r = again u e (subst (λ m. folds step_both m es ≡ Some next) at more) in
    (r.0, r.1, r.2, rw (utf8, y, read) r.3, r.4)

with_mark : (es : List (List ℕ × Tree)) (u e : Option Content) (next : List StructField) → folds step_both (both u e) es ≡ Some next → WithMark es u e next
with_mark [] u e next is = (u, e, (let same : next ≡ both u e = cc in same), refl, λ c h. h)
with_mark ((n, t) ∷ es) u e next is =
    let two = chained (λ b. folds step_both b es) (step_both (both u e) n t) next is in
    let first = turn u e n t two.0 two.1 in
    mark_turn n t es u e next two.0 (λ v f. with_mark es v f next) first.0 first.1 two.2

-- where no error is read with the mark, none is read alone
abbrev WithError : List StructField → List StructField → Type 0
WithError next rs = (rs ≡ alone reads_byte_string None) ⊎ ((v : Option Content) × (next ≡ both v (Some (just one))))

error_turn : (n : List ℕ) (t : Tree) (es : List (List ℕ × Tree)) (u : Option Content) (next rs mid : List StructField)
    → ((v : Option Content) → folds step_both (both v None) es ≡ Some next → folds (step_one error_name) (alone reads_byte_string None) es ≡ Some rs → WithError next rs)
    → is_utf8 n ≡ true → Turn u None n t mid → folds step_both mid es ≡ Some next → folds (step_one error_name) (alone reads_byte_string None) ((n, t) ∷ es) ≡ Some rs → WithError next rs
error_turn n t es u next rs mid again utf8 (marks c y none read at) more lone = again (Some c) (subst (λ m. folds step_both m es ≡ Some next) at more) (rw (utf8, other_name n y, truth_passed t c read) at lone)
error_turn n t es u next rs mid again utf8 (errs c y z none read at) more lone =
    let two = chained (λ b. folds (step_one error_name) b es) (fill_field (alone reads_byte_string None) (Known 0) t) rs (rw (utf8, z) at lone) in
    let made = mapped (λ r. r ∷ []) _ two.0 two.1 in
    let slot = mapped _ _ made.0 made.1 in
    let d = once reads_byte_string None t slot.0 slot.1 in
    let r = with_mark es u (Some c) next (subst (λ m. folds step_both m es ≡ Some next) at more) in
    inr (r.0, r.2 ∙ ap (λ f. both r.0 f) (r.4 c refl ∙ ap Some (something t c d.0 read d.2)))
error_turn n t es u next rs mid again utf8 (passes y z read at) more lone = again u (subst (λ m. folds step_both m es ≡ Some next) at more) (rw (utf8, z, read) at lone)

with_error : (es : List (List ℕ × Tree)) (u : Option Content) (next rs : List StructField) → folds step_both (both u None) es ≡ Some next → folds (step_one error_name) (alone reads_byte_string None) es ≡ Some rs → WithError next rs
with_error [] u next rs is lone = inl (let same : rs ≡ alone reads_byte_string None = cc in same)
with_error ((n, t) ∷ es) u next rs is lone =
    let two = chained (λ b. folds step_both b es) (step_both (both u None) n t) next is in
    let first = turn u None n t two.0 two.1 in
    error_turn n t es u next rs two.0 (λ v. with_error es v next rs) first.0 first.1 two.2 lone

-- ---- whole objects

ends : (v f : Option Content) (b : Bool) (x : Content) → all_at_end (both v f) ≡ Some (list_of (truth b ∷ x ∷ [])) → (v ≡ Some (truth b)) × (f ≡ Some (just one) → x ≡ just one)
ends None f b x e = absurd cc
ends (Some c) None b x e = (ap Some (let same : c ≡ truth b = cc in same), λ h. absurd cc)
ends (Some c) (Some d) b x e = (ap Some (let same : c ≡ truth b = cc in same), λ h. (let same : x ≡ just one = cc in same))

-- what is read with the error is the mark, and where no error was read the object has none
pub signs : (t : Tree) (b : Bool) (x : Content) → reads_signs t ≡ Some (list_of (truth b ∷ x ∷ []))
    → (reads_mark t ≡ Some (list_of (truth b ∷ []))) × (x ≡ nothing → (c : Content) → reads_failure t ≡ Some c → ⊥)
signs (object es) b x is =
    let whole = chained all_at_end (folds step_both (both None None) (entries es)) (list_of (truth b ∷ x ∷ [])) is in
    let r = with_mark (entries es) None None whole.0 whole.1 in
    let e = ends r.0 r.1 b x (subst (λ m. all_at_end m ≡ Some (list_of (truth b ∷ x ∷ []))) r.2 whole.2) in
    (rw (r.3, e.0) refl, λ none c failure. refused whole.0 whole.1 whole.2 none c (chained all_at_end (folds (step_one error_name) (alone reads_byte_string None) (entries es)) c failure))
  where
    refused : (mid : List StructField) → folds step_both (both None None) (entries es) ≡ Some mid → all_at_end mid ≡ Some (list_of (truth b ∷ x ∷ [])) → x ≡ nothing → (c : Content)
        → ((rs : List StructField) × (folds (step_one error_name) (alone reads_byte_string None) (entries es) ≡ Some rs) × (all_at_end rs ≡ Some c)) → ⊥
    refused mid whole end none c (rs, lone, at) = elim (with_error (entries es) None mid rs whole lone) [
      | inl e ↦ absurd (let same : None ≡ Some c = sym (ap all_at_end e) ∙ at in cc)
      | inr h ↦ absurd (let same : nothing ≡ just one = sym none ∙ (ends h.0 (Some (just one)) b x (subst (λ m. all_at_end m ≡ Some (list_of (truth b ∷ x ∷ []))) h.1 end)).1 refl in cc)
    ]
signs _ b x is = absurd cc
