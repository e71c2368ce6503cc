-- What structs read, reading them passes over.
use Rattle.std.proofs.Common.{◌≡◌, ℕ, zero, suc, Bool, true, false, cond, ◌||◌, List, [], ◌∷◌, ◌++◌, length, map, Option, Some, None, refl, sym, ap, subst, ◌∙◌, append_assoc}
use Rattle.std.specs.Option.{is_some}
use Rattle.std.specs.Str.{is_utf8}
use Rattle.bser_format.specs.Tree.{Tree, null, boolean, integer, real, bytes, text, array, object, template, entries}
use Rattle.bser_format.specs.Grammar.{Format, Each, SpellsString, ◌then◌}
use Rattle.bser_format.specs.Content.{Content, Meaning, each_some}
use Rattle.bser_format.specs.ReadsAny.{reads_ignored}
use Rattle.bser_format.specs.ReadsHolders.{list_of}
use Rattle.bser_format.specs.Expected.{Due, Fills, node_due, field_due, entries_of_object, fields_of_row, FillsPair}
use Rattle.bser_format.specs.declared.errors.Kind.TheVariants.{MapKey}
use Rattle.bser_format.specs.declared.errors.Complaint.TheVariants.{TooFewItems, ItemsLeft}
use Rattle.bser_format.specs.Named.{Answer, reads, give, refuse, and_then, ◌>>=◌, complain, text_of}
use Rattle.bser_format.specs.Asks.{Asks, Field, place_of, complete, value_at, value_by, entries_asked, fields_asked, struct_asked, asks_struct, required_field, optional_field}
use Rattle.bser_format.specs.TypeLaws.{Passes}
use Rattle.bser_format.specs.Structs.{Slot, required, optional, read_once, fill, fill_at, fill_by, fill_entry, fill_all, or_absent, slot_at_end, all_at_end, reads_fields, PassField, PassFields}
use Rattle.bser_format.proofs.Steps as steps
use Rattle.bser_format.proofs.Steps.{passes_then}
use Rattle.bser_format.proofs.Dues.{passes_by}
use Rattle.bser_format.proofs.Holders.{ReadsObjects, PairsPass, pairs_handled}
use Rattle.bser_format.proofs.Options.{mapped, made, chained, both_some, when_some}
use Rattle.bser_format.proofs.Choices.{option_passes}
use Rattle.bser_format.proofs.Anything.{ignored_passes}
use Rattle.bser_format.proofs.Enums.{key_there}

-- ---- the end

-- a field that is there at the end
ended : (optional found : Bool) (absent was : Option Content) (c : Content) → optional ≡ is_some absent → found ≡ is_some was → or_absent was absent ≡ Some c → (optional || found) ≡ true
ended true found absent was c o f e = refl
ended false true absent was c o f e = refl
ended false false None None c o f e = absurd cc
ended false false (Some a) None c o f e = absurd cc
ended false false absent (Some w) c o f e = absurd cc

complete_passes : (fs : List Field) (ss : List Slot) (cs : List Content) → PassFields fs ss → each_some slot_at_end ss ≡ Some cs → (y : List ℕ) → complete fs y ≡ reads tt y
complete_passes [] ss cs fit e y = refl
complete_passes (f ∷ fs) [] cs fit e y = absurd fit
complete_passes (f ∷ fs) (s ∷ ss) cs fit e y =
    let w = both_some (λ c more. c ∷ more) (slot_at_end s) (each_some slot_at_end ss) cs e in
    ap (λ z. cond z (complete fs) (refuse (complain TooFewItems)) y) (ended f.optional f.found s.absent s.found w.0 fit.0.optional fit.0.found w.2) ∙ complete_passes fs ss w.1 fit.1 w.3 y

-- ---- one value

-- a value was read by the fields, which are now as the slots are
record Read (r : List ℕ → Answer (List Field)) (text : List ℕ) (ss : List Slot) : Type 0 where
  now : List Field
  fit : PassFields now ss
  taken : (x : List ℕ) → r (text ++ x) ≡ reads now x

-- a slot that was filled was empty
filled : (T : Meaning) (was : Option Content) (t : Tree) (now : Option Content) → read_once T was t ≡ Some now → (c : Content) × (T t ≡ Some c) × (is_some was ≡ false) × (is_some now ≡ true)
filled T None t now e = let w = chained (λ c. Some (Some c)) (T t) now e in let same : Some w.0 ≡ now = cc in (w.0, w.1, refl, ap is_some (sym same))
filled T (Some c) t now e = absurd cc

at_place : (i : ℕ) (fs : List Field) (ss : List Slot) → PassFields fs ss → (o n : ℕ) (d : Due) (t : Tree) (more : List Slot) (b : List ℕ) → Fills n d t b → fill_at i ss t ≡ Some more → Read (value_at i fs o n d) b more
at_place i [] [] fit o n d t more b h e =
    let w = made (λ c. []) (reads_ignored t) more e in
    record { now = []; fit = subst (PassFields []) w.2 tt; taken = λ x. ap (and_then (λ u. give [])) (ignored_passes o n d t w.0 b x h w.1) }
at_place i [] (s ∷ ss) fit o n d t more b h e = absurd fit
at_place i (f ∷ fs) [] fit o n d t more b h e = absurd fit
at_place zero (f ∷ fs) (s ∷ ss) fit o n d t more b h e =
    let w = made (λ r. r ∷ ss) (fill s t) more e in
    let v = made (λ c. record s { found = c }) (read_once s.reads s.found t) w.0 w.1 in
    let k = filled s.reads s.found t v.0 v.1 in
    let kept : PassField (record f { found = true }) (record s { found = v.0 }) = record { passes = fit.0.passes; optional = fit.0.optional; found = sym k.3 } in
    record {
      now = record f { found = true } ∷ fs;
      fit = subst (PassFields (record f { found = true } ∷ fs)) w.2 (subst (PassField (record f { found = true })) v.2 kept, fit.1);
      taken = λ x. ap (λ z. cond z (refuse (complain ItemsLeft)) (f.type o n d >>= λ u. give (record f { found = true } ∷ fs)) (b ++ x)) (fit.0.found ∙ k.2)
          ∙ ap (and_then (λ u. give (record f { found = true } ∷ fs))) (fit.0.passes o n d t k.0 b x h k.1);
    }
at_place (suc i) (f ∷ fs) (s ∷ ss) fit o n d t more b h e =
    let w = made (λ rs. s ∷ rs) (fill_at i ss t) more e in
    let r = at_place i fs ss fit.1 o n d t w.0 b h w.1 in
    record { now = f ∷ r.now; fit = subst (PassFields (f ∷ r.now)) w.2 (fit.0, r.fit); taken = λ x. ap (and_then (λ l. give (f ∷ l))) (r.taken x) }

by_place : (p : Option ℕ) (fs : List Field) (ss : List Slot) → PassFields fs ss → (o n : ℕ) (d : Due) (t : Tree) (more : List Slot) (b : List ℕ) → Fills n d t b → fill_by p ss t ≡ Some more → Read (value_by p fs o n d) b more
by_place (Some i) fs ss fit o n d t more b h e = at_place i fs ss fit o n d t more b h e
by_place None fs ss fit o n d t more b h e =
    let w = made (λ c. ss) (reads_ignored t) more e in
    record { now = fs; fit = subst (PassFields fs) w.2 fit; taken = λ x. ap (and_then (λ u. give fs)) (ignored_passes o n d t w.0 b x h w.1) }

-- ---- all values

-- three parts, the last two as one
regroup : (F G H : Format) (b : List ℕ) → ((F then G) then H) b → (F then (G then H)) b
regroup F G H b h =
    let k = h.first in
    record {
      front = k.front;
      rest = k.rest ++ h.rest;
      whole = h.whole ∙ ap (λ l. l ++ h.rest) k.whole ∙ append_assoc k.front k.rest h.rest;
      first = k.first;
      second = record { front = k.rest; rest = h.rest; whole = refl; first = k.second; second = h.second };
    }

entries_pass : (names : List (List ℕ)) (es : List (List ℕ × Tree)) (fs : List Field) (ss last : List Slot) (c : Content) → PassFields fs ss → fill_all names ss es ≡ Some last → all_at_end last ≡ Some c
    → (o n : ℕ) (b : List ℕ) → Each (FillsPair n) es b → steps.Passes (entries_asked names o n fs (length es)) tt b
entries_pass names [] fs ss last c fit e end o n b h =
    let w = mapped list_of (each_some slot_at_end ss) c (cc) in
    λ x. ap (λ l. complete fs (l ++ x)) h ∙ complete_passes fs ss w.0 fit w.1 x
entries_pass names (p ∷ es) fs ss last c fit e end o n b h =
    let w = chained (λ more. fill_all names more es) (fill_entry names ss p) last e in
    let u = when_some (is_utf8 p.0) (fill_by (place_of 0 names p.0) ss p.1) w.0 w.1 in
    passes_then (text_of MapKey) (λ k. value_by (place_of 0 names k) fs o n node_due >>= λ more. entries_asked names o n more (length es)) p.0 tt
    (SpellsString p.0) (Fills n node_due p.1 then Each (FillsPair n) es) b (λ l f. key_there p.0 l u.0 f)
    (λ l f x.
    let r = by_place (place_of 0 names p.0) fs ss fit o n node_due p.1 w.0 f.front f.first u.1 in
    ap (λ i. and_then (λ more. entries_asked names o n more (length es)) (value_by (place_of 0 names p.0) fs o n node_due (i ++ x))) f.whole
    ∙ ap (λ i. and_then (λ more. entries_asked names o n more (length es)) (value_by (place_of 0 names p.0) fs o n node_due i)) (append_assoc f.front f.rest x)
    ∙ ap (and_then (λ more. entries_asked names o n more (length es))) (r.taken (f.rest ++ x))
    ∙ entries_pass names es r.now w.0 last c r.fit w.2 end o n f.rest f.second x)
    (regroup (SpellsString p.0) (Fills n node_due p.1) (Each (FillsPair n) es) b h)

fields_pass : (names : List (List ℕ)) (es : List (List ℕ × Tree)) (fs : List Field) (ss last : List Slot) (c : Content) → PassFields fs ss → fill_all names ss es ≡ Some last → all_at_end last ≡ Some c
    → (o n : ℕ) (b : List ℕ) → Each (λ p. Fills n field_due p.1) es b → steps.Passes (fields_asked names o n fs (map (λ p. p.0) es)) tt b
fields_pass names [] fs ss last c fit e end o n b h =
    let w = mapped list_of (each_some slot_at_end ss) c (cc) in
    λ x. ap (λ l. complete fs (l ++ x)) h ∙ complete_passes fs ss w.0 fit w.1 x
fields_pass names (p ∷ es) fs ss last c fit e end o n b h =
    let w = chained (λ more. fill_all names more es) (fill_entry names ss p) last e in
    let u = when_some (is_utf8 p.0) (fill_by (place_of 0 names p.0) ss p.1) w.0 w.1 in
    let r = by_place (place_of 0 names p.0) fs ss fit o n field_due p.1 w.0 h.front h.first u.1 in
    λ x. ap (λ i. fields_asked names o n fs (map (λ q. q.0) (p ∷ es)) (i ++ x)) h.whole
    ∙ ap (fields_asked names o n fs (map (λ q. q.0) (p ∷ es))) (append_assoc h.front h.rest x)
    ∙ ap (and_then (λ more. fields_asked names o n more (map (λ q. q.0) es))) (r.taken (h.rest ++ x))
    ∙ fields_pass names es r.now w.0 last c r.fit w.2 end o n h.rest h.second x

-- ---- the struct

struct_objects : (names : List (List ℕ)) (ss : List Slot) → ReadsObjects (reads_fields names ss)
struct_objects names ss (object us) c r = (us, refl)
struct_objects names ss null c r = absurd cc
struct_objects names ss other c r = absurd cc

struct_pairs : (names : List (List ℕ)) (fs : List Field) (ss : List Slot) → PassFields fs ss → PairsPass (λ o n. struct_asked names fs (suc o) n) (reads_fields names ss)
struct_pairs names fs ss fit o n (entries_of_object k) us b x c h r =
    let w = chained all_at_end (fill_all names ss (entries us)) c r in
    ap (λ j. entries_asked names (suc o) n fs j (b ++ x)) (sym h.0) ∙ entries_pass names (entries us) fs ss w.0 c fit w.1 w.2 (suc o) n b h.1 x
struct_pairs names fs ss fit o n (fields_of_row ks) us b x c h r =
    let w = chained all_at_end (fill_all names ss (entries us)) c r in
    ap (λ l. fields_asked names (suc o) n fs l (b ++ x)) (sym h.0) ∙ fields_pass names (entries us) fs ss w.0 c fit w.1 w.2 (suc o) n b h.1 x

pub struct_passes : (names : List (List ℕ)) (fs : List Field) (ss : List Slot) → PassFields fs ss → Passes (asks_struct names fs) (reads_fields names ss)
struct_passes names fs ss fit = passes_by (pairs_handled (λ o n. struct_asked names fs (suc o) n) (reads_fields names ss) (struct_objects names ss) (struct_pairs names fs ss fit))

pub required_passes : (A : Asks) (T : Meaning) → Passes A T → PassField (required_field A) (required T)
required_passes A T pass = record { passes = pass; optional = refl; found = refl }

pub optional_passes : (A : Asks) (T : Meaning) → Passes A T → PassField (optional_field A) (optional T)
optional_passes A T pass = record { passes = option_passes A T pass; optional = refl; found = refl }
