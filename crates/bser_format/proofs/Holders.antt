-- Types that read arrays alone, and types that read objects alone.
use Rattle.std.proofs.Common.{◌≡◌, ℕ, zero, suc, Bool, true, false, cond, List, ◌++◌, length, Some, ap, ◌∙◌}
use Rattle.std.specs.Str.{is_utf8}
use Rattle.bser_format.specs.Tree.{Tree, null, boolean, integer, real, bytes, text, array, object, template, Items, items, Entries, entries, rows}
use Rattle.bser_format.specs.Expand.{expand, expand_items, expand_entries, expand_rows, expand_fields, key_tree}
use Rattle.bser_format.specs.Grammar.{Spells}
use Rattle.bser_format.specs.Content.{Content, Meaning}
use Rattle.bser_format.specs.Expected.{WantedItems, nodes, rows_over, WantedPairs, entries_of_object, fields_of_row, FillsItems, FillsPairs}
use Rattle.bser_format.specs.Named.{Reader, reads, and_then, next}
use Rattle.bser_format.specs.DueReaders.{value_tag, items_at, pairs_at, less_one}
use Rattle.bser_format.specs.Asks.{inside}
use Rattle.bser_format.proofs.Dues.{Handles}
use Rattle.bser_format.proofs.Heads.{array_head, template_head, object_head, array_fills, template_fills, object_fills, row_fills}

-- what is read is an array
abbrev pub ReadsArrays : Meaning → Type 0
ReadsArrays R = (u : Tree) (c : Content) → R u ≡ Some c → (us : Items) × (u ≡ array us)

-- what is read is an object
abbrev pub ReadsObjects : Meaning → Type 0
ReadsObjects R = (u : Tree) (c : Content) → R u ≡ Some c → (us : Entries) × (u ≡ object us)

-- the items inside an array that R reads are passed over by f
abbrev pub ItemsPass : (ℕ → ℕ → WantedItems → Reader Unit) → Meaning → Type 0
ItemsPass f R = (o n : ℕ) (w : WantedItems) (us : Items) (b x : List ℕ) (c : Content) → FillsItems n w us b → R (array us) ≡ Some c → f o n w (b ++ x) ≡ reads tt x

-- the pairs inside an object that R reads are passed over by f
abbrev pub PairsPass : (ℕ → ℕ → WantedPairs → Reader Unit) → Meaning → Type 0
PairsPass f R = (o n : ℕ) (w : WantedPairs) (us : Entries) (b x : List ℕ) (c : Content) → FillsPairs n w us b → R (object us) ≡ Some c → f o n w (b ++ x) ≡ reads tt x

key_no_array : {A : Type 0} (s : List ℕ) (us : Items) → key_tree s ≡ array us → A
key_no_array {A = A} s us = go (is_utf8 s)
  where
    go : (b : Bool) → cond b (text s) (bytes s) ≡ array us → A
    go true e = absurd cc
    go false e = absurd cc

key_no_object : {A : Type 0} (s : List ℕ) (us : Entries) → key_tree s ≡ object us → A
key_no_object {A = A} s us = go (is_utf8 s)
  where
    go : (b : Bool) → cond b (text s) (bytes s) ≡ object us → A
    go true e = absurd cc
    go false e = absurd cc

items_node : (f : ℕ → ℕ → WantedItems → Reader Unit) (R : Meaning) → ReadsArrays R → ItemsPass f R → (o n : ℕ) (skips : Bool) (t : Tree) (b x : List ℕ) (c : Content) → Spells n t b → R (expand t) ≡ Some c
    → and_then (f o (less_one n)) (and_then (items_at n) (and_then (value_tag skips) (next (b ++ x)))) ≡ reads tt x
items_node f R only pass o (suc n) skips (array ts) b x c h r =
    let l = array_head skips n ts b h in
    ap (and_then (f o n)) (l.taken x) ∙ pass o n (nodes (length (items ts))) (expand_items ts) l.rest x c (array_fills n ts l.rest l.form) r
items_node f R only pass o (suc (suc n)) skips (template ks rs) b x c h r =
    let l = template_head skips n ks rs b h in
    ap (and_then (f o (suc n))) (l.taken x) ∙ pass o (suc n) (rows_over ks (length (rows rs))) (expand_rows ks rs) l.rest x c (template_fills (suc n) ks rs l.rest h.0 l.form) r
items_node f R only pass o zero skips (array ts) b x c h r = absurd h
items_node f R only pass o zero skips (template ks rs) b x c h r = absurd h
items_node f R only pass o (suc zero) skips (template ks rs) b x c h r = absurd h
items_node f R only pass o n skips null b x c h r = absurd (let w = only _ c r in let e = w.1 in cc)
items_node f R only pass o n skips other b x c h r = absurd (let w = only _ c r in let e = w.1 in cc)

pub items_handled : (f : ℕ → ℕ → WantedItems → Reader Unit) (R : Meaning) → ReadsArrays R → ItemsPass f R → Handles items_at (λ o n. f o (less_one n)) R
items_handled f R only pass = record {
  node = items_node f R only pass;
  skipped = λ o n x c r. absurd (let w = only _ c r in let e = w.1 in cc);
  key = λ o n s b x c h r. let w = only _ c r in key_no_array s w.0 w.1;
  named = λ o n s x c r. let w = only _ c r in key_no_array s w.0 w.1;
  of_row = λ o n ks fs b x c even h r. absurd (let w = only _ c r in let e = w.1 in cc);
}

pairs_node : (f : ℕ → ℕ → WantedPairs → Reader Unit) (R : Meaning) → ReadsObjects R → PairsPass f R → (o n : ℕ) (skips : Bool) (t : Tree) (b x : List ℕ) (c : Content) → Spells n t b → R (expand t) ≡ Some c
    → and_then (λ w. f o (inside w n) w) (and_then (pairs_at n) (and_then (value_tag skips) (next (b ++ x)))) ≡ reads tt x
pairs_node f R only pass o (suc n) skips (object es) b x c h r =
    let l = object_head skips n es b h in
    ap (and_then (λ w. f o (inside w (suc n)) w)) (l.taken x) ∙ pass o n (entries_of_object (length (entries es))) (expand_entries es) l.rest x c (object_fills n es l.rest l.form) r
pairs_node f R only pass o zero skips (object es) b x c h r = absurd h
pairs_node f R only pass o n skips null b x c h r = absurd (let w = only _ c r in let e = w.1 in cc)
pairs_node f R only pass o n skips other b x c h r = absurd (let w = only _ c r in let e = w.1 in cc)

pub pairs_handled : (f : ℕ → ℕ → WantedPairs → Reader Unit) (R : Meaning) → ReadsObjects R → PairsPass f R → Handles pairs_at (λ o n w. f o (inside w n) w) R
pairs_handled f R only pass = record {
  node = pairs_node f R only pass;
  skipped = λ o n x c r. absurd (let w = only _ c r in let e = w.1 in cc);
  key = λ o n s b x c h r. let w = only _ c r in key_no_object s w.0 w.1;
  named = λ o n s x c r. let w = only _ c r in key_no_object s w.0 w.1;
  of_row = λ o n ks fs b x c even h r. pass o n (fields_of_row ks) (expand_fields ks fs) b x c (row_fills n ks fs b even h) r;
}
