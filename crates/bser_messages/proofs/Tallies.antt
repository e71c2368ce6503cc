-- What a builder has as more is told.
use Rattle.std.proofs.Common.{◌≡◌, ℕ, zero, suc, ◌+◌, ◌*◌, ◌≤◌, ◌^◌, List, [], ◌∷◌, ◌++◌, reverse, Option, Some, None, option_map, refl, ap, ◌∙◌, arith, inl, inr}
use Rattle.std.specs.Prelude.{unwrap_or}
use Rattle.std.proofs.lemmas.Bool.{cases_lt}
use Rattle.std.proofs.lemmas.List.{reverse-append}
use Rattle.std.proofs.Math.Nat.{mul-le-mul_left}
use Rattle.bser_events.specs.Events.{Event, TakesAll, none as no_more, more}
use Rattle.bser_messages.specs.Sizes.{capped}
use Rattle.bser_messages.specs.Tallies.{Tally, Shows, Takes, counted}
use Rattle.bser_messages.specs.declared.sizing.Sizing.{Sizing}

-- one event after the other
abbrev pub tally : List Event → Tally → Tally
tally [] m = m
tally (e ∷ es) m = tally es (counted e m)

pub tally_append : (xs ys : List Event) (m : Tally) → tally (xs ++ ys) m ≡ tally ys (tally xs m)
tally_append [] ys m = refl
tally_append (x ∷ xs) ys m = tally_append xs ys (counted x m)

pub all_taken : (a : Sizing) (es : List Event) (b : Sizing) → TakesAll Takes a es b → (m : Tally) → Shows a m → Shows b (tally es m)
all_taken a es b (no_more c) m h = h
all_taken a es b (more x y z e rest one others) m h = all_taken y rest z others (counted e m) (one m h)

-- ---- steps

-- a container begins in the innermost
pub nested : (a b : Sizing) (m : Tally) → b.size ≡ a.size → b.template_keys ≡ a.template_keys → b.level ≡ a.level → b.around.items ≡ a.around.items ++ a.level ∷ []
    → Shows a m → Shows b (record m { around = m.level ∷ m.around })
nested a b m size template level around h = record {
  values = ap (λ s. s.values) size ∙ h.values;
  keys = ap (λ s. s.key_bytes) size ∙ h.keys;
  template = template ∙ h.template;
  level = level ∙ h.level;
  depth = ap (λ s. s.depth) size ∙ h.depth;
  around = ap reverse around ∙ reverse-append a.around.items (a.level ∷ []) ∙ ap (λ l. l ∷ reverse a.around.items) h.level ∙ ap (λ l. capped m.level ∷ l) h.around;
}

-- capping a number first changes no product that is capped
capped_times : (k n : ℕ) → capped (capped k * n) ≡ capped (k * n)
capped_times k zero = ap capped (grind arith)
capped_times k (suc n) =
    let more : k ≤ k * suc n = grind (arith, mul-le-mul_left) in
    let most : capped k ≤ capped k * suc n = grind (arith, mul-le-mul_left) in
    elim (cases_lt k (2 ^ 64)) [
      | inl small ↦ ap (λ j. capped (j * suc n)) (omega (arith, small))
      | inr great ↦ omega (arith, great, more, most)
    ]

-- the keys of n rows
rows_keys : (a k : ℕ) (o : Option ℕ) (n : ℕ) → a ≡ capped k → capped (a + capped (unwrap_or (option_map capped o) 0 * n)) ≡ capped (k + unwrap_or o 0 * n)
rows_keys a k None n e = omega (arith, e)
rows_keys a k (Some j) n e = omega (arith, e, capped_times j n)

pub rows_shown : (a b : Sizing) (m : Tally) (n : ℕ) → b.size.values ≡ a.size.values → b.size.key_bytes ≡ capped (a.size.key_bytes + capped (unwrap_or a.template_keys 0 * n)) → b.size.depth ≡ a.size.depth
    → b.template_keys ≡ None → b.level ≡ a.level → b.around ≡ a.around
    → Shows a m → Shows b (record m { keys = m.keys + unwrap_or m.template 0 * n; template = None })
rows_shown a b m n values keys depth template level around h = record {
  values = values ∙ h.values;
  keys = keys ∙ ap (λ t. capped (a.size.key_bytes + capped (unwrap_or t 0 * n))) h.template ∙ rows_keys a.size.key_bytes m.keys m.template n h.keys;
  template = template;
  level = level ∙ h.level;
  depth = depth ∙ h.depth;
  around = ap (λ v. reverse v.items) around ∙ h.around;
}
