-- Where a refusal lies.
use Rattle.std.proofs.Common.{◌≡◌, ◌-◌, ◌≤◌, ℕ, true, false, sym, ap, ◌∙◌, arith}
use Rattle.std.specs.Prelude.{ℤ, pos, negsuc, Bool, Option, Some, None, if◌then◌else◌}
use Rattle.bser_format.specs.declared.errors.Error.{Error}
use Rattle.bser_deserializer.specs.declared.note.Note.{Note}
use Rattle.bser_messages.specs.declared.description.Description.{Description}
use Rattle.bser_messages.specs.Descriptions.{LiesWithin, before, cause_of, is_early_end, is_taken, place_of, place_in}

-- none of these places lies behind the input
no_more : (begun : Option ℕ) (count : ℤ) (len : ℕ) → before begun count len ≤ len
no_more (Some n) count len = omega arith
no_more None (pos n) len = omega arith
no_more None (negsuc n) len = omega arith

least : (b c : Bool) (n len : ℕ) → n ≤ len → (if b then len else if c then n - 1 else n) ≤ len
least true c n len h = omega arith
least false true n len h = omega (arith, h)
least false false n len h = h

-- no place lies behind the input, and an early end lies at its end
pub lies_within : (e : Error) (n : Note) (count : ℤ) (len : ℕ) (d : Description) → cause_of d ≡ e → place_of d ≡ place_in e n count len → LiesWithin len d
lies_within e n count len d cause place =
    let at : ℕ = before n.begun count len in
    record {
      place = omega (arith, place, least (is_early_end e) (is_taken e n) at len (no_more n.begun count len));
      end = λ eof. place ∙ ap (λ b. if b then len else if is_taken e n then at - 1 else at) (ap is_early_end (sym cause ∙ eof));
    }
