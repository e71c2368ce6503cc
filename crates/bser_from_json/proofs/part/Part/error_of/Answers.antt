-- The fault of a refusal, at its place.
use Rattle.std.proofs.Common.{◌≡◌, ℕ, ◌+◌, ◌-◌, ◌∙◌, List, Some, Result, Ok, Err, IfOk, sym, ap, drop, rules}
use Rattle.std.specs.declared.alloc.AllocError.{AllocError}
use Rattle.bser_from_json.specs.Errors.{IsAt, IsErrorOf, fault_in}
use Rattle.bser_from_json.specs.Lines.{place_in}
use Rattle.bser_from_json.specs.Made.{Outcome}
use Rattle.bser_from_json.specs.Places.{first_fault, place_behind, token_place}
use Rattle.bser_from_json.specs.declared.fault.JsonError.{JsonError}
use Rattle.bser_from_json.specs.declared.fault.JsonError.TheVariants as errors
use Rattle.bser_from_json.specs.declared.fault.JsonFault.{JsonFault}
use Rattle.bser_from_json.proofs.part.Part.error_of.Goals as goal

is_error : (whole text : List ℕ) (start n : ℕ) (o : Outcome) (f : JsonFault) (e : JsonError) → fault_in text o ≡ Some (f, n) → IsAt f (place_in whole (start + n)) e → IsErrorOf whole text start o e
is_error whole text start n o f (errors.Text g p) there at = (n, there ∙ ap (λ h. Some (h, n)) (sym at.0), at.1)
is_error whole text start n o f errors.OutOfMemory there at = tt

may_be_error : (whole text : List ℕ) (start n : ℕ) (o : Outcome) (f : JsonFault) (r : Result JsonError AllocError) → fault_in text o ≡ Some (f, n) → IfOk r (IsAt f (place_in whole (start + n))) → IfOk r (IsErrorOf whole text start o)
may_be_error whole text start n o f (Ok e) there at = is_error whole text start n o f e there at
may_be_error whole text start n o f (Err e) there at = tt

pub returns-in-At : goal.returns-in-At
returns-in-At c o h =
    let text = c.args.self.text.now in
    let refused = rw c.in-At.is at h in
    let place : c.token_place.result ≡ token_place text (c.in-At.number - 1) = search rules in
    let there : fault_in text o ≡ Some (c.in-At.fault, c.token_place.result) = ap (fault_in text) refused ∙ ap (λ k. Some (c.in-At.fault, k)) (sym place) in
    is_error c.args.self.whole.now text c.args.self.start c.token_place.result o c.in-At.fault c.error_at.result there c.error_at.ensures

pub returns-in-Lacks : goal.returns-in-Lacks
returns-in-Lacks c o h =
    let text = c.args.self.text.now in
    let offset = c.token_place-in-Lacks.result in
    let refused = rw c.in-Lacks.is at h in
    let place : offset ≡ token_place text c.in-Lacks.count = search rules in
    let there : fault_in text o ≡ Some (first_fault (drop offset text), offset) = ap (fault_in text) refused ∙ ap (λ k. Some (first_fault (drop k text), k)) (sym place) in
    may_be_error c.args.self.whole.now text c.args.self.start offset o (first_fault (drop offset text)) c.lack_at.result there c.lack_at.ensures

pub returns-in-Breaks : goal.returns-in-Breaks
returns-in-Breaks c o h =
    let text = c.args.self.text.now in
    let offset = c.place_behind.result in
    let refused = rw c.in-Breaks.is at h in
    let place : offset ≡ place_behind text c.in-Breaks.count = search rules in
    let there : fault_in text o ≡ Some (first_fault (drop offset text), offset) = ap (fault_in text) refused ∙ ap (λ k. Some (first_fault (drop k text), k)) (sym place) in
    may_be_error c.args.self.whole.now text c.args.self.start offset o (first_fault (drop offset text)) c.lack_at-in-Breaks.result there c.lack_at-in-Breaks.ensures
