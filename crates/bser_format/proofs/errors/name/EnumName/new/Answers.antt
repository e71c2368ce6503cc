-- What is kept is the front that was copied.
use Rattle.std.proofs.Common.{◌≡◌, ◌≤◌, ◌<◌, ◌-◌, ◌++◌, List, ℕ, length, take, drop, replicate, sym, ap, ◌∙◌, arith}
use Rattle.std.proofs.lemmas.List.{take-append-drop, length-take-le, drop-replicate}
use Rattle.std.proofs.lemmas.Grind.{common_steps}
use Rattle.std.proofs.lemmas.Str.{IsCharBoundary-end}
use Rattle.std.proofs.Math.Seq.{take-append_seam, take-length}
use Rattle.std.specs.Str.{IsCharBoundary}
use Rattle.bser_format.proofs.EnumNames.{whole_known, same_name}
use Rattle.bser_format.proofs.errors.name.EnumName.new.Goals as goal

kept_front : (name copied zeros : List ℕ) (end : ℕ) → end ≤ length name → copied ≡ take end name → take end (copied ++ zeros) ≡ take end name
kept_front name copied zeros end within same =
    let len : length copied ≡ end = ap length same ∙ length-take-le end name within in
    ap (λ n. take n (copied ++ zeros)) (sym len) ∙ take-append_seam copied zeros ∙ same

-- what is longer than what is kept ends later
past_end : (name copied zeros : List ℕ) (end i : ℕ) → end ≤ length name → copied ≡ take end name → length (take end (copied ++ zeros)) < i → end < i
past_end name copied zeros end i within same above =
    let len : length (take end (copied ++ zeros)) ≡ end = ap length (kept_front name copied zeros end within same) ∙ length-take-le end name within in
    omega (arith, len, above)

-- the whole name, and zeros up to 60 bytes
front_and_zeros : (name copied : List ℕ) (end : ℕ) → end ≡ length name → copied ≡ take end name → copied ++ drop end (replicate 60 0) ≡ name ++ replicate (60 - length name) 0
front_and_zeros name copied end all same =
    ap (λ cs. cs ++ drop end (replicate 60 0)) (same ∙ ap (λ n. take n name) all ∙ take-length name)
    ∙ ap (λ zs. name ++ zs) (drop-replicate end 60 0 ∙ ap (λ n. replicate (60 - n) 0) all)

-- a text that is no longer than the capacity is kept to its end
at_end : (name : List ℕ) (end : ℕ) → end ≤ length name → ((i : ℕ) → end < i → i ≤ 60 → ¬ (IsCharBoundary name i)) → length name ≤ 60 → end ≡ length name
at_end name end within nearest small = omega (arith, λ (l : end < length name). nearest (length name) l small (IsCharBoundary-end name))

pub returns-clause-whole : goal.returns-clause-whole
returns-clause-whole c small =
    let end = c.floor_char_boundary-end.result in
    let name = c.args.name.now in
    let copied : c.copy_from_slice.new.self ≡ take end name = grind (arith, common_steps, c.copy_from_slice.ensures.after, c.as_bytes.ensures.value, c.range-front.ensures.value) in
    let all : end ≡ length name = at_end name end c.floor_char_boundary-end.ensures.boundary.0 c.floor_char_boundary-end.ensures.nearest small in
    kept_front name c.copy_from_slice.new.self _ end c.floor_char_boundary-end.ensures.boundary.0 copied ∙ ap (λ n. take n name) all ∙ take-length name

pub returns-clause-front : goal.returns-clause-front
returns-clause-front c =
    let end = c.floor_char_boundary-end.result in
    let name = c.args.name.now in
    let copied : c.copy_from_slice.new.self ≡ take end name = grind (arith, common_steps, c.copy_from_slice.ensures.after, c.as_bytes.ensures.value, c.range-front.ensures.value) in
    let front = kept_front name c.copy_from_slice.new.self _ end c.floor_char_boundary-end.ensures.boundary.0 copied in
    (drop end name, sym (take-append-drop end name) ∙ ap (λ k. k ++ drop end name) (sym front))

pub returns-clause-longest : goal.returns-clause-longest
returns-clause-longest c i above within =
    let end = c.floor_char_boundary-end.result in
    let name = c.args.name.now in
    let inside : end ≤ length name = c.floor_char_boundary-end.ensures.boundary.0 in
    let copied : c.copy_from_slice.new.self ≡ take end name = grind (arith, common_steps, c.copy_from_slice.ensures.after, c.as_bytes.ensures.value, c.range-front.ensures.value) in
    c.floor_char_boundary-end.ensures.nearest i (past_end name c.copy_from_slice.new.self _ end i inside copied above) within

pub returns-clause-known : goal.returns-clause-known
returns-clause-known c enum is =
    let end = c.floor_char_boundary-end.result in
    let name = c.args.name.now in
    let whole = whole_known name enum is in
    let inside : end ≤ length name = c.floor_char_boundary-end.ensures.boundary.0 in
    let copied : c.copy_from_slice.new.self ≡ take end name = grind (arith, common_steps, c.copy_from_slice.ensures.after, c.as_bytes.ensures.value, c.range-front.ensures.value) in
    let all : end ≡ length name = at_end name end inside c.floor_char_boundary-end.ensures.nearest whole.short in
    same_name _ enum (front_and_zeros name c.copy_from_slice.new.self end all copied ∙ sym whole.bytes) (all ∙ sym whole.len)
