-- The message that the words of a tape tell, and its size.
use Rattle.std.proofs.Common.{◌≡◌, ◌⊎◌, inl, inr, ◌≤◌, ◌<◌, ◌+◌, ◌-◌, ◌^◌, min, ℕ, List, [], ◌∷◌, ◌++◌, length, take, Some, refl, sym, ap, subst, ◌∙◌, arith}
use Rattle.std.proofs.lemmas.Bool.{cases_lt}
use Rattle.std.proofs.lemmas.List.{length-append}
use Rattle.std.proofs.lemmas.Option.{same_Some}
use Rattle.std.specs.Int.{w32, to_le_bytes}
use Rattle.bser_format.specs.Canonical.{least_integer, least_count, canonical_message}
use Rattle.bser_format.specs.Grammar.{Bytes, SpellsCount}
use Rattle.bser_format.proofs.Canon.{count_spelled, joined}
use Rattle.bser_format.proofs.Least.{least_count_grows}
use Rattle.bser_format.proofs.Lengths.{length-message}
use Rattle.bser_format.proofs.Sizes.{length_then}
use Rattle.bser_c.specs.Fronts.{Put}
use Rattle.bser_c.specs.Parts.{header_of, parts, size_with_header, with_header}
use Rattle.bser_c.specs.Tape.{HasTape}
use Rattle.bser_c.specs.Untaped.{AgreeUpTo, AreTape, AreToldBy, LiesIn, RefusesTape, RefusesWords, WantsBytes}
use Rattle.bser_c.specs.declared.front.Front.{Front}
use Rattle.bser_c.specs.declared.untape.TapeError.{TapeError}
use Rattle.bser_c.specs.declared.untape.TapeError.TheVariants.{Invalid, TooLong, Memory}
use Rattle.bser_c.proofs.Says.{says_all}
use Rattle.bser_c.proofs.Told.{tree_told}

length-header : (n : ℕ) → length (header_of n) ≡ 6 + length (least_count n)
length-header n = omega (arith, length-append (to_le_bytes w32 0) (least_count n))

pub length-with_header : (b : List ℕ) → length (with_header b) ≡ 6 + length (least_count (length b)) + length b
length-with_header b = omega (arith, length-append (header_of (length b)) b, length-header (length b))

few : (n : ℕ) → n < 2 ^ 56 → length (least_count n) ≤ 9
unfolding least_integer
few n h = least_count_grows n (2 ^ 56) (omega (arith, h))

-- ---- a tape

-- what the words of a tape tell: a message of its tree, as long as the canonical one
record TapeTold (strings words : List ℕ) (tape : AreTape strings words) : Type 0 where
  body : List ℕ
  told : parts strings words ≡ Some body
  has : HasTape 128 strings 0 (with_header body) words
  size : length (with_header body) ≡ length (canonical_message tape.has.tree)

tape_told : (strings words : List ℕ) (tape : AreTape strings words) → TapeTold strings words tape
tape_told strings words tape =
    let has = tape.has in
    let m = has.message in
    let short = tape.short in
    let whole = m.whole in
    let body_short : length m.body < 2 ^ 56 - 1 = omega (arith, short, length_then whole, length_then whole.second, length_then whole.second.second, ap length whole.second.second.second) in
    let t = tree_told strings 128 has.tree m.body words m.value body_short has.keys has.tape in
    let least = t.least in
    let len : length t.body < 2 ^ 56 - 1 = omega (arith, body_short, least) in
    let header = length-with_header t.body in
    record {
      body = t.body;
      told = says_all strings words t.body t.says;
      has = record {
        tree = has.tree;
        message = record {
          body = t.body;
          capabilities = omega arith;
          whole = joined (Bytes (0 ∷ 2 ∷ [])) _ (0 ∷ 2 ∷ []) _ refl (joined (Bytes (to_le_bytes w32 0)) _ (to_le_bytes w32 0) _ refl
              (joined (SpellsCount (length t.body)) (Bytes t.body) (least_count (length t.body)) t.body (count_spelled (length t.body) (omega (arith, len))) refl));
          value = t.spelled;
          short = omega (arith, header, few (length t.body) (omega (arith, len)), len);
        };
        keys = has.keys;
        tape = has.tape;
      };
      size = omega (arith, header, length-message has.tree, t.sized, ap (λ n. length (least_count n)) t.sized);
    }

-- ---- what is refused

-- words that tell a message of so many bytes
wants : (strings words body : List ℕ) (size : ℕ) → parts strings words ≡ Some body → size ≡ size_with_header body → WantsBytes strings words size
wants strings words body size told is = record {
  body = body;
  told = told;
  size_is = is;
  message = λ tape. (
      let t = tape_told strings words tape in
      let same : t.body ≡ body = same_Some t.body body (sym t.told ∙ told) in
      let short = t.has.message.short in
      let size = t.size in
      omega (arith, is, short, size, ap (λ b. length (with_header b)) same)
      );
}

pub refused_words : (strings words : List ℕ) (e : TapeError) → RefusesWords strings words e → RefusesTape strings words e
refused_words strings words (Invalid at) h = (λ tape. (let t = tape_told strings words tape in let told = t.told in let none = h.0 in cc), inl h.1)
refused_words strings words (TooLong size) h = wants strings words h.0 size h.1 h.2
refused_words strings words Memory h = tt

pub refused_compared : (strings words message : List ℕ) (e : TapeError) → AreToldBy strings words message → (HasTape 128 strings 0 message words → e ≡ Memory) → ((room : ℕ) → LiesIn (length words) room e) → AgreeUpTo strings words e → RefusesTape strings words e
refused_compared strings words message (Invalid at) told memory place agree = (
  λ tape. (
      let t = tape_told strings words tape in
      let same : t.body ≡ told.body = same_Some t.body told.body (sym t.told ∙ told.told) in
      let is : message ≡ with_header t.body = told.whole ∙ ap (λ b. with_header b) (sym same) in
      let refused = memory (subst (λ b. HasTape 128 strings 0 b words) (sym is) t.has) in
      cc
      ),
  inr (record { body = told.body; told = told.told; before = agree }),
)
refused_compared strings words message (TooLong size) told memory place agree = absurd (omega (arith, place size))
refused_compared strings words message Memory told memory place agree = tt

-- ---- what is written

-- a size that was added up, at most the greatest usize
pub told_size : (strings words body : List ℕ) (n s size : ℕ) → parts strings words ≡ Some body → n ≡ min (length body) (2 ^ 64 - 1) → s ≡ length (least_count n) → size ≡ min (6 + s + n) (2 ^ 64 - 1) → size ≡ size_with_header body
told_size strings words body n s size told is spelled added = go (cases_lt (2 ^ 64 - 1) (length body))
  where
    go : ((2 ^ 64 - 1 < length body) ⊎ (length body ≤ 2 ^ 64 - 1)) → size ≡ size_with_header body
    go (inl more) = omega (arith, more, is, added, length-with_header body)
    go (inr less) =
        let exact : n ≡ length body = omega (arith, is, less) in
        omega (arith, exact, added, spelled, ap (λ k. length (least_count k)) exact, length-with_header body)

-- the header and the parts were put at the front of a slice
pub written : (strings words body : List ℕ) (n len : ℕ) (before after : Front) (out : List ℕ) → (after.out.ghost_name ≡ before.out.ghost_name → out ≡ after.out.now) → len ≡ after.len → parts strings words ≡ Some body → n ≡ min (length body) (2 ^ 64 - 1) → n < 2 ^ 63 → before.len ≡ 0
    → (bytes : List ℕ) × (parts strings words ≡ Some bytes) × Put before after (header_of n ++ bytes) → AreToldBy strings words (take len out)
written strings words body n len before after out lent len_is told is small fresh (bytes, told_too, put) =
    let same : body ≡ bytes = same_Some body bytes (sym told ∙ told_too) in
    let exact : n ≡ length bytes = omega (arith, is, small, ap length same) in
    let nothing : take before.len before.out.now ≡ [] = ap (λ k. take k before.out.now) fresh in
    record {
      body = bytes;
      told = told_too;
      whole = ap (λ k. take k out) len_is ∙ ap (λ o. take after.len o) (lent put.through) ∙ put.put ∙ ap (λ f. f ++ (header_of n ++ bytes)) nothing ∙ ap (λ k. header_of k ++ bytes) exact;
    }

-- what was measured has room
pub room_left : (strings words body : List ℕ) (n s size room before : ℕ) → parts strings words ≡ Some body → n ≡ min (length body) (2 ^ 64 - 1) → s ≡ length (least_count n) → size ≡ min (6 + s + n) (2 ^ 64 - 1) → size ≤ room → room < 2 ^ 63 → before ≡ 0 → ((bytes : List ℕ) → parts strings words ≡ Some bytes → room < before + length (header_of n ++ bytes)) → ⊥
room_left strings words body n s size room before told is spelled added fits short fresh full =
    let more = full body told in
    omega (arith, more, is, spelled, added, fits, short, fresh, length-append (header_of n) body, length-header n)
