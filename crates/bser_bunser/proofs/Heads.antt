-- The head of a message.
use Rattle.std.proofs.Common.{◌≡◌, ℕ, ◌-◌, ◌≤◌, ◌<◌, ◌^◌, max, false, List, [], ◌∷◌, ◌++◌, length, bytes_eq, refl, sym, ap, subst, arith}
use Rattle.std.specs.Prelude.{ℤ, pos}
use Rattle.std.specs.Int.{w32, to_le_bytes}
use Rattle.std.proofs.lemmas.Bool.{false_from_ne_true}
use Rattle.std.proofs.lemmas.Slice.Eq.{bytes_eq-Decides}
use Rattle.bser_format.specs.declared.errors.Error.{Error}
use Rattle.bser_format.specs.declared.errors.Error.TheVariants.{DeInvalidMagic}
use Rattle.bser_format.specs.Named as named
use Rattle.bser_source.specs.Window.{Window, Took, Expects, with_limit}
use Rattle.bser_source.proofs.Windows.{took_then}
use Rattle.bser_bunser.specs.Names.{Names}
use Rattle.bser_bunser.specs.Tagged.{TookInt, TookHead}
use Rattle.bser_bunser.proofs.Readers.{after_magic, after_four, head_after_magic, magic_after_four, other_magic}
use Rattle.bser_bunser.proofs.Names.{names_first, names_untaken, names_taken}

-- ---- what was taken

-- a source of which only the limit was changed afterwards
relimited : (a b c : Window) (text : List ℕ) → c ≡ with_limit c.limit b → Took a b text
    → Took a (with_limit a.limit c) text
relimited a b c text same took =
    let k : with_limit a.limit c ≡ with_limit a.limit b = ap (with_limit a.limit) same in
    subst (λ s. Took a s text) (sym k) (record {
      more = took.more;
      bytes = took.bytes;
      octets = took.octets;
      device = took.device;
      within =
          λ x h. (let w : length b.buffered ≤ max (b.limit - b.count) x = took.within x h in omega (arith, w, took.limit));
      count = took.count;
      limit = refl;
      lends = took.lends;
      working = took.working;
      failed = took.failed;
      failures = took.failures;
      through = took.through;
    })

pub took_head : (a b c d e : Window) (n size : ℕ) (out : ℤ) → out ≡ pos size → n < 2 ^ 32
    → Took a b (0x00 ∷ 0x02 ∷ []) → Took b c (to_le_bytes w32 n) → TookInt c d (pos size)
    → Expects d e size → TookHead a e n out
took_head a b c d e n size out same small magic four number expects =
    let rest = to_le_bytes w32 n ++ number.text in
    let took = took_then a b d (0x00 ∷ 0x02 ∷ []) rest magic (took_then b c d (to_le_bytes w32 n) number.text four number.took) in
    let count : e.count ≡ d.count = ap (λ s. s.count) expects.same in
    record {
      text = (0x00 ∷ 0x02 ∷ []) ++ rest;
      size = size;
      value = same;
      head = (
        small,
        record {
          front = 0x00 ∷ 0x02 ∷ [];
          rest = rest;
          whole = refl;
          first = refl;
          second = record {
            front = to_le_bytes w32 n;
            rest = number.text;
            whole = refl;
            first = refl;
            second = number.spelled;
          };
        },
      );
      took = relimited a d e _ expects.same took;
      kept = omega (arith, took.limit, expects.kept);
      limit = omega (arith, count, took.limit, expects.most);
    }

-- ---- how it is refused

-- two bytes are no magic
pub not_magic : (s : List ℕ) → (s ≡ 0x00 ∷ 0x02 ∷ [] → ⊥) → bytes_eq s (0x00 ∷ 0x02 ∷ []) ≡ false
not_magic s other =
    false_from_ne_true (bytes_eq s (0x00 ∷ 0x02 ∷ [])) (λ e. other ((bytes_eq-Decides s (0x00 ∷ 0x02 ∷ [])).0 e))

pub magic_names : (s : List ℕ) (a b : Window) → length s ≡ 2 → bytes_eq s (0x00 ∷ 0x02 ∷ []) ≡ false
    → Took a b s → Names named.magic (DeInvalidMagic s) a
magic_names s a b two other took =
    names_taken named.magic (DeInvalidMagic s) a b s (λ x. other_magic s x two other) took

pub head_four_names : (e : Error) (a b : Window) → Took a b (0x00 ∷ 0x02 ∷ [])
    → Names (named.front 4) e b → Names named.head e a
head_four_names e a b magic h =
    names_untaken named.head after_magic e a b (0x00 ∷ 0x02 ∷ []) head_after_magic magic (names_first (named.front 4) after_four e b h)

pub head_size_names : (n : ℕ) (e : Error) (a b c : Window) → Took a b (0x00 ∷ 0x02 ∷ [])
    → Took b c (to_le_bytes w32 n) → Names named.size e c → Names named.head e a
head_size_names n e a b c magic four h =
    names_untaken named.head after_magic e a b (0x00 ∷ 0x02 ∷ []) head_after_magic magic
    (names_untaken after_magic (after_four (to_le_bytes w32 n)) e b c (to_le_bytes w32 n) (magic_after_four n) four (names_first named.size _ e c h))
