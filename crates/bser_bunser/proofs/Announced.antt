-- A source to which bytes were announced before a header is read.
use Rattle.std.proofs.Common.{◌≡◌, ℕ, ◌+◌, ◌-◌, ◌≤◌, max, List, ◌∷◌, ◌++◌, length, length-append, refl, sym, ap, subst, ◌∙◌, arith, inl, inr}
use Rattle.std.specs.Prelude.{ℤ}
use Rattle.std.specs.Int.{w32, to_le_bytes, cast_unsigned}
use Rattle.bser_format.specs.Grammar.{IntSize, int8, int16, int32, int64, tag_of, width_of, SpellsInteger}
use Rattle.bser_format.specs.Message.{Head}
use Rattle.bser_format.specs.Named as named
use Rattle.bser_format.specs.declared.errors.Error.{Error}
use Rattle.bser_format.specs.declared.errors.Error.TheVariants.{DeReaderError, OutOfMemory}
use Rattle.bser_format.specs.declared.errors.ReadCause.TheVariants.{Eof, Utf8, Reader, Memory, Failed}
use Rattle.bser_format.proofs.Fronts.{length-le_bytes}
use Rattle.bser_source.specs.Window.{Window, Within, Expects, with_limit}
use Rattle.bser_bunser.specs.Names.{Blame, Names, Outside, RefusedAs, RefusesBy}
use Rattle.bser_bunser.specs.Refusal.{Fails}
use Rattle.bser_bunser.specs.Tagged.{TookHead}

-- ---- how long a header is

integer_length : (v : ℤ) (b : List ℕ) → SpellsInteger v b → 2 ≤ length b
integer_length v b spelled = rw spelled.spelled (at_least spelled.size)
  where
    at_least : (s : IntSize) → 2 ≤ length (tag_of s ∷ to_le_bytes (width_of s) (cast_unsigned (width_of s) v))
    at_least int8 = omega (arith, length-le_bytes int8 (cast_unsigned (width_of int8) v))
    at_least int16 = omega (arith, length-le_bytes int16 (cast_unsigned (width_of int16) v))
    at_least int32 = omega (arith, length-le_bytes int32 (cast_unsigned (width_of int32) v))
    at_least int64 = omega (arith, length-le_bytes int64 (cast_unsigned (width_of int64) v))

pub head_length : (c k : ℕ) (b : List ℕ) → Head c k b → 8 ≤ length b
head_length c k b (fits, parts) =
    let rest = parts.second in
    let number = integer_length _ rest.rest rest.second in
    let four : length rest.front ≡ 4 = ap length rest.first ∙ length-le_bytes int32 c in
    omega (arith, number, four, ap length parts.first, ap length parts.whole, ap length rest.whole, length-append parts.front parts.rest, length-append rest.front rest.rest)

-- ---- a header was taken

limited_head : (l : ℕ) (a c : Window) (n : ℕ) (out : ℤ) → a.limit ≤ l → l ≤ max a.limit (a.count + 8)
    → TookHead (with_limit l a) c n out → TookHead a c n out
limited_head l a c n out more most t =
    let long = head_length n t.size t.text t.head in
    record {
      text = t.text;
      size = t.size;
      value = t.value;
      head = t.head;
      took = record {
        more = t.took.more;
        bytes = t.took.bytes;
        octets = t.took.octets;
        device = t.took.device;
        within = λ x h. (let w : length c.buffered ≤ max (l - c.count) x = t.took.within x (omega (arith, h, more)) in omega (arith, w, most, long, t.took.count));
        count = t.took.count;
        limit = refl;
        lends = t.took.lends;
        working = t.took.working;
        failed = t.took.failed;
        failures = t.took.failures;
        through = t.took.through;
      };
      kept = omega (arith, more, t.kept);
      limit = omega (arith, most, long, t.took.count, t.limit);
    }

pub head_announced : (a b c : Window) (n : ℕ) (out : ℤ) → Expects a b 8 → TookHead b c n out → TookHead a c n out
head_announced a b c n out expects t =
    limited_head b.limit a c n out expects.kept expects.most (subst (λ s. TookHead s c n out) expects.same t)

-- ---- how it is refused

outside_limited : (P : Blame) (e : Error) (l : ℕ) (a : Window) → Outside P e (with_limit l a) → Outside P e a
outside_limited P OutOfMemory l a h = h
outside_limited P (DeReaderError Eof) l a h = absurd h
outside_limited P (DeReaderError Utf8) l a h = absurd h
outside_limited P (DeReaderError (Reader fault)) l a h = h
outside_limited P (DeReaderError Memory) l a h = absurd h
outside_limited P (DeReaderError Failed) l a (inl h) = inl h
outside_limited P (DeReaderError Failed) l a (inr (copies, o)) =
    inr (
      copies,
      record {
        text = o.text;
        comes = record { more = o.comes.more; whole = o.comes.whole; known = o.comes.known };
        few = o.few;
        long = o.long;
      },
    )
outside_limited P e l a h = absurd h

names_limited : {X : Type 0} (r : named.Reader X) (e : Error) (l : ℕ) (a : Window) → Names r e (with_limit l a) → Names r e a
names_limited r e l a (inl (x, m, p)) = inl (x, record { more = m.more; whole = m.whole; known = m.known }, p)
names_limited r e l a (inr h) = inr (outside_limited (RefusedAs r) e l a h)

limited_refused : {X : Type 0} (r : named.Reader X) (e : Error) (l : ℕ) (a c : Window) → RefusesBy r e (with_limit l a) c → RefusesBy r e a c
limited_refused r e l a c h = record {
  err = record { before = h.err.before; failed = h.err.failed; lends = h.err.lends; through = h.err.through; failures = h.err.failures };
  names = names_limited r e l a h.names;
  memory = h.memory;
}

pub announced_refused : {X : Type 0} (r : named.Reader X) (e : Error) (n : ℕ) (a b c : Window) → Expects a b n → RefusesBy r e b c → RefusesBy r e a c
announced_refused r e n a b c expects h =
    limited_refused r e b.limit a c (subst (λ s. RefusesBy r e s c) expects.same h)
