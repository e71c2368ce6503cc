-- Behind the capabilities of a header that is refused stands the length of a body, or a byte that is
-- told.
use Rattle.std.proofs.Common.{◌≡◌, ◌≢◌, ◌≤◌, ◌<◌, ◌+◌, ◌-◌, ℕ, Bool, true, false, cond, List, [], ◌∷◌, ◌++◌, length, take, drop, inl, inr, ◌⊎◌, bytes_eq, append_assoc, refl, sym, ap, subst, ◌∙◌, arith}
use Rattle.std.specs.Prelude.{ℤ, pos}
use Rattle.std.proofs.lemmas.Bool.{cases_lt, le-ltb}
use Rattle.std.proofs.lemmas.List.{length-append, length-drop, drop-drop, drop_at, take_all}
use Rattle.std.specs.Int.{w32, from_le_bytes}
use Rattle.bser_format.specs.Grammar.{SpellsInteger}
use Rattle.bser_format.specs.declared.errors.Complaint.TheVariants.{NegativeLength}
use Rattle.bser_format.specs.declared.errors.Error.{Error}
use Rattle.bser_format.specs.declared.errors.Error.TheVariants.{DeInvalidMagic, DeInvalidStartByte}
use Rattle.bser_format.specs.declared.errors.Kind.{Kind}
use Rattle.bser_format.specs.declared.errors.Kind.TheVariants.{Integer}
use Rattle.bser_format.specs.Named as named
use Rattle.bser_format.specs.Named.{Answer, Reader, and_then, ◌>>=◌, eof, give, reads, refuse, refuses}
use Rattle.bser_bunser.specs.Names.{IsCutInteger}
use Rattle.bser_bunser.specs.Prefixes.{CutInt, IntTagged, IsIntPrefix}
use Rattle.bser_bunser.specs.declared.prefix.Prefix.{Prefix}
use Rattle.bser_bunser.specs.declared.prefix.Prefix.TheVariants as prefixes
use Rattle.bser_bunser.specs.declared.prefix.Unexpected.TheVariants as unexpected
use Rattle.bser_bunser.proofs.Readers.{after_four, after_magic, cut_front, int_cut, int_there, nothing, other_after}
use Rattle.bser_messages.specs.Lengths.{RefusesLength, TooGreat}
use Rattle.bser_c.specs.Direct.{Stands}
use Rattle.bser_c.specs.Failures.{IsPlaceInHead}

-- ---- the plain reader of a header

front_long : (n : ℕ) (b : List ℕ) → n ≤ length b → named.front n b ≡ reads (take n b) (drop n b)
front_long n b h = ap (λ c. cond c (refuses eof) (reads (take n b) (drop n b))) (le-ltb (length b) n h)

-- what follows so many bytes is refused by itself
record Behind {X : Type 0} (n : ℕ) (k : List ℕ → Reader X) (b : List ℕ) (e : Error) : Type 0 where
  enough : n ≤ length b
  rest : k (take n b) (drop n b) ≡ refuses e

behind : {X : Type 0} (n : ℕ) (k : List ℕ → Reader X) (b : List ℕ) (e : Error) → (named.front n >>= k) b ≡ refuses e → e ≢ eof → Behind n k b e
behind n k b e h whole = go (cases_lt (length b) n)
  where
    go : ((length b < n) ⊎ (n ≤ length b)) → Behind n k b e
    go (inl less) = absurd (whole (let early = ap (and_then k) (cut_front n b less) in cc))
    go (inr more) = record { enough = more; rest = sym (ap (and_then k) (front_long n b more)) ∙ h }

-- the magic, or its error
abbrev magic_or : List ℕ → Reader (List ℕ)
magic_or s = cond (bytes_eq s (0x00 ∷ 0x02 ∷ [])) (give s) (refuse (DeInvalidMagic s))

head_first : (b : List ℕ) → named.head b ≡ (named.front 2 >>= (λ s. magic_or s >>= λ m. after_magic)) b
head_first b = go (named.front 2 b)
  where
    go : (a : Answer (List ℕ)) → and_then (λ m. after_magic) (and_then magic_or a) ≡ and_then (λ s. magic_or s >>= λ m. after_magic) a
    go (reads s r) = refl
    go (refuses e) = refl

-- the magic is another, or six bytes are there, and what is refused behind them has this error
data Fault (b : List ℕ) (e : Error) : Type 0 where
  in_magic : (m : List ℕ) → e ≡ DeInvalidMagic m → 2 ≤ length b → Fault b e
  in_length : 6 ≤ length b → ((f : Error) → named.int (drop 6 b) ≡ refuses f → f ≡ e) → Fault b e

-- the same, where the header alone is refused
length_refused : (c : List ℕ) (x : List ℕ) (e f : Error) → after_four c x ≡ refuses e → named.int x ≡ refuses f → f ≡ e
length_refused c x e f h is =
    let early : after_four c x ≡ refuses f = ap (λ a. and_then (λ k. give (from_le_bytes w32 c, k)) (and_then (named.natural NegativeLength) a)) is in
    let same : refuses f ≡ refuses e = sym early ∙ h in
    cc

head_fault : (b : List ℕ) (e : Error) → named.head b ≡ refuses e → e ≢ eof → Fault b e
head_fault b e h whole =
    let two = behind 2 (λ s. magic_or s >>= λ m. after_magic) b e (sym (head_first b) ∙ h) whole in
    go (bytes_eq (take 2 b) (0x00 ∷ 0x02 ∷ [])) two.enough two.rest
  where
    go : (same : Bool) → 2 ≤ length b → and_then (λ m. after_magic) (cond same (give (take 2 b)) (refuse (DeInvalidMagic (take 2 b))) (drop 2 b)) ≡ refuses e → Fault b e
    go true enough k =
        let four = behind 4 after_four (drop 2 b) e k whole in
        let six : drop 4 (drop 2 b) ≡ drop 6 b = drop-drop 4 2 b in
        in_length (omega (arith, four.enough, length-drop 2 b)) (λ f is. length_refused (take 4 (drop 2 b)) (drop 4 (drop 2 b)) e f four.rest (ap named.int six ∙ is))
    go false enough k = in_magic (take 2 b) (let same : refuses (DeInvalidMagic (take 2 b)) ≡ refuses e = k in cc) enough

-- the length of too long a message is there
length_there : (b : List ℕ) (e : Error) → TooGreat b e → Fault b e
length_there b e g =
    let h = g.length.head.1 in
    let number = h.second.rest in
    let six : length (h.front ++ h.second.front) ≡ 6 = omega (arith, length-append h.front h.second.front, ap length h.first, ap length h.second.first) in
    let whole : b ≡ (h.front ++ h.second.front) ++ (number ++ g.length.rest) =
    g.length.front
    ∙ ap (λ t. t ++ g.length.rest) (h.whole ∙ ap (λ r. h.front ++ r) h.second.whole ∙ sym (append_assoc h.front h.second.front number))
    ∙ append_assoc (h.front ++ h.second.front) number g.length.rest in
    let behind_six : drop 6 b ≡ number ++ g.length.rest = ap (λ x. drop 6 x) whole ∙ drop_at (h.front ++ h.second.front) (number ++ g.length.rest) 6 six in
    let read : named.int (drop 6 b) ≡ reads (pos g.length.announced) g.length.rest = ap named.int behind_six ∙ int_there (pos g.length.announced) number h.second.second g.length.rest in
    in_length (omega (arith, ap length whole, length-append (h.front ++ h.second.front) (number ++ g.length.rest), six)) (λ f is. absurd (let none : reads (pos g.length.announced) g.length.rest ≡ refuses f = sym read ∙ is in cc))

fault : (b : List ℕ) (e : Error) → RefusesLength b e → Fault b e
fault b e (inl h) = head_fault b e h.name h.whole
fault b e (inr g) = length_there b e g

-- ---- where it is

-- a magic has two bytes
pub magic_is_there : (b : List ℕ) (e : Error) → RefusesLength b e → 2 ≤ length b
magic_is_there b e h = go (fault b e h)
  where
    go : Fault b e → 2 ≤ length b
    go (in_magic m is enough) = enough
    go (in_length enough one) = omega (arith, enough)

-- what is wrong behind it stands behind six
pub six_are_there : (b : List ℕ) (e : Error) → RefusesLength b e → ((m : List ℕ) → e ≢ DeInvalidMagic m) → 6 ≤ length b
six_are_there b e h other = go (fault b e h)
  where
    go : Fault b e → 6 ≤ length b
    go (in_magic m is enough) = absurd (other m is)
    go (in_length enough one) = enough

-- nothing is refused there but by the error
refused_there : (b : List ℕ) (e f : Error) → RefusesLength b e → ((m : List ℕ) → e ≢ DeInvalidMagic m) → named.int (drop 6 b) ≡ refuses f → f ≡ e
refused_there b e f h other is = go (fault b e h)
  where
    go : Fault b e → f ≡ e
    go (in_magic m same enough) = absurd (other m same)
    go (in_length enough one) = one f is

early_is_none : (b : List ℕ) (e : Error) → RefusesLength b e → e ≢ eof
early_is_none b e (inl h) = h.whole
early_is_none b e (inr g) = λ is. (let none = sym is ∙ g.name in cc)

-- an integer that is cut short is an early end
cut_short : (held : List ℕ) (need : ℕ) → CutInt held need → named.int held ≡ refuses eof
cut_short held need cut = int_cut held (go cut.tagged)
  where
    go : ((need ≤ 1) ⊎ IntTagged held need) → IsCutInteger held
    go (inl one) = inl (nothing held (omega (arith, one, cut.some)))
    go (inr t) = inr (record { size = t.size; rest = drop 1 held; whole = t.next; fewer = omega (arith, cut.some, t.enough, ap length t.next) })

abbrev IsFound : Prefix ℤ → Type 0
IsFound (prefixes.Found v len) = Unit {0}
IsFound _ = ⊥

-- so an integer is there
length_is_there : (b : List ℕ) (e : Error) (p : Prefix ℤ) → RefusesLength b e → ((m : List ℕ) → e ≢ DeInvalidMagic m) → ((kind : Kind) (tag : ℕ) → e ≢ DeInvalidStartByte kind tag)
    → IsIntPrefix (drop 6 b) p → IsFound p
length_is_there b e (prefixes.Found v len) h m k is = tt
length_is_there b e (prefixes.Short need) h m k is =
    early_is_none b e h (sym (refused_there b e eof h m (cut_short (drop 6 b) need is)))
length_is_there b e (prefixes.Unexpected (unexpected.Tag t)) h m k is =
    k Integer t (sym (refused_there b e (DeInvalidStartByte Integer t) h m (ap named.int is.next ∙ other_after (DeInvalidStartByte Integer t) t (drop 1 (drop 6 b)) is.other)))
length_is_there b e (prefixes.Unexpected _) h m k is = is

-- ---- the place

-- of an error that is neither of them
behind_length : (e : Error) (b : List ℕ) (place : ℕ) (len : ℤ) → ((m : List ℕ) → e ≢ DeInvalidMagic m) → ((kind : Kind) (tag : ℕ) → e ≢ DeInvalidStartByte kind tag) → Stands (SpellsInteger len) b 6 place → IsPlaceInHead e b place
behind_length (DeInvalidMagic m) b place len magic tag h = absurd (magic m refl)
behind_length (DeInvalidStartByte kind t) b place len magic tag h = absurd (tag kind t refl)
behind_length _ b place len magic tag h = (len, h)

-- the bytes behind six, as a slice
behind_six : (b : List ℕ) → take (length b - 6) (drop 6 b) ≡ drop 6 b
behind_six b = take_all (length b - 6) (drop 6 b) (omega (arith, length-drop 6 b))

pub found_place : (b : List ℕ) (e : Error) (v : ℤ) (len : ℕ) → RefusesLength b e → ((m : List ℕ) → e ≢ DeInvalidMagic m) → ((kind : Kind) (tag : ℕ) → e ≢ DeInvalidStartByte kind tag)
    → (len ≤ length (take (length b - 6) (drop 6 b))) × SpellsInteger v (take len (take (length b - 6) (drop 6 b))) → IsPlaceInHead e b (6 + len) × (6 + len ≤ length b)
found_place b e v len h magic tag there =
    let found : (len ≤ length (drop 6 b)) × SpellsInteger v (take len (drop 6 b)) = subst (λ l. (len ≤ length l) × SpellsInteger v (take len l)) (behind_six b) there in
    let six = six_are_there b e h magic in
    let within : 6 + len ≤ length b = omega (arith, six, found.0, length-drop 6 b) in
    let less : 6 + len - 6 ≡ len = omega arith in
    (behind_length e b (6 + len) v magic tag (record { forwards = omega arith; within = within; spelled = subst (λ k. SpellsInteger v (take k (drop 6 b))) (sym less) found.1 }), within)

not_found : (p : Prefix ℤ) → IsFound p → ((v : ℤ) (len : ℕ) → p ≢ prefixes.Found v len) → ⊥
not_found (prefixes.Found v len) h other = other v len refl
not_found (prefixes.Short need) h other = h
not_found (prefixes.Unexpected why) h other = h

-- an integer is there
pub always_found : (b : List ℕ) (e : Error) (p : Prefix ℤ) → RefusesLength b e → ((m : List ℕ) → e ≢ DeInvalidMagic m) → ((kind : Kind) (tag : ℕ) → e ≢ DeInvalidStartByte kind tag)
    → IsIntPrefix (take (length b - 6) (drop 6 b)) p → ((v : ℤ) (len : ℕ) → p ≢ prefixes.Found v len) → ⊥
always_found b e p h magic tag is = not_found p (length_is_there b e p h magic tag (subst (λ l. IsIntPrefix l p) (behind_six b) is))
