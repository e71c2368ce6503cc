-- Tokens at the front.
use Rattle.std.proofs.Common.{◌≡◌, ℕ, ◌+◌, ◌≤◌, ◌<◌, ◌^◌, true, false, List, [], ◌∷◌, ◌++◌, length, take, drop, get_or, append_assoc, refl, sym, ap, subst, ◌∙◌, arith, lit<, inl, inr}
use Rattle.std.specs.Prelude.{ℤ, pos, ◌⊎◌, FitsSigned}
use Rattle.std.specs.Int.{w64, to_le_bytes, from_le_bytes, byte_len}
use Rattle.std.proofs.lemmas.Bool.{ne_eqb}
use Rattle.std.proofs.lemmas.List.{length-drop, length-take, take-append-drop}
use Rattle.bser_format.specs.Grammar.{IntSize, int8, int16, int32, int64, tag_of, width_of, int_bytes, SpellsCount}
use Rattle.bser_format.specs.declared.errors.Error.{Error}
use Rattle.bser_format.specs.declared.errors.Error.TheVariants.{DeInvalidStartByte}
use Rattle.bser_format.specs.declared.errors.Kind.TheVariants.{Integer, NextItem}
use Rattle.bser_format.specs.declared.errors.Complaint.{Complaint}
use Rattle.bser_format.specs.declared.errors.Complaint.TheVariants as complaints
use Rattle.bser_format.proofs.Fronts.{from_to_le_bytes, number_reads}
use Rattle.bser_format.specs.Named as named
use Rattle.bser_format.specs.Named.{eof, refuses, reads, complain, and_then, ◌>>=◌, give}
use Rattle.bser_format.proofs.Steps.{Passes}
use Rattle.bser_source.specs.Window.{Window, AreOctets, consumed}
use Rattle.bser_bunser.specs.Prefixes.{CutInt, BitsPrefix, IsLengthPrefix}
use Rattle.bser_bunser.specs.Refusal.{unexpected_refusal}
use Rattle.bser_bunser.specs.Names.{IsCutInteger}
use Rattle.bser_bunser.specs.Tagged.{TookToken}
use Rattle.bser_bunser.specs.Tokens.{Headed, SpellsToken, LengthFits, token, TooShort, Rejects, IsTokenPrefix, IsCounted, as_count, fault_after}
use Rattle.bser_bunser.specs.declared.prefix.Prefix.TheVariants as prefixes
use Rattle.bser_bunser.specs.declared.prefix.Unexpected.{Unexpected}
use Rattle.bser_bunser.specs.declared.prefix.Unexpected.TheVariants.{Tag, Length, NegativeLength, NegativeCount}
use Rattle.bser_bunser.specs.declared.prefix.Token.{Token}
use Rattle.bser_bunser.specs.declared.prefix.Token.TheVariants as tokens
use Rattle.bser_bunser.proofs.Readers.{front_there, counted_there, negative_there, cut_front, cut_after, int_cut, other_after}
use Rattle.bser_bunser.proofs.Ints.{first_and_rest, cut_there, le_octets, int_octets}
use Rattle.bser_bunser.proofs.Looks.{Looking, look_took}

-- ---- what is read

int_token : (s : IntSize) (v : ℤ) (x : List ℕ) → FitsSigned (width_of s) v
    → token (int_bytes s v ++ x) ≡ reads (tokens.Int v) x
int_token int8 v x h = ap (and_then (λ z. give (tokens.Int z))) (number_reads int8 v x h)
int_token int16 v x h = ap (and_then (λ z. give (tokens.Int z))) (number_reads int16 v x h)
int_token int32 v x h = ap (and_then (λ z. give (tokens.Int z))) (number_reads int32 v x h)
int_token int64 v x h = ap (and_then (λ z. give (tokens.Int z))) (number_reads int64 v x h)

-- the bytes of a token are read as it
pub token_there : (t : Token) (b : List ℕ) → SpellsToken t b → Passes token t b
token_there tokens.Null b h x = ap (λ l. token (l ++ x)) h
token_there (tokens.Bool true) b h x = ap (λ l. token (l ++ x)) h
token_there (tokens.Bool false) b h x = ap (λ l. token (l ++ x)) h
token_there tokens.Skip b h x = ap (λ l. token (l ++ x)) h
token_there tokens.Template b h x = ap (λ l. token (l ++ x)) h
token_there (tokens.Int v) b h x = ap (λ l. token (l ++ x)) h.spelled ∙ int_token h.size v x h.fits
token_there (tokens.Real r) b h x =
    ap (λ l. token (l ++ x)) h.1
    ∙ ap (and_then (λ c. give (tokens.Real (from_le_bytes w64 c)))) (front_there 8 (to_le_bytes w64 r) refl x)
    ∙ ap (λ m. reads (tokens.Real m) x) (from_to_le_bytes int64 r h.0)
token_there (tokens.Str true n) b h x =
    ap (λ l. token (l ++ x)) h.whole ∙ ap (and_then (λ m. give (tokens.Str true m))) (counted_there complaints.NegativeLength n h.rest h.body x)
token_there (tokens.Str false n) b h x =
    ap (λ l. token (l ++ x)) h.whole ∙ ap (and_then (λ m. give (tokens.Str false m))) (counted_there complaints.NegativeLength n h.rest h.body x)
token_there (tokens.Array n) b h x =
    ap (λ l. token (l ++ x)) h.whole ∙ ap (and_then (λ m. give (tokens.Array m))) (counted_there complaints.NegativeCount n h.rest h.body x)
token_there (tokens.Object n) b h x =
    ap (λ l. token (l ++ x)) h.whole ∙ ap (and_then (λ m. give (tokens.Object m))) (counted_there complaints.NegativeCount n h.rest h.body x)

token_some : (t : Token) (b : List ℕ) → SpellsToken t b → 0 < length b
token_some tokens.Null b h = omega (arith, ap length h)
token_some (tokens.Int v) b h = omega (arith, ap length h.spelled)
token_some (tokens.Real r) b h = omega (arith, ap length h.1)
token_some (tokens.Str s n) b h = omega (arith, ap length h.whole)
token_some (tokens.Array n) b h = omega (arith, ap length h.whole)
token_some (tokens.Object n) b h = omega (arith, ap length h.whole)
token_some other b h = omega (arith, ap length h)

headed_octets : (tag n : ℕ) (b : List ℕ) → tag < 256 → Headed tag (SpellsCount n) b → AreOctets b
headed_octets tag n b small h = subst AreOctets (sym h.whole) (small, int_octets (pos n) h.rest h.body)

-- each byte of a token is one
token_octets : (t : Token) (b : List ℕ) → SpellsToken t b → AreOctets b
token_octets tokens.Null b h = subst AreOctets (sym h) (lit< tt, tt)
token_octets (tokens.Bool true) b h = subst AreOctets (sym h) (lit< tt, tt)
token_octets (tokens.Bool false) b h = subst AreOctets (sym h) (lit< tt, tt)
token_octets tokens.Skip b h = subst AreOctets (sym h) (lit< tt, tt)
token_octets tokens.Template b h = subst AreOctets (sym h) (lit< tt, tt)
token_octets (tokens.Int v) b h = int_octets v b h
token_octets (tokens.Real r) b h = subst AreOctets (sym h.1) (lit< tt, le_octets w64 r)
token_octets (tokens.Str true n) b h = headed_octets 0x0d n b (lit< tt) h
token_octets (tokens.Str false n) b h = headed_octets 0x02 n b (lit< tt) h
token_octets (tokens.Array n) b h = headed_octets 0x00 n b (lit< tt) h
token_octets (tokens.Object n) b h = headed_octets 0x01 n b (lit< tt) h

-- a token that is buffered was taken
pub took_token : (len : ℕ) (t : Token) (a b : Window) → Looking token a b
    → (b.failed ≡ true → b.buffered ≡ []) → len ≤ length b.buffered
    → SpellsToken t (take len b.buffered) → TookToken a (consumed len b) t
took_token len t a b is closes fits spelled = record {
  text = take len b.buffered;
  spelled = spelled;
  took =
      look_took token t len a b is (token_octets t (take len b.buffered) spelled) closes (let some = token_some t (take len b.buffered) spelled in omega (arith, some, length-take len b.buffered)) fits (token_there t (take len b.buffered) spelled);
}

-- ---- what follows a counted tag

-- the length or the count is refused
after_counted : (x : ℕ) (y : List ℕ) (e f : Error) → IsCounted x → named.size y ≡ refuses e
    → named.count y ≡ refuses f → ((x ≡ 0x02) ⊎ (x ≡ 0x0d) → e ≡ f) → token (x ∷ y) ≡ refuses f
after_counted x y e f (inl is) h k same =
    ap (λ z. token (z ∷ y)) is ∙ ap (and_then (λ n. give (tokens.Str false n))) h ∙ ap refuses (same (inl is))
after_counted x y e f (inr (inl is)) h k same =
    ap (λ z. token (z ∷ y)) is ∙ ap (and_then (λ n. give (tokens.Str true n))) h ∙ ap refuses (same (inr is))
after_counted x y e f (inr (inr (inl is))) h k same =
    ap (λ z. token (z ∷ y)) is ∙ ap (and_then (λ n. give (tokens.Array n))) k
after_counted x y e f (inr (inr (inr is))) h k same =
    ap (λ z. token (z ∷ y)) is ∙ ap (and_then (λ n. give (tokens.Object n))) k

complaint_of : Complaint → Unexpected → Error
complaint_of c (Tag b) = DeInvalidStartByte NextItem b
complaint_of c (Length b) = DeInvalidStartByte Integer b
complaint_of c NegativeLength = complain c
complaint_of c NegativeCount = complain c

counted_refused : (c : Complaint) (why : Unexpected) (held more : List ℕ)
    → IsLengthPrefix held (prefixes.Unexpected why)
    → (named.int >>= named.natural c) (held ++ more) ≡ refuses (complaint_of c why)
unfolding complaint_of
counted_refused c (Tag b) held more is = absurd is
counted_refused c (Length b) held more is =
    ap (λ l. and_then (named.natural c) (named.int (l ++ more))) is.next ∙ ap (and_then (named.natural c)) (other_after (DeInvalidStartByte Integer b) b (drop 1 held ++ more) is.other)
counted_refused c NegativeLength held more is =
    let whole : held ++ more ≡ take is.len held ++ (drop is.len held ++ more) = ap (λ l. l ++ more) (sym (take-append-drop is.len held)) ∙ append_assoc (take is.len held) (drop is.len held) more in
    ap (named.int >>= named.natural c) whole ∙ negative_there c is.less (take is.len held) (drop is.len held ++ more) is.spelled
counted_refused c NegativeCount held more is = absurd is

-- ---- too few bytes

cut_token : (s : IntSize) (y : List ℕ) → length y < byte_len (width_of s) → token (tag_of s ∷ y) ≡ refuses eof
cut_token int8 y h = ap (and_then (λ v. give (tokens.Int v))) (cut_after (DeInvalidStartByte NextItem 0x03) int8 y h)
cut_token int16 y h = ap (and_then (λ v. give (tokens.Int v))) (cut_after (DeInvalidStartByte NextItem 0x04) int16 y h)
cut_token int32 y h = ap (and_then (λ v. give (tokens.Int v))) (cut_after (DeInvalidStartByte NextItem 0x05) int32 y h)
cut_token int64 y h = ap (and_then (λ v. give (tokens.Int v))) (cut_after (DeInvalidStartByte NextItem 0x06) int64 y h)

token_cut : (x : List ℕ) → IsCutInteger x → token x ≡ refuses eof
token_cut x (inl e) = ap token e
token_cut x (inr h) = ap token h.whole ∙ cut_token h.size h.rest h.fewer

pub short_token : (n : ℕ) (held : List ℕ) → CutInt held n → TooShort token held n
short_token n held is =
    record { some = is.some; most = omega (arith, is.most); cut = λ more fewer. token_cut (held ++ more) (cut_there held more n is fewer) }

pub short_counted : (x n : ℕ) (held : List ℕ) → held ≡ x ∷ drop 1 held → IsCounted x
    → CutInt (drop 1 held) n → TooShort token held (1 + n)
short_counted x n held next counted is = record {
  some = omega (arith, is.some, ap length next);
  most = omega (arith, is.most);
  cut = λ more fewer.
      let whole : held ++ more ≡ x ∷ (drop 1 held ++ more) = ap (λ l. l ++ more) next in
      let cut = int_cut (drop 1 held ++ more) (cut_there (drop 1 held) more n is (omega (arith, fewer, ap length whole))) in
      ap token whole ∙ after_counted x (drop 1 held ++ more) eof eof counted (ap (and_then (named.natural complaints.NegativeLength)) cut) (ap (and_then (named.natural complaints.NegativeCount)) cut) (λ s. refl);
}

pub short_real : (held : List ℕ) → held ≡ 0x07 ∷ drop 1 held → length (drop 1 held) < 8
    → TooShort token held 9
short_real held next fewer = record {
  some = omega (arith, fewer, ap length next);
  most = omega arith;
  cut = λ more less.
      let whole : held ++ more ≡ 0x07 ∷ (drop 1 held ++ more) = ap (λ l. l ++ more) next in
      ap token whole ∙ ap (and_then (λ c. give (tokens.Real (from_le_bytes w64 c)))) (cut_front 8 (drop 1 held ++ more) (omega (arith, less, ap length whole)));
}

-- ---- nothing that is wanted

same_fault : (why : Unexpected) (held : List ℕ) → IsLengthPrefix held (prefixes.Unexpected why)
    → (complaint_of complaints.NegativeLength why ≡ unexpected_refusal NextItem why) × (complaint_of complaints.NegativeCount why ≡ unexpected_refusal NextItem (as_count why))
unfolding complaint_of
same_fault (Tag b) held is = absurd is
same_fault (Length b) held is = (refl, refl)
same_fault NegativeLength held is = (refl, refl)
same_fault NegativeCount held is = absurd is

pub none_counted : (x : ℕ) (why : Unexpected) (held : List ℕ) → 0 < length held
    → held ≡ x ∷ drop 1 held → IsCounted x → IsLengthPrefix (drop 1 held) (prefixes.Unexpected why)
    → Rejects token held (unexpected_refusal NextItem (fault_after x why))
none_counted x why held some next counted is =
    record { some = some; name = λ more. ap (λ l. token (l ++ more)) next ∙ go more counted }
  where
    string : (more : List ℕ)
        → named.size (drop 1 held ++ more) ≡ refuses (unexpected_refusal NextItem why)
    string more =
        counted_refused complaints.NegativeLength why (drop 1 held) more is ∙ ap refuses (same_fault why (drop 1 held) is).0

    container : (more : List ℕ)
        → named.count (drop 1 held ++ more) ≡ refuses (unexpected_refusal NextItem (as_count why))
    container more =
        counted_refused complaints.NegativeCount why (drop 1 held) more is ∙ ap refuses (same_fault why (drop 1 held) is).1

    at : (z : ℕ) (more : List ℕ) → x ≡ z
        → token (z ∷ (drop 1 held ++ more)) ≡ refuses (unexpected_refusal NextItem (fault_after z why))
        → token (x ∷ (drop 1 held ++ more)) ≡ refuses (unexpected_refusal NextItem (fault_after x why))
    at z more e h =
        subst (λ y. token (y ∷ (drop 1 held ++ more)) ≡ refuses (unexpected_refusal NextItem (fault_after y why))) (sym e) h

    go : (more : List ℕ) → IsCounted x
        → token (x ∷ (drop 1 held ++ more)) ≡ refuses (unexpected_refusal NextItem (fault_after x why))
    go more (inl e) = at 0x02 more e (ap (and_then (λ n. give (tokens.Str false n))) (string more))
    go more (inr (inl e)) =
        at 0x0d more e (ap (and_then (λ n. give (tokens.Str true n))) (string more))
    go more (inr (inr (inl e))) =
        at 0x00 more e (ap (and_then (λ n. give (tokens.Array n))) (container more))
    go more (inr (inr (inr e))) =
        at 0x01 more e (ap (and_then (λ n. give (tokens.Object n))) (container more))

-- a tag that no token has
after_unknown : (x : ℕ) (y : List ℕ) → 0x0d < x
    → token (x ∷ y) ≡ refuses (DeInvalidStartByte NextItem x)
after_unknown x y high =
    rw (
      ne_eqb x 10 (λ e. omega (arith, e, high)),
      ne_eqb x 8 (λ e. omega (arith, e, high)),
      ne_eqb x 9 (λ e. omega (arith, e, high)),
      ne_eqb x 7 (λ e. omega (arith, e, high)),
      ne_eqb x 2 (λ e. omega (arith, e, high)),
      ne_eqb x 13 (λ e. omega (arith, e, high)),
      ne_eqb x 0 (λ e. omega (arith, e, high)),
      ne_eqb x 1 (λ e. omega (arith, e, high)),
      ne_eqb x 11 (λ e. omega (arith, e, high)),
      ne_eqb x 12 (λ e. omega (arith, e, high)),
    ) (ap (and_then (λ v. give (tokens.Int v))) (other_after (DeInvalidStartByte NextItem x) x y (λ s e. low s e)))
  where
    low : (s : IntSize) → tag_of s ≡ x → ⊥
    low int8 e = omega (arith, e, high)
    low other e = omega (arith, e, high)

pub none_known : (x : ℕ) (held : List ℕ) → 0 < length held → held ≡ x ∷ drop 1 held → 0x0d < x
    → Rejects token held (unexpected_refusal NextItem (Tag x))
none_known x held some next high =
    record { some = some; name = λ more. ap (λ l. token (l ++ more)) next ∙ after_unknown x (drop 1 held ++ more) high }

-- ---- what is there

count_fits : (n : ℕ) (b : List ℕ) → SpellsCount n b → n < 2 ^ 63
count_fits n b h = go h.size h.fits
  where
    go : (s : IntSize) → FitsSigned (width_of s) (pos n) → n < 2 ^ 63
    go int8 f = omega (arith, f)
    go int16 f = omega (arith, f)
    go int32 f = omega (arith, f)
    go int64 f = omega (arith, f)

pub token_fits : (t : Token) (b : List ℕ) → SpellsToken t b → LengthFits t
token_fits (tokens.Str is_text n) b h = count_fits n h.rest h.body
token_fits (tokens.Array n) b h = count_fits n h.rest h.body
token_fits (tokens.Object n) b h = count_fits n h.rest h.body
token_fits t b h = tt

pub found_one : (x : ℕ) (t : Token) (held : List ℕ) → 0 < length held → get_or held 0 0 ≡ x
    → SpellsToken t (x ∷ []) → IsTokenPrefix held (prefixes.Found t 1)
found_one x t held some tag spelled =
    (omega (arith, some), subst (SpellsToken t) (ap (λ y. y ∷ []) (sym tag) ∙ first_and_rest held 0 some) spelled)

pub found_real : (n : ℕ) (held : List ℕ) → 0 < length held → get_or held 0 0 ≡ 0x07
    → BitsPrefix (drop 1 held) n → IsTokenPrefix held (prefixes.Found (tokens.Real n) 9)
found_real n held some tag is =
    (omega (arith, some, is.within, length-drop 1 held), (is.fits, sym (first_and_rest held 8 some) ∙ ap (λ y. y ∷ take 8 (drop 1 held)) tag ∙ ap (λ l. 0x07 ∷ l) is.bytes))

pub headed : (x k : ℕ) (rest : List ℕ) → x ≡ k → x ∷ rest ≡ k ∷ rest
headed x k rest e = ap (λ y. y ∷ rest) e

pub last_counted : (x : ℕ) → IsCounted x → (x ≡ 2 → ⊥) → (x ≡ 13 → ⊥) → (x ≡ 0 → ⊥) → x ≡ 1
last_counted x (inl e) a b c = absurd (a e)
last_counted x (inr (inl e)) a b c = absurd (b e)
last_counted x (inr (inr (inl e))) a b c = absurd (c e)
last_counted x (inr (inr (inr e))) a b c = e
