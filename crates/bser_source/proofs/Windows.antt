-- A window that moves: bytes that come to be buffered, and bytes that are taken.
use Rattle.std.proofs.Common.{◌≡◌, ℕ, zero, suc, ◌+◌, ◌-◌, ◌≤◌, ◌<◌, max, Bool, true, false, List, [], ◌∷◌, ◌++◌, Option, Some, None, length, take, drop, get_or, slice_range, length-append, append_assoc, append-nil, refl, sym, ap, subst, ◌∙◌, arith}
use Rattle.std.proofs.lemmas.List.{take-append-drop, length-take-le, length-drop, drop-drop, drop-take}
use Rattle.std.proofs.KnownBytes.{Consumes-nil, Consumes-trans}
use Rattle.std.specs.Io.KnownBytes.{Consumes, prepend_known}
use Rattle.bser_source.specs.Window.{Window, left, Within, consumed, Grown, AreOctets, Filled, Took}

-- where all is refused nothing is buffered
pub works : (failed : Bool) (held : List ℕ) (n : ℕ) → (failed ≡ true → held ≡ []) → 0 < n → n ≤ length held → failed ≡ false
works false held n none some le = refl
works true held n none some le = absurd (omega (arith, some, le, ap length (none refl)))

pub grown_none : (s : Window) → Grown 0 s s
grown_none s = record {
  more = [];
  buffered = sym (append-nil s.buffered);
  device = Consumes-nil s.beyond;
  within = λ a le h. h;
  count = refl;
  limit = refl;
  lends = refl;
  failed = refl;
  failures = refl;
  through = refl;
}

pub grown_then : (m n : ℕ) (a b c : Window) → m ≤ n → Grown m a b → Grown n b c → Grown n a c
grown_then m n a b c le first second = record {
  more = first.more ++ second.more;
  buffered = second.buffered ∙ ap (λ l. l ++ second.more) first.buffered ∙ append_assoc a.buffered first.more second.more;
  device = Consumes-trans a.beyond b.beyond c.beyond first.more second.more first.device second.device;
  within = λ x le' h. second.within x le' (first.within x (omega (arith, le, le')) h);
  count = second.count ∙ first.count;
  limit = second.limit ∙ first.limit;
  lends = second.lends ∙ first.lends;
  failed = second.failed ∙ first.failed;
  failures = second.failures ∙ first.failures;
  through = second.through ∙ first.through;
}

-- more bytes were wanted
pub grown_later : (m n : ℕ) (a b : Window) → m ≤ n → Grown m a b → Grown n a b
grown_later m n a b le grown = record {
  more = grown.more;
  buffered = grown.buffered;
  device = grown.device;
  within = λ x le' h. grown.within x (omega (arith, le, le')) h;
  count = grown.count;
  limit = grown.limit;
  lends = grown.lends;
  failed = grown.failed;
  failures = grown.failures;
  through = grown.through;
}

-- ---- octets

pub octets_each : (bs : List ℕ) → ((i : ℕ) → get_or bs i 0 < 256) → AreOctets bs
octets_each [] small = tt
octets_each (x ∷ bs) small = (small 0, octets_each bs (λ i. small (suc i)))

pub octets_then : (bs cs : List ℕ) → AreOctets bs → AreOctets cs → AreOctets (bs ++ cs)
octets_then [] cs first second = second
octets_then (x ∷ bs) cs first second = (first.0, octets_then bs cs first.1 second)

pub octets_front : (n : ℕ) (bs : List ℕ) → AreOctets bs → AreOctets (take n bs)
octets_front zero [] all = tt
octets_front zero (x ∷ bs) all = tt
octets_front (suc n) [] all = tt
octets_front (suc n) (x ∷ bs) all = (all.0, octets_front n bs all.1)

pub octets_rest : (n : ℕ) (bs : List ℕ) → AreOctets bs → AreOctets (drop n bs)
octets_rest zero [] all = tt
octets_rest zero (x ∷ bs) all = all
octets_rest (suc n) [] all = tt
octets_rest (suc n) (x ∷ bs) all = octets_rest n bs all.1

-- ---- bytes that are taken

-- bytes came to be buffered, and the first of those buffered were taken
pub taken_after : (m n : ℕ) (a b : Window) → Grown m a b → AreOctets (take n b.buffered) → m ≤ n → n ≤ length b.buffered → a.failed ≡ false → Took a (consumed n b) (take n b.buffered)
taken_after m n a b grown small le fits working =
    let len : length (take n b.buffered) ≡ n = length-take-le n b.buffered fits in
    record {
      more = grown.more;
      bytes = sym grown.buffered ∙ sym (take-append-drop n b.buffered);
      octets = small;
      device = grown.device;
      within = λ x h. (let w : length b.buffered ≤ max (b.limit - b.count) (x + n) = grown.within (x + n) (omega (arith, le)) (subst (λ k. Within (x + k) a) len h) in omega (arith, w, fits, length-drop n b.buffered));
      count = omega (arith, len, grown.count);
      limit = grown.limit;
      lends = grown.lends;
      working = working;
      failed = grown.failed ∙ working;
      failures = grown.failures;
      through = grown.through;
    }

-- the first of the buffered bytes were taken
pub taken : (n : ℕ) (a : Window) → AreOctets a.buffered → n ≤ length a.buffered → a.failed ≡ false → Took a (consumed n a) (take n a.buffered)
taken n a small fits working = taken_after 0 n a a (grown_none a) (octets_front n a.buffered small) (omega arith) fits working

-- one call after another
pub took_then : (a b c : Window) (xs ys : List ℕ) → Took a b xs → Took b c ys → Took a c (xs ++ ys)
took_then a b c xs ys first second = record {
  more = first.more ++ second.more;
  bytes = sym (append_assoc a.buffered first.more second.more) ∙ ap (λ l. l ++ second.more) first.bytes ∙ append_assoc xs b.buffered second.more
      ∙ ap (λ l. xs ++ l) second.bytes ∙ sym (append_assoc xs ys c.buffered);
  octets = octets_then xs ys first.octets second.octets;
  device = Consumes-trans a.beyond b.beyond c.beyond first.more second.more first.device second.device;
  within = λ x h. second.within x (first.within (x + length ys) (subst (λ k. Within k a) (let e : x + length (xs ++ ys) ≡ x + length ys + length xs = omega (arith, length-append xs ys) in e) h));
  count = omega (arith, length-append xs ys, first.count, second.count);
  limit = second.limit ∙ first.limit;
  lends = second.lends ∙ first.lends;
  working = first.working;
  failed = second.failed;
  failures = second.failures ∙ first.failures;
  through = second.through ∙ first.through;
}

-- a call took bytes after some came to be buffered
pub took_grown : (a b c : Window) (n : ℕ) (xs : List ℕ) → Grown n a b → n ≤ length xs → Took b c xs → Took a c xs
took_grown a b c n xs grown le took = record {
  more = grown.more ++ took.more;
  bytes = sym (append_assoc a.buffered grown.more took.more) ∙ ap (λ l. l ++ took.more) (sym grown.buffered) ∙ took.bytes;
  octets = took.octets;
  device = Consumes-trans a.beyond b.beyond c.beyond grown.more took.more grown.device took.device;
  within = λ x h. took.within x (grown.within (x + length xs) (omega (arith, le)) h);
  count = took.count ∙ ap (λ k. k + length xs) grown.count;
  limit = took.limit ∙ grown.limit;
  lends = took.lends ∙ grown.lends;
  working = sym grown.failed ∙ took.working;
  failed = took.failed;
  failures = took.failures ∙ grown.failures;
  through = took.through ∙ grown.through;
}

-- ---- the bytes left

left_more : (held more held' : List ℕ) (x y : Option (List ℕ)) (all : List ℕ) → held' ≡ held ++ more → Consumes x y more → prepend_known held x ≡ Some all → prepend_known held' y ≡ Some all
left_more held more held' None y all grown device known = absurd cc
left_more held more held' (Some xs) None all grown device known = absurd device
left_more held more held' (Some xs) (Some ys) all grown device known =
    ap (λ l. Some (l ++ ys)) grown ∙ ap Some (append_assoc held more ys) ∙ ap (λ l. Some (held ++ l)) (sym device) ∙ known

-- the bytes left stay as others come to be buffered
pub left_grown : (n : ℕ) (a b : Window) (all : List ℕ) → Grown n a b → left a ≡ Some all → left b ≡ Some all
left_grown n a b all grown known = left_more a.buffered grown.more b.buffered a.beyond b.beyond all grown.buffered grown.device known

left_taken : (x y : Option (List ℕ)) (held held' more bs all : List ℕ) → held ++ more ≡ bs ++ held' → Consumes x y more → prepend_known held x ≡ Some all → (rest : List ℕ) × (prepend_known held' y ≡ Some rest) × (all ≡ bs ++ rest)
left_taken None y held held' more bs all same device known = absurd cc
left_taken (Some xs) None held held' more bs all same device known = absurd device
left_taken (Some xs) (Some ys) held held' more bs all same device known =
    let whole : held ++ xs ≡ all = cc in
    (held' ++ ys, refl, sym whole ∙ ap (λ l. held ++ l) device ∙ sym (append_assoc held more ys) ∙ ap (λ l. l ++ ys) same ∙ append_assoc bs held' ys)

-- what was taken is the front of the bytes left
pub left_took : (a b : Window) (bs all : List ℕ) → Took a b bs → left a ≡ Some all → (rest : List ℕ) × (left b ≡ Some rest) × (all ≡ bs ++ rest)
left_took a b bs all took known = left_taken a.beyond b.beyond a.buffered b.buffered took.more bs all took.bytes took.device known

front_known : (held : List ℕ) (x : Option (List ℕ)) (all : List ℕ) → prepend_known held x ≡ Some all → (more : List ℕ) × (held ++ more ≡ all)
front_known held None all known = absurd cc
front_known held (Some xs) all known = (xs, (let e : held ++ xs ≡ all = cc in e))

-- what is buffered is the front of the bytes left
pub hand_first : (s : Window) (all : List ℕ) → left s ≡ Some all → (more : List ℕ) × (s.buffered ++ more ≡ all)
hand_first s all known = front_known s.buffered s.beyond all known

-- ---- a buffer

-- a place past the start
pub range_dropped : (xs : List ℕ) (start end n : ℕ) → start + n ≤ end → slice_range xs (start + n) end ≡ drop n (slice_range xs start end)
range_dropped xs start end n inside =
    let parts : end - start ≡ n + (end - (start + n)) = omega arith in
    sym (ap (λ j. drop n (take j (drop start xs))) parts ∙ drop-take n _ (drop start xs) ∙ ap (take (end - (start + n))) (drop-drop n start xs))

-- the same before
pub regrown : (n : ℕ) (a b c : Window) → b ≡ a → Grown n b c → Grown n a c
regrown n a b c same grown = subst (λ s. Grown n s c) same grown

-- n bytes are buffered already
pub filled_here : (n : ℕ) (a b : Window) → b ≡ a → AreOctets a.buffered → n ≤ length a.buffered → a.failed ≡ false → Filled n a b
filled_here n a b same small enough working =
    subst (Filled n a) (sym same) (record { grown = grown_later 0 n a a (omega arith) (grown_none a); octets = small; enough = enough; working = working })

-- n bytes came to be buffered, and were taken
pub took_filled : (n : ℕ) (a b : Window) → Filled n a b → Took a (consumed n b) (take n b.buffered)
took_filled n a b filled = taken_after n n a b filled.grown (octets_front n b.buffered filled.octets) (omega arith) filled.enough filled.working

-- the same, by what the last call says
pub took_by : (n : ℕ) (a b c : Window) (bs : List ℕ) → Filled n a b → c ≡ consumed n b → bs ≡ take n b.buffered → Took a c bs
took_by n a b c bs filled after bytes = subst (Took a c) (sym bytes) (subst (λ s. Took a s (take n b.buffered)) (sym after) (took_filled n a b filled))
