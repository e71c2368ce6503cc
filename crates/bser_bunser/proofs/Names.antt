-- Which refusal is named.
use Rattle.std.proofs.Common.{◌≡◌, ℕ, suc, ◌-◌, ◌≤◌, ◌<◌, true, false, Bool, List, [], ◌++◌, Option, Some, None, length, take, drop, length-append, append_assoc, refl, sym, ap, subst, ◌∙◌, arith, inl, inr}
use Rattle.std.specs.Prelude.{IfSome, nat_lt, replicate}
use Rattle.std.proofs.lemmas.Bool.{ltb-true, ltb-false}
use Rattle.std.proofs.lemmas.List.{take-append-drop, take-append-le, length-take-le, length-replicate}
use Rattle.std.proofs.Math.Seq.{take-append_seam}
use Rattle.std.specs.Io.KnownBytes.{Consumes, prepend_known}
use Rattle.bser_format.specs.Grammar.{Format}
use Rattle.bser_format.specs.declared.errors.Error.{Error}
use Rattle.bser_format.specs.declared.errors.Error.TheVariants.{DeReaderError, OutOfMemory}
use Rattle.bser_format.specs.declared.errors.ReadCause.TheVariants.{Eof, Utf8, Reader, Memory, Failed}
use Rattle.bser_format.specs.Named as named
use Rattle.bser_format.specs.Named.{eof, refuses, reads, and_then, ◌>>=◌}
use Rattle.bser_format.proofs.Steps.{Passes}
use Rattle.bser_source.specs.Window.{Window, left, Grown, Took}
use Rattle.bser_source.proofs.Windows.{grown_none}
use Rattle.bser_bunser.specs.Refusal.{ShortOf}
use Rattle.bser_bunser.specs.Names.{Agree, Blame, Excused, Excuses, MayBeLeft, MayCome, Outside, Blames, RefusedAs, Names}
use Rattle.bser_bunser.specs.Tokens.{Rejects}
use Rattle.bser_bunser.proofs.Readers.{cut_front}

-- ---- the bytes that may be left

pub known_rest : Option (List ℕ) → List ℕ
known_rest None = []
known_rest (Some rest) = rest

-- there are some
pub left_now : (s : Window) → MayBeLeft s (s.buffered ++ known_rest s.beyond)
unfolding known_rest
left_now s = record { more = known_rest s.beyond; whole = refl; known = λ rest e. ap known_rest e }

few : (n : ℕ) (buffered : List ℕ) (beyond : Option (List ℕ))
    → IfSome (prepend_known buffered beyond) (λ xs. length xs < n) → length buffered < n
    → length (buffered ++ known_rest beyond) < n
unfolding known_rest
few n buffered None h k = omega (arith, k, length-append buffered [])
few n buffered (Some rest) h k = h

rest_back : (x y : Option (List ℕ)) (more m rest : List ℕ) → Consumes x y more
    → ((r : List ℕ) → y ≡ Some r → m ≡ r) → x ≡ Some rest → more ++ m ≡ rest
rest_back None y more m rest d k e = absurd cc
rest_back (Some xs) None more m rest d k e = absurd d
rest_back (Some xs) (Some ys) more m rest d k e =
    (let same : xs ≡ rest = cc in ap (λ l. more ++ l) (k ys refl) ∙ sym d ∙ same)

-- before others came to be buffered
pub left_before : (n : ℕ) (a b : Window) (x : List ℕ) → Grown n a b → MayBeLeft b x → MayBeLeft a x
left_before n a b x grown m = record {
  more = grown.more ++ m.more;
  whole =
      m.whole ∙ ap (λ l. l ++ m.more) grown.buffered ∙ append_assoc a.buffered grown.more m.more;
  known = λ rest e. rest_back a.beyond b.beyond grown.more m.more rest grown.device m.known e;
}

-- before some were taken
pub left_untaken : (a b : Window) (bs x : List ℕ) → Took a b bs → MayBeLeft b x
    → MayBeLeft a (bs ++ x)
left_untaken a b bs x took m = record {
  more = took.more ++ m.more;
  whole =
      ap (λ l. bs ++ l) m.whole ∙ sym (append_assoc bs b.buffered m.more) ∙ ap (λ l. l ++ m.more) (sym took.bytes) ∙ append_assoc a.buffered took.more m.more;
  known = λ rest e. rest_back a.beyond b.beyond took.more m.more rest took.device m.known e;
}

agree_self : (xs : List ℕ) → Agree xs xs
agree_self xs = ([], [], refl)

agree_behind : (front xs ys : List ℕ) → Agree xs ys → Agree (front ++ xs) (front ++ ys)
agree_behind front xs ys (x, y, same) =
    (x, y, append_assoc front xs x ∙ ap (λ l. front ++ l) same ∙ sym (append_assoc front ys y))

agree_back : (x y : Option (List ℕ)) (more m rest : List ℕ) → Consumes x y more
    → ((r : List ℕ) → y ≡ Some r → Agree m r) → x ≡ Some rest → Agree (more ++ m) rest
agree_back None y more m rest d k e = absurd cc
agree_back (Some xs) None more m rest d k e = absurd d
agree_back (Some xs) (Some ys) more m rest d k e =
    (let same : xs ≡ rest = cc in
    subst (Agree (more ++ m)) (sym d ∙ same) (agree_behind more m ys (k ys refl)))

-- bytes that come once others are buffered came before
pub comes_before : (n : ℕ) (a b : Window) (x : List ℕ) → Grown n a b → MayCome b x → MayCome a x
comes_before n a b x grown m = record {
  more = grown.more ++ m.more;
  whole =
      m.whole ∙ ap (λ l. l ++ m.more) grown.buffered ∙ append_assoc a.buffered grown.more m.more;
  known = λ rest e. agree_back a.beyond b.beyond grown.more m.more rest grown.device m.known e;
}

-- bytes that come after some were taken
pub comes_untaken : (a b : Window) (bs x : List ℕ) → Took a b bs → MayCome b x
    → MayCome a (bs ++ x)
comes_untaken a b bs x took m = record {
  more = took.more ++ m.more;
  whole =
      ap (λ l. bs ++ l) m.whole ∙ sym (append_assoc bs b.buffered m.more) ∙ ap (λ l. l ++ m.more) (sym took.bytes) ∙ append_assoc a.buffered took.more m.more;
  known = λ rest e. agree_back a.beyond b.beyond took.more m.more rest took.device m.known e;
}

-- what may be left may come
pub left_comes : (s : Window) (x : List ℕ) → MayBeLeft s x → MayCome s x
left_comes s x m = record {
  more = m.more;
  whole = m.whole;
  known = λ rest e. subst (Agree m.more) (m.known rest e) (agree_self m.more);
}

-- of more bytes than are buffered, all but one may come
pub all_but_one : (n : ℕ) (s : Window) → length s.buffered < n
    → (x : List ℕ) × MayCome s x × (suc (length x) ≡ n)
unfolding known_rest
all_but_one n s few =
    let lacking = n - 1 - length s.buffered in
    let more = take lacking (known_rest s.beyond ++ replicate lacking 0) in (
      s.buffered ++ more,
      record {
        more = more;
        whole = refl;
        known = λ rest e. (
          drop lacking (known_rest s.beyond ++ replicate lacking 0),
          replicate lacking 0,
          take-append-drop lacking (known_rest s.beyond ++ replicate lacking 0) ∙ ap (λ l. l ++ replicate lacking 0) (ap known_rest e),
        );
      },
      omega (arith, few, length-append s.buffered more, length-take-le lacking (known_rest s.beyond ++ replicate lacking 0) (omega (arith, length-append (known_rest s.beyond) (replicate lacking 0), length-replicate {A = ℕ} lacking 0))),
    )

-- ---- who is to blame

-- bytes that begin with those buffered, once others came to be buffered
pub outside_grown : (P Q : Blame) (n : ℕ) (a b : Window) (e : Error) → Grown n a b
    → ((x more : List ℕ) → x ≡ b.buffered ++ more → P eof x → Q eof x) → Outside P e b → Outside Q e a
outside_grown P Q n a b OutOfMemory grown on h = sym grown.lends ∙ h
outside_grown P Q n a b (DeReaderError Eof) grown on h = absurd h
outside_grown P Q n a b (DeReaderError Utf8) grown on h = absurd h
outside_grown P Q n a b (DeReaderError (Reader fault)) grown on h = sym grown.lends ∙ h
outside_grown P Q n a b (DeReaderError Memory) grown on h = absurd h
outside_grown P Q n a b (DeReaderError Failed) grown on (inl h) = inl (sym grown.failed ∙ h)
outside_grown P Q n a b (DeReaderError Failed) grown on (inr (l, o)) =
    inr (
      sym grown.lends ∙ l,
      record {
        text = o.text;
        comes = comes_before n a b o.text grown o.comes;
        few = on o.text o.comes.more o.comes.whole o.few;
        long = omega (arith, grown.count, o.long);
      },
    )
outside_grown P Q n a b e grown on h = absurd h

pub outside_untaken : (P Q : Blame) (a b : Window) (bs : List ℕ) (e : Error)
    → ((x : List ℕ) → P eof x → Q eof (bs ++ x)) → Took a b bs → Outside P e b → Outside Q e a
outside_untaken P Q a b bs OutOfMemory on took h = sym took.lends ∙ h
outside_untaken P Q a b bs (DeReaderError Eof) on took h = absurd h
outside_untaken P Q a b bs (DeReaderError Utf8) on took h = absurd h
outside_untaken P Q a b bs (DeReaderError (Reader fault)) on took h = sym took.lends ∙ h
outside_untaken P Q a b bs (DeReaderError Memory) on took h = absurd h
outside_untaken P Q a b bs (DeReaderError Failed) on took (inl h) = (let works = took.failed in absurd cc)
outside_untaken P Q a b bs (DeReaderError Failed) on took (inr (l, o)) =
    inr (
      sym took.lends ∙ l,
      record {
        text = bs ++ o.text;
        comes = comes_untaken a b bs o.text took o.comes;
        few = on o.text o.few;
        long = omega (arith, took.count, o.long, length-append bs o.text);
      },
    )
outside_untaken P Q a b bs e on took h = absurd h

pub blames_grown : (P Q : Blame) (n : ℕ) (e : Error) (a b : Window) → Grown n a b
    → ((f : Error) (x more : List ℕ) → x ≡ b.buffered ++ more → P f x → Q f x) → Blames P e b → Blames Q e a
blames_grown P Q n e a b grown more (inl (x, m, p)) =
    inl (x, left_before n a b x grown m, more e x m.more m.whole p)
blames_grown P Q n e a b grown more (inr h) = inr (outside_grown P Q n a b e grown (more eof) h)

pub blames_before : (P : Blame) (n : ℕ) (e : Error) (a b : Window) → Grown n a b
    → Blames P e b → Blames P e a
blames_before P n e a b grown h = blames_grown P P n e a b grown (λ f x more whole p. p) h

pub blames_untaken : (P Q : Blame) (e : Error) (a b : Window) (bs : List ℕ)
    → ((f : Error) (x : List ℕ) → P f x → Q f (bs ++ x)) → Took a b bs → Blames P e b → Blames Q e a
blames_untaken P Q e a b bs more took (inl (x, m, p)) =
    inl (bs ++ x, left_untaken a b bs x took m, more e x p)
blames_untaken P Q e a b bs more took (inr h) = inr (outside_untaken P Q a b bs e (more eof) took h)

pub blames_more : (P Q : Blame) (e : Error) (a : Window) → ((f : Error) (x : List ℕ) → P f x → Q f x)
    → Blames P e a → Blames Q e a
blames_more P Q e a more h =
    blames_grown P Q 0 e a a (grown_none a) (λ f x rest whole p. more f x p) h

-- too few bytes are left, or there is a reason outside them
pub short_blames : (P : Blame) (n : ℕ) (e : Error) (a c : Window) → ShortOf n e a c
    → ((x : List ℕ) → MayCome a x → length x < n → P eof x) → Blames P e a
short_blames P n (DeReaderError Eof) a c short is =
    let all = a.buffered ++ known_rest a.beyond in
    inl (all, left_now a, is all (left_comes a all (left_now a)) (few n a.buffered a.beyond short.excuse.0 short.excuse.1))
short_blames P n (DeReaderError Utf8) a c short is = absurd short.excuse
short_blames P n (DeReaderError (Reader fault)) a c short is = inr short.excuse
short_blames P n (DeReaderError Memory) a c short is = absurd short.excuse
short_blames P n (DeReaderError Failed) a c short is = elim short.excuse [
  | inl f ↦ inr (inl f)
  | inr h ↦
      let p = all_but_one n a h.2 in
      inr (inr (
        h.0,
        record {
          text = p.0;
          comes = p.1;
          few = is p.0 p.1 (omega (arith, p.2));
          long = omega (arith, h.1, p.2);
        },
      ))
]
short_blames P n OutOfMemory a c short is = inr short.excuse
short_blames P n e a c short is = absurd short.excuse

-- ---- names

-- fewer than n bytes are left
pub short_names : (n : ℕ) (e : Error) (a c : Window) → ShortOf n e a c
    → Names (named.front n) e a
short_names n e a c short =
    short_blames _ n e a c short (λ x m fewer. cut_front n x fewer)

-- the first part is refused
pub names_first : {X Y : Type 0} (r : named.Reader X) (k : X → named.Reader Y) (e : Error) (a : Window)
    → Names r e a → Names (r >>= k) e a
names_first r k e a h = blames_more _ _ e a (λ f x p. ap (and_then k) p) h

-- what follows is refused, after bytes were taken
pub names_untaken : {X : Type 0} (r s : named.Reader X) (e : Error) (a b : Window) (bs : List ℕ)
    → ((x : List ℕ) → r (bs ++ x) ≡ s x) → Took a b bs → Names s e b → Names r e a
names_untaken r s e a b bs same took h = blames_untaken _ _ e a b bs (λ f x p. same x ∙ p) took h

-- what begins so is refused, and bytes came to be buffered before
pub names_rejected : {X : Type 0} (r : named.Reader X) (n : ℕ) (e : Error) (a b : Window)
    → Grown n a b → Rejects r b.buffered e → Names r e a
names_rejected r n e a b grown refusal =
    blames_before _ n e a b grown (inl (b.buffered ++ known_rest b.beyond, left_now b, refusal.name (known_rest b.beyond)))

-- what was taken is refused, whatever follows
pub names_taken : {X : Type 0} (r : named.Reader X) (e : Error) (a b : Window) (bs : List ℕ)
    → ((x : List ℕ) → r (bs ++ x) ≡ refuses e) → Took a b bs → Names r e a
names_taken r e a b bs refusal took =
    inl (bs ++ (b.buffered ++ known_rest b.beyond), left_untaken a b bs (b.buffered ++ known_rest b.beyond) took (left_now b), refusal (b.buffered ++ known_rest b.beyond))

-- ---- what a name excludes

only_left : (buffered more x b : List ℕ) (beyond : Option (List ℕ)) → x ≡ buffered ++ more
    → ((rest : List ℕ) → beyond ≡ Some rest → more ≡ rest) → prepend_known buffered beyond ≡ Some b
    → x ≡ b
only_left buffered more x b None whole known e = absurd cc
only_left buffered more x b (Some rest) whole known e =
    (let same : buffered ++ rest ≡ b = cc in whole ∙ ap (λ l. buffered ++ l) (known rest refl) ∙ same)

longer_front : (text t x z : List ℕ) → length text ≤ length t → t ++ x ≡ text ++ z
    → t ≡ text ++ drop (length text) t
longer_front text t x z le same =
    let front : take (length text) t ≡ text = sym (take-append-le (length text) t x le) ∙ ap (take (length text)) same ∙ take-append_seam text z in
    sym (take-append-drop (length text) t) ∙ ap (λ l. l ++ drop (length text) t) front

-- a reader that reads a front breaks off within it alone
cut_within : {X : Type 0} (r : named.Reader X) (v : X) (after : List ℕ → List ℕ) (text t x z : List ℕ)
    → ((y : List ℕ) → r (text ++ y) ≡ reads v (after y)) → t ++ x ≡ text ++ z → r t ≡ refuses eof
    → length t < length text
cut_within {X = X} r v after text t x z passes same cut = go (nat_lt (length t) (length text)) refl
  where
    both : (o : named.Answer X) (z : List ℕ) → o ≡ reads v z → o ≡ refuses eof → ⊥
    both o z p q = absurd cc

    go : (c : Bool) → nat_lt (length t) (length text) ≡ c → length t < length text
    go true e = ltb-true (length t) (length text) e
    go false e =
        let le : length text ≤ length t = ltb-false (length t) (length text) e in
        let begun = longer_front text t x z le same in
        absurd (both (r t) (after (drop (length text) t)) (ap r begun ∙ passes (drop (length text) t)) cut)

agree_whole : (buffered more t b : List ℕ) (beyond : Option (List ℕ)) → t ≡ buffered ++ more
    → ((rest : List ℕ) → beyond ≡ Some rest → Agree more rest) → prepend_known buffered beyond ≡ Some b
    → Agree t b
agree_whole buffered more t b None whole known e = absurd cc
agree_whole buffered more t b (Some rest) whole known e =
    (let same : buffered ++ rest ≡ b = cc in
    subst (λ l. Agree l b) (sym whole) (subst (Agree (buffered ++ more)) same (agree_behind buffered more rest (known rest refl))))

-- where the plain reader reads a front of what is left, a reason outside the bytes excuses
outside_excuse : {X : Type 0} (r : named.Reader X) (e : Error) (s : Window) (text rest : List ℕ) (v : X) (after : List ℕ → List ℕ)
    → left s ≡ Some (text ++ rest) → ((x : List ℕ) → r (text ++ x) ≡ reads v (after x))
    → Outside (RefusedAs r) e s → Excused (length text) e s
outside_excuse r OutOfMemory s text rest v after known passes h = h
outside_excuse r (DeReaderError Eof) s text rest v after known passes h = absurd h
outside_excuse r (DeReaderError Utf8) s text rest v after known passes h = absurd h
outside_excuse r (DeReaderError (Reader fault)) s text rest v after known passes h = h
outside_excuse r (DeReaderError Memory) s text rest v after known passes h = absurd h
outside_excuse r (DeReaderError Failed) s text rest v after known passes (inl h) = inl h
outside_excuse r (DeReaderError Failed) s text rest v after known passes (inr (l, o)) =
    let (x, y, same) = agree_whole s.buffered o.comes.more o.text (text ++ rest) s.beyond o.comes.whole o.comes.known known in
    let within = cut_within r v after text o.text x (rest ++ y) passes (same ∙ append_assoc text rest y) o.few in
    inr (l, omega (arith, o.long, within))
outside_excuse r e s text rest v after known passes h = absurd h

-- where the plain reader reads what is in front, a refusal has a reason outside the bytes
pub names_excuse : {X : Type 0} (r : named.Reader X) (e : Error) (s : Window) (text rest : List ℕ) (v : X) (after : List ℕ → List ℕ)
    → left s ≡ Some (text ++ rest) → ((x : List ℕ) → r (text ++ x) ≡ reads v (after x)) → Names r e s
    → Excused (length text) e s
names_excuse {X = X} r e s text rest v after known passes (inl (x, m, refused)) =
    absurd (both (r (text ++ rest)) (passes rest) (ap r (sym (only_left s.buffered m.more x (text ++ rest) s.beyond m.whole m.known known)) ∙ refused))
  where
    both : (o : named.Answer X) → o ≡ reads v (after rest) → o ≡ refuses e → ⊥
    both o p q = absurd cc
names_excuse r e s text rest v after known passes (inr h) = outside_excuse r e s text rest v after known passes h

pub excuses : {X : Type 0} (F : Format) (r : named.Reader X)
    → ((text : List ℕ) → F text → (v : X) × Passes r v text) → Excuses F r
excuses F r read text rest e s wanted known h =
    let p = read text wanted in
    names_excuse r e s text rest p.0 (λ x. x) known p.1 h
