-- Values and fields begin with tokens, whatever levels are left.
use Rattle.std.proofs.Common.{◌≡◌, ℕ, zero, suc, ◌<◌, ◌≤◌, Bool, true, false, List, [], ◌∷◌, ◌++◌, length, drop, refl, sym, ap, subst, ◌∙◌, arith, nat_eq}
use Rattle.std.specs.Prelude.{Some, None, Result, Ok, Err, IfOk}
use Rattle.std.proofs.lemmas.Bool.{ne_eqb, eqb-true}
use Rattle.bser_format.specs.Tree.{Tree}
use Rattle.bser_format.specs.Grammar.{IntSize, int8, int16, int32, int64, int_bytes}
use Rattle.bser_format.specs.declared.errors.Error.{Error}
use Rattle.bser_format.specs.declared.errors.Error.TheVariants.{DeRecursionLimitExceeded}
use Rattle.bser_format.specs.declared.errors.Kind.{Kind}
use Rattle.bser_format.specs.declared.errors.Kind.TheVariants as kinds
use Rattle.bser_format.specs.Named.{Answer, reads, refuses, Reader, eof, give, and_then, front, text_of, field_of, value, with_text_keys}
use Rattle.bser_source.specs.Window.{Window, Filled}
use Rattle.bser_source.proofs.Windows.{took_grown}
use Rattle.bser_bunser.specs.declared.refusal.Refused.{Refused}
use Rattle.bser_bunser.specs.Refusal.{failures_by, Fails}
use Rattle.bser_bunser.specs.Names.{Names, RefusedAs}
use Rattle.bser_bunser.specs.Tagged.{TookToken}
use Rattle.bser_bunser.specs.Tokens.{SpellsToken, token, after_token}
use Rattle.bser_bunser.specs.declared.prefix.Token.{Token}
use Rattle.bser_bunser.specs.declared.prefix.Token.TheVariants as tokens
use Rattle.bser_bunser.proofs.Names.{blames_grown, blames_more, names_rejected}
use Rattle.bser_bunser.proofs.Readers.{front_there}
use Rattle.bser_bunser.proofs.Tokens.{token_there}
use Rattle.bser_bunser.proofs.Values.{tokens_begin}
use Rattle.bser_events.specs.Found.{leaf_after, token_at, value_rest, IsContainer, LeafAhead, LevelsFor}

-- ---- the first byte of a token

-- these bytes begin with no container's tag
record LeafFirst (b : List ℕ) : Type 0 where
  pub tag : ℕ
  pub rest : List ℕ
  pub whole : b ≡ tag ∷ rest
  pub no_array : tag ≡ 0x00 → ⊥
  pub no_object : tag ≡ 0x01 → ⊥
  pub no_template : tag ≡ 0x0b → ⊥

leaf : (c : ℕ) (b rest : List ℕ) → b ≡ c ∷ rest → (c ≡ 0x00 → ⊥) → (c ≡ 0x01 → ⊥) → (c ≡ 0x0b → ⊥) → LeafFirst b
leaf c b rest whole x y z = record { tag = c; rest = rest; whole = whole; no_array = x; no_object = y; no_template = z }

leaf_first : (t : Token) (b : List ℕ) → SpellsToken t b → (IsContainer t → ⊥) → LeafFirst b
leaf_first tokens.Null b h never = leaf 0x0a b [] h (λ e. omega (arith, e)) (λ e. omega (arith, e)) (λ e. omega (arith, e))
leaf_first (tokens.Bool true) b h never = leaf 0x08 b [] h (λ e. omega (arith, e)) (λ e. omega (arith, e)) (λ e. omega (arith, e))
leaf_first (tokens.Bool false) b h never = leaf 0x09 b [] h (λ e. omega (arith, e)) (λ e. omega (arith, e)) (λ e. omega (arith, e))
leaf_first tokens.Skip b h never = leaf 0x0c b [] h (λ e. omega (arith, e)) (λ e. omega (arith, e)) (λ e. omega (arith, e))
leaf_first (tokens.Int v) b h never = by_size h.size h.spelled
  where
    by_size : (s : IntSize) → b ≡ int_bytes s v → LeafFirst b
    by_size int8 e = leaf 0x03 b _ e (λ e. omega (arith, e)) (λ e. omega (arith, e)) (λ e. omega (arith, e))
    by_size int16 e = leaf 0x04 b _ e (λ e. omega (arith, e)) (λ e. omega (arith, e)) (λ e. omega (arith, e))
    by_size int32 e = leaf 0x05 b _ e (λ e. omega (arith, e)) (λ e. omega (arith, e)) (λ e. omega (arith, e))
    by_size int64 e = leaf 0x06 b _ e (λ e. omega (arith, e)) (λ e. omega (arith, e)) (λ e. omega (arith, e))
leaf_first (tokens.Real r) b h never = leaf 0x07 b _ h.1 (λ e. omega (arith, e)) (λ e. omega (arith, e)) (λ e. omega (arith, e))
leaf_first (tokens.Str true n) b h never = leaf 0x0d b h.rest h.whole (λ e. omega (arith, e)) (λ e. omega (arith, e)) (λ e. omega (arith, e))
leaf_first (tokens.Str false n) b h never = leaf 0x02 b h.rest h.whole (λ e. omega (arith, e)) (λ e. omega (arith, e)) (λ e. omega (arith, e))
leaf_first (tokens.Array n) b h never = absurd (never tt)
leaf_first other b h never = absurd (never tt)

-- these bytes begin with another byte than a skip's
record OtherFirst (b : List ℕ) : Type 0 where
  pub tag : ℕ
  pub rest : List ℕ
  pub whole : b ≡ tag ∷ rest
  pub other : tag ≡ 0x0c → ⊥

other : (c : ℕ) (b rest : List ℕ) → b ≡ c ∷ rest → (c ≡ 0x0c → ⊥) → OtherFirst b
other c b rest whole x = record { tag = c; rest = rest; whole = whole; other = x }

other_first : (t : Token) (b : List ℕ) → SpellsToken t b → (t ≡ tokens.Skip → ⊥) → OtherFirst b
other_first tokens.Null b h never = other 0x0a b [] h (λ e. omega (arith, e))
other_first (tokens.Bool true) b h never = other 0x08 b [] h (λ e. omega (arith, e))
other_first (tokens.Bool false) b h never = other 0x09 b [] h (λ e. omega (arith, e))
other_first tokens.Skip b h never = absurd (never refl)
other_first (tokens.Int v) b h never = by_size h.size h.spelled
  where
    by_size : (s : IntSize) → b ≡ int_bytes s v → OtherFirst b
    by_size int8 e = other 0x03 b _ e (λ e. omega (arith, e))
    by_size int16 e = other 0x04 b _ e (λ e. omega (arith, e))
    by_size int32 e = other 0x05 b _ e (λ e. omega (arith, e))
    by_size int64 e = other 0x06 b _ e (λ e. omega (arith, e))
other_first (tokens.Real r) b h never = other 0x07 b _ h.1 (λ e. omega (arith, e))
other_first (tokens.Str true n) b h never = other 0x0d b h.rest h.whole (λ e. omega (arith, e))
other_first (tokens.Str false n) b h never = other 0x02 b h.rest h.whole (λ e. omega (arith, e))
other_first (tokens.Array n) b h never = other 0x00 b h.rest h.whole (λ e. omega (arith, e))
other_first (tokens.Object n) b h never = other 0x01 b h.rest h.whole (λ e. omega (arith, e))
other_first tokens.Template b h never = other 0x0b b [] h (λ e. omega (arith, e))

-- ---- values

-- where no container stands it is of no matter whether a level is left
leaf_same : (key : Reader (List ℕ)) (c : ℕ) (y : List ℕ) → (c ≡ 0x00 → ⊥) → (c ≡ 0x01 → ⊥) → (c ≡ 0x0b → ⊥) → value key 0 (c ∷ y) ≡ value key 1 (c ∷ y)
unfolding value
leaf_same key c y no_array no_object no_template = rw (ne_eqb c 0x00 no_array, ne_eqb c 0x01 no_object, ne_eqb c 0x0b no_template) refl

at_front : (key : Reader (List ℕ)) (b x : List ℕ) → LeafFirst b → value key 0 (b ++ x) ≡ value key 1 (b ++ x)
at_front key b x f =
    ap (λ l. value key 0 (l ++ x)) f.whole ∙ leaf_same key f.tag (f.rest ++ x) f.no_array f.no_object f.no_template ∙ ap (λ l. value key 1 (l ++ x)) (sym f.whole)

pub value_begins : (n : ℕ) (t : Token) (b : List ℕ) → SpellsToken t b → (IsContainer t → 0 < n) → (x : List ℕ) → with_text_keys n (b ++ x) ≡ value_rest n t x
value_begins zero t b h level x =
    at_front (text_of kinds.MapKey) b x (leaf_first t b h (λ c. let less = level c in omega (arith, less)))
    ∙ tokens_begin (text_of kinds.MapKey) 0 (b ++ x) ∙ ap (and_then (after_token (text_of kinds.MapKey) 0)) (token_there t b h x)
value_begins (suc n) t b h level x =
    tokens_begin (text_of kinds.MapKey) n (b ++ x) ∙ ap (and_then (after_token (text_of kinds.MapKey) n)) (token_there t b h x)

-- where no container stands, a leaf's token is a token
leaf_token : (c : ℕ) (y : List ℕ) → (c ≡ 0x00 → ⊥) → (c ≡ 0x01 → ⊥) → (c ≡ 0x0b → ⊥) → token_at 0 (c ∷ y) ≡ token (c ∷ y)
leaf_token c y no_array no_object no_template = rw (ne_eqb c 0x00 no_array, ne_eqb c 0x01 no_object, ne_eqb c 0x0b no_template) refl

-- the error of a refusal, whatever was asked for
pub carried : {X Y : Type 0} (e f : Error) → Path (Answer X) (refuses e) (refuses f) → Path (Answer Y) (refuses e) (refuses f)
carried e f h = (let same : e ≡ f = cc in ap refuses same)

-- what the token is refused by, the value is refused by
leaf_refused : (key : Reader (List ℕ)) (c : ℕ) (y : List ℕ) (e : Error) (a o t : Bool) → nat_eq c 0x00 ≡ a → nat_eq c 0x01 ≡ o → nat_eq c 0x0b ≡ t
    → leaf_after c y ≡ refuses e → value key 0 (c ∷ y) ≡ refuses e
unfolding value
leaf_refused key c y e true o t ea eo et h = ap (λ z. value key 0 (z ∷ y)) (eqb-true c 0x00 ea) ∙ carried _ e (sym (ap (λ z. leaf_after z y) (eqb-true c 0x00 ea)) ∙ h)
leaf_refused key c y e false true t ea eo et h = ap (λ z. value key 0 (z ∷ y)) (eqb-true c 0x01 eo) ∙ carried _ e (sym (ap (λ z. leaf_after z y) (eqb-true c 0x01 eo)) ∙ h)
leaf_refused key c y e false false true ea eo et h = ap (λ z. value key 0 (z ∷ y)) (eqb-true c 0x0b et) ∙ carried _ e (sym (ap (λ z. leaf_after z y) (eqb-true c 0x0b et)) ∙ h)
leaf_refused key c y e false false false ea eo et h =
    let no_array : c ≡ 0x00 → ⊥ = λ s. not_equal c 0x00 s ea in
    let no_object : c ≡ 0x01 → ⊥ = λ s. not_equal c 0x01 s eo in
    let no_template : c ≡ 0x0b → ⊥ = λ s. not_equal c 0x0b s et in
    leaf_same key c y no_array no_object no_template
    ∙ tokens_begin key 0 (c ∷ y) ∙ ap (and_then (after_token key 0)) (sym (leaf_token c y no_array no_object no_template) ∙ h)
  where
    not_equal : (m n : ℕ) → m ≡ n → nat_eq m n ≡ false → ⊥
    not_equal m n s f = let same : nat_eq n n ≡ false = subst (λ z. nat_eq z n ≡ false) s f in grind arith

pub value_refused : (n : ℕ) (b : List ℕ) (e : Error) → token_at n b ≡ refuses e → with_text_keys n b ≡ refuses e
unfolding value
value_refused zero [] e h = carried eof e h
value_refused zero (c ∷ y) e h = leaf_refused (text_of kinds.MapKey) c y e (nat_eq c 0x00) (nat_eq c 0x01) (nat_eq c 0x0b) refl refl refl h
value_refused (suc n) b e h = tokens_begin (text_of kinds.MapKey) n b ∙ ap (and_then (after_token (text_of kinds.MapKey) n)) h

-- ---- fields

other_field : (r : Reader Tree) (c : ℕ) (y : List ℕ) → (c ≡ 0x0c → ⊥) → field_of r (c ∷ y) ≡ and_then (λ t. give (Some t)) (r (c ∷ y))
other_field r c y never = rw (ne_eqb c 0x0c never) refl

pub field_begins : (n : ℕ) (t : Token) (b : List ℕ) → SpellsToken t b → (IsContainer t → 0 < n) → (t ≡ tokens.Skip → ⊥) → (x : List ℕ)
    → field_of (with_text_keys n) (b ++ x) ≡ and_then (λ u. give (Some u)) (value_rest n t x)
field_begins n t b h level never x =
    let f = other_first t b h never in
    ap (λ l. field_of (with_text_keys n) (l ++ x)) f.whole ∙ other_field (with_text_keys n) f.tag (f.rest ++ x) f.other
    ∙ ap (λ l. and_then (λ u. give (Some u)) (with_text_keys n (l ++ x))) (sym f.whole)
    ∙ ap (and_then (λ u. give (Some u))) (value_begins n t b h level x)

-- a value where a field is due
pub value_field : (n : ℕ) (b x : List ℕ) (v : Tree) → with_text_keys n b ≡ reads v x → field_of (with_text_keys n) b ≡ reads (Some v) x
unfolding value
value_field n [] x v h = absurd (none n h)
  where
    none : (n : ℕ) → with_text_keys n [] ≡ reads v x → ⊥
    none zero h = cc
    none (suc n) h = cc
value_field n (c ∷ y) x v h = by_tag (nat_eq c 0x0c) refl
  where
    none : (n : ℕ) → with_text_keys n (0x0c ∷ y) ≡ reads v x → ⊥
    none zero h = cc
    none (suc n) h = cc

    by_tag : (d : Bool) → nat_eq c 0x0c ≡ d → field_of (with_text_keys n) (c ∷ y) ≡ reads (Some v) x
    by_tag true s = absurd (none n (ap (λ z. with_text_keys n (z ∷ y)) (sym (eqb-true c 0x0c s)) ∙ h))
    by_tag false s = rw s (ap (and_then (λ t. give (Some t))) h)

-- a skip
pub skip_there : (r : Reader Tree) (b : List ℕ) → SpellsToken tokens.Skip b → (x : List ℕ) → field_of r (b ++ x) ≡ reads None x
skip_there r b h x = ap (λ l. field_of r (l ++ x)) h

skip_token : (n : ℕ) (y : List ℕ) → token_at n (0x0c ∷ y) ≡ reads tokens.Skip y
skip_token zero y = refl
skip_token (suc n) y = refl

pub field_refused : (n : ℕ) (b : List ℕ) (e : Error) → token_at n b ≡ refuses e → field_of (with_text_keys n) b ≡ refuses e
field_refused n [] e h = none n h
  where
    none : (n : ℕ) → token_at n [] ≡ refuses e → field_of (with_text_keys n) [] ≡ refuses e
    none zero h = carried eof e h
    none (suc n) h = carried eof e h
field_refused n (c ∷ y) e h = by_tag (nat_eq c 0x0c) refl
  where
    both : {X : Type 0} (o : Answer X) (v : X) (z : List ℕ) → o ≡ reads v z → o ≡ refuses e → ⊥
    both o v z p q = absurd cc

    by_tag : (d : Bool) → nat_eq c 0x0c ≡ d → field_of (with_text_keys n) (c ∷ y) ≡ refuses e
    by_tag true s = absurd (both (token_at n (c ∷ y)) tokens.Skip y (ap (λ z. token_at n (z ∷ y)) (eqb-true c 0x0c s) ∙ skip_token n y) h)
    by_tag false s = rw s (ap (and_then (λ t. give (Some t))) (value_refused n (c ∷ y) e h))

-- ---- a token where no level is left

-- what stands in front of the bytes that may be left
starts : (c : ℕ) (held : List ℕ) (x more : List ℕ) → held ≡ c ∷ drop 1 held → x ≡ held ++ more → x ≡ c ∷ (drop 1 held ++ more)
starts c held x more first whole = whole ∙ ap (λ l. l ++ more) first

-- a leaf is refused as a token
leaf_names : (e : Error) (a b : Window) → LeafAhead a b → Names token e b → Names (token_at 0) e a
leaf_names e a b ahead h = blames_grown (RefusedAs token) (RefusedAs (token_at 0)) 1 e a b ahead.filled.grown leaf h
  where
    leaf : (f : Error) (x more : List ℕ) → x ≡ b.buffered ++ more → token x ≡ refuses f → token_at 0 x ≡ refuses f
    leaf f x more whole h =
        let s = starts ahead.tag b.buffered x more ahead.next whole in
        ap (token_at 0) s ∙ leaf_token ahead.tag _ ahead.no_array ahead.no_object ahead.no_template ∙ ap token (sym s) ∙ h

-- a container's tag, where no level is left
pub level_names : (kind : Kind) (c : ℕ) (a b : Window) → Filled 1 a b → b.buffered ≡ c ∷ drop 1 b.buffered
    → ((y : List ℕ) → token_at 0 (c ∷ y) ≡ refuses (DeRecursionLimitExceeded kind)) → Names (token_at 0) (DeRecursionLimitExceeded kind) a
level_names kind c a b filled first refused =
    names_rejected (token_at 0) 1 (DeRecursionLimitExceeded kind) a b filled.grown
    (record {
      some = let e = ap length first in omega (arith, filled.enough);
      name = λ more. ap (λ l. token_at 0 (l ++ more)) first ∙ refused (drop 1 b.buffered ++ more);
    })

-- a byte is there
pub nothing_refused : (c : ℕ) (y : List ℕ) (e : Error) → front 1 (c ∷ y) ≡ refuses e → ⊥
nothing_refused c y e h = both (front 1 (c ∷ y)) (front_there 1 (c ∷ []) refl y) h
  where
    both : (o : Answer (List ℕ)) → o ≡ reads (c ∷ []) y → o ≡ refuses e → ⊥
    both o p q = absurd cc

-- no byte is there to be looked at
pub none_names : (e : Error) (a : Window) → Names (front 1) e a → Names (token_at 0) e a
none_names e a h = blames_more _ _ e a early h
  where
    early : (e : Error) (x : List ℕ) → front 1 x ≡ refuses e → token_at 0 x ≡ refuses e
    early e [] h = carried eof e h
    early e (c ∷ y) h = absurd (nothing_refused c y e h)

-- the token of a leaf opens no container
tag_first : (c d : ℕ) (held more text rest new : List ℕ) → held ≡ c ∷ drop 1 held → text ≡ d ∷ rest → held ++ more ≡ text ++ new → c ≡ d
tag_first c d held more text rest new first whole same =
    let e : c ∷ (drop 1 held ++ more) ≡ d ∷ (rest ++ new) = ap (λ l. l ++ more) (sym first) ∙ same ∙ ap (λ l. l ++ new) whole in
    cc

leaf_level : (t : Token) (a b c : Window) → LeafAhead a b → TookToken b c t → IsContainer t → 0 < 0
leaf_level (tokens.Array n) a b c ahead took is =
    absurd (ahead.no_array (tag_first ahead.tag 0x00 b.buffered took.took.more took.text took.spelled.rest c.buffered ahead.next took.spelled.whole took.took.bytes))
leaf_level (tokens.Object n) a b c ahead took is =
    absurd (ahead.no_object (tag_first ahead.tag 0x01 b.buffered took.took.more took.text took.spelled.rest c.buffered ahead.next took.spelled.whole took.took.bytes))
leaf_level tokens.Template a b c ahead took is =
    absurd (ahead.no_template (tag_first ahead.tag 0x0b b.buffered took.took.more took.text [] c.buffered ahead.next took.spelled took.took.bytes))
leaf_level tokens.Null a b c ahead took is = absurd is
leaf_level other a b c ahead took is = absurd is

text_some : (t : Token) (b : List ℕ) → SpellsToken t b → 1 ≤ length b
text_some t [] h = (let e : refuses eof ≡ reads t [] = token_there t [] h [] in cc)
text_some t (c ∷ y) h = omega arith

-- it was taken from where the look began
leaf_took : (r : Result Token Refused) (a b c : Window) → LeafAhead a b → IfOk r (λ t. TookToken b c t) → IfOk r (λ t. TookToken a c t)
leaf_took (Ok t) a b c ahead took = record {
  text = took.text;
  spelled = took.spelled;
  took = took_grown a b c 1 took.text ahead.filled.grown (text_some t took.text took.spelled) took.took;
}
leaf_took (Err e) a b c ahead took = tt

leaf_levels : (r : Result Token Refused) (a b c : Window) → LeafAhead a b → IfOk r (λ t. TookToken b c t) → IfOk r (λ t. IsContainer t → 0 < 0)
leaf_levels (Ok t) a b c ahead took = leaf_level t a b c ahead took
leaf_levels (Err e) a b c ahead took = tt

-- the same, however many levels are left
pub within_took : (n : ℕ) (r : Result Token Refused) (a b c : Window) → LevelsFor n a b → IfOk r (λ t. TookToken b c t) → IfOk r (λ t. TookToken a c t)
within_took zero r a b c ahead took = leaf_took r a b c ahead took
within_took (suc n) r a b c same took = subst (λ w. IfOk r (λ t. TookToken w c t)) same took

pub within_level : (n : ℕ) (r : Result Token Refused) (a b c : Window) → LevelsFor n a b → IfOk r (λ t. TookToken b c t) → IfOk r (λ t. IsContainer t → 0 < n)
within_level zero r a b c ahead took = leaf_levels r a b c ahead took
within_level (suc n) (Ok t) a b c same took = λ is. omega arith
within_level (suc n) (Err e) a b c same took = tt

pub within_names : (n : ℕ) (e : Error) (a b : Window) → LevelsFor n a b → Names token e b → Names (token_at n) e a
within_names zero e a b ahead h = leaf_names e a b ahead h
within_names (suc n) e a b same h = subst (Names token e) same h

pub within_fails : (n : ℕ) (e : Error) (a b c : Window) → LevelsFor n a b → Fails e b c → Fails e a c
within_fails zero e a b c ahead h =
    let grown = ahead.filled.grown in
    record { before = λ old. h.before (grown.failed ∙ old); failed = h.failed; lends = h.lends ∙ grown.lends; through = h.through ∙ grown.through; failures = h.failures ∙ ap (failures_by e) grown.failures }
within_fails (suc n) e a b c same h = subst (λ w. Fails e w c) same h

-- no level is left
pub no_level : (n : ℕ) (e : Error) (a : Window) → n ≡ 0 → Names (token_at 0) e a → Names (token_at n) e a
no_level n e a last h = subst (λ k. Names (token_at k) e a) (sym last) h

pub leaf_ahead : (n : ℕ) (a b : Window) → n ≡ 0 → LeafAhead a b → LevelsFor n a b
leaf_ahead n a b last h = subst (λ k. LevelsFor k a b) (sym last) h

-- a level is left
pub level_left : (n : ℕ) (a b : Window) → (n ≡ 0 → ⊥) → b ≡ a → LevelsFor n a b
level_left zero a b never same = absurd (never refl)
level_left (suc n) a b never same = same
