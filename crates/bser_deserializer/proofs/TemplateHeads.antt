-- The head of a template: its two tags, its keys and its count of rows.
use Rattle.std.proofs.Common.{◌≡◌, ℕ, zero, suc, ◌+◌, ◌-◌, ◌<◌, Bool, true, false, cond, List, [], ◌∷◌, ◌++◌, length, take, drop, nat_lt, refl, sym, ap, subst, ◌∙◌, arith}
use Rattle.std.proofs.lemmas.Bool.{ltb-true}
use Rattle.bser_format.specs.Expected.{nothing_due, rows_over}
use Rattle.bser_format.specs.declared.errors.Error.{Error}
use Rattle.bser_format.specs.declared.errors.Error.TheVariants.{DeInvalidStartByte, DeRecursionLimitExceeded}
use Rattle.bser_format.specs.declared.errors.Kind.TheVariants.{Array, TemplateKeys, TemplateKey}
use Rattle.bser_source.specs.Device.{one_more}
use Rattle.bser_source.specs.Window.{Window, Peeks, Took, closed, consumed}
use Rattle.bser_source.proofs.Windows.{took_filled, took_then}
use Rattle.bser_format.specs.Named.{Answer, Reader, reads, refuses, eof, and_then, ◌>>=◌, next, front, count, many, text_of}
use Rattle.bser_format.specs.DueReaders.{tag, items_at, rows_wanted, table_at}
use Rattle.bser_bunser.specs.Refusal.{Fails, ShortOf}
use Rattle.bser_bunser.specs.Names.{Names}
use Rattle.bser_deserializer.specs.State.{State}
use Rattle.bser_deserializer.specs.Reading.{NamesBy, IsRefusal, owned}
use Rattle.bser_deserializer.specs.Templates.{TookPart, SpellsKeysAndRows, keys_and_rows}
use Rattle.bser_deserializer.specs.Parts.{TemplateHead}
use Rattle.bser_deserializer.specs.Access.{OpensItems}
use Rattle.bser_deserializer.proofs.Refusals.{names_any, names_by_more, names_by_untaken, fails_untaken}
use Rattle.bser_deserializer.specs.View.{IsBefore}
use Rattle.bser_deserializer.proofs.Tags.{grown_left, grown_fails}
use Rattle.bser_deserializer.proofs.Containers.{unequal, RefusesHead, items_refused, items_begin, took_tag, rest_refused}

-- ---- what is refused

template_at : (n m : ℕ) (x : List ℕ) → n ≡ m + 1 → items_at n (tag 0x0b) x ≡ (next >>= table_at m) x
template_at zero m x some = absurd (omega (arith, some))
template_at (suc n) m x some = (let same : n ≡ m = omega (arith, some) in ap (λ k. (next >>= table_at k) x) same)

-- what follows the first tag is refused
inner_refused : (e : Error) (s : State) (m : ℕ) (b c : Window) → IsBefore 0x0b s → s.levels ≡ m + 1 → b ≡ consumed 1 s.source
    → Fails e b c → NamesBy owned (next >>= table_at m) e b → RefusesHead owned e s c
inner_refused e s m b c before some after fails name =
    items_refused owned e s c refl (rest_refused owned (items_at s.levels) (next >>= table_at m) 0x0b e s b c before (λ z. refl) (λ f x h. template_at s.levels m x some ∙ h) after fails name)

front_one : {X : Type 0} (k : ℕ → Reader X) (x : List ℕ) (e : Error) → front 1 x ≡ refuses e → (next >>= k) x ≡ refuses e
front_one k [] e h = (let same : eof ≡ e = cc in ap refuses same)
front_one k (y ∷ x) e h = go (nat_lt (length (y ∷ x)) 1) refl h
  where
    go : (c : Bool) → nat_lt (length (y ∷ x)) 1 ≡ c → cond c (refuses eof) (reads (take 1 (y ∷ x)) (drop 1 (y ∷ x))) ≡ refuses e → (next >>= k) (y ∷ x) ≡ refuses e
    go true less p = absurd (let h : length (y ∷ x) < 1 = ltb-true (length (y ∷ x)) 1 less in omega (arith, h))
    go false less p = absurd cc

-- no second tag is there
pub no_byte_refused : (e : Error) (s : State) (m : ℕ) (b c : Window) → IsBefore 0x0b s → s.levels ≡ m + 1 → b ≡ consumed 1 s.source
    → ShortOf 1 e b c → Names (front 1) e b → RefusesHead owned e s c
no_byte_refused e s m b c before some after short name =
    inner_refused e s m b c before some after short.fails
    (names_by_more owned (next >>= table_at m) (front 1) e b (λ f x h. front_one (table_at m) x f h) (names_any owned (front 1) e b name))

-- the second byte is refused, whatever follows
byte_refused : (e : Error) (s : State) (m t : ℕ) (b c d : Window) → IsBefore 0x0b s → s.levels ≡ m + 1 → b ≡ consumed 1 s.source → Peeks b c t → IsRefusal e → d ≡ closed c
    → ((y : List ℕ) → table_at m t y ≡ refuses e) → RefusesHead owned e s d
byte_refused e s m t b c d before some after peeks kind same is =
    inner_refused e s m b d before some after (grown_fails 1 e b c d kind peeks.filled.grown peeks.filled.working same)
    (grown_left owned (next >>= table_at m) e 1 b c t is peeks.filled.grown peeks.next)

other_byte : (m t : ℕ) (y : List ℕ) → (t ≡ 0x00 → ⊥) → table_at m t y ≡ refuses (DeInvalidStartByte TemplateKeys t)
other_byte m t y other = rw (unequal t 0x00 other) refl

pub keys_byte_refused : (e : Error) (s : State) (m t : ℕ) (b c d : Window) → IsBefore 0x0b s → s.levels ≡ m + 1 → b ≡ consumed 1 s.source → Peeks b c t → d ≡ closed c
    → (t ≡ 0x00 → ⊥) → e ≡ DeInvalidStartByte TemplateKeys t → RefusesHead owned e s d
keys_byte_refused e s m t b c d before some after peeks same other reason =
    byte_refused e s m t b c d before some after peeks (subst IsRefusal (sym reason) tt) same (λ y. other_byte m t y other ∙ ap refuses (sym reason))

keys_level : (m t : ℕ) (y : List ℕ) → m ≡ 0 → t ≡ 0x00 → table_at m t y ≡ refuses (DeRecursionLimitExceeded Array)
keys_level zero zero y none array = refl
keys_level zero (suc t) y none array = absurd cc
keys_level (suc m) t y none array = absurd cc

pub keys_level_refused : (e : Error) (s : State) (m t : ℕ) (b c d : Window) → IsBefore 0x0b s → s.levels ≡ m + 1 → b ≡ consumed 1 s.source → Peeks b c t → d ≡ closed c
    → t ≡ 0x00 → m ≡ 0 → e ≡ DeRecursionLimitExceeded Array → RefusesHead owned e s d
keys_level_refused e s m t b c d before some after peeks same array none reason =
    byte_refused e s m t b c d before some after peeks (subst IsRefusal (sym reason) tt) same (λ y. keys_level m t y none array ∙ ap refuses (sym reason))

-- one reader after two others
after_both : {X Y Z : Type 0} (f : X → Reader Y) (g : Y → Reader Z) (o : Answer X) → and_then (λ v. f v >>= g) o ≡ and_then g (and_then f o)
after_both f g (reads v x) = refl
after_both f g (refuses e) = refl

keys_and_rows_same : (m t : ℕ) (x : List ℕ) → (m ≡ 0 → ⊥) → t ≡ 0x00 → table_at m t x ≡ keys_and_rows x
keys_and_rows_same zero t x some array = absurd (some refl)
keys_and_rows_same (suc m) zero x some array = after_both (λ n. many (text_of TemplateKey) n) (λ ks. count >>= λ k. rows_wanted ks k) (count x)
keys_and_rows_same (suc m) (suc t) x some array = absurd cc

-- the tag that was seen was taken
peek_took : (t : ℕ) (a b c : Window) → Peeks a b t → c ≡ consumed 1 b → Took a c (t ∷ [])
peek_took t a b c peeks after =
    let first : take 1 b.buffered ≡ t ∷ [] = ap (take 1) peeks.next in
    subst (Took a c) first (subst (λ z. Took a z (take 1 b.buffered)) (sym after) (took_filled 1 a b peeks.filled))

pub keys_and_rows_refused : (e : Error) (s : State) (m t : ℕ) (b c d f : Window) → IsBefore 0x0b s → s.levels ≡ m + 1 → b ≡ consumed 1 s.source → Peeks b c t → t ≡ 0x00 → (m ≡ 0 → ⊥) → d ≡ consumed 1 c
    → Fails e d f → NamesBy owned keys_and_rows e d → RefusesHead owned e s f
keys_and_rows_refused e s m t b c d f before some after peeks array deep next_after fails name =
    let took = peek_took t b c d peeks next_after in
    inner_refused e s m b f before some after (fails_untaken e b d f (t ∷ []) took fails)
    (names_by_untaken owned (next >>= table_at m) keys_and_rows e b d (t ∷ []) (λ f x h. keys_and_rows_same m t x deep array ∙ h) took name)

-- ---- what was opened

template_head : (n m : ℕ) (ks : List (List ℕ)) (k : ℕ) (rest : List ℕ) → n ≡ m + 1 → (m ≡ 0 → ⊥) → SpellsKeysAndRows ks k rest → TemplateHead n ks k (0x0b ∷ 0x00 ∷ rest)
template_head zero m ks k rest e some h = absurd (omega (arith, e))
template_head (suc zero) m ks k rest e some h = absurd (some (omega (arith, e)))
template_head (suc (suc n)) m ks k rest e some (g, h) = (g, record { front = 0x0b ∷ []; rest = 0x00 ∷ rest; whole = refl; first = refl; second = record { front = 0x00 ∷ []; rest = rest; whole = refl; first = refl; second = h } })

-- the state inside a template
abbrev pub inside_rows : State → ℕ → List (List ℕ) → Window → State
inside_rows s m ks c = record s { source = c; due = nothing_due; levels = m; opened = one_more s.opened; keys = ks; outer = s.outer ++ s.keys ∷ [] }

pub opens_template : (s t : State) (m k x : ℕ) (ks : List (List ℕ)) (b c d f : Window) → IsBefore 0x0b s → s.levels ≡ m + 1 → b ≡ consumed 1 s.source → Peeks b c x → x ≡ 0x00 → (m ≡ 0 → ⊥) → d ≡ consumed 1 c
    → TookPart (SpellsKeysAndRows ks k) d f → t ≡ inside_rows s m ks f → OpensItems s (record { state = t; wanted = rows_over t.keys k; levels = s.levels; opened = s.opened })
opens_template s t m k x ks b c d f before levels after peeks array deep next_after part state =
    let second : Took b d (0x00 ∷ []) = subst (λ y. Took b d (y ∷ [])) array (peek_took x b c d peeks next_after) in
    let tags : Took s.source d (0x0b ∷ 0x00 ∷ []) = took_then s.source b d (0x0b ∷ []) (0x00 ∷ []) (took_tag 0x0b s b before (λ z. refl) after) second in
    subst (λ (z : State). OpensItems s (record { state = z; wanted = rows_over z.keys k; levels = s.levels; opened = s.opened })) (sym state) (record {
      text = 0x0b ∷ 0x00 ∷ part.text;
      head = items_begin s.levels s.due (rows_over ks k) (0x0b ∷ 0x00 ∷ part.text) before.due (template_head s.levels m ks k part.text levels deep part.spelled);
      took = took_then s.source d f (0x0b ∷ 0x00 ∷ []) part.text tags part.took;
      state = (let less : m ≡ s.levels - 1 = omega (arith, levels) in ap (λ n. inside_rows s n ks f) less);
      levels = refl;
      opened = refl;
    })
