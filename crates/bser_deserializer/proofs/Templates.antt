-- A template's keys and the number of its rows: what was taken, and how they are refused.
use Rattle.std.proofs.Common.{◌≡◌, ◌⊎◌, inl, inr, ℕ, zero, suc, Bool, true, false, ◌<◌, List, [], ◌∷◌, ◌++◌, length, map, get_or, refl, sym, ap, subst, ◌∙◌, append_assoc, append-nil, arith, IsUtf8}
use Rattle.std.specs.Prelude.{pos}
use Rattle.bser_format.specs.Errors.{error_of}
use Rattle.bser_format.specs.Grammar.{SpellsCount, SpellsKey, SpellsString, Each}
use Rattle.bser_format.specs.declared.errors.Error.{Error}
use Rattle.bser_format.specs.declared.errors.Error.TheVariants.{DeInvalidStartByte}
use Rattle.bser_format.specs.declared.errors.Complaint.TheVariants.{RowsWithoutKeys}
use Rattle.bser_format.specs.declared.errors.Kind.TheVariants.{TemplateKey}
use Rattle.bser_format.specs.declared.errors.ReadCause.TheVariants.{Utf8}
use Rattle.bser_format.proofs.Fronts.{reads_then, count_reads, key_reads, many_all}
use Rattle.bser_source.specs.Refs.{RefusesKept}
use Rattle.bser_format.specs.Named.{refuses, give, and_then, ◌>>=◌, string, utf8, text_of, count, many, complain}
use Rattle.bser_format.specs.DueReaders.{is_key_tag, rows_wanted}
use Rattle.bser_format.proofs.Steps.{Passes}
use Rattle.bser_format.proofs.Heads.{count_passes}
use Rattle.bser_source.specs.Window.{Window, Filled, Took}
use Rattle.bser_source.proofs.Windows.{took_then}
use Rattle.bser_bunser.specs.Names.{Names, RefusedAs}
use Rattle.bser_bunser.specs.Tagged.{TookInt, TookCounted}
use Rattle.bser_bunser.proofs.Names.{names_rejected, names_taken, blames_untaken}
use Rattle.bser_deserializer.specs.Reading.{NamesBy, owned}
use Rattle.bser_deserializer.specs.Templates.{TookPart, SpellsKeys, SpellsKeysAndRows, keys_after_number, keys_and_rows}
use Rattle.bser_deserializer.proofs.Refusals.{names_any, names_by_untaken}
use Rattle.bser_deserializer.proofs.Strings.{key_tags, other_after, refused_after, no_text_after}

-- ---- a key

-- another byte is due
pub no_key : (held : List ℕ) (a b : Window) → held ≡ b.buffered → Filled 1 a b → is_key_tag (get_or held 0 0) ≡ false → NamesBy owned (text_of TemplateKey) (DeInvalidStartByte TemplateKey (get_or held 0 0)) a
no_key held a b same filled other =
    let t : ℕ = get_or held 0 0 in
    let some : 0 < length b.buffered = omega (arith, filled.enough) in
    names_any owned (text_of TemplateKey) (DeInvalidStartByte TemplateKey t) a
    (names_rejected (text_of TemplateKey) 1 (DeInvalidStartByte TemplateKey t) a b filled.grown (record { some = some; name = begun t b.buffered some (ap (λ l. get_or l 0 0) (sym same)) other }))
  where
    begun : (t : ℕ) (held : List ℕ) → 0 < length held → get_or held 0 0 ≡ t → is_key_tag t ≡ false → (more : List ℕ) → text_of TemplateKey (held ++ more) ≡ refuses (DeInvalidStartByte TemplateKey t)
    begun t [] some first other more = absurd (omega (arith, some))
    begun t (x ∷ held) some first other more =
        ap (λ y. text_of TemplateKey (y ∷ (held ++ more))) first ∙ ap (and_then utf8) (other_after (DeInvalidStartByte TemplateKey t) t (held ++ more) other)

-- its length or its bytes are refused, after its tag
pub key_refused : (t : ℕ) (e : Error) (a m : Window) → is_key_tag t ≡ true → Took a m (t ∷ []) → Names string e m → NamesBy owned (text_of TemplateKey) e a
key_refused t e a m tag took h =
    names_any owned (text_of TemplateKey) e a
    (blames_untaken (RefusedAs string) (RefusedAs (text_of TemplateKey)) e a m (t ∷ []) (λ f x p. ap (and_then utf8) (refused_after (DeInvalidStartByte TemplateKey t) f t x tag p)) took h)

-- a key was taken
pub took_key : (t : ℕ) (s : List ℕ) (a m b : Window) → is_key_tag t ≡ true → Took a m (t ∷ []) → TookCounted m b s → IsUtf8 s → TookPart (SpellsKey s) a b
took_key t s a m b tag first rest good = record {
  text = t ∷ rest.text;
  spelled = (good, string (key_tags t tag));
  took = took_then a m b (t ∷ []) rest.text first rest.took;
}
  where
    string : (t ≡ 0x02) ⊎ (t ≡ 0x0d) → SpellsString s (t ∷ rest.text)
    string (inl e) = inl (record { front = t ∷ []; rest = rest.text; whole = refl; first = ap (λ x. x ∷ []) e; second = record { front = rest.spelled.number; rest = s; whole = rest.spelled.whole; first = rest.spelled.count; second = refl } })
    string (inr e) = inr (record { front = t ∷ []; rest = rest.text; whole = refl; first = ap (λ x. x ∷ []) e; second = record { front = rest.spelled.number; rest = s; whole = rest.spelled.whole; first = rest.spelled.count; second = (good, refl) } })

-- its bytes are not kept
pub kept_refused : (lends : Bool) (t : ℕ) (s : List ℕ) (e : Error) (a m b : Window) → is_key_tag t ≡ true → Took a m (t ∷ []) → TookCounted m b s → RefusesKept lends s e → NamesBy owned (text_of TemplateKey) e a
kept_refused lends t s e a m b tag first rest (inl p) = subst (λ f. NamesBy owned (text_of TemplateKey) f a) (sym p.0) (inr (inr refl))
kept_refused lends t s e a m b tag first rest (inr p) =
    subst (λ f. NamesBy owned (text_of TemplateKey) f a) (sym p.0)
    (names_any owned (text_of TemplateKey) (error_of Utf8) a
    (names_taken (text_of TemplateKey) (error_of Utf8) a b (t ∷ rest.text) (λ x. no_text_after (DeInvalidStartByte TemplateKey t) t s rest.text x tag rest.spelled p.1) (took_then a m b (t ∷ []) rest.text first rest.took)))

key_passes : (k b : List ℕ) → SpellsKey k b → Passes (text_of TemplateKey) k b
key_passes k b h x = key_reads k b x h

-- ---- keys, one by one

-- these keys were taken, and so many are left
pub record Progress (a s : Window) (ks : List (List ℕ)) (left : ℕ) : Type 0 where
  pub text : List ℕ
  pub took : Took a s text
  pub front : (more : List (List ℕ)) (x : List ℕ) → length more ≡ left → Each SpellsKey more x → SpellsKeys (ks ++ more) (text ++ x)
  -- what refuses those left refuses the whole
  pub refused : (x : List ℕ) (e : Error) → many (text_of TemplateKey) left x ≡ refuses e → keys_after_number (text ++ x) ≡ refuses e

pub progress_start : (a s : Window) (n : ℕ) → TookPart (SpellsCount n) a s → Progress a s [] n
progress_start a s n t = record {
  text = t.text;
  took = t.took;
  front = λ more x len h. record { front = t.text; rest = x; whole = refl; first = subst (λ m. SpellsCount m t.text) (sym len) t.spelled; second = h };
  refused = λ x e h. ap (and_then (many (text_of TemplateKey))) (count_passes n t.text t.spelled x) ∙ h;
}

pub progress_next : (a s d : Window) (ks : List (List ℕ)) (k : List ℕ) (left n : ℕ) → Progress a s ks left → left ≡ suc n → TookPart (SpellsKey k) s d → Progress a d (ks ++ (k ∷ [])) n
progress_next a s d ks k left n p same t = record {
  text = p.text ++ t.text;
  took = took_then a s d p.text t.text p.took t.took;
  front = λ more x len h.
      let whole = p.front (k ∷ more) (t.text ++ x) (ap suc len ∙ sym same) (record { front = t.text; rest = x; whole = refl; first = t.spelled; second = h }) in
      subst (λ ls. SpellsKeys ls ((p.text ++ t.text) ++ x)) (sym (append_assoc ks (k ∷ []) more)) (subst (SpellsKeys (ks ++ (k ∷ more))) (sym (append_assoc p.text t.text x)) whole);
  refused = λ x e h.
      ap keys_after_number (append_assoc p.text t.text x)
      ∙ p.refused (t.text ++ x) e (ap (λ m. many (text_of TemplateKey) m (t.text ++ x)) same ∙ ap (and_then (λ l. many (text_of TemplateKey) n >>= λ ls. give (l ∷ ls))) (key_passes k t.text t.spelled x) ∙ ap (and_then (λ ls. give (k ∷ ls))) h);
}

pub progress_end : (a s : Window) (ks : List (List ℕ)) (left : ℕ) → left ≡ 0 → Progress a s ks left → TookPart (SpellsKeys ks) a s
progress_end a s ks left none p = record {
  text = p.text;
  spelled = subst (λ ls. SpellsKeys ls p.text) (append-nil ks) (subst (SpellsKeys (ks ++ [])) (append-nil p.text) (p.front [] [] (sym none) refl));
  took = p.took;
}

-- the next key is refused
pub next_refused : (a s : Window) (ks : List (List ℕ)) (left n : ℕ) (e : Error) → Progress a s ks left → left ≡ suc n → NamesBy owned (text_of TemplateKey) e s → NamesBy owned keys_after_number e a
next_refused a s ks left n e p same h =
    names_by_untaken owned keys_after_number (text_of TemplateKey) e a s p.text
    (λ f x q. p.refused x f (ap (λ m. many (text_of TemplateKey) m x) same ∙ ap (and_then (λ l. many (text_of TemplateKey) n >>= λ ls. give (l ∷ ls))) q))
    p.took h

-- ---- keys and rows

keys_pass : (ks : List (List ℕ)) (b : List ℕ) → SpellsKeys ks b → Passes keys_after_number ks b
keys_pass ks b h x =
    reads_then count (many (text_of TemplateKey)) (SpellsCount (length ks)) (Each SpellsKey ks) (length ks) ks (count_reads (length ks)) (many_all (text_of TemplateKey) SpellsKey key_reads ks) b x h

-- after its keys
rows_after : (ks : List (List ℕ)) (b x : List ℕ) → SpellsKeys ks b → keys_and_rows (b ++ x) ≡ (count >>= rows_wanted ks) x
rows_after ks b x h = ap (and_then (λ ls. count >>= rows_wanted ls)) (keys_pass ks b h x)

pub rows_refused : (e : Error) (a b : Window) (ks : List (List ℕ)) → TookPart (SpellsKeys ks) a b → Names count e b → NamesBy owned keys_and_rows e a
rows_refused e a b ks t h =
    names_by_untaken owned keys_and_rows count e a b t.text (λ f x p. rows_after ks t.text x t.spelled ∙ ap (and_then (rows_wanted ks)) p) t.took (names_any owned count e b h)

pub rows_without_keys : (a b c : Window) (ks : List (List ℕ)) (k : ℕ) → TookPart (SpellsKeys ks) a b → TookPart (SpellsCount k) b c → ks ≡ [] → (k ≡ 0 → ⊥) → NamesBy owned keys_and_rows (complain RowsWithoutKeys) a
rows_without_keys a b c ks k t u empty some =
    names_any owned keys_and_rows (complain RowsWithoutKeys) a
    (names_taken keys_and_rows (complain RowsWithoutKeys) a c (t.text ++ u.text)
    (λ x. ap keys_and_rows (append_assoc t.text u.text x) ∙ rows_after ks t.text (u.text ++ x) t.spelled ∙ ap (and_then (rows_wanted ks)) (count_passes k u.text u.spelled x) ∙ ap (λ ls. rows_wanted ls k x) empty ∙ none k x some)
    (took_then a b c t.text u.text t.took u.took))
  where
    none : (k : ℕ) (x : List ℕ) → (k ≡ 0 → ⊥) → rows_wanted [] k x ≡ refuses (complain RowsWithoutKeys)
    none zero x some = absurd (some refl)
    none (suc k) x some = refl

pub took_keys_and_rows : (a b c : Window) (ks : List (List ℕ)) (k : ℕ) → TookPart (SpellsKeys ks) a b → TookPart (SpellsCount k) b c → (ks ≡ [] → k ≡ 0) → TookPart (SpellsKeysAndRows ks k) a c
took_keys_and_rows a b c ks k t u none = record {
  text = t.text ++ u.text;
  spelled =
      let h = t.spelled in
      let whole : t.text ++ u.text ≡ h.front ++ (h.rest ++ u.text) = ap (λ l. l ++ u.text) h.whole ∙ append_assoc h.front h.rest u.text in
      (none, record { front = h.front; rest = h.rest ++ u.text; whole = whole; first = h.first; second = record { front = h.rest; rest = u.text; whole = refl; first = h.second; second = u.spelled } });
  took = took_then a b c t.text u.text t.took u.took;
}

pub no_keys : {A : Type 0} (f : A → List ℕ) (xs : List A) → length xs ≡ 0 → map f xs ≡ []
no_keys f [] e = refl
no_keys f (x ∷ xs) e = absurd (omega (arith, e))

pub some_keys : {A : Type 0} (f : A → List ℕ) (xs : List A) → map f xs ≡ [] → length xs ≡ 0
some_keys f [] e = refl
some_keys f (x ∷ xs) e = absurd cc

pub took_count : (n : ℕ) (a b : Window) → TookInt a b (pos n) → TookPart (SpellsCount n) a b
took_count n a b took = record { text = took.text; spelled = took.spelled; took = took.took }
