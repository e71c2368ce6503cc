-- From what is due to what is due behind some tokens.
use Rattle.std.proofs.Common.{◌≡◌, ℕ, suc, List, [], ◌∷◌, ◌++◌, Bool, true, false, None, refl, sym, ap, subst, ◌∙◌, append_assoc, append-nil, true≢false}
use Rattle.json.specs.Token as tokens
use Rattle.bser_format.specs.Tree.{Tree}
use Rattle.bser_from_json.specs.Made.{Around, in_array, Due, a_value, an_item, a_first_member, a_member, nothing, goes_on, has_level, mark_in, is_bad, run, step, made, makes}
use Rattle.bser_from_json.specs.declared.reading.Strings.{Strings}

-- these tokens lead from what is due to what is due behind them
abbrev pub Leads : Strings → Due → List tokens.Token → Due → Type 0
Leads s d ts e = (n : ℕ) (rest : List tokens.Token) → (m : ℕ) × (run s n d (ts ++ rest) ≡ run s m e rest)

pub leads_one : (s : Strings) (d e : Due) (t : tokens.Token) → is_bad t ≡ false → step s d t ≡ goes_on e → Leads s d (t ∷ []) e
unfolding run
leads_one s d e t good goes n rest = (suc n, rw (good, goes) refl)

pub leads_then : (s : Strings) (d e f : Due) (a b : List tokens.Token) → Leads s d a e → Leads s e b f → Leads s d (a ++ b) f
leads_then s d e f a b p q n rest =
    let i = p n (b ++ rest) in
    let j = q i.0 rest in
    (j.0, ap (run s n d) (append_assoc a b rest) ∙ i.1 ∙ j.1)

pub leads_same : (s : Strings) (d e : Due) (a b : List tokens.Token) → a ≡ b → Leads s d b e → Leads s d a e
leads_same s d e a b same p = subst (λ l. Leads s d l e) (sym same) p

-- where an item may stand, a value does, unless the array ends
abbrev pub is_close : tokens.Token → Bool
is_close tokens.end_array = true
is_close _ = false

pub item_as_value : (s : Strings) (n : ℕ) (us : List Tree) (os : List Around) (t : tokens.Token) (ts : List tokens.Token) → is_close t ≡ false → run s n (an_item us os) (t ∷ ts) ≡ run s n (a_value (in_array us ∷ os)) (t ∷ ts)
unfolding run
item_as_value s n us os tokens.begin_object ts h = refl
item_as_value s n us os tokens.end_object ts h = refl
item_as_value s n us os tokens.begin_array ts h = refl
item_as_value s n us os tokens.end_array ts h = absurd (true≢false h)
item_as_value s n us os (tokens.key k) ts h = refl
item_as_value s n us os (tokens.string k) ts h = refl
item_as_value s n us os (tokens.number k) ts h = refl
item_as_value s n us os (tokens.boolean b) ts h = refl
item_as_value s n us os tokens.null ts h = refl
item_as_value s n us os tokens.bad ts h = refl

-- tokens that begin with one that does not end an array
abbrev pub BeginsOpen : List tokens.Token → Type 0
BeginsOpen ts = (t : tokens.Token) × (more : List tokens.Token) × (ts ≡ t ∷ more) × (is_close t ≡ false)

pub leads_item : (s : Strings) (us : List Tree) (os : List Around) (e : Due) (ts : List tokens.Token) → BeginsOpen ts → Leads s (a_value (in_array us ∷ os)) ts e → Leads s (an_item us os) ts e
leads_item s us os e ts b p n rest =
    let i = p n rest in
    let same : ts ++ rest ≡ b.0 ∷ (b.1 ++ rest) = ap (λ l. l ++ rest) b.2 in
    (i.0, ap (run s n (an_item us os)) same ∙ item_as_value s n us os b.0 (b.1 ++ rest) b.3 ∙ ap (run s n (a_value (in_array us ∷ os))) (sym same) ∙ i.1)

-- behind the brace of an object that may be there, a first member is one
pub first_as_member : (s : Strings) (n : ℕ) (os : List Around) (t : tokens.Token) (ts : List tokens.Token) → mark_in t ≡ None → has_level os ≡ true → run s n (a_first_member os) (t ∷ ts) ≡ run s n (a_member [] os) (t ∷ ts)
unfolding run
first_as_member s n os t ts unmarked level = rw unmarked (rw level refl)

pub leads_first : (s : Strings) (os : List Around) (e : Due) (ts : List tokens.Token) (t : tokens.Token) (more : List tokens.Token) → ts ≡ t ∷ more → mark_in t ≡ None → has_level os ≡ true → Leads s (a_member [] os) ts e → Leads s (a_first_member os) ts e
leads_first s os e ts t more is unmarked level p n rest =
    let i = p n rest in
    let same : ts ++ rest ≡ t ∷ (more ++ rest) = ap (λ l. l ++ rest) is in
    (i.0, ap (run s n (a_first_member os)) same ∙ first_as_member s n os t (more ++ rest) unmarked level ∙ ap (run s n (a_member [] os)) (sym same) ∙ i.1)

pub leads_to_the_end : (s : Strings) (ts : List tokens.Token) (u : Tree) → Leads s (a_value []) ts (nothing u) → made s ts ≡ makes u
unfolding run
leads_to_the_end s ts u p = ap (run s 0 (a_value [])) (sym (append-nil ts)) ∙ (p 0 []).1
