-- What is made of the tokens of a text, one after the other.
use Rattle.std.proofs.Common.{◌≡◌, ℕ, suc, ◌+◌, ◌-◌, List, [], ◌∷◌, length, Bool, true, false, Some, None, Result, Ok, Err, Vec, refl, sym, ap, subst, ◌∙◌, arith, lt-ltb, ltb-true, if◌then◌else◌}
use Rattle.json.specs.Token as tokens
use Rattle.json.specs.Reads.{token_of}
use Rattle.json.specs.declared.token.Token.{Token}
use Rattle.json.specs.declared.token.Token.TheVariants as kinds
use Rattle.std.specs.Borrow.{Bor}
use Rattle.std.specs.declared.alloc.Global.{Global}
use Rattle.bser_format.specs.Tree.{Tree, array, object, items_of, entries_of}
use Rattle.bser_from_json.specs.Left.{ComesWhere, IsRefused, LacksToken, Takes, due_to, opens, step_to}
use Rattle.bser_from_json.specs.Made.{Around, in_array, in_object, Due, goes_on, stops, stops_before, Outcome, makes, refuses, lacks, breaks, made, unmet, a_value, a_first_member, a_string, end_step, mark_in, member_step, name_of, named_step, new_name, unless_mark, an_end, an_item, end_due, mark_fault, marked_made, at_end, follow, has_level, is_bad, item_step, most_levels, nothing, put, run, step, value_step}
use Rattle.bser_from_json.specs.declared.fault.JsonFault.{JsonFault}
use Rattle.bser_from_json.specs.declared.fault.JsonFault.TheVariants as faults
use Rattle.bser_from_json.specs.declared.meaning.Mark.{Mark}
use Rattle.bser_from_json.specs.declared.reading.Strings.{Strings}
use Rattle.bser_from_json.specs.declared.tokens.TokenError.{TokenError}
use Rattle.bser_from_json.specs.declared.tokens.TokenError.TheVariants as refusals
use Rattle.bser_from_json.specs.declared.tokens.Tokens.{Tokens}

-- ---- the next token

run_on : (s : Strings) (n m : ℕ) (d : Due) (t : tokens.Token) (rs ts : List tokens.Token) → rs ≡ t ∷ ts → is_bad t ≡ false → m ≡ suc n → run s n d rs ≡ follow m (step s d t) (λ e. run s m e ts)
unfolding run
run_on s n m d t rs ts left good count = rw (left, good, count) refl

run_lacks : (s : Strings) (n : ℕ) (d : Due) (ts : List tokens.Token) → (at_end n d ≡ lacks n) × (unmet n d ≡ lacks n) → LacksToken ts → run s n d ts ≡ lacks n
unfolding run
run_lacks s n d [] last h = last.0
run_lacks s n d (t ∷ ts) last h = rw h last.1

-- a token was taken: the outcome is that behind what it does
pub taken : (s : Strings) (d : Due) (old new : Tokens) (t : Token) → Takes old new (Ok t) → due_to s old d ≡ step_to s new (step s d (token_of t))
taken s d old new t h = run_on s old.taken new.taken d (token_of t) old.reader new.reader h.0 h.1 h.2

-- there is none
pub lacking : (s : Strings) (d : Due) (old new : Tokens) (e : TokenError) → (at_end old.taken d ≡ lacks old.taken) × (unmet old.taken d ≡ lacks old.taken) → Takes old new (Err e) → IsRefused (due_to s old d) e
lacking s d old new e last h = subst (IsRefused (due_to s old d)) (sym h.0) (run_lacks s old.taken d old.reader last h.1)

-- the same outcome is refused by the same
pub refused_same : (a b : Outcome) (e : TokenError) → a ≡ b → IsRefused b e → IsRefused a e
refused_same a b e same h = subst (λ o. IsRefused o e) (sym same) h

-- what comes to the same comes of it, where as much may be around
pub comes_from : (may may' : List Around → Type 0) (from from' : List Around → Outcome) (s : Strings) (left : Tokens) (bytes : List ℕ) (r : Result (Vec ℕ Global) TokenError) → ((os : List Around) → may os → may' os) → ((os : List Around) → may os → from os ≡ from' os) → ComesWhere may' s from' left bytes r → ComesWhere may s from left bytes r
comes_from may may' from from' s left bytes (Ok all) fits same h = (h.0, h.1, λ os m. same os m ∙ h.2 os (fits os m))
comes_from may may' from from' s left bytes (Err e) fits same h = λ os m. refused_same (from os) (from' os) e (same os m) (h os (fits os m))

-- levels

pub no_room : (os : List Around) → length os + 0 ≡ most_levels → has_level os ≡ false
no_room os h = by (has_level os) refl
  where
    by : (b : Bool) → has_level os ≡ b → b ≡ false
    by true e = absurd (omega (arith, h, ltb-true (length os) most_levels e))
    by false e = refl

-- no token may stand behind the value

run_behind : (s : Strings) (n : ℕ) (u : Tree) (t : tokens.Token) (ts : List tokens.Token) (b : Bool) → is_bad t ≡ b → run s n (nothing u) (t ∷ ts) ≡ breaks n
unfolding run
run_behind s n u t ts true bad = rw bad refl
run_behind s n u t ts false good = rw good (ap breaks (omega arith))

pub refused_end : (s : Strings) (old : Tokens) (u : Tree) (t : tokens.Token) (ts : List tokens.Token) (e : TokenError) → old.reader ≡ t ∷ ts → e ≡ refusals.Breaks old.taken → IsRefused (due_to s old (nothing u)) e
refused_end s old u t ts e left is =
    subst (IsRefused (due_to s old (nothing u))) (sym is) (ap (run s old.taken (nothing u)) left ∙ run_behind s old.taken u t ts (is_bad t) refl)

-- the exit of a `?`

pub refused_is : (o : Outcome) (y e : TokenError) → y ≡ e → IsRefused o e → IsRefused o y
refused_is o y e same h = subst (IsRefused o) (sym same) h

-- what is marked

pub mark_refused : (s : Strings) (m : Mark) (os : List Around) (old mid : Tokens) (t : Token) (f : JsonFault) (e : TokenError) → Takes old mid (Ok t) → None ≡ marked_made m (token_of t) → f ≡ mark_fault m → e ≡ refusals.At f mid.taken → IsRefused (due_to s old (a_string m os)) e
mark_refused s m os old mid t f e takes none fault is =
    subst (IsRefused (due_to s old (a_string m os))) (sym is)
    (taken s (a_string m os) old mid t takes ∙ ap (λ o. step_to s mid (end_due m os o)) (sym none) ∙ ap (λ g. refuses g mid.taken) (sym fault))

pub mark_taken : (s : Strings) (m : Mark) (os : List Around) (old mid : Tokens) (t : Token) (u : Tree) → Takes old mid (Ok t) → Some u ≡ marked_made m (token_of t) → due_to s old (a_string m os) ≡ due_to s mid (an_end u os)
mark_taken s m os old mid t u takes some = taken s (a_string m os) old mid t takes ∙ ap (λ o. step_to s mid (end_due m os o)) (sym some)

-- a token that begins neither an array nor an object
pub not_opening : (t : Token) → (t ≡ kinds.BeginArray → ⊥) → (t ≡ kinds.BeginObject → ⊥) → opens (token_of t) ≡ false
not_opening kinds.BeginObject a o = absurd (o refl)
not_opening kinds.EndObject a o = refl
not_opening kinds.BeginArray a o = absurd (a refl)
not_opening kinds.EndArray a o = refl
not_opening (kinds.Key k) a o = refl
not_opening (kinds.String k) a o = refl
not_opening (kinds.Number k) a o = refl
not_opening (kinds.Bool b) a o = refl
not_opening kinds.Null a o = refl
not_opening kinds.Bad a o = refl

-- ---- arrays

pub room : (os : List Around) (levels : ℕ) → length os + levels ≡ most_levels → (levels ≡ 0 → ⊥) → has_level os ≡ true
room os levels h some = lt-ltb (length os) most_levels (omega (arith, h, some))

-- behind the bracket of an array that may be there
pub array_begun : (s : Strings) (left : Tokens) (os : List Around) → has_level os ≡ true → step_to s left (value_step s os tokens.begin_array) ≡ due_to s left (an_item [] os)
array_begun s left os h = ap (λ b. step_to s left (if b then goes_on (an_item [] os) else stops faults.TooDeep)) h

pub item_is_value : (s : Strings) (us : List Tree) (os : List Around) (t : Token) → (t ≡ kinds.EndArray → ⊥) → item_step s us os (token_of t) ≡ value_step s (in_array us ∷ os) (token_of t)
item_is_value s us os kinds.BeginObject h = refl
item_is_value s us os kinds.EndObject h = refl
item_is_value s us os kinds.BeginArray h = refl
item_is_value s us os kinds.EndArray h = absurd (h refl)
item_is_value s us os (kinds.Key k) h = refl
item_is_value s us os (kinds.String k) h = refl
item_is_value s us os (kinds.Number k) h = refl
item_is_value s us os (kinds.Bool b) h = refl
item_is_value s us os kinds.Null h = refl
item_is_value s us os kinds.Bad h = refl

-- an item's first token was taken
pub item_taken : (s : Strings) (us : List Tree) (os : List Around) (old mid : Tokens) (t : Token) → Takes old mid (Ok t) → (t ≡ kinds.EndArray → ⊥) → due_to s old (an_item us os) ≡ step_to s mid (value_step s (in_array us ∷ os) (token_of t))
item_taken s us os old mid t takes other = taken s (an_item us os) old mid t takes ∙ ap (step_to s mid) (item_is_value s us os t other)

-- the end of an array was taken
pub array_ended : (s : Strings) (us : List Tree) (os : List Around) (old mid : Tokens) (t : Token) → Takes old mid (Ok t) → t ≡ kinds.EndArray → due_to s old (an_item us os) ≡ due_to s mid (put (array (items_of us)) os)
array_ended s us os old mid t takes is = taken s (an_item us os) old mid t takes ∙ ap (λ t. step_to s mid (item_step s us os (token_of t))) is

-- ---- objects

-- the first token behind a brace is no mark's key
pub first_taken : (s : Strings) (os : List Around) (old mid : Tokens) (t : Token) → Takes old mid (Ok t) → None ≡ mark_in (token_of t) → has_level os ≡ true → due_to s old (a_first_member os) ≡ step_to s mid (member_step [] os (token_of t))
first_taken s os old mid t takes none h =
    taken s (a_first_member os) old mid t takes ∙ ap (λ o. step_to s mid (unless_mark os (token_of t) o)) (sym none)
    ∙ ap (λ b. step_to s mid (if b then member_step [] os (token_of t) else stops_before faults.TooDeep)) h

pub first_too_deep : (s : Strings) (os : List Around) (old mid : Tokens) (t : Token) (begun : ℕ) → Takes old mid (Ok t) → None ≡ mark_in (token_of t) → has_level os ≡ false → begun ≡ old.taken → due_to s old (a_first_member os) ≡ refuses faults.TooDeep begun
first_too_deep s os old mid t begun takes none h is =
    let back : mid.taken - 1 ≡ begun = omega (arith, takes.2, is) in
    taken s (a_first_member os) old mid t takes ∙ ap (λ o. step_to s mid (unless_mark os (token_of t) o)) (sym none)
    ∙ ap (λ b. step_to s mid (if b then member_step [] os (token_of t) else stops_before faults.TooDeep)) h ∙ ap (refuses faults.TooDeep) back

pub first_marks : (s : Strings) (os : List Around) (old mid : Tokens) (t : Token) (m : Mark) → Takes old mid (Ok t) → Some m ≡ mark_in (token_of t) → due_to s old (a_first_member os) ≡ due_to s mid (a_string m os)
first_marks s os old mid t m takes some = taken s (a_first_member os) old mid t takes ∙ ap (λ o. step_to s mid (unless_mark os (token_of t) o)) (sym some)

pub member_named : (s : Strings) (left : Tokens) (es : List (List ℕ × Tree)) (os : List Around) (t : Token) (k : Bor (List ℕ)) (name : List ℕ) → t ≡ kinds.Key k → new_name es (name_of k.now) ≡ Ok name → step_to s left (member_step es os (token_of t)) ≡ due_to s left (a_value (in_object es name ∷ os))
member_named s left es os t k name is named = ap (λ t. step_to s left (member_step es os (token_of t))) is ∙ ap (λ r. step_to s left (named_step es os r)) named

pub member_refused : (s : Strings) (left : Tokens) (es : List (List ℕ × Tree)) (os : List Around) (t : Token) (k : Bor (List ℕ)) (f : JsonFault) (e : TokenError) → t ≡ kinds.Key k → new_name es (name_of k.now) ≡ Err f → e ≡ refusals.At f left.taken → IsRefused (step_to s left (member_step es os (token_of t))) e
member_refused s left es os t k f e is named at =
    subst (IsRefused (step_to s left (member_step es os (token_of t)))) (sym at)
    (ap (λ t. step_to s left (member_step es os (token_of t))) is ∙ ap (λ r. step_to s left (named_step es os r)) named)

pub object_ended : (s : Strings) (left : Tokens) (es : List (List ℕ × Tree)) (os : List Around) (t : Token) → t ≡ kinds.EndObject → step_to s left (member_step es os (token_of t)) ≡ due_to s left (put (object (entries_of es)) os)
object_ended s left es os t is = ap (λ t. step_to s left (member_step es os (token_of t))) is

-- ---- the end of a mark

pub mark_ended : (s : Strings) (u : Tree) (os : List Around) (old mid : Tokens) (t : Token) → Takes old mid (Ok t) → t ≡ kinds.EndObject → due_to s old (an_end u os) ≡ due_to s mid (put u os)
mark_ended s u os old mid t takes is = taken s (an_end u os) old mid t takes ∙ ap (λ t. step_to s mid (end_step u os (token_of t))) is

other_end : (u : Tree) (os : List Around) (t : Token) → (t ≡ kinds.EndObject → ⊥) → end_step u os (token_of t) ≡ stops faults.MarkWithMembers
other_end u os kinds.BeginObject h = refl
other_end u os kinds.EndObject h = absurd (h refl)
other_end u os kinds.BeginArray h = refl
other_end u os kinds.EndArray h = refl
other_end u os (kinds.Key k) h = refl
other_end u os (kinds.String k) h = refl
other_end u os (kinds.Number k) h = refl
other_end u os (kinds.Bool b) h = refl
other_end u os kinds.Null h = refl
other_end u os kinds.Bad h = refl

pub mark_goes_on : (s : Strings) (u : Tree) (os : List Around) (old mid : Tokens) (t : Token) → Takes old mid (Ok t) → (t ≡ kinds.EndObject → ⊥) → due_to s old (an_end u os) ≡ refuses faults.MarkWithMembers mid.taken
mark_goes_on s u os old mid t takes other = taken s (an_end u os) old mid t takes ∙ ap (step_to s mid) (other_end u os t other)

-- ---- the whole text

pub made_is : (s : Strings) (left : Tokens) (ts : List tokens.Token) → left.reader ≡ ts → left.taken ≡ 0 → made s ts ≡ due_to s left (a_value [])
made_is s left ts reader none = λ i. run s (sym none i) (a_value []) (sym reader i)

pub run_end : (s : Strings) (left : Tokens) (u : Tree) → left.reader ≡ [] → due_to s left (nothing u) ≡ makes u
unfolding run
run_end s left u reader = ap (run s left.taken (nothing u)) reader
