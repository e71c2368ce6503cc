-- What names the refusals of a type that is read in steps: what was taken is passed over, and the refusal of what is left is that of the whole.
use Rattle.std.proofs.Common.{◌≡◌, ℕ, suc, true, ◌||◌, List, ◌++◌, Option, Some, None, inl, inr, sym, ap, ◌∙◌}
use Rattle.bser_format.specs.Tree.{Tree}
use Rattle.bser_format.specs.Content.{Content, Meaning}
use Rattle.bser_format.specs.Expected.{Due, Fills}
use Rattle.bser_format.specs.declared.errors.Error.{Error}
use Rattle.bser_source.specs.Device.{one_more}
use Rattle.bser_format.specs.Named.{Reader, refuses}
use Rattle.bser_format.specs.Asks.{Asks}
use Rattle.bser_format.proofs.Steps as steps
use Rattle.bser_format.proofs.Steps.{Continues, goes_on}
use Rattle.bser_source.specs.Window.{Window, Took}
use Rattle.bser_bunser.specs.Names.{RefusedAs}
use Rattle.bser_bunser.proofs.Names.{left_now, left_untaken, known_rest}
use Rattle.bser_deserializer.specs.State.{State}
use Rattle.bser_deserializer.specs.Reading.{Asking, NamesAsked, NamesBy, refusing, Needs}
use Rattle.bser_deserializer.proofs.Refusals.{names_by_untaken, names_by_more}
use Rattle.bser_types.specs.Askings.{counted}
use Rattle.bser_types.proofs.Taken.{wider_outside}

-- ---- what is left to be asked for, of a type that tells of names

-- of what was due in the state o these bytes were taken, and `now` is left
abbrev pub Asked : {R : Meaning} → Option (Asking R) → State → Reader Unit → List ℕ → Type 0
Asked None o now taken = Unit {0}
Asked (Some a) o now taken = Continues (a.asks o.opened o.levels o.due) now taken

-- these bytes lead on from what is left
abbrev pub StepAsked : {R : Meaning} → Option (Asking R) → Reader Unit → Reader Unit → List ℕ → Type 0
StepAsked None now after text = Unit {0}
StepAsked (Some a) now after text = Continues now after text

-- what refuses the head refuses the whole
abbrev pub HeadAsked : {R : Meaning} → {X : Type 0} → Option (Asking R) → State → Reader X → Type 0
HeadAsked None o head = Unit {0}
HeadAsked (Some a) o head = (x : List ℕ) (e : Error) → head x ≡ refuses e → a.asks o.opened o.levels o.due x ≡ refuses e

-- what is due in the state p is asked for first of what is left: what refuses it refuses the rest
abbrev pub FirstAsked : {R T : Meaning} → Option (Asking R) → Option (Asking T) → State → Reader Unit → Type 0
FirstAsked None tells p now = Unit {0}
FirstAsked (Some a) None p now = ⊥
FirstAsked (Some a) (Some b) p now = (x : List ℕ) (e : Error) → b.asks p.opened p.levels p.due x ≡ refuses e → now x ≡ refuses e

-- what is left is refused so, whatever follows
abbrev pub NoneAsked : {R : Meaning} → Option (Asking R) → Reader Unit → Error → Type 0
NoneAsked None now e = Unit {0}
NoneAsked (Some a) now e = (x : List ℕ) → now x ≡ refuses e

-- ---- steps

pub asked_then : (R : Meaning) (asks : Option (Asking R)) (o : State) (now after : Reader Unit) (xs ys : List ℕ) → Asked asks o now xs → StepAsked asks now after ys → Asked asks o after (xs ++ ys)
asked_then R None o now after xs ys first second = tt
asked_then R (Some a) o now after xs ys first second = goes_on (a.asks o.opened o.levels o.due) now after xs ys first second

-- ---- inside a container

-- a part asks by the levels and the open containers that are there
pub asked_inside : (A : Asks) (o i : State) (n : ℕ) (d : Due) (x : List ℕ) → i.opened ≡ one_more o.opened → i.levels ≡ n → A i.opened i.levels d x ≡ counted A (suc o.opened) n d x
asked_inside A o i n d x opened levels = ap (λ p. A p i.levels d x) opened ∙ ap (λ m. A (one_more o.opened) m d x) levels

-- what was read of a part is passed over
pub part_passes : (T : Meaning) (a : Asking T) (o i : State) (n : ℕ) (d : Due) (t : Tree) (c : Content) (text : List ℕ) → i.opened ≡ one_more o.opened → i.levels ≡ n → Fills i.levels d t text → T t ≡ Some c
    → steps.Passes (counted a.asks (suc o.opened) n d) tt text
part_passes T a o i n d t c text opened levels filled read x = sym (asked_inside a.asks o i n d (text ++ x) opened levels) ∙ a.passes i.opened i.levels d t c text x filled read

-- ---- names

-- what needs more may be refused by the same name
pub names_by_wider : {X : Type 0} (some all : Needs) (r : Reader X) (e : Error) (s : Window) → (some.lent ≡ true → all.lent ≡ true) → (some.memory || some.keys ≡ true → all.memory || all.keys ≡ true)
    → NamesBy some r e s → NamesBy all r e s
names_by_wider some all r e s lent takes (inl h) = inl h
names_by_wider some all r e s lent takes (inr h) = inr (wider_outside (refusing some) (refusing all) (RefusedAs r) e s lent takes h)

-- the head is refused
pub head_named : {X : Type 0} (R : Meaning) (asks : Option (Asking R)) (needs : Needs) (e : Error) (o : State) (head : Reader X) → HeadAsked asks o head → NamesBy needs head e o.source → NamesAsked needs asks e o
head_named R None needs e o head is name = tt
head_named R (Some a) needs e o head is name = names_by_more needs (a.asks o.opened o.levels o.due) head e o.source (λ f x h. is x f h) name

-- the part that is asked for first is refused
pub part_named : (R T : Meaning) (asks : Option (Asking R)) (tells : Option (Asking T)) (needs : Needs) (e : Error) (o p : State) (now : Reader Unit) (taken : List ℕ) → Asked asks o now taken → Took o.source p.source taken
    → FirstAsked asks tells p now → NamesAsked needs tells e p → NamesAsked needs asks e o
part_named R T None tells needs e o p now taken asked took first name = tt
part_named R T (Some a) None needs e o p now taken asked took first name = absurd first
part_named R T (Some a) (Some b) needs e o p now taken asked took first name =
    names_by_untaken needs (a.asks o.opened o.levels o.due) (b.asks p.opened p.levels p.due) e o.source p.source taken (λ f x h. asked x ∙ first x f h) took name

-- whatever is left is refused
pub none_named : (R : Meaning) (asks : Option (Asking R)) (needs : Needs) (e : Error) (o : State) (m : Window) (now : Reader Unit) (taken : List ℕ) → Asked asks o now taken → Took o.source m taken → NoneAsked asks now e
    → NamesAsked needs asks e o
none_named R None needs e o m now taken asked took none = tt
none_named R (Some a) needs e o m now taken asked took none =
    let x = m.buffered ++ known_rest m.beyond in
    inl (taken ++ x, left_untaken o.source m taken x took (left_now m), asked x ∙ none x)
