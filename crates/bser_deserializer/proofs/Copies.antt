-- Strings that are taken as copies, and how they are refused.
use Rattle.std.proofs.Common.{◌≡◌, inl, inr, ℕ, true, false, List, [], ◌∷◌, Option, Some, None, refl, sym, subst, IsUtf8}
use Rattle.std.specs.Prelude.{MatchOption, is_some}
use Rattle.bser_format.specs.Content.{Meaning}
use Rattle.bser_format.specs.ReadsScalars.{reads_slice, reads_string}
use Rattle.bser_format.specs.declared.errors.Error.{Error}
use Rattle.bser_format.specs.declared.errors.Error.TheVariants.{OutOfMemory}
use Rattle.bser_format.specs.Named.{string}
use Rattle.bser_format.specs.DueReaders.{is_key_tag}
use Rattle.bser_format.specs.Asks.{asks_bytes, asks_string}
use Rattle.bser_source.specs.Window.{Window, Took}
use Rattle.bser_bunser.specs.Names.{NamesOrMemory, RefusedAs}
use Rattle.bser_bunser.specs.Refusal.{Fails}
use Rattle.bser_deserializer.specs.Dues.{IsTagged}
use Rattle.bser_deserializer.specs.State.{State}
use Rattle.bser_deserializer.specs.Reading.{Asking, NamesBy, NamesAsked, OutsideBy, FillsReadably, Refuses, refusing, bare, owned}
use Rattle.bser_deserializer.specs.Askings.{asking_bytes, asking_string}
use Rattle.bser_deserializer.proofs.Refusals.{names_bare, names_by_more, fails_untaken, with_needs, by_name}
use Rattle.bser_deserializer.proofs.Clean.{Clean, clean_bytes, clean_texts}
use Rattle.bser_deserializer.proofs.Strings.{rest_refused, text_asked}

-- what is refused where no memory is taken is refused so where it is
pub owning : (R : Meaning) (a : Asking R) (e : Error) (old new : State) → Refuses R (Some a) bare e old new → Refuses R (Some a) owned e old new
owning R a e old new u =
    with_needs owned (FillsReadably R old) (NamesAsked bare (Some a) e old) (NamesAsked owned (Some a) e old) e old.source new.source
    (names_bare owned (a.asks old.opened old.levels old.due) e old.source) u

-- a refusal by the name of a type that takes memory
by_type : (R : Meaning) (a : Asking R) (e : Error) (old new : State) → Clean (a.asks old.opened old.levels old.due) → Fails e old.source new.source
    → NamesBy owned (a.asks old.opened old.levels old.due) e old.source → Refuses R (Some a) owned e old new
by_type R a e old new clean fails name =
    by_name owned (FillsReadably R old) (a.asks old.opened old.levels old.due) e old.source new.source
    (λ text f. (tt, λ x. a.passes old.opened old.levels old.due f.tree f.content text x f.filled f.read)) (λ x h. clean x e h) refl fails name

-- memory for the copy is refused
pub memory_refused : (e : Error) (old new : State) → Fails e old.source new.source → e ≡ OutOfMemory → Refuses reads_slice (Some asking_bytes) owned e old new
memory_refused e old new fails same =
    let r = asks_bytes old.opened old.levels old.due in
    by_type reads_slice asking_bytes e old new (clean_bytes old.opened old.levels old.due) fails
    (inr (subst (λ f. OutsideBy (refusing owned) (RefusedAs r) f old.source) (sym same) (inr refl)))

-- the length after a string's tag, its bytes, or memory for them
pub copy_refused : (t : ℕ) (e : Error) (a b : State) (m : Window) → IsTagged a.due → is_key_tag t ≡ true → Took a.source m (t ∷ []) → Fails e m b.source → NamesOrMemory string e m
    → Refuses reads_slice (Some asking_bytes) owned e a b
copy_refused t e a b m is key took fails (inl h) = owning reads_slice asking_bytes e a b (rest_refused t e a b m is key took fails h)
copy_refused t e a b m is key took fails (inr h) = memory_refused e a b (fails_untaken e a.source m b.source (t ∷ []) took fails) h

-- what refuses a copy of bytes refuses a copy of a text
pub text_copy_refused : (e : Error) (old new : State) → Refuses reads_slice (Some asking_bytes) owned e old new → Refuses reads_string (Some asking_string) owned e old new
text_copy_refused e old new u =
    by_type reads_string asking_string e old new (clean_texts old.opened old.levels old.due) u.fails
    (names_by_more owned (asks_string old.opened old.levels old.due) (asks_bytes old.opened old.levels old.due) e old.source
    (λ f x p. text_asked old.opened old.levels old.due x f p) u.names)

-- bytes of which no text is made are none
pub told_none : {A : Type 0} (r : Option A) (b c : List ℕ) (P : A → Type 0) → b ≡ c → MatchOption r (¬ (IsUtf8 b)) P → is_some r ≡ false → ¬ (IsUtf8 c)
told_none None b c P same told none = λ good. told (subst IsUtf8 (sym same) good)
told_none (Some a) b c P same told none = absurd cc
