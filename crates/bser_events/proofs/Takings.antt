-- Events that are told one after the other.
use Rattle.std.proofs.Common.{ℕ, ◌+◌, List, [], ◌∷◌, ◌++◌, length}
use Rattle.bser_format.specs.Grammar.{Format}
use Rattle.bser_source.specs.Window.{Window}
use Rattle.bser_events.specs.Events.{Event, TakesAll, none, more}
use Rattle.bser_events.specs.Places as places
use Rattle.bser_events.specs.Places.{PlacedAs, TakesIn}

-- one event
pub takes_one : {B : Type 0} (takes : B → Event → B → Type 0) (a b : B) (e : Event) → takes a e b → TakesAll takes a (e ∷ []) b
takes_one takes a b e h = more a b b e [] h (none b)

-- some, and then others
pub takes_then : {B : Type 0} (takes : B → Event → B → Type 0) (a b c : B) (xs ys : List Event) → TakesAll takes a xs b → TakesAll takes b ys c → TakesAll takes a (xs ++ ys) c
takes_then takes a b c xs ys (none m) second = second
takes_then takes a b c xs ys (more m n o e es one rest) second = more m n c e (es ++ ys) one (takes_then takes n o c es ys rest second)

-- a builder that does not look at places
pub takes_anywhere : {B : Type 0} {spells : Event → Format} (takes : B → Event → B → Type 0) (a b : Window × B) (es : List Event) → TakesAll (PlacedAs spells (λ x e p y. takes x e y)) a es b → TakesAll takes a.1 es b.1
takes_anywhere takes a b es (none m) = none m.1
takes_anywhere takes a b es (more m n o e rest first after) = more m.1 n.1 o.1 e rest first.told (takes_anywhere takes n o rest after)

pub told_anywhere : {B : Type 0} (takes : B → Event → B → Type 0) (at : ℕ) (bytes : List ℕ) (a b : B) (es : List Event) → TakesIn (λ x e p y. takes x e y) at bytes a es b → TakesAll takes a es b
told_anywhere takes at bytes a b es (places.none n m) = none m
told_anywhere takes at bytes a b es (places.more n own rest m k o e others spelled first after) = more m k o e others first (told_anywhere takes (n + length own) rest k o others after)
