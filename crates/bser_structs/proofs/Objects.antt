-- What the type of an object refuses, and the other type of anything else, is refused by its name.
use Rattle.std.proofs.Common.{◌≡◌, true, false, Option, Some, None, ap, ◌∙◌}
use Rattle.bser_format.specs.Content.{Meaning}
use Rattle.bser_format.specs.DueReaders.{Seen, seen}
use Rattle.bser_format.specs.Asks.{by_sight}
use Rattle.bser_format.proofs.Sights.{way}
use Rattle.bser_deserializer.specs.Reading.{Asking}
use Rattle.bser_deserializer.specs.State.{State}
use Rattle.bser_types.specs.Choices.{is_pairs}
use Rattle.bser_types.proofs.Looks.{SeenAsked}
use Rattle.bser_types.proofs.Naming.{HeadAsked}
use Rattle.bser_structs.specs.Objects.{asking_object_or}

-- where nothing is seen
pub head_asked : (O T : Meaning) (a : Option (Asking O)) (b : Option (Asking T)) (s : State) → HeadAsked (asking_object_or a b) s (seen s.opened s.due)
head_asked O T None b s = tt
head_asked O T (Some a) None s = tt
head_asked O T (Some a) (Some b) s =
    λ x e h. ap (λ z. by_sight is_pairs (a.asks s.opened s.levels s.due) (b.asks s.opened s.levels s.due) z x) h

-- where an object or a row is seen
pub object_asked : (O T : Meaning) (a : Option (Asking O)) (b : Option (Asking T)) (s : State) (v : Seen) → is_pairs v ≡ true → SeenAsked (asking_object_or a b) a s v
object_asked O T None b s v is = tt
object_asked O T (Some a) None s v is = tt
object_asked O T (Some a) (Some b) s v is =
    λ x y e there h. way is_pairs (a.asks s.opened s.levels s.due) (b.asks s.opened s.levels s.due) (seen s.opened s.due x) v y x true there is ∙ h

-- where anything else is seen
pub other_asked : (O T : Meaning) (a : Option (Asking O)) (b : Option (Asking T)) (s : State) (v : Seen) → is_pairs v ≡ false → SeenAsked (asking_object_or a b) b s v
other_asked O T None b s v is = tt
other_asked O T (Some a) None s v is = tt
other_asked O T (Some a) (Some b) s v is =
    λ x y e there h. way is_pairs (a.asks s.opened s.levels s.due) (b.asks s.opened s.levels s.due) (seen s.opened s.due x) v y x false there is ∙ h
