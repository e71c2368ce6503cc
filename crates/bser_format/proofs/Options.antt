-- What came of what.
use Rattle.std.proofs.Common.{◌≡◌, Bool, true, false, cond, Option, Some, None, option_map, option_and_then, refl}

-- there was something to map
pub mapped : {X Y : Type 0} (f : X → Y) (o : Option X) (y : Y) → option_map f o ≡ Some y → (x : X) × (o ≡ Some x)
mapped f None y e = absurd cc
mapped f (Some x) y e = (x, refl)

-- what f made, and what of
pub made : {X Y : Type 0} (f : X → Y) (o : Option X) (y : Y) → option_map f o ≡ Some y → (x : X) × (o ≡ Some x) × (f x ≡ y)
made f None y e = absurd cc
made f (Some x) y e = (x, refl, cc)

-- one step after another
pub chained : {X Y : Type 0} (f : X → Option Y) (o : Option X) (y : Y) → option_and_then f o ≡ Some y → (x : X) × (o ≡ Some x) × (f x ≡ Some y)
chained f None y e = absurd cc
chained f (Some x) y e = (x, refl, e)

-- the first of two, and the second
pub both_some : {X Y Z : Type 0} (f : X → Y → Z) (o : Option X) (p : Option Y) (z : Z) → option_and_then (λ x. option_map (f x) p) o ≡ Some z → (x : X) × (y : Y) × (o ≡ Some x) × (p ≡ Some y)
both_some f None p z e = absurd cc
both_some f (Some x) None z e = absurd cc
both_some f (Some x) (Some y) z e = (x, y, refl, refl)

-- there is something on a condition alone
pub when_some : {X : Type 0} (a : Bool) (o : Option X) (y : X) → cond a o None ≡ Some y → (a ≡ true) × (o ≡ Some y)
when_some true o y e = (refl, e)
when_some false o y e = absurd cc
