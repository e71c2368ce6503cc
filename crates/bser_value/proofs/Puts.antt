-- A container is put as its parts are.
use Rattle.std.proofs.Common.{◌≡◌, ℕ, List, [], ◌∷◌, length, Result, sym, subst}
use Rattle.bser_format.specs.Tree.{Tree}
use Rattle.bser_format.specs.Pieces.{array_head, object_head}
use Rattle.bser_format.specs.Written.{array_tree, object_tree}
use Rattle.bser_format.specs.declared.errors.Error.{Error}
use Rattle.bser_ser.specs.Ends.{Ends, Stops, text_of}
use Rattle.bser_ser.specs.Stopped.{Tells}
use Rattle.bser_ser.specs.declared.serializer.Serializer.{Serializer}
use Rattle.bser_ser.proofs.Sends.{Joins}
use Rattle.bser_ser.proofs.Ends.{UpTo, UpTo-all, UpTo-stops}
use Rattle.bser_ser.proofs.Texts.{item_text, entry_text, array_text, object_text}

-- all items are put, or one of them stops
module _ {S A : Type 0} (sink : Tells S) (f : A → Result Tree Error) (xs rest : List A) (a b : Serializer S) where
  pub array_ends : UpTo sink (array_head (length xs)) (item_text f) xs rest a b → rest ≡ [] → Ends sink (text_of (array_tree f xs)) a b
  array_ends u none = subst (λ (m : Result (List ℕ) Error). Ends sink m a b) (sym (array_text f xs)) (UpTo-all sink (array_head (length xs)) (item_text f) xs rest a b u none)

module _ {S A : Type 0} (sink : Tells S) (f : A → Result Tree Error) (xs rest : List A) (a b : Serializer S) where
  pub array_stops : (left : List A) (x : A) (c : Serializer S) (e : Error) → Joins sink
      → UpTo sink (array_head (length xs)) (item_text f) xs rest a b → rest ≡ x ∷ left → Stops sink (text_of (f x)) b c e → Stops sink (text_of (array_tree f xs)) a c e
  array_stops left x c e both u step t =
      subst (λ (m : Result (List ℕ) Error). Stops sink m a c e) (sym (array_text f xs)) (UpTo-stops sink both (array_head (length xs)) (item_text f) xs rest left x a b c e u step t)

-- all entries are put, or one of them stops
module _ {S K V : Type 0} (sink : Tells S) (k : K → List ℕ) (f : V → Result Tree Error) (es rest : List (K × V)) (a b : Serializer S) where
  pub object_ends : UpTo sink (object_head (length es)) (entry_text k f) es rest a b → rest ≡ [] → Ends sink (text_of (object_tree k f es)) a b
  object_ends u none = subst (λ (m : Result (List ℕ) Error). Ends sink m a b) (sym (object_text k f es)) (UpTo-all sink (object_head (length es)) (entry_text k f) es rest a b u none)

module _ {S K V : Type 0} (sink : Tells S) (k : K → List ℕ) (f : V → Result Tree Error) (es rest : List (K × V)) (a b : Serializer S) where
  pub object_stops : (left : List (K × V)) (x : K × V) (c : Serializer S) (e : Error) → Joins sink
      → UpTo sink (object_head (length es)) (entry_text k f) es rest a b → rest ≡ x ∷ left → Stops sink (entry_text k f x) b c e → Stops sink (text_of (object_tree k f es)) a c e
  object_stops left x c e both u step t =
      subst (λ (m : Result (List ℕ) Error). Stops sink m a c e) (sym (object_text k f es)) (UpTo-stops sink both (object_head (length es)) (entry_text k f) es rest left x a b c e u step t)
