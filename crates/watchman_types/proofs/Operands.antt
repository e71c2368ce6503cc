-- An array of a word and of other parts, put one after another.
use Rattle.std.proofs.Common.{◌≡◌, ℕ, suc, List, [], ◌∷◌, length, Result, Ok, refl, subst}
use Rattle.bser_format.specs.Tree.{Tree, text}
use Rattle.bser_format.specs.Canonical.{IsWritableText}
use Rattle.bser_format.specs.Pieces.{array_head, text_piece}
use Rattle.bser_format.specs.Written.{part_tree, tuple_tree}
use Rattle.bser_format.specs.declared.errors.Error.{Error}
use Rattle.bser_ser.specs.Sent.{Sent, Refused, IsExcuse}
use Rattle.bser_ser.specs.Ends.{Stops, text_of}
use Rattle.bser_ser.specs.Stopped.{Tells}
use Rattle.bser_ser.specs.declared.serializer.Serializer.{Serializer}
use Rattle.bser_ser.proofs.Sends.{Joins}
use Rattle.bser_ser.proofs.Ends.{Stops-none}
use Rattle.bser_ser.proofs.Texts.{ItemsPut, items_start, items_more, items_stop}

-- the word and the other parts
abbrev pub parts_of : List ℕ → List (Result Tree Error) → List (Result Tree Error)
parts_of word parts = Ok (text word) ∷ parts

-- of the word and the other parts, all before the rest are put
abbrev pub PartsPut : {S : Type 0} → Tells S → List ℕ → List (Result Tree Error) → List (Result Tree Error) → Serializer S → Serializer S → Type 0
PartsPut sink word parts rest a b = ItemsPut sink part_tree (parts_of word parts) rest a b

module _ {S : Type 0} (sink : Tells S) (both : Joins sink) (word : List ℕ) (parts : List (Result Tree Error)) (n : ℕ) (count : n ≡ suc (length parts)) (a b c : Serializer S) (head : Sent sink a b (array_head n)) where
  head_put : PartsPut sink word parts (parts_of word parts) a b
  head_put = items_start refl (subst (λ (m : ℕ). Sent sink a b (array_head m)) count head)

  -- the head and the word are put
  pub word_put : Sent sink b c (text_piece word) → IsWritableText word → PartsPut sink word parts parts a c
  word_put put writable = items_more both head_put refl put writable

  -- the head is put, and the word is not
  pub word_stops : (e : Error) → Refused sink b c [] e → IsExcuse e → Stops sink (text_of (tuple_tree (parts_of word parts))) a c e
  word_stops e refused excuse = items_stop c e both head_put refl (Stops-none sink (text_of (Ok (text word))) b c e refused excuse)
