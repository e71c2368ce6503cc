-- The words of fields, one behind the other.
use Rattle.std.proofs.Common.{◌≡◌, ℕ, List, [], ◌∷◌, ◌++◌, map, refl, ap, append_assoc, ◌∙◌, sym}
use Rattle.std.specs.List.{join_with_byte}
use Rattle.watchman_sqlite.specs.Fields.{behind_words, comma, field_word, field_words}
use Rattle.watchman_sqlite.specs.declared.subject.FileField.{FileField}
use Rattle.watchman_sqlite.specs.declared.subject.FileField.TheVariants.{Name, Exists, Size, Mode, «Type» as TypeOfFile, ModificationTime}

-- pieces and one more, with c between each two
join_push : (c : ℕ) (x : List ℕ) (xs : List (List ℕ)) (y : List ℕ) → join_with_byte c (x ∷ (xs ++ y ∷ [])) ≡ join_with_byte c (x ∷ xs) ++ c ∷ y
join_push c x [] y = refl
join_push c x (z ∷ zs) y = ap (λ bs. x ++ c ∷ bs) (join_push c z zs y) ∙ sym (append_assoc x (c ∷ join_with_byte c (z ∷ zs)) (c ∷ y))

-- the words of fields are no empty text
behind_some : (f : FileField) (fs : List FileField) (word : List ℕ) → behind_words (field_words (f ∷ fs)) word ≡ field_words (f ∷ fs) ++ comma ∷ word
behind_some Name [] word = refl
behind_some Name (g ∷ gs) word = refl
behind_some Exists (g ∷ gs) word = refl
behind_some Size (g ∷ gs) word = refl
behind_some Mode (g ∷ gs) word = refl
behind_some TypeOfFile (g ∷ gs) word = refl
behind_some ModificationTime (g ∷ gs) word = refl
behind_some other [] word = refl

map_push : (fs : List FileField) (f : FileField) → map field_word (fs ++ f ∷ []) ≡ map field_word fs ++ field_word f ∷ []
map_push [] f = refl
map_push (g ∷ gs) f = ap (λ ws. field_word g ∷ ws) (map_push gs f)

-- the words of fields and one more
pub field_words_push : (fs : List FileField) (f : FileField) → field_words (fs ++ f ∷ []) ≡ behind_words (field_words fs) (field_word f)
field_words_push [] f = refl
field_words_push (g ∷ gs) f =
    ap (λ ws. join_with_byte comma (field_word g ∷ ws)) (map_push gs f) ∙ join_push comma (field_word g) (map field_word gs) (field_word f) ∙ sym (behind_some g gs (field_word f))
