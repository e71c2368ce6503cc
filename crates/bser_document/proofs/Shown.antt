-- An item is printed part by part.
use Rattle.std.proofs.Common.{◌≡◌, ℕ, ◌-◌, ◌<◌, List, [], ◌∷◌, Option, Some, None, Result, IsOk, codes, sym, subst, arith, Bor}
use Rattle.std.specs.Fmt.{IsPlainFormatter, HasWritten, comma_space}
use Rattle.std.specs.declared.fmt.Error.{Error}
use Rattle.std.specs.declared.fmt.Formatter.{Formatter}
use Rattle.bser_format.specs.Measures.{depth, items_depth, entries_depth}
use Rattle.bser_format.specs.Normal.{last_entries}
use Rattle.bser_format.specs.SomeText.{HasWrittenSome, WritesSomeOnOk}
use Rattle.bser_format.specs.Tree.{Tree, null, boolean, integer, real, bytes, text, array, object, template, no_items, item, no_entries, entry, entries, entries_of}
use Rattle.bser_format.specs.Tree as trees
use Rattle.bser_value.specs.Contents.{as_array, as_object}
use Rattle.bser_value.specs.TreeText.{IsTextOf, IsEntryText, AreItems, AreEntries}
use Rattle.bser_value.proofs.Displays.{Showing, showing_begun, showing_more, showing_done}
use Rattle.bser_document.specs.declared.entries.Entries.{Entries}
use Rattle.bser_document.specs.declared.entries.Entry.{Entry}
use Rattle.bser_document.specs.declared.item.Item.{Item}
use Rattle.bser_document.specs.declared.items.Items.{Items}
use Rattle.bser_document.specs.Holds.{HoldsItem}
use Rattle.bser_document.specs.Pairs.{HoldsEntries, FindsEntries, GivesEntry}
use Rattle.bser_document.specs.Sorted.{Lists}
use Rattle.bser_document.specs.Walks.{HoldsItems, FindsItems, GivesItem}
use Rattle.bser_document.proofs.Sorts.{entries_back}

module _ {W : Type 0} (took : W → List ℕ → W → Type 0) where
  -- ---- containers

  pub array_shown : (room : ℕ) (s : Items) (f g : Formatter W) (r : Result (Unit {0}) Error) (u : Tree) → FindsItems (as_array u) (Some s) → depth u < room
      → ((us : trees.Items) → HoldsItems s us → items_depth us < room - 1 → WritesSomeOnOk took f r (IsTextOf (array us)) g) → WritesSomeOnOk took f r (IsTextOf u) g
  array_shown room s f g r null h deep shown = absurd h
  array_shown room s f g r (boolean v) h deep shown = absurd h
  array_shown room s f g r (integer v) h deep shown = absurd h
  array_shown room s f g r (real v) h deep shown = absurd h
  array_shown room s f g r (bytes l) h deep shown = absurd h
  array_shown room s f g r (text l) h deep shown = absurd h
  array_shown room s f g r (array us) h deep shown = shown us h (omega (arith, deep))
  array_shown room s f g r (object es) h deep shown = absurd h
  array_shown room s f g r (template ks rs) h deep shown = absurd h

  -- an object, where what it is read from is printed
  pub object_shown : (room : ℕ) (s : Entries) (f g : Formatter W) (r : Result (Unit {0}) Error) (u : Tree) → FindsEntries (as_object u) (Some s) → depth u < room
      → ((m : List (List ℕ × Tree)) → HoldsEntries s m → entries_depth (entries_of (last_entries m)) < room - 1 → WritesSomeOnOk took f r (IsTextOf (object (entries_of (last_entries m)))) g) → WritesSomeOnOk took f r (IsTextOf u) g
  object_shown room s f g r null h deep shown = absurd h
  object_shown room s f g r (boolean v) h deep shown = absurd h
  object_shown room s f g r (integer v) h deep shown = absurd h
  object_shown room s f g r (real v) h deep shown = absurd h
  object_shown room s f g r (bytes l) h deep shown = absurd h
  object_shown room s f g r (text l) h deep shown = absurd h
  object_shown room s f g r (array us) h deep shown = absurd h
  object_shown room s f g r (object es) h deep shown =
      let less : entries_depth es < room - 1 = omega (arith, deep) in
      subst (λ es. WritesSomeOnOk took f r (IsTextOf (object es)) g) (sym h.same) (shown h.spelled h.holds (subst (λ es. entries_depth es < room - 1) h.same less))
  object_shown room s f g r (template ks rs) h deep shown = absurd h

  -- entries that rise are printed as they are spelled
  pub spelled_shown : (room : ℕ) (f g : Formatter W) (r : Result (Unit {0}) Error) (m : List (List ℕ × Tree)) → last_entries m ≡ m → entries_depth (entries_of (last_entries m)) < room
      → (entries_depth (entries_of m) < room → WritesSomeOnOk took f r (IsTextOf (object (entries_of m))) g) → WritesSomeOnOk took f r (IsTextOf (object (entries_of (last_entries m)))) g
  spelled_shown room f g r m same deep shown =
      subst (λ l. WritesSomeOnOk took f r (IsTextOf (object (entries_of l))) g) (sym same) (shown (subst (λ l. entries_depth (entries_of l) < room) same deep))

  -- and others in order
  pub sorted_shown : (room : ℕ) (es : List (Bor (List ℕ) × Item)) (f g : Formatter W) (r : Result (Unit {0}) Error) (m : List (List ℕ × Tree)) → Lists (last_entries m) es → entries_depth (entries_of (last_entries m)) < room
      → ((es' : trees.Entries) → Lists (entries es') es → entries_depth es' < room → WritesSomeOnOk took f r (IsTextOf (object es')) g) → WritesSomeOnOk took f r (IsTextOf (object (entries_of (last_entries m)))) g
  sorted_shown room es f g r m lists deep shown = shown (entries_of (last_entries m)) (subst (λ l. Lists l es) (sym (entries_back (last_entries m))) lists) deep

  -- ---- the items of an array

  -- the items before these are printed
  pub record ShowingItems (us : trees.Items) (room : ℕ) (rest : Items) (before : List ℕ) (f g : Formatter W) : Type 0 where
    pub left : trees.Items
    pub holds : HoldsItems rest left
    pub shallow : items_depth left < room
    pub shown : Showing took f (AreItems before left) (IsTextOf (array us)) g

  pub items_begun : (us : trees.Items) (room : ℕ) (s rest : Items) (f g : Formatter W) → HoldsItems s us → items_depth us < room → rest ≡ s → (IsPlainFormatter f → HasWritten took f (codes "[") g) → ShowingItems us room rest [] f g
  items_begun us room s rest f g h deep same wrote = record { left = us; holds = subst (λ s. HoldsItems s us) (sym same) h; shallow = deep; shown = showing_begun took f g (codes "[") (AreItems [] us) wrote }

  pub item_more : (us : trees.Items) (room : ℕ) (rest next : Items) (i : Item) (before : List ℕ) (f g h k : Formatter W) → ((us : trees.Items) → HoldsItems rest us → GivesItem us (Some i) next)
      → (IsPlainFormatter g → HasWritten took g before h) → ((u : Tree) → HoldsItem i u → depth u < room → IsPlainFormatter h → HasWrittenSome took h (IsTextOf u) k) → ShowingItems us room rest before f g → ShowingItems us room next comma_space f k
  item_more us room rest next i before f g h k gives lead shown x = of_left x.left x.holds x.shallow x.shown
    where
      of_left : (l : trees.Items) → HoldsItems rest l → items_depth l < room → Showing took f (AreItems before l) (IsTextOf (array us)) g → ShowingItems us room next comma_space f k
      of_left no_items holds deep y = absurd (gives no_items holds)
      of_left (item u l) holds deep y =
          let g' = gives (item u l) holds in
          record {
            left = l;
            holds = g'.1;
            shallow = omega (arith, deep);
            shown = showing_more took f g h k before (IsTextOf u) (AreItems comma_space l) (IsTextOf (array us)) lead (shown u g'.0 (omega (arith, deep))) y;
          }

  pub items_shown : (us : trees.Items) (room : ℕ) (rest next : Items) (before : List ℕ) (f g h : Formatter W) (r : Result (Unit {0}) Error) → ((us : trees.Items) → HoldsItems rest us → GivesItem us None next)
      → (IsPlainFormatter g → IsOk r → HasWritten took g (codes "]") h) → ShowingItems us room rest before f g → WritesSomeOnOk took f r (IsTextOf (array us)) h
  items_shown us room rest next before f g h r gives last x = of_left x.left x.holds x.shown
    where
      of_left : (l : trees.Items) → HoldsItems rest l → Showing took f (AreItems before l) (IsTextOf (array us)) g → WritesSomeOnOk took f r (IsTextOf (array us)) h
      of_left no_items holds y = showing_done took f g h r (codes "]") (IsTextOf (array us)) last y
      of_left (item u l) holds y = absurd (gives (item u l) holds)

  -- ---- entries as they are spelled

  -- the entries before these are printed
  pub record ShowingSpelled (m : List (List ℕ × Tree)) (room : ℕ) (rest : Entries) (before : List ℕ) (f g : Formatter W) : Type 0 where
    pub left : List (List ℕ × Tree)
    pub holds : HoldsEntries rest left
    pub shallow : entries_depth (entries_of left) < room
    pub shown : Showing took f (AreEntries before (entries_of left)) (IsTextOf (object (entries_of m))) g

  pub spelled_begun : (m : List (List ℕ × Tree)) (room : ℕ) (s rest : Entries) (f g : Formatter W) → HoldsEntries s m → entries_depth (entries_of m) < room → rest ≡ s → (IsPlainFormatter f → HasWritten took f (codes "{") g) → ShowingSpelled m room rest [] f g
  spelled_begun m room s rest f g h deep same wrote = record { left = m; holds = subst (λ s. HoldsEntries s m) (sym same) h; shallow = deep; shown = showing_begun took f g (codes "{") (AreEntries [] (entries_of m)) wrote }

  pub spelled_more : (m : List (List ℕ × Tree)) (room : ℕ) (rest next : Entries) (e : Entry) (before : List ℕ) (f g h k : Formatter W) → ((m : List (List ℕ × Tree)) → HoldsEntries rest m → GivesEntry m (Some e) next)
      → (IsPlainFormatter g → HasWritten took g before h) → ((u : Tree) → HoldsItem e.value u → depth u < room → IsPlainFormatter h → HasWrittenSome took h (IsEntryText e.key.now u) k) → ShowingSpelled m room rest before f g → ShowingSpelled m room next comma_space f k
  spelled_more m room rest next e before f g h k gives lead shown x = of_left x.left x.holds x.shallow x.shown
    where
      of_left : (l : List (List ℕ × Tree)) → HoldsEntries rest l → entries_depth (entries_of l) < room → Showing took f (AreEntries before (entries_of l)) (IsTextOf (object (entries_of m))) g → ShowingSpelled m room next comma_space f k
      of_left [] holds deep y = absurd (gives [] holds)
      of_left (p ∷ l) holds deep y =
          let g' = gives (p ∷ l) holds in
          record {
            left = l;
            holds = g'.2;
            shallow = omega (arith, deep);
            shown =
                showing_more took f g h k before (IsEntryText p.0 p.1) (AreEntries comma_space (entries_of l)) (IsTextOf (object (entries_of m))) lead
                (subst (λ n. IsPlainFormatter h → HasWrittenSome took h (IsEntryText n p.1) k) g'.0 (shown p.1 g'.1 (omega (arith, deep)))) y;
          }

  pub spelled_all : (m : List (List ℕ × Tree)) (room : ℕ) (rest next : Entries) (before : List ℕ) (f g h : Formatter W) (r : Result (Unit {0}) Error) → ((m : List (List ℕ × Tree)) → HoldsEntries rest m → GivesEntry m None next)
      → (IsPlainFormatter g → IsOk r → HasWritten took g (codes "}") h) → ShowingSpelled m room rest before f g → WritesSomeOnOk took f r (IsTextOf (object (entries_of m))) h
  spelled_all m room rest next before f g h r gives last x = of_left x.left x.holds x.shown
    where
      of_left : (l : List (List ℕ × Tree)) → HoldsEntries rest l → Showing took f (AreEntries before (entries_of l)) (IsTextOf (object (entries_of m))) g → WritesSomeOnOk took f r (IsTextOf (object (entries_of m))) h
      of_left [] holds y = showing_done took f g h r (codes "}") (IsTextOf (object (entries_of m))) last y
      of_left (p ∷ l) holds y = absurd (gives (p ∷ l) holds)

  -- ---- entries in order

  -- the entries before these are printed
  pub record ShowingSorted (es : trees.Entries) (room : ℕ) (rest : List (Bor (List ℕ) × Item)) (before : List ℕ) (f g : Formatter W) : Type 0 where
    pub left : trees.Entries
    pub lists : Lists (entries left) rest
    pub shallow : entries_depth left < room
    pub shown : Showing took f (AreEntries before left) (IsTextOf (object es)) g

  pub sorted_begun : (es : trees.Entries) (room : ℕ) (all rest : List (Bor (List ℕ) × Item)) (f g : Formatter W) → Lists (entries es) all → entries_depth es < room → rest ≡ all → (IsPlainFormatter f → HasWritten took f (codes "{") g) → ShowingSorted es room rest [] f g
  sorted_begun es room all rest f g h deep same wrote = record { left = es; lists = subst (Lists (entries es)) (sym same) h; shallow = deep; shown = showing_begun took f g (codes "{") (AreEntries [] es) wrote }

  pub sorted_more : (es : trees.Entries) (room : ℕ) (rest next : List (Bor (List ℕ) × Item)) (e : Bor (List ℕ) × Item) (before : List ℕ) (f g h k : Formatter W) → rest ≡ e ∷ next
      → (IsPlainFormatter g → HasWritten took g before h) → ((u : Tree) → HoldsItem e.1 u → depth u < room → IsPlainFormatter h → HasWrittenSome took h (IsEntryText e.0.now u) k) → ShowingSorted es room rest before f g → ShowingSorted es room next comma_space f k
  sorted_more es room rest next e before f g h k steps lead shown x = of_left x.left (subst (Lists (entries x.left)) steps x.lists) x.shallow x.shown
    where
      of_left : (l : trees.Entries) → Lists (entries l) (e ∷ next) → entries_depth l < room → Showing took f (AreEntries before l) (IsTextOf (object es)) g → ShowingSorted es room next comma_space f k
      of_left no_entries lists deep y = absurd lists
      of_left (entry n u l) lists deep y =
          record {
            left = l;
            lists = lists.1;
            shallow = omega (arith, deep);
            shown =
                showing_more took f g h k before (IsEntryText n u) (AreEntries comma_space l) (IsTextOf (object es)) lead
                (subst (λ n. IsPlainFormatter h → HasWrittenSome took h (IsEntryText n u) k) lists.0.0 (shown u lists.0.1 (omega (arith, deep)))) y;
          }

  pub sorted_all : (es : trees.Entries) (room : ℕ) (rest : List (Bor (List ℕ) × Item)) (before : List ℕ) (f g h : Formatter W) (r : Result (Unit {0}) Error) → rest ≡ []
      → (IsPlainFormatter g → IsOk r → HasWritten took g (codes "}") h) → ShowingSorted es room rest before f g → WritesSomeOnOk took f r (IsTextOf (object es)) h
  sorted_all es room rest before f g h r none last x = of_left x.left (subst (Lists (entries x.left)) none x.lists) x.shown
    where
      of_left : (l : trees.Entries) → Lists (entries l) [] → Showing took f (AreEntries before l) (IsTextOf (object es)) g → WritesSomeOnOk took f r (IsTextOf (object es)) h
      of_left no_entries lists y = showing_done took f g h r (codes "}") (IsTextOf (object es)) last y
      of_left (entry k u l) lists y = absurd lists
