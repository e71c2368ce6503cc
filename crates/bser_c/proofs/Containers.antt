-- A container that stands there whole is read, and reported.
use Rattle.std.proofs.Common.{◌≡◌, ◌≤◌, ◌<◌, ◌+◌, ◌-◌, ◌^◌, ℕ, zero, suc, false, List, [], ◌∷◌, ◌++◌, length, take, drop, get_or, refl, sym, ap, subst, ◌∙◌, arith}
use Rattle.std.specs.Prelude.{Option, Some, None}
use Rattle.bser_format.specs.Grammar.{SpellsCount}
use Rattle.bser_format.specs.Tree as trees
use Rattle.bser_format.specs.Tree.{Tree, array, object, template, items_of, entries_of, fields_of, rows_of}
use Rattle.bser_format.specs.Named as named
use Rattle.bser_format.specs.Named.{Reader, reads, give, and_then, ◌>>=◌, many, entry_of, field_of, rows_body, template_body, text_of, with_text_keys}
use Rattle.bser_format.specs.DueReaders.{less_one}
use Rattle.bser_format.specs.declared.errors.Complaint.TheVariants.{NegativeCount}
use Rattle.bser_format.specs.declared.errors.Kind.TheVariants.{MapKey, TemplateKey}
use Rattle.bser_format.proofs.Sifting.{Anything, always, many_always}
use Rattle.bser_bunser.specs.Tokens.{Headed, SpellsToken}
use Rattle.bser_bunser.specs.declared.prefix.Token.TheVariants as tokens
use Rattle.bser_bunser.proofs.Readers.{counted_there}
use Rattle.bser_events.specs.Events as told
use Rattle.bser_events.specs.Events.{Event, close, events, entry_events, item_events, field_events, key, key_events, part_events, row_events}
use Rattle.bser_events.specs.Found.{table_at}
use Rattle.bser_events.specs.Places.{Marked, TakesIn, place_at}
use Rattle.bser_events.specs.declared.event.Place.{Place}
use Rattle.bser_events.proofs.Begins.{value_field}
use Rattle.bser_events.proofs.Tables.{length-items, length-entries, length-rows, template_spelled}
use Rattle.bser_c.specs.Direct.{Stands, Tells, TellsField, TellsKey, TellsKeys, TellsRows, TellsValue, between}
use Rattle.bser_c.proofs.Between.{FoldsTo, byte_there, joined_between, one_byte, parted, told_one, told_then}
use Rattle.bser_c.proofs.Whole.{token_read}

-- ---- lists of parts

pub items_fold : FoldsTo events (λ ts. item_events (items_of ts))
items_fold = record { empty = refl; next = λ t ts. refl }

pub entries_fold : FoldsTo (λ (e : List ℕ × Tree). key e.0 ∷ events e.1) (λ es. entry_events (entries_of es))
entries_fold = record { empty = refl; next = λ e es. refl }

pub keys_fold : FoldsTo (λ s. key s ∷ []) key_events
keys_fold = record { empty = refl; next = λ k ks. refl }

field_first : (f : Option Tree) (fs : List (Option Tree)) → field_events (fields_of (f ∷ fs)) ≡ part_events f ++ field_events (fields_of fs)
field_first None fs = refl
field_first (Some t) fs = refl

pub fields_fold : FoldsTo part_events (λ fs. field_events (fields_of fs))
fields_fold = record { empty = refl; next = field_first }

pub rows_fold : FoldsTo (λ fs. field_events (fields_of fs)) (λ rs. row_events (rows_of rs))
rows_fold = record { empty = refl; next = λ r rs. refl }

many_length : {X : Type 0} (r : Reader X) (n : ℕ) (b z : List ℕ) (xs : List X) → many r n b ≡ reads xs z → length xs ≡ n
many_length r n b z xs h = (many_always Anything r (always r) n b z xs h).1

less_by_one : (n : ℕ) → n - 1 ≡ less_one n
less_by_one zero = refl
less_by_one (suc n) = omega arith

module _ {B : Type 0} (takes : B → Event → Place → B → Type 0) (bytes : List ℕ) (few : length bytes < 2 ^ 64) where
  -- ---- arrays and objects

  no_bytes : (at : ℕ) → between at at bytes ≡ []
  no_bytes at =
      let none : at - at ≡ 0 = omega arith in
      ap (λ k. take k (drop at bytes)) none

  -- the head of a container, what is in it, and its end
  enclosed : (start at last : ℕ) (a b c d : B) (e : Event) (es : List Event) → start ≤ at → at ≤ last → last ≤ length bytes → Marked false e (between start at bytes) → takes a e (place_at start at false) b
      → TakesIn takes at (between at last bytes) b es c → takes c close (place_at last last false) d → TakesIn takes start (between start last bytes) a (e ∷ (es ++ close ∷ [])) d
  enclosed start at last a b c d e es front back within mark opened inside closed =
      told_then takes bytes start at last a b d (e ∷ []) (es ++ close ∷ []) front back within
      (told_one takes bytes start at a b false e few front (omega (arith, back, within)) mark opened)
      (told_then takes bytes at last last b c d es (close ∷ []) back (omega arith) within inside
      (told_one takes bytes last last c d false close few (omega arith) within (refl, no_bytes last) closed))

  some_level : (levels : ℕ) → (levels ≡ 0 → ⊥) → 0 < levels
  some_level zero never = absurd (never refl)
  some_level (suc n) never = omega arith

  pub array_told : (levels n start at last : ℕ) (a b c d : B) → Stands (SpellsToken (tokens.Array n)) bytes start at → (levels ≡ 0 → ⊥) → takes a (told.open_array n) (place_at start at false) b
      → Tells takes (many (with_text_keys (levels - 1)) n) (λ ts. item_events (items_of ts)) bytes at last b c → takes c close (place_at last last false) d → TellsValue takes levels bytes start last a d
  array_told levels n start at last a b c d head some opened t closed =
      let front = head.forwards in
      let back = t.forwards in
      let counted = many_length (with_text_keys (levels - 1)) n (drop at bytes) (drop last bytes) t.value t.read in
      let read : many (with_text_keys (less_one levels)) n (drop at bytes) ≡ reads t.value (drop last bytes) = subst (λ k. many (with_text_keys k) n (drop at bytes) ≡ reads t.value (drop last bytes)) (less_by_one levels) t.read in
      record {
        forwards = omega (arith, front, back);
        within = t.within;
        value = array (items_of t.value);
        read = token_read bytes levels (tokens.Array n) start at (array (items_of t.value)) (drop last bytes) head (λ c. some_level levels some) (ap (and_then (λ ts. give (array (items_of ts)))) read);
        told = subst (λ m. TakesIn takes start (between start last bytes) a (told.open_array m ∷ (item_events (items_of t.value) ++ close ∷ [])) d) (sym (length-items t.value ∙ counted))
            (enclosed start at last a b c d (told.open_array n) (item_events (items_of t.value)) front back t.within (refl, head.spelled) opened t.told closed);
      }

  pub object_told : (levels n start at last : ℕ) (a b c d : B) → Stands (SpellsToken (tokens.Object n)) bytes start at → (levels ≡ 0 → ⊥) → takes a (told.open_object n) (place_at start at false) b
      → Tells takes (many (entry_of (text_of MapKey) (with_text_keys (levels - 1))) n) (λ es. entry_events (entries_of es)) bytes at last b c → takes c close (place_at last last false) d → TellsValue takes levels bytes start last a d
  object_told levels n start at last a b c d head some opened t closed =
      let front = head.forwards in
      let back = t.forwards in
      let counted = many_length (entry_of (text_of MapKey) (with_text_keys (levels - 1))) n (drop at bytes) (drop last bytes) t.value t.read in
      let read : many (entry_of (text_of MapKey) (with_text_keys (less_one levels))) n (drop at bytes) ≡ reads t.value (drop last bytes) =
      subst (λ k. many (entry_of (text_of MapKey) (with_text_keys k)) n (drop at bytes) ≡ reads t.value (drop last bytes)) (less_by_one levels) t.read in
      record {
        forwards = omega (arith, front, back);
        within = t.within;
        value = object (entries_of t.value);
        read = token_read bytes levels (tokens.Object n) start at (object (entries_of t.value)) (drop last bytes) head (λ c. some_level levels some) (ap (and_then (λ es. give (object (entries_of es)))) read);
        told = subst (λ m. TakesIn takes start (between start last bytes) a (told.open_object m ∷ (entry_events (entries_of t.value) ++ close ∷ [])) d) (sym (length-entries t.value ∙ counted))
            (enclosed start at last a b c d (told.open_object n) (entry_events (entries_of t.value)) front back t.within (refl, head.spelled) opened t.told closed);
      }

  -- an entry of an object
  pub entry_told : (levels at mid to : ℕ) (a b c : B) → TellsKey takes bytes at mid a b → TellsValue takes levels bytes mid to b c
      → Tells takes (entry_of (text_of MapKey) (with_text_keys levels)) (λ e. key e.0 ∷ events e.1) bytes at to a c
  entry_told levels at mid to a b c named_by t =
      let k = named_by MapKey in
      let front = k.forwards in
      let back = t.forwards in
      record {
        forwards = omega (arith, front, back);
        within = t.within;
        value = (k.value, t.value);
        read = ap (and_then (λ s. with_text_keys levels >>= λ u. give (s, u))) k.read ∙ ap (and_then (λ u. give (k.value, u))) t.read;
        told = told_then takes bytes at mid to a b c (key k.value ∷ []) (events t.value) front back t.within k.told t.told;
      }

  -- ---- templates

  pub field_told : (levels at to : ℕ) (a b : B) → TellsValue takes levels bytes at to a b → TellsField takes levels bytes at to a b
  field_told levels at to a b t = record {
    forwards = t.forwards;
    within = t.within;
    value = Some t.value;
    read = value_field levels (drop at bytes) (drop to bytes) t.value t.read;
    told = t.told;
  }

  pub skip_told : (levels at : ℕ) (a b : B) → at < length bytes → get_or bytes at 0 ≡ 0x0c → takes a told.skip (place_at at (at + 1) false) b → TellsField takes levels bytes at (at + 1) a b
  skip_told levels at a b within is taken = record {
    forwards = omega arith;
    within = omega (arith, within);
    value = None;
    read = ap (field_of (with_text_keys levels)) (byte_there bytes at 0x0c within is);
    told = told_one takes bytes at (at + 1) a b false told.skip few (omega arith) (omega (arith, within)) (refl, one_byte bytes at 0x0c within is) taken;
  }

  count_read : (n at to : ℕ) → Stands (SpellsCount n) bytes at to → named.count (drop at bytes) ≡ reads n (drop to bytes)
  count_read n at to head = ap named.count (parted at to bytes head.forwards) ∙ counted_there NegativeCount n (between at to bytes) head.spelled (drop to bytes)

  table_begins : (n : ℕ) (x : List ℕ) → (n ≡ 0 → ⊥) → table_at n (0x00 ∷ x) ≡ template_body (with_text_keys n) x
  table_begins zero x never = absurd (never refl)
  table_begins (suc n) x never = refl

  rows_read : (r : Reader Tree) (ks : List (List ℕ)) (w m : ℕ) (rs : List (List (Option Tree))) (b z : List ℕ) → (w ≡ 0 → m ≡ 0) → many (many (field_of r) w) m b ≡ reads rs z → rows_body r ks w m b ≡ reads (template ks (rows_of rs)) z
  rows_read r ks zero zero rs b z none h = ap (and_then (λ rs. give (template ks (rows_of rs)))) h
  rows_read r ks zero (suc m) rs b z none h = absurd (let e = none refl in omega (arith, e))
  rows_read r ks (suc w) m rs b z none h = ap (and_then (λ rs. give (template ks (rows_of rs)))) h

  module _ (levels w m start at first keys_end begun last : ℕ) (a b c d e f : B) (head : Stands (SpellsToken tokens.Template) bytes start at) (deep : 2 ≤ levels) (within : at < length bytes) (tag : get_or bytes at 0 ≡ 0x00)
      (width : Stands (SpellsCount w) bytes (at + 1) first) (opened : takes a (told.open_template w) (place_at start first false) b) (ks : TellsKeys takes w bytes first keys_end b c)
      (height : Stands (SpellsCount m) bytes keys_end begun) (none : w ≡ 0 → m ≡ 0) (listed : takes c (told.open_rows m) (place_at keys_end begun false) d)
      (rs : TellsRows takes (levels - 1) w m bytes begun last d e) (closed : takes e close (place_at last last false) f) where
    table_read : table_at (less_one levels) (drop at bytes) ≡ reads (template ks.value (rows_of rs.value)) (drop last bytes)
    table_read =
        let r = with_text_keys (less_one levels) in
        let same = less_by_one levels in
        let some : less_one levels ≡ 0 → ⊥ = λ z. omega (arith, same, z, deep) in
        let inner : many (many (field_of r) w) m (drop begun bytes) ≡ reads rs.value (drop last bytes) = subst (λ k. many (many (field_of (with_text_keys k)) w) m (drop begun bytes) ≡ reads rs.value (drop last bytes)) same rs.read in
        ap (table_at (less_one levels)) (byte_there bytes at 0x00 within tag) ∙ table_begins (less_one levels) (drop (at + 1) bytes) some
        ∙ ap (and_then (λ k. many (text_of TemplateKey) k >>= λ ns. named.count >>= λ j. rows_body r ns k j)) (count_read w (at + 1) first width)
        ∙ ap (and_then (λ ns. named.count >>= λ j. rows_body r ns w j)) ks.read
        ∙ ap (and_then (λ j. rows_body r ks.value w j)) (count_read m keys_end begun height)
        ∙ rows_read r ks.value w m rs.value (drop begun bytes) (drop last bytes) none inner

    head_mark : Marked false (told.open_template w) (between start first bytes)
    head_mark =
        let one = head.forwards in
        let two = width.forwards in
        let tags : between start at bytes ++ ((0x00 ∷ []) ++ between (at + 1) first bytes) ≡ between start first bytes =
        ap (λ l. between start at bytes ++ (l ++ between (at + 1) first bytes)) (sym (one_byte bytes at 0x00 within tag)) ∙ ap (λ l. between start at bytes ++ l) (joined_between at (at + 1) first bytes (omega arith) two) ∙ joined_between start at first bytes one (omega (arith, two)) in
        (refl, subst (λ l. Headed 0x0b (Headed 0x00 (SpellsCount w)) l) tags (template_spelled w (between start at bytes) (between (at + 1) first bytes) head.spelled width.spelled))

    table_told : TakesIn takes start (between start last bytes) a (events (template ks.value (rows_of rs.value))) f
    table_told =
        let one = head.forwards in
        let two = width.forwards in
        let three = ks.forwards in
        let four = height.forwards in
        let five = rs.forwards in
        let end = rs.within in
        let key_count = many_length (text_of TemplateKey) w (drop first bytes) (drop keys_end bytes) ks.value ks.read in
        let row_count = many_length (many (field_of (with_text_keys (levels - 1))) w) m (drop begun bytes) (drop last bytes) rs.value rs.read in
        let front : TakesIn takes start (between start keys_end bytes) a (told.open_template w ∷ key_events ks.value) c =
        told_then takes bytes start first keys_end a b c (told.open_template w ∷ []) (key_events ks.value) (omega (arith, one, two)) three (omega (arith, four, five, end))
        (told_one takes bytes start first a b false (told.open_template w) few (omega (arith, one, two)) (omega (arith, three, four, five, end)) head_mark opened) ks.told in
        let back : TakesIn takes keys_end (between keys_end last bytes) c (told.open_rows m ∷ (row_events (rows_of rs.value) ++ close ∷ [])) f =
        enclosed keys_end begun last c d e f (told.open_rows m) (row_events (rows_of rs.value)) four five end (refl, height.spelled) listed rs.told closed in
        subst (λ k. TakesIn takes start (between start last bytes) a ((told.open_template k ∷ key_events ks.value) ++ (told.open_rows (length (trees.rows (rows_of rs.value))) ∷ (row_events (rows_of rs.value) ++ close ∷ []))) f) (sym key_count)
        (subst (λ k. TakesIn takes start (between start last bytes) a ((told.open_template w ∷ key_events ks.value) ++ (told.open_rows k ∷ (row_events (rows_of rs.value) ++ close ∷ []))) f) (sym (length-rows rs.value ∙ row_count))
        (told_then takes bytes start keys_end last a c f (told.open_template w ∷ key_events ks.value) (told.open_rows m ∷ (row_events (rows_of rs.value) ++ close ∷ [])) (omega (arith, one, two, three)) (omega (arith, four, five)) end front back))

    pub template_told : TellsValue takes levels bytes start last a f
    template_told =
        let one = head.forwards in
        let two = width.forwards in
        let three = ks.forwards in
        let four = height.forwards in
        let five = rs.forwards in
        record {
          forwards = omega (arith, one, two, three, four, five);
          within = rs.within;
          value = template ks.value (rows_of rs.value);
          read = token_read bytes levels tokens.Template start at (template ks.value (rows_of rs.value)) (drop last bytes) head (λ c. omega (arith, deep)) table_read;
          told = table_told;
        }
