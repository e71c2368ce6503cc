-- What options and byte strings read, reading them passes over.
use Rattle.std.proofs.Common.{◌≡◌, ℕ, pos, negsuc, Bool, true, false, cond, List, [], ◌∷◌, ◌++◌, Some, None, option_map, refl, ap, ◌∙◌, ◌⊎◌, inl, inr, nat_lt}
use Rattle.bser_format.specs.Tree.{Tree, null, boolean, integer, real, bytes, text, array, object, template, items}
use Rattle.bser_format.specs.Content.{Content, one, number, just, byte_list, Meaning, each_some}
use Rattle.bser_format.specs.ReadsScalars.{reads_unit, reads_integer, is_unsigned, byte_of, reads_byte_string, reads_slice}
use Rattle.bser_format.specs.ReadsHolders.{reads_option, reads_vec, list_of}
use Rattle.bser_format.specs.Named.{reads}
use Rattle.bser_format.specs.DueReaders.{seen}
use Rattle.bser_format.specs.Asks.{Asks, is_null, is_sequence, asks_unit, asks_integer, asks_bytes, asks_vec, asks_option, asks_byte_string}
use Rattle.bser_format.specs.TypeLaws.{Passes}
use Rattle.bser_format.proofs.Scalars.{unit_passes}
use Rattle.bser_format.proofs.Integers.{integer_passes}
use Rattle.bser_format.proofs.Strings.{bytes_passes}
use Rattle.bser_format.proofs.Options.{mapped, both_some}
use Rattle.bser_format.proofs.Lists.{vec_passes}
use Rattle.bser_format.proofs.Sights.{null_tree, array_tree, sight, way}

-- ---- options

-- nothing, or what T reads
option_reads : (T : Meaning) (u : Tree) (c : Content) → reads_option T u ≡ Some c → ((u ≡ null) × (null_tree u ≡ true)) ⊎ ((d : Content) × (T u ≡ Some d) × (null_tree u ≡ false))
option_reads T null c r = inl (refl, refl)
option_reads T (boolean v) c r = let w = mapped just (T (boolean v)) c r in inr (w.0, w.1, refl)
option_reads T (integer v) c r = let w = mapped just (T (integer v)) c r in inr (w.0, w.1, refl)
option_reads T (real v) c r = let w = mapped just (T (real v)) c r in inr (w.0, w.1, refl)
option_reads T (bytes v) c r = let w = mapped just (T (bytes v)) c r in inr (w.0, w.1, refl)
option_reads T (text v) c r = let w = mapped just (T (text v)) c r in inr (w.0, w.1, refl)
option_reads T (array ts) c r = let w = mapped just (T (array ts)) c r in inr (w.0, w.1, refl)
option_reads T (object es) c r = let w = mapped just (T (object es)) c r in inr (w.0, w.1, refl)
option_reads T (template ks rs) c r = let w = mapped just (T (template ks rs)) c r in inr (w.0, w.1, refl)

pub option_passes : (A : Asks) (T : Meaning) → Passes A T → Passes (asks_option A) (reads_option T)
option_passes A T pass o n d u c b x f r = at (option_reads T u c r)
  where
    at : ((u ≡ null) × (null_tree u ≡ true)) ⊎ ((d : Content) × (T u ≡ Some d) × (null_tree u ≡ false)) → asks_option A o n d (b ++ x) ≡ reads tt x
    at (inl h) =
        let s = sight o n d u b f in
        way is_null (asks_unit o n d) (A o n d) (seen o d (b ++ x)) s.shown (s.left x) (b ++ x) true (s.sees x) (s.none ∙ h.1) ∙ unit_passes o n d u one b x f (ap reads_unit h.0)
    at (inr h) =
        let s = sight o n d u b f in
        way is_null (asks_unit o n d) (A o n d) (seen o d (b ++ x)) s.shown (s.left x) (b ++ x) false (s.sees x) (s.none ∙ h.2) ∙ pass o n d u h.0 b x f h.1

-- ---- byte strings

-- a byte is an integer of one byte
byte_reads : (u : Tree) (i : ℕ) → byte_of u ≡ Some i → (c : Content) × (reads_integer (is_unsigned 8) u ≡ Some c)
byte_reads (integer (pos k)) i r = go (nat_lt k 256) r
  where
    go : (b : Bool) → cond b (Some k) None ≡ Some i → (c : Content) × (cond b (Some (number (pos k))) None ≡ Some c)
    go true e = (number (pos k), refl)
    go false e = absurd cc
byte_reads (integer (negsuc k)) i r = absurd cc
byte_reads other i r = absurd cc

bytes_read : (us : List Tree) (s : List ℕ) → each_some byte_of us ≡ Some s → (cs : List Content) × (each_some (reads_integer (is_unsigned 8)) us ≡ Some cs)
bytes_read [] s r = ([], refl)
bytes_read (u ∷ us) s r =
    let w = both_some (λ c more. c ∷ more) (byte_of u) (each_some byte_of us) s r in
    let h = byte_reads u w.0 w.2 in
    let t = bytes_read us w.1 w.3 in
    (h.0 ∷ t.0, rw (h.1, t.1) refl)

-- an array of bytes, or a string
byte_string_reads : (u : Tree) (c : Content) → reads_byte_string u ≡ Some c → ((d : Content) × (reads_vec (reads_integer (is_unsigned 8)) u ≡ Some d) × (array_tree u ≡ true)) ⊎ ((reads_slice u ≡ Some c) × (array_tree u ≡ false))
byte_string_reads (array ts) c r =
    let w = mapped byte_list (each_some byte_of (items ts)) c r in
    let h = bytes_read (items ts) w.0 w.1 in
    inl (list_of h.0, ap (option_map list_of) h.1, refl)
byte_string_reads null c r = inr (r, refl)
byte_string_reads other c r = inr (r, refl)

pub byte_string_passes : Passes asks_byte_string reads_byte_string
byte_string_passes o n d u c b x f r = at (byte_string_reads u c r)
  where
    at : ((d : Content) × (reads_vec (reads_integer (is_unsigned 8)) u ≡ Some d) × (array_tree u ≡ true)) ⊎ ((reads_slice u ≡ Some c) × (array_tree u ≡ false)) → asks_byte_string o n d (b ++ x) ≡ reads tt x
    at (inl h) =
        let s = sight o n d u b f in
        way is_sequence (asks_vec (asks_integer (is_unsigned 8)) o n d) (asks_bytes o n d) (seen o d (b ++ x)) s.shown (s.left x) (b ++ x) true (s.sees x) (s.sequence ∙ h.2)
        ∙ vec_passes (asks_integer (is_unsigned 8)) (reads_integer (is_unsigned 8)) (integer_passes (is_unsigned 8)) o n d u h.0 b x f h.1
    at (inr h) =
        let s = sight o n d u b f in
        way is_sequence (asks_vec (asks_integer (is_unsigned 8)) o n d) (asks_bytes o n d) (seen o d (b ++ x)) s.shown (s.left x) (b ++ x) false (s.sees x) (s.sequence ∙ h.1) ∙ bytes_passes o n d u c b x f h.0
