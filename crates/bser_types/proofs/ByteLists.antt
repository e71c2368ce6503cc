-- Byte strings that stand as strings, or as arrays of bytes.
use Rattle.std.proofs.Common.{◌≡◌, ℕ, suc, Bool, true, false, List, [], ◌∷◌, Option, Some, None, Vec, refl, sym, ap, ◌∙◌}
use Rattle.std.specs.Prelude.{pos, negsuc, option_map, option_and_then, map, nat_lt, if◌then◌else◌}
use Rattle.std.specs.Global.{Global}
use Rattle.bser_format.specs.Tree.{Tree, null, boolean, integer, real, bytes, text, array, object, template, items}
use Rattle.bser_format.specs.Content.{Content, byte_list, number, contents_of, each_some}
use Rattle.bser_format.specs.ReadsScalars.{byte_of, is_unsigned, reads_unsigned, reads_slice, reads_byte_string}
use Rattle.bser_format.specs.ReadsHolders.{list_of, reads_vec}
use Rattle.bser_format.specs.Expected.{Due, WantedItems, nodes, rows_over}
use Rattle.bser_format.specs.declared.errors.Error.{Error}
use Rattle.bser_format.specs.Named.{Answer, Reader, reads, refuses, and_then}
use Rattle.bser_format.specs.DueReaders.{Seen, seen, asked, items_at, less_one}
use Rattle.bser_format.specs.Asks.{is_sequence, by_sight, asks_integer, asks_bytes, asks_vec, items_asked}
use Rattle.bser_format.proofs.Sights.{array_tree, way}
use Rattle.bser_deserializer.specs.Askings.{asking_integer, asking_bytes}
use Rattle.bser_deserializer.specs.Nodes.{SeesNode, BeginsNode}
use Rattle.bser_deserializer.specs.State.{State}
use Rattle.bser_deserializer.specs.Reading.{Answers, Refuses, RefusesFront, NamesBy, bare, owned}
use Rattle.bser_deserializer.specs.Holds.{HoldsSize}
use Rattle.bser_deserializer.specs.HoldsLists.{HoldsAll, HoldsList}
use Rattle.bser_deserializer.specs.HoldsTexts.{HoldsBytes}
use Rattle.bser_deserializer.specs.declared.node.Node.{Node}
use Rattle.bser_deserializer.specs.declared.node.Node.TheVariants as kinds
use Rattle.bser_types.specs.Askings.{counted, asking_vec, asking_byte_string}
use Rattle.bser_types.proofs.Naming.{HeadAsked}
use Rattle.bser_types.proofs.NodeKinds.{is_array, kind_tells}
use Rattle.bser_types.proofs.Looks.{SeenAsked, look_answers, look_refused, no_value}

-- ---- bytes and their numbers

abbrev byte_number : ℕ → Content
byte_number n = number (pos n)

byte_reads : (t : Tree) → reads_unsigned 8 t ≡ option_map byte_number (byte_of t)
byte_reads null = refl
byte_reads (boolean v) = refl
byte_reads (integer (pos n)) = at (nat_lt n 256)
  where
    at : (x : Bool) → (if x then Some (number (pos n)) else None) ≡ option_map byte_number (if x then Some n else None)
    at true = refl
    at false = refl
byte_reads (integer (negsuc n)) = refl
byte_reads (real r) = refl
byte_reads (bytes s) = refl
byte_reads (text s) = refl
byte_reads (array ts) = refl
byte_reads (object es) = refl
byte_reads (template ks rs) = refl

bytes_read : (ts : List Tree) → each_some (reads_unsigned 8) ts ≡ option_map (map byte_number) (each_some byte_of ts)
bytes_read [] = refl
bytes_read (t ∷ ts) = ap (λ o. option_and_then (λ c. option_map (λ cs. c ∷ cs) (each_some (reads_unsigned 8) ts)) o) (byte_reads t) ∙ at (byte_of t) (each_some (reads_unsigned 8) ts) (each_some byte_of ts) (bytes_read ts)
  where
    at : (o : Option ℕ) (p : Option (List Content)) (q : Option (List ℕ)) → p ≡ option_map (map byte_number) q
        → option_and_then (λ c. option_map (λ cs. c ∷ cs) p) (option_map byte_number o) ≡ option_map (map byte_number) (option_and_then (λ y. option_map (λ ys. y ∷ ys) q) o)
    at None p q e = refl
    at (Some n) p None e = ap (option_map (λ cs. byte_number n ∷ cs)) e
    at (Some n) p (Some ns) e = ap (option_map (λ cs. byte_number n ∷ cs)) e

same_bytes : (bs vs : List ℕ) (cs : List Content) → HoldsAll HoldsSize vs cs → contents_of (map byte_number bs) ≡ contents_of cs → bs ≡ vs
same_bytes [] [] [] h e = refl
same_bytes [] (v ∷ vs) [] h e = absurd h
same_bytes [] [] (c ∷ cs) h e = absurd h
same_bytes [] (v ∷ vs) (c ∷ cs) h e = absurd cc
same_bytes (b ∷ bs) [] [] h e = absurd cc
same_bytes (b ∷ bs) (v ∷ vs) [] h e = absurd h
same_bytes (b ∷ bs) [] (c ∷ cs) h e = absurd h
same_bytes (b ∷ bs) (v ∷ vs) (c ∷ cs) h e =
    let first : number (pos b) ≡ c = cc in
    let whole : number (pos b) ≡ number (pos v) = first ∙ h.0 in
    let one : b ≡ v = cc in
    let more : contents_of (map byte_number bs) ≡ contents_of cs = cc in
    ap (λ x. x ∷ bs) one ∙ ap (λ xs. v ∷ xs) (same_bytes bs vs cs h.1 more)

-- ---- arrays

-- an array of bytes is read as a list of their numbers
as_list : (ts : List Tree) (c : Content) → option_map byte_list (each_some byte_of ts) ≡ Some c → (d : Content) × (option_map list_of (each_some (reads_unsigned 8) ts) ≡ Some d)
as_list ts c e = at (each_some byte_of ts) (each_some (reads_unsigned 8) ts) (bytes_read ts) e
  where
    at : (o : Option (List ℕ)) (p : Option (List Content)) → p ≡ option_map (map byte_number) o → option_map byte_list o ≡ Some c → (d : Content) × (option_map list_of p ≡ Some d)
    at None p q h = absurd cc
    at (Some bs) p q h = (list_of (map byte_number bs), ap (option_map list_of) q)

-- a list of the bytes' numbers is read as the bytes
as_bytes : (ts : List Tree) (vs : List ℕ) (c : Content) → HoldsList HoldsSize vs c → option_map list_of (each_some (reads_unsigned 8) ts) ≡ Some c → option_map byte_list (each_some byte_of ts) ≡ Some (byte_list vs)
as_bytes ts vs c h e = at (each_some byte_of ts) (each_some (reads_unsigned 8) ts) (bytes_read ts) e
  where
    at : (o : Option (List ℕ)) (p : Option (List Content)) → p ≡ option_map (map byte_number) o → option_map list_of p ≡ Some c → option_map byte_list o ≡ Some (byte_list vs)
    at None p q r = absurd (let n : None ≡ Some c = sym (ap (option_map list_of) q) ∙ r in cc)
    at (Some bs) p q r =
        let one : Some (list_of (map byte_number bs)) ≡ Some c = sym (ap (option_map list_of) q) ∙ r in
        let same : list_of (map byte_number bs) ≡ c = cc in
        let lists : list_of (map byte_number bs) ≡ list_of h.contents = same ∙ h.list in
        let parts : contents_of (map byte_number bs) ≡ contents_of h.contents = cc in
        ap (λ xs. Some (byte_list xs)) (same_bytes bs vs h.contents h.items parts)

vec_bytes : (u : Tree) (vs : List ℕ) (c : Content) → HoldsList HoldsSize vs c → reads_vec (reads_unsigned 8) u ≡ Some c → reads_byte_string u ≡ Some (byte_list vs)
vec_bytes null vs c h e = absurd cc
vec_bytes (boolean v) vs c h e = absurd cc
vec_bytes (integer v) vs c h e = absurd cc
vec_bytes (real r) vs c h e = absurd cc
vec_bytes (bytes s) vs c h e = absurd cc
vec_bytes (text s) vs c h e = absurd cc
vec_bytes (array ts) vs c h e = as_bytes (items ts) vs c h e
vec_bytes (object es) vs c h e = absurd cc
vec_bytes (template ks rs) vs c h e = absurd cc

array_bytes : (u : Tree) (c : Content) → array_tree u ≡ true → reads_byte_string u ≡ Some c → (d : Content) × (reads_vec (reads_unsigned 8) u ≡ Some d)
array_bytes null c k e = absurd cc
array_bytes (boolean v) c k e = absurd cc
array_bytes (integer v) c k e = absurd cc
array_bytes (real r) c k e = absurd cc
array_bytes (bytes s) c k e = absurd cc
array_bytes (text s) c k e = absurd cc
array_bytes (array ts) c k e = as_list (items ts) c e
array_bytes (object es) c k e = absurd cc
array_bytes (template ks rs) c k e = absurd cc

-- ---- strings

-- what is no array is read as its bytes both ways
string_bytes : (u : Tree) (c : Content) → (reads_slice u ≡ Some c → reads_byte_string u ≡ Some c) × (array_tree u ≡ false → reads_byte_string u ≡ Some c → reads_slice u ≡ Some c)
string_bytes null c = (λ e. absurd cc, λ other e. e)
string_bytes (boolean v) c = (λ e. absurd cc, λ other e. e)
string_bytes (integer v) c = (λ e. absurd cc, λ other e. e)
string_bytes (real r) c = (λ e. absurd cc, λ other e. e)
string_bytes (bytes s) c = (λ e. e, λ other e. e)
string_bytes (text s) c = (λ e. e, λ other e. e)
string_bytes (array ts) c = (λ e. absurd cc, λ other e. absurd cc)
string_bytes (object es) c = (λ e. absurd cc, λ other e. e)
string_bytes (template ks rs) c = (λ e. absurd cc, λ other e. e)

-- ---- the kind that was seen tells arrays from the others

other_kind : (k : Node) → (k ≡ kinds.Array → ⊥) → is_array (Some k) ≡ false
other_kind kinds.Array other = absurd (other refl)
other_kind _ other = refl

-- ---- what the two ways ask for

-- integers ask for the same however many containers are open
same_items : (o n : ℕ) (w : WantedItems) (y : List ℕ) → items_asked (counted (asks_integer (is_unsigned 8))) (suc o) n w y ≡ items_asked (asks_integer (is_unsigned 8)) (suc o) n w y
same_items o n (nodes k) y = refl
same_items o n (rows_over ks k) y = refl

same_then : (k l : WantedItems → Reader Unit) → ((w : WantedItems) (y : List ℕ) → k w y ≡ l w y) → (a : Answer WantedItems) → and_then k a ≡ and_then l a
same_then k l same (reads w y) = same w y
same_then k l same (refuses e) = refl

same_list : (o n : ℕ) (d : Due) (x : List ℕ) → asks_vec (counted (asks_integer (is_unsigned 8))) o n d x ≡ asks_vec (asks_integer (is_unsigned 8)) o n d x
same_list o n d x =
    same_then (items_asked (counted (asks_integer (is_unsigned 8))) (suc o) (less_one n)) (items_asked (asks_integer (is_unsigned 8)) (suc o) (less_one n)) (same_items o (less_one n)) (asked (items_at n) o d x)

array_seen : (s : State) (v : Seen) → is_sequence v ≡ true → SeenAsked (Some asking_byte_string) (Some (asking_vec (asking_integer (is_unsigned 8)))) s v
array_seen s v is = λ x y e there h.
    way is_sequence (asks_vec (asks_integer (is_unsigned 8)) s.opened s.levels s.due) (asks_bytes s.opened s.levels s.due) (seen s.opened s.due x) v y x true there is
    ∙ sym (same_list s.opened s.levels s.due x) ∙ h

string_seen : (s : State) (v : Seen) → is_sequence v ≡ false → SeenAsked (Some asking_byte_string) (Some asking_bytes) s v
string_seen s v other = λ x y e there h.
    way is_sequence (asks_vec (asks_integer (is_unsigned 8)) s.opened s.levels s.due) (asks_bytes s.opened s.levels s.due) (seen s.opened s.due x) v y x false there other ∙ h

bytes_head : (s : State) → HeadAsked (Some asking_byte_string) s (seen s.opened s.due)
bytes_head s = λ x e h. ap (λ z. by_sight is_sequence (asks_vec (asks_integer (is_unsigned 8)) s.opened s.levels s.due) (asks_bytes s.opened s.levels s.due) z x) h

-- ---- the two ways

-- where nothing is seen, no byte string is read
pub nothing_seen : (s z : State) (e : Error) → RefusesFront bare (BeginsNode s.due) (NamesBy bare (seen s.opened s.due) e s.source) e s.source z.source → Refuses reads_byte_string (Some asking_byte_string) owned e s z
nothing_seen s z e u = no_value owned reads_byte_string (Some asking_byte_string) s z e (bytes_head s) u

pub array_answers : (s mid t : State) (v : Vec ℕ Global) → SeesNode s mid kinds.Array → Answers (reads_vec (reads_unsigned 8)) (λ (w : Vec ℕ Global) c. HoldsList HoldsSize w.items c) mid t v → Answers reads_byte_string HoldsBytes s t v.items
array_answers s mid t v sees a =
    look_answers (reads_vec (reads_unsigned 8)) reads_byte_string (λ (w : Vec ℕ Global) c. HoldsList HoldsSize w.items c) HoldsBytes s mid t kinds.Array v v.items sees
    (λ u c none sequence read held. (byte_list v.items, vec_bytes u v.items c held read, refl)) a

pub array_refused : (s mid z : State) (e : Error) → SeesNode s mid kinds.Array → Refuses (reads_vec (reads_unsigned 8)) (Some (asking_vec (asking_integer (is_unsigned 8)))) owned e mid z
    → Refuses reads_byte_string (Some asking_byte_string) owned e s z
array_refused s mid z e sees u =
    let is : is_sequence sees.seen ≡ true = (kind_tells s.due sees.seen kinds.Array sees.kind).0 in
    look_refused owned (reads_vec (reads_unsigned 8)) reads_byte_string (Some (asking_vec (asking_integer (is_unsigned 8)))) (Some asking_byte_string) s mid z kinds.Array e sees
    (λ t c none sequence read. array_bytes t c (sym sequence ∙ is) read) (array_seen s sees.seen is) u

pub string_answers : (s mid t : State) (k : Node) (v : List ℕ) → SeesNode s mid k → Answers reads_slice (λ w c. c ≡ byte_list w) mid t v → Answers reads_byte_string HoldsBytes s t v
string_answers s mid t k v sees a =
    look_answers reads_slice reads_byte_string (λ w c. c ≡ byte_list w) HoldsBytes s mid t k v v sees (λ u c none sequence read held. (c, (string_bytes u c).0 read, held)) a

pub string_refused : (s mid z : State) (k : Node) (e : Error) → SeesNode s mid k → (k ≡ kinds.Array → ⊥) → Refuses reads_slice (Some asking_bytes) owned e mid z → Refuses reads_byte_string (Some asking_byte_string) owned e s z
string_refused s mid z k e sees other u =
    let is : is_sequence sees.seen ≡ false = (kind_tells s.due sees.seen k sees.kind).0 ∙ other_kind k other in
    look_refused owned reads_slice reads_byte_string (Some asking_bytes) (Some asking_byte_string) s mid z k e sees
    (λ t c none sequence read. (c, (string_bytes t c).1 (sym sequence ∙ is) read)) (string_seen s sees.seen is) u
