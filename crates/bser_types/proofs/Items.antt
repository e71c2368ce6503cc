-- What follows the head of an array or a template is the items that it wants.
use Rattle.std.proofs.Common.{◌≡◌, ℕ, zero, suc, ◌-◌, Bool, true, false, List, [], ◌∷◌, ◌++◌, length, append_assoc, refl, sym, ap, subst, ◌∙◌, arith, inl, inr}
use Rattle.std.specs.Prelude.{if◌then◌else◌}
use Rattle.std.specs.Str.{is_utf8}
use Rattle.std.specs.List.{AllByRecursion}
use Rattle.bser_format.specs.Tree.{Tree, null, boolean, integer, real, bytes, text, array, object, template, Items, no_items, item, items, Rows, no_rows, row, rows}
use Rattle.bser_format.specs.Grammar.{Format, Bytes, Each, Spells, SpellsCount, SpellsKey, SpellsField, IsTemplate, ◌then◌}
use Rattle.bser_format.specs.Expand.{expand, expand_items, expand_rows}
use Rattle.bser_format.specs.Named.{Reader, give, ◌>>=◌, next, count, many, text_of}
use Rattle.bser_format.specs.declared.errors.Kind.TheVariants.{TemplateKey}
use Rattle.bser_format.specs.Expected.{Due, Fills, FillsNode, FillsItems, nothing_due, node_due, key_due, field_due, name_due, row_due, WantedItems, nodes, rows_over}
use Rattle.bser_format.proofs.Fronts.{Reads, reads_then, reads_last, next_reads, count_reads, key_reads, many_all}
use Rattle.bser_deserializer.specs.Parts.{ArrayHead, TemplateHead, ItemsHead, BeginsItems}
use Rattle.bser_types.proofs.Within.{one_front}

-- ---- formats

-- what follows a whole follows its last part
pub tail_first : (F G G' : Format) (a x : List ℕ) → ((b : List ℕ) → G b → G' (b ++ x)) → (F then G) a → (F then G') (a ++ x)
tail_first F G G' a x f h = record { front = h.front; rest = h.rest ++ x; whole = ap (λ l. l ++ x) h.whole ∙ append_assoc h.front h.rest x; first = h.first; second = f h.rest h.second }

pub tail_last : (F G : Format) (a x : List ℕ) → F a → G x → (F then G) (a ++ x)
tail_last F G a x f g = record { front = a; rest = x; whole = refl; first = f; second = g }

-- a front of what follows belongs to what came before
pub grouped : (F G G' R : Format) (b : List ℕ) → ((c : List ℕ) → G' c → (G then R) c) → (F then G') b → ((F then G) then R) b
grouped F G G' R b f h =
    let q = f h.rest h.second in
    record {
      front = h.front ++ q.front;
      rest = q.rest;
      whole = h.whole ∙ ap (λ l. h.front ++ l) q.whole ∙ sym (append_assoc h.front q.front q.rest);
      first = record { front = h.front; rest = q.front; whole = refl; first = h.first; second = q.first };
      second = q.second;
    }

starts : (tag : ℕ) (G : Format) (b y : List ℕ) → (Bytes (tag ∷ []) then G) b → (z : List ℕ) × (b ++ y ≡ tag ∷ z)
starts tag G b y h = (h.rest ++ y, ap (λ c. c ++ y) (h.whole ∙ ap (λ c. c ++ h.rest) h.first))

other_tag : (a b : ℕ) (x y z w : List ℕ) → (a ≡ b → ⊥) → x ≡ a ∷ z → y ≡ b ∷ w → x ≡ y → ⊥
other_tag a b x y z w other p q e =
    let same : a ∷ z ≡ b ∷ w = sym p ∙ e ∙ q in
    other cc

-- ---- items and rows

nodes_whole : (n : ℕ) (us : Items) (x : List ℕ) → Each (Fills n node_due) (items us) x → (ts : Items) × (us ≡ expand_items ts) × (length (items ts) ≡ length (items us)) × Each (Spells n) (items ts) x
nodes_whole n no_items x h = (no_items, refl, refl, h)
nodes_whole n (item u us) x h =
    let q = nodes_whole n us h.rest h.second in (
      item h.first.tree q.0,
      ap (item u) q.1 ∙ ap (λ t. item t (expand_items q.0)) h.first.stands,
      ap suc q.2,
      record { front = h.front; rest = h.rest; whole = h.whole; first = h.first.spelled; second = q.3 },
    )

nodes_only : (n : ℕ) (ts : Items) (x : List ℕ) → Each (Spells n) (items ts) x → (length (items (expand_items ts)) ≡ length (items ts)) × Each (Fills n node_due) (items (expand_items ts)) x
nodes_only n no_items x h = (refl, h)
nodes_only n (item t ts) x h =
    let q = nodes_only n ts h.rest h.second in
    (ap suc q.0, record { front = h.front; rest = h.rest; whole = h.whole; first = record { tree = t; stands = refl; spelled = h.first }; second = q.1 })

rows_whole : (n : ℕ) (ks : List (List ℕ)) (us : Items) (x : List ℕ) → Each (Fills n (row_due ks)) (items us) x
    → (rs : Rows) × (us ≡ expand_rows ks rs) × (length (rows rs) ≡ length (items us)) × AllByRecursion (λ r. length r ≡ length ks) (rows rs) × Each (Each (SpellsField (Spells n))) (rows rs) x
rows_whole n ks no_items x h = (no_rows, refl, refl, tt, h)
rows_whole n ks (item u us) x h =
    let q = rows_whole n ks us h.rest h.second in (
      row h.first.row q.0,
      ap (item u) q.1 ∙ ap (λ t. item t (expand_rows ks q.0)) h.first.stands,
      ap suc q.2,
      (h.first.even, q.3),
      record { front = h.front; rest = h.rest; whole = h.whole; first = h.first.spelled; second = q.4 },
    )

rows_only : (n : ℕ) (ks : List (List ℕ)) (rs : Rows) (x : List ℕ) → AllByRecursion (λ r. length r ≡ length ks) (rows rs) → Each (Each (SpellsField (Spells n))) (rows rs) x
    → (length (items (expand_rows ks rs)) ≡ length (rows rs)) × Each (Fills n (row_due ks)) (items (expand_rows ks rs)) x
rows_only n ks no_rows x all h = (refl, h)
rows_only n ks (row fs rs) x all h =
    let q = rows_only n ks rs h.rest all.1 h.second in
    (ap suc q.0, record { front = h.front; rest = h.rest; whole = h.whole; first = record { row = fs; even = all.0; stands = refl; spelled = h.first }; second = q.1 })

empty : {X : Type 0} (xs : List X) → length xs ≡ 0 → xs ≡ []
empty [] e = refl
empty (x ∷ xs) e = absurd (omega (arith, e))

is_template : (ks : List (List ℕ)) (rs : Rows) → (ks ≡ [] → length (rows rs) ≡ 0) → AllByRecursion (λ r. length r ≡ length ks) (rows rs) → IsTemplate ks (rows rs)
is_template [] rs none all = empty (rows rs) (none refl)
is_template (k ∷ ks) rs none all = all

all_rows : (ks : List (List ℕ)) (rs : Rows) → IsTemplate ks (rows rs) → AllByRecursion (λ r. length r ≡ length ks) (rows rs)
all_rows [] rs e = subst (AllByRecursion (λ r. length r ≡ 0)) (sym e) tt
all_rows (k ∷ ks) rs all = all

no_row : (ks : List (List ℕ)) (rs : Rows) → IsTemplate ks (rows rs) → ks ≡ [] → length (rows rs) ≡ 0
no_row [] rs e same = ap length e
no_row (k ∷ ks) rs all same = absurd cc

-- ---- heads

abbrev array_head : Reader ℕ
array_head = next >>= λ t. count

array_head_reads : (k : ℕ) → Reads array_head (Bytes (0x00 ∷ []) then SpellsCount k) k
array_head_reads k = reads_then next (λ t. count) (Bytes (0x00 ∷ [])) (SpellsCount k) 0x00 k (next_reads 0x00) (count_reads k)

-- the head of a template
abbrev Table : List (List ℕ) → ℕ → Format
Table ks k = Bytes (0x0b ∷ []) then Bytes (0x00 ∷ []) then SpellsCount (length ks) then Each SpellsKey ks then SpellsCount k

abbrev table_head : Reader (List (List ℕ) × ℕ)
table_head = next >>= λ t. next >>= λ a. count >>= λ n. many (text_of TemplateKey) n >>= λ us. count >>= λ m. give (us, m)

table_head_reads : (ks : List (List ℕ)) (k : ℕ) → Reads table_head (Table ks k) (ks, k)
table_head_reads ks k =
    reads_then next (λ t. next >>= λ a. count >>= λ n. many (text_of TemplateKey) n >>= λ us. count >>= λ m. give (us, m)) (Bytes (0x0b ∷ [])) _ 0x0b (ks, k) (next_reads 0x0b)
    (reads_then next (λ a. count >>= λ n. many (text_of TemplateKey) n >>= λ us. count >>= λ m. give (us, m)) (Bytes (0x00 ∷ [])) _ 0x00 (ks, k) (next_reads 0x00)
    (reads_then count (λ n. many (text_of TemplateKey) n >>= λ us. count >>= λ m. give (us, m)) (SpellsCount (length ks)) _ (length ks) (ks, k) (count_reads (length ks))
    (reads_then (many (text_of TemplateKey) (length ks)) (λ us. count >>= λ m. give (us, m)) (Each SpellsKey ks) (SpellsCount k) ks (ks, k) (many_all (text_of TemplateKey) SpellsKey key_reads ks)
    (reads_last count (λ m. give (ks, m)) (SpellsCount k) k (ks, k) (count_reads k) (λ y. refl)))))

-- an array, as its head and its items
array_parts : (n : ℕ) (ts : Items) (b : List ℕ) → Spells (suc n) (array ts) b → ((Bytes (0x00 ∷ []) then SpellsCount (length (items ts))) then Each (Spells n) (items ts)) b
array_parts n ts b h = grouped _ _ _ _ b (λ c g. g) h

-- a template, as its head and its rows
table_parts : (n : ℕ) (ks : List (List ℕ)) (rs : Rows) (b : List ℕ) → Spells (suc (suc n)) (template ks rs) b → (Table ks (length (rows rs)) then Each (Each (SpellsField (Spells (suc n)))) (rows rs)) b
table_parts n ks rs b h = grouped _ _ _ _ b (λ c. grouped _ _ _ _ c (λ d. grouped _ _ _ _ d (λ e. grouped _ _ _ _ e (λ f g. g)))) h.1

template_starts : (n : ℕ) (ks : List (List ℕ)) (rs : Rows) (b y : List ℕ) → Spells n (template ks rs) b → (z : List ℕ) × (b ++ y ≡ 0x0b ∷ z)
template_starts zero ks rs b y h = absurd h
template_starts (suc zero) ks rs b y h = absurd h
template_starts (suc (suc n)) ks rs b y h = starts 0x0b _ b y h.1

-- ---- a head, and then what it makes wanted

array_whole : (n k : ℕ) (us : Items) (h x : List ℕ) → ArrayHead (suc n) k h → FillsItems n (nodes k) us x → FillsNode (suc n) (array us) (h ++ x)
array_whole n k us h x head filled =
    let q = nodes_whole n us x filled.1 in
    let size : k ≡ length (items q.0) = sym (q.2 ∙ filled.0) in
    let spelled : Spells (suc n) (array q.0) (h ++ x) = tail_first (Bytes (0x00 ∷ [])) (SpellsCount k) _ h x (λ b c. tail_last _ _ b x (subst (λ m. SpellsCount m b) size c) q.3) head in
    record { tree = array q.0; stands = ap array q.1; spelled = spelled }

template_whole : (n : ℕ) (ks : List (List ℕ)) (k : ℕ) (us : Items) (h x : List ℕ) → TemplateHead (suc (suc n)) ks k h → FillsItems (suc n) (rows_over ks k) us x → FillsNode (suc (suc n)) (array us) (h ++ x)
template_whole n ks k us h x head filled =
    let q = rows_whole (suc n) ks us x filled.1 in
    let size : k ≡ length (rows q.0) = sym (q.2 ∙ filled.0) in
    let even : IsTemplate ks (rows q.0) = is_template ks q.0 (λ e. sym size ∙ head.0 e) q.3 in
    let spelled : Spells (suc (suc n)) (template ks q.0) (h ++ x) = (
      even,
      tail_first _ _ _ h x (λ a. tail_first _ _ _ a x (λ b. tail_first _ _ _ b x (λ c. tail_first _ _ _ c x (λ d e. tail_last _ _ d x (subst (λ m. SpellsCount m d) size e) q.4)))) head.1,
    ) in
    record { tree = template ks q.0; stands = ap array q.1; spelled = spelled }

head_whole : (n : ℕ) (w : WantedItems) (us : Items) (h x : List ℕ) → ItemsHead n w h → FillsItems (n - 1) w us x → FillsNode n (array us) (h ++ x)
head_whole zero (nodes k) us h x head filled = absurd head
head_whole (suc n) (nodes k) us h x head filled = let e : suc n - 1 ≡ n = omega arith in array_whole n k us h x head (subst (λ m. FillsItems m (nodes k) us x) e filled)
head_whole zero (rows_over ks k) us h x head filled = absurd head
head_whole (suc zero) (rows_over ks k) us h x head filled = absurd head
head_whole (suc (suc n)) (rows_over ks k) us h x head filled =
    let e : suc (suc n) - 1 ≡ suc n = omega arith in template_whole n ks k us h x head (subst (λ m. FillsItems m (rows_over ks k) us x) e filled)

pub items_whole : (n : ℕ) (d : Due) (w : WantedItems) (us : Items) (h x : List ℕ) → BeginsItems n d w h → FillsItems (n - 1) w us x → Fills n d (array us) (h ++ x)
items_whole n nothing_due w us h x head filled = absurd head
items_whole n node_due w us h x head filled = head_whole n w us h x head filled
items_whole n key_due w us h x head filled = absurd head
items_whole n field_due w us h x head filled = inr (head_whole n w us h x head filled)
items_whole n (name_due k) w us h x head filled = absurd head
items_whole n (row_due ks) w us h x head filled = absurd head

-- ---- what begins with a head goes on with what it makes wanted

array_only : (n k : ℕ) (us : Items) (t : Tree) (h b rest ys : List ℕ) → ArrayHead (suc n) k h → array us ≡ expand t → Spells (suc n) t b → b ++ rest ≡ h ++ ys → (more : List ℕ) × (b ≡ h ++ more) × FillsItems n (nodes k) us more
array_only n k us null h b rest ys head e s same = absurd cc
array_only n k us (boolean v) h b rest ys head e s same = absurd cc
array_only n k us (integer v) h b rest ys head e s same = absurd cc
array_only n k us (real v) h b rest ys head e s same = absurd cc
array_only n k us (bytes v) h b rest ys head e s same = absurd cc
array_only n k us (text v) h b rest ys head e s same = absurd cc
array_only n k us (object es) h b rest ys head e s same = absurd cc
array_only n k us (template ks rs) h b rest ys head e s same =
    let p = template_starts (suc n) ks rs b rest s in
    let q = starts 0x00 _ h ys head in
    absurd (other_tag 0x0b 0x00 _ _ p.0 q.0 (λ z. omega (arith, z)) p.1 q.1 same)
array_only n k us (array ts) h b rest ys head e s same =
    let p = array_parts n ts b s in
    let all : p.front ++ (p.rest ++ rest) ≡ h ++ ys = sym (append_assoc p.front p.rest rest) ∙ ap (λ l. l ++ rest) (sym p.whole) ∙ same in
    let one = one_front array_head _ _ (length (items ts)) k (array_head_reads (length (items ts))) (array_head_reads k) p.front h (p.rest ++ rest) ys p.first head all in
    let q = nodes_only n ts p.rest p.second in
    let u : expand_items ts ≡ us = cc in
    (p.rest, p.whole ∙ ap (λ l. l ++ p.rest) one.0, subst (λ v. FillsItems n (nodes k) v p.rest) u (q.0 ∙ one.1, q.1))

template_only : (n : ℕ) (ks : List (List ℕ)) (k : ℕ) (us : Items) (t : Tree) (h b rest ys : List ℕ) → TemplateHead (suc (suc n)) ks k h → array us ≡ expand t → Spells (suc (suc n)) t b → b ++ rest ≡ h ++ ys
    → (more : List ℕ) × (b ≡ h ++ more) × FillsItems (suc n) (rows_over ks k) us more
template_only n ks k us null h b rest ys head e s same = absurd cc
template_only n ks k us (boolean v) h b rest ys head e s same = absurd cc
template_only n ks k us (integer v) h b rest ys head e s same = absurd cc
template_only n ks k us (real v) h b rest ys head e s same = absurd cc
template_only n ks k us (bytes v) h b rest ys head e s same = absurd cc
template_only n ks k us (text v) h b rest ys head e s same = absurd cc
template_only n ks k us (object es) h b rest ys head e s same = absurd cc
template_only n ks k us (array ts) h b rest ys head e s same =
    let p = starts 0x00 _ b rest s in
    let q = starts 0x0b _ h ys head.1 in
    absurd (other_tag 0x00 0x0b _ _ p.0 q.0 (λ z. omega (arith, z)) p.1 q.1 same)
template_only n ks k us (template ls rs) h b rest ys head e s same =
    let p = table_parts n ls rs b s in
    let all : p.front ++ (p.rest ++ rest) ≡ h ++ ys = sym (append_assoc p.front p.rest rest) ∙ ap (λ l. l ++ rest) (sym p.whole) ∙ same in
    let one = one_front table_head (Table ls (length (rows rs))) (Table ks k) (ls, length (rows rs)) (ks, k) (table_head_reads ls (length (rows rs))) (table_head_reads ks k) p.front h (p.rest ++ rest) ys p.first head.1 all in
    let q = rows_only (suc n) ls rs p.rest (all_rows ls rs s.0) p.second in
    let u : expand_rows ls rs ≡ us = cc in
    let keys : ls ≡ ks = ap (λ v. v.0) one.1 in
    let size : length (rows rs) ≡ k = ap (λ v. v.1) one.1 in
    (p.rest, p.whole ∙ ap (λ l. l ++ p.rest) one.0, subst (λ v. FillsItems (suc n) (rows_over ks k) v p.rest) u (subst (λ v. FillsItems (suc n) (rows_over v k) (expand_rows ls rs) p.rest) keys (q.0 ∙ size, q.1)))

head_only : (n : ℕ) (w : WantedItems) (us : Items) (h b rest ys : List ℕ) → ItemsHead n w h → FillsNode n (array us) b → b ++ rest ≡ h ++ ys → (more : List ℕ) × (b ≡ h ++ more) × FillsItems (n - 1) w us more
head_only zero (nodes k) us h b rest ys head node same = absurd head
head_only (suc n) (nodes k) us h b rest ys head node same =
    let e : n ≡ suc n - 1 = omega arith in
    let p = array_only n k us node.tree h b rest ys head node.stands node.spelled same in
    (p.0, p.1, subst (λ m. FillsItems m (nodes k) us p.0) e p.2)
head_only zero (rows_over ks k) us h b rest ys head node same = absurd head
head_only (suc zero) (rows_over ks k) us h b rest ys head node same = absurd head
head_only (suc (suc n)) (rows_over ks k) us h b rest ys head node same =
    let e : suc n ≡ suc (suc n) - 1 = omega arith in
    let p = template_only n ks k us node.tree h b rest ys head node.stands node.spelled same in
    (p.0, p.1, subst (λ m. FillsItems m (rows_over ks k) us p.0) e p.2)

pub items_only : (n : ℕ) (d : Due) (w : WantedItems) (us : Items) (h b rest ys : List ℕ) → BeginsItems n d w h → Fills n d (array us) b → b ++ rest ≡ h ++ ys → (more : List ℕ) × (b ≡ h ++ more) × FillsItems (n - 1) w us more
items_only n nothing_due w us h b rest ys head filled same = absurd head
items_only n node_due w us h b rest ys head filled same = head_only n w us h b rest ys head filled same
items_only n key_due w us h b rest ys head filled same = absurd head
items_only n field_due w us h b rest ys head (inl skip) same = absurd (let e = skip.0 in cc)
items_only n field_due w us h b rest ys head (inr node) same = head_only n w us h b rest ys head node same
items_only n (name_due k) w us h b rest ys head filled same = absurd head
items_only n (row_due ks) w us h b rest ys head filled same = absurd head

-- ---- an array that is due begins with a head

-- a front of the head of some items
abbrev pub Begun : ℕ → Due → List ℕ → Type 0
Begun n d b = (first : List ℕ) × (second : List ℕ) × (b ≡ first ++ second) × ((w : WantedItems) × BeginsItems n d w first)

array_begins : (n : ℕ) (us : Items) (t : Tree) (b : List ℕ) → array us ≡ expand t → Spells n t b → Begun n node_due b
array_begins n us null b e s = absurd cc
array_begins n us (boolean v) b e s = absurd cc
array_begins n us (integer v) b e s = absurd cc
array_begins n us (real v) b e s = absurd cc
array_begins n us (bytes v) b e s = absurd cc
array_begins n us (text v) b e s = absurd cc
array_begins n us (object es) b e s = absurd cc
array_begins zero us (array ts) b e s = absurd s
array_begins (suc n) us (array ts) b e s = let p = array_parts n ts b s in (p.front, p.rest, p.whole, (nodes (length (items ts)), p.first))
array_begins zero us (template ks rs) b e s = absurd s
array_begins (suc zero) us (template ks rs) b e s = absurd s
array_begins (suc (suc n)) us (template ks rs) b e s =
    let p = table_parts n ks rs b s in
    (p.front, p.rest, p.whole, (rows_over ks (length (rows rs)), (no_row ks rs s.0, p.first)))

no_key : (us : Items) (s : List ℕ) (utf8 : Bool) → array us ≡ (if utf8 then text s else bytes s) → ⊥
no_key us s true e = cc
no_key us s false e = cc

pub items_begin : (n : ℕ) (d : Due) (us : Items) (b : List ℕ) → Fills n d (array us) b → Begun n d b
items_begin n nothing_due us b h = absurd h
items_begin n node_due us b h = array_begins n us h.tree b h.stands h.spelled
items_begin n key_due us b h = absurd (no_key us h.key (is_utf8 h.key) h.stands)
items_begin n field_due us b (inl h) = absurd (let e = h.0 in cc)
items_begin n field_due us b (inr h) = array_begins n us h.tree b h.stands h.spelled
items_begin n (name_due k) us b h = absurd (no_key us k (is_utf8 k) h.0)
items_begin n (row_due ks) us b h = absurd (let e = h.stands in cc)
