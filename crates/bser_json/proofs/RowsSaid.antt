-- Tokens of the rows of a template that are put one after the other.
use Rattle.std.proofs.Common.{◌≡◌, ℕ, List, [], ◌∷◌, ◌++◌, Option, Some, None, Result, Ok, Err, OnOk, refl, sym, ap, subst, ◌∙◌, append_assoc, append-nil, Bor}
use Rattle.std.specs.Map.{keys_of}
use Rattle.json.specs.Token as tokens
use Rattle.bser_format.specs.Normal.{last_entries}
use Rattle.bser_format.specs.Tree.{Tree, array, entries_of}
use Rattle.bser_format.specs.Tree as trees
use Rattle.bser_document.specs.declared.item.Item.{Item}
use Rattle.bser_document.specs.declared.rows.Rows.{Rows}
use Rattle.bser_document.specs.declared.rows.Row.{Row}
use Rattle.bser_document.specs.Order.{shown, last_places, value_at}
use Rattle.bser_document.specs.Rows.{Pair, HoldsRow, HoldsRows, FindsRows, GivesRow, row_object, row_objects}
use Rattle.bser_document.proofs.Orders.{with_values, row_in_order}
use Rattle.bser_json.specs.Printed.{Puts}
use Rattle.bser_json.specs.Said.{Says, SaysItems, SaysEntries, SaysKey, PutsSaid, said_key}
use Rattle.bser_json.specs.declared.printing.Printing.{Printing}
use Rattle.bser_json.proofs.Saying.{puts_then, same_said}

-- a template, where its rows are put
pub template_said : {W E : Type 0} (contents : W → Option (List ℕ)) (i : Item) (s : Rows) (r : Result (Unit {0}) E) (x y : Printing W) (u : Tree) → FindsRows i u (Some s)
    → ((ks : List (List ℕ)) (ms : List (List Pair)) → HoldsRows s ks ms → OnOk r (PutsSaid contents (Says (array (row_objects ms))) x y)) → OnOk r (PutsSaid contents (Says u) x y)
template_said contents i s r x y u h said = same_said contents r u (array (row_objects h.pairs)) x y h.same (said h.keys h.pairs h.holds)

-- ---- the rows

-- the rows before these are put
pub record SayingRows {W : Type 0} (contents : W → Option (List ℕ)) (ks : List (List ℕ)) (ms : List (List Pair)) (rest : Rows) (x y : Printing W) : Type 0 where
  pub left : List (List Pair)
  pub holds : HoldsRows rest ks left
  pub done : List tokens.Token
  pub said : (more : List tokens.Token) → SaysItems (row_objects left) more → SaysItems (row_objects ms) (done ++ more)
  pub puts : Puts contents (tokens.begin_array ∷ done) x y

pub rows_begun : {W : Type 0} (contents : W → Option (List ℕ)) (ks : List (List ℕ)) (ms : List (List Pair)) (s rest : Rows) (x y : Printing W) → HoldsRows s ks ms → s ≡ rest → Puts contents (tokens.begin_array ∷ []) x y → SayingRows contents ks ms rest x y
rows_begun contents ks ms s rest x y h same puts = record { left = ms; holds = subst (λ s. HoldsRows s ks ms) same h; done = []; said = λ more k. k; puts = puts }

pub row_more : {W : Type 0} (contents : W → Option (List ℕ)) (ks : List (List ℕ)) (ms : List (List Pair)) (rest next : Rows) (r : Row) (x y z : Printing W) → ((ks : List (List ℕ)) (ms : List (List Pair)) → HoldsRows rest ks ms → GivesRow ks ms (Some r) next)
    → ((m : List Pair) → HoldsRow r ks m → PutsSaid contents (Says (row_object m)) y z) → SayingRows contents ks ms rest x y → SayingRows contents ks ms next x z
row_more contents ks ms rest next r x y z gives put s = of_left s.left s.holds s.said
  where
    of_left : (l : List (List Pair)) → HoldsRows rest ks l → ((more : List tokens.Token) → SaysItems (row_objects l) more → SaysItems (row_objects ms) (s.done ++ more)) → SayingRows contents ks ms next x z
    of_left [] holds said = absurd (gives ks [] holds)
    of_left (m ∷ l) holds said =
        let g = gives ks (m ∷ l) holds in
        let p = put m g.0 in
        record {
          left = l;
          holds = g.1;
          done = s.done ++ p.0;
          said = λ more k. subst (SaysItems (row_objects ms)) (sym (append_assoc s.done p.0 more)) (said (p.0 ++ more) (p.0, more, p.1, k, refl));
          puts = puts_then contents (tokens.begin_array ∷ s.done) p.0 x y z s.puts p.2;
        }

rows_whole : {W : Type 0} (contents : W → Option (List ℕ)) (ks : List (List ℕ)) (ms : List (List Pair)) (rest next : Rows) (x y z : Printing W) → ((ks : List (List ℕ)) (ms : List (List Pair)) → HoldsRows rest ks ms → GivesRow ks ms None next) → Puts contents (tokens.end_array ∷ []) y z → SayingRows contents ks ms rest x y
    → PutsSaid contents (Says (array (row_objects ms))) x z
rows_whole contents ks ms rest next x y z gives last s = of_left s.left s.holds s.said
  where
    of_left : (l : List (List Pair)) → HoldsRows rest ks l → ((more : List tokens.Token) → SaysItems (row_objects l) more → SaysItems (row_objects ms) (s.done ++ more)) → PutsSaid contents (Says (array (row_objects ms))) x z
    of_left [] holds said =
        (tokens.begin_array ∷ (s.done ++ tokens.end_array ∷ []), (s.done, subst (SaysItems (row_objects ms)) (append-nil s.done) (said [] refl), refl), puts_then contents (tokens.begin_array ∷ s.done) (tokens.end_array ∷ []) x y z s.puts last)
    of_left (m ∷ l) holds said = absurd (gives ks (m ∷ l) holds)

pub rows_said : {W E : Type 0} (contents : W → Option (List ℕ)) (ks : List (List ℕ)) (ms : List (List Pair)) (rest next : Rows) (x y z : Printing W) (r : Result (Unit {0}) E) → ((ks : List (List ℕ)) (ms : List (List Pair)) → HoldsRows rest ks ms → GivesRow ks ms None next) → OnOk r (Puts contents (tokens.end_array ∷ []) y z)
    → SayingRows contents ks ms rest x y → OnOk r (PutsSaid contents (Says (array (row_objects ms))) x z)
rows_said contents ks ms rest next x y z (Ok v) gives last s = rows_whole contents ks ms rest next x y z gives last s
rows_said contents ks ms rest next x y z (Err e) gives last s = tt

-- ---- the fields of a row

-- the entries of the fields at these places
abbrev pub fields_at : List Pair → List (Bor (List ℕ) × ℕ) → trees.Entries
fields_at m rest = entries_of (with_values (value_at m) (shown rest))

-- the fields under the keys before these are put
pub record SayingFields {W : Type 0} (contents : W → Option (List ℕ)) (m : List Pair) (rest : List (Bor (List ℕ) × ℕ)) (x y : Printing W) : Type 0 where
  pub done : List tokens.Token
  pub said : (more : List tokens.Token) → SaysEntries (fields_at m rest) more → SaysEntries (entries_of (last_entries m)) (done ++ more)
  pub puts : Puts contents (tokens.begin_object ∷ done) x y

pub fields_begun : {W : Type 0} (contents : W → Option (List ℕ)) (m : List Pair) (order rest : List (Bor (List ℕ) × ℕ)) (x y : Printing W) → shown order ≡ last_places (keys_of m) → rest ≡ order → Puts contents (tokens.begin_object ∷ []) x y → SayingFields contents m rest x y
fields_begun contents m order rest x y is same puts = record {
  done = [];
  said = λ more k. subst (λ l. SaysEntries (entries_of l) more) (ap (λ l. with_values (value_at m) (shown l)) same ∙ row_in_order m order is) k;
  puts = puts;
}

pub field_more : {W : Type 0} (contents : W → Option (List ℕ)) (m : List Pair) (rest left : List (Bor (List ℕ) × ℕ)) (e : Bor (List ℕ) × ℕ) (x y z w : Printing W) → rest ≡ e ∷ left → PutsSaid contents (SaysKey e.0.now) y z → PutsSaid contents (Says (value_at m e.1)) z w → SayingFields contents m rest x y → SayingFields contents m left x w
field_more contents m rest left e x y z w steps name put s =
    let n : Puts contents (said_key e.0.now ∷ []) y z = subst (λ ts. Puts contents ts y z) name.1 name.2 in
    let said = subst (λ l. (more : List tokens.Token) → SaysEntries (fields_at m l) more → SaysEntries (entries_of (last_entries m)) (s.done ++ more)) steps s.said in
    record {
      done = s.done ++ said_key e.0.now ∷ put.0;
      said = λ more k. subst (SaysEntries (entries_of (last_entries m))) (sym (append_assoc s.done (said_key e.0.now ∷ put.0) more)) (said (said_key e.0.now ∷ (put.0 ++ more)) (put.0, more, put.1, k, refl));
      puts = puts_then contents (tokens.begin_object ∷ s.done) (said_key e.0.now ∷ put.0) x y w s.puts (puts_then contents (said_key e.0.now ∷ []) put.0 y z w n put.2);
    }

fields_whole : {W : Type 0} (contents : W → Option (List ℕ)) (m : List Pair) (rest : List (Bor (List ℕ) × ℕ)) (x y z : Printing W) → rest ≡ [] → Puts contents (tokens.end_object ∷ []) y z → SayingFields contents m rest x y → PutsSaid contents (Says (row_object m)) x z
fields_whole contents m rest x y z none last s =
    let said = subst (λ l. (more : List tokens.Token) → SaysEntries (fields_at m l) more → SaysEntries (entries_of (last_entries m)) (s.done ++ more)) none s.said in
    (tokens.begin_object ∷ (s.done ++ tokens.end_object ∷ []), (s.done, subst (SaysEntries (entries_of (last_entries m))) (append-nil s.done) (said [] refl), refl), puts_then contents (tokens.begin_object ∷ s.done) (tokens.end_object ∷ []) x y z s.puts last)

pub fields_said : {W E : Type 0} (contents : W → Option (List ℕ)) (m : List Pair) (rest : List (Bor (List ℕ) × ℕ)) (x y z : Printing W) (r : Result (Unit {0}) E) → rest ≡ [] → OnOk r (Puts contents (tokens.end_object ∷ []) y z) → SayingFields contents m rest x y → OnOk r (PutsSaid contents (Says (row_object m)) x z)
fields_said contents m rest x y z (Ok v) none last s = fields_whole contents m rest x y z none last s
fields_said contents m rest x y z (Err e) none last s = tt
