-- What maps read, reading them passes over.
use Rattle.std.proofs.Common.{◌≡◌, ℕ, suc, List, [], ◌∷◌, ◌++◌, length, map, Some, refl, sym, ap, ◌∙◌}
use Rattle.bser_format.specs.Tree.{Tree, null, boolean, integer, real, bytes, text, array, object, template, entries}
use Rattle.bser_format.specs.Expand.{key_tree}
use Rattle.bser_format.specs.Grammar.{Each, SpellsString}
use Rattle.bser_format.specs.Normal.{last_entries}
use Rattle.bser_format.specs.Content.{Content, pair, Meaning, each_some}
use Rattle.bser_format.specs.ReadsHolders.{list_of, reads_entry, reads_map}
use Rattle.bser_format.specs.Expected.{Fills, node_due, key_due, field_due, name_due, entries_of_object, fields_of_row, FillsPair}
use Rattle.bser_format.specs.Named.{reads, and_then, ◌>>=◌}
use Rattle.bser_format.specs.Asks.{Asks, all, each_name, map_asked, asks_map}
use Rattle.bser_format.specs.TypeLaws.{Passes}
use Rattle.bser_format.proofs.Steps as steps
use Rattle.bser_format.proofs.Steps.{passes_then}
use Rattle.bser_format.proofs.Dues.{passes_by}
use Rattle.bser_format.proofs.Holders.{ReadsObjects, PairsPass, pairs_handled}
use Rattle.bser_format.proofs.Options.{mapped, both_some}

-- the entries of an object
entries_pass : (K V : Asks) (S T : Meaning) → Passes K S → Passes V T → (o n : ℕ) (es : List (List ℕ × Tree)) (cs : List (List ℕ × Content)) (b : List ℕ) → Each (FillsPair n) es b
    → each_some (reads_entry S T) es ≡ Some cs → steps.Passes (all (K o n key_due >>= λ u. V o n node_due) (length es)) tt b
entries_pass K V S T keys values o n [] cs b h r = λ x. ap (λ l. reads tt (l ++ x)) h
entries_pass K V S T keys values o n (e ∷ es) cs b h r =
    let w = both_some (λ c more. c ∷ more) (reads_entry S T e) (each_some (reads_entry S T) es) cs r in
    let v = both_some (λ k c. (e.0, pair k c)) (S (key_tree e.0)) (T e.1) w.0 w.2 in
    passes_then (K o n key_due >>= λ u. V o n node_due) (λ u. all (K o n key_due >>= λ u. V o n node_due) (length es)) tt tt (FillsPair n e) (Each (FillsPair n) es) b
    (λ l f. passes_then (K o n key_due) (λ u. V o n node_due) tt tt (SpellsString e.0) (Fills n node_due e.1) l
    (λ m g x. keys o n key_due (key_tree e.0) v.0 m x (record { key = e.0; stands = refl; spelled = g }) v.2) (λ m g x. values o n node_due e.1 v.1 m x g v.3) f)
    (λ l f. entries_pass K V S T keys values o n es w.1 l f w.3) h

-- the fields of a row
fields_pass : (K V : Asks) (S T : Meaning) → Passes K S → Passes V T → (o n : ℕ) (es : List (List ℕ × Tree)) (cs : List (List ℕ × Content)) (b : List ℕ) → Each (λ e. Fills n field_due e.1) es b
    → each_some (reads_entry S T) es ≡ Some cs → steps.Passes (each_name (λ k. K o n (name_due k) >>= λ u. V o n field_due) (map (λ e. e.0) es)) tt b
fields_pass K V S T keys values o n [] cs b h r = λ x. ap (λ l. reads tt (l ++ x)) h
fields_pass K V S T keys values o n (e ∷ es) cs b h r =
    let w = both_some (λ c more. c ∷ more) (reads_entry S T e) (each_some (reads_entry S T) es) cs r in
    let v = both_some (λ k c. (e.0, pair k c)) (S (key_tree e.0)) (T e.1) w.0 w.2 in
    passes_then (K o n (name_due e.0) >>= λ u. V o n field_due) (λ u. each_name (λ k. K o n (name_due k) >>= λ u. V o n field_due) (map (λ e. e.0) es)) tt tt
    (Fills n field_due e.1) (Each (λ e. Fills n field_due e.1) es) b
    (λ l f x. ap (and_then (λ u. V o n field_due)) (keys o n (name_due e.0) (key_tree e.0) v.0 [] (l ++ x) (refl, refl) v.2) ∙ values o n field_due e.1 v.1 l x f v.3)
    (λ l f. fields_pass K V S T keys values o n es w.1 l f w.3) h

map_objects : (S T : Meaning) → ReadsObjects (reads_map S T)
map_objects S T (object us) c r = (us, refl)
map_objects S T null c r = absurd cc
map_objects S T other c r = absurd cc

map_pairs : (K V : Asks) (S T : Meaning) → Passes K S → Passes V T → PairsPass (λ o n. map_asked K V (suc o) n) (reads_map S T)
map_pairs K V S T keys values o n (entries_of_object k) us b x c h r =
    let w = mapped (λ m. list_of (map (λ e. e.1) (last_entries m))) (each_some (reads_entry S T) (entries us)) c r in
    ap (λ j. all (K (suc o) n key_due >>= λ u. V (suc o) n node_due) j (b ++ x)) (sym h.0) ∙ entries_pass K V S T keys values (suc o) n (entries us) w.0 b h.1 w.1 x
map_pairs K V S T keys values o n (fields_of_row ks) us b x c h r =
    let w = mapped (λ m. list_of (map (λ e. e.1) (last_entries m))) (each_some (reads_entry S T) (entries us)) c r in
    ap (λ l. each_name (λ k. K (suc o) n (name_due k) >>= λ u. V (suc o) n field_due) l (b ++ x)) (sym h.0) ∙ fields_pass K V S T keys values (suc o) n (entries us) w.0 b h.1 w.1 x

pub map_passes : (K V : Asks) (S T : Meaning) → Passes K S → Passes V T → Passes (asks_map K V) (reads_map S T)
map_passes K V S T keys values = passes_by (pairs_handled (λ o n. map_asked K V (suc o) n) (reads_map S T) (map_objects S T) (map_pairs K V S T keys values))
