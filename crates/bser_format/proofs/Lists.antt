-- What lists and tuples read, reading them passes over.
use Rattle.std.proofs.Common.{◌≡◌, ℕ, zero, suc, List, [], ◌∷◌, ◌++◌, length, Some, refl, sym, ap, ◌∙◌}
use Rattle.bser_format.specs.Tree.{Tree, null, boolean, integer, real, bytes, text, array, object, template, items}
use Rattle.bser_format.specs.Grammar.{Each}
use Rattle.bser_format.specs.Content.{Content, Meaning, each_some}
use Rattle.bser_format.specs.ReadsHolders.{list_of, reads_vec, reads_each, reads_tuple}
use Rattle.bser_format.specs.Expected.{Due, Fills, node_due, row_due, nodes, rows_over}
use Rattle.bser_format.specs.Asks.{Asks, all, items_asked, asks_vec, parts_asked, tuple_asked, asks_tuple}
use Rattle.bser_format.specs.TypeLaws.{Passes, PassEach}
use Rattle.bser_format.proofs.Options.{mapped, both_some}
use Rattle.bser_format.proofs.Steps as steps
use Rattle.bser_format.proofs.Steps.{passes_then}
use Rattle.bser_format.proofs.Dues.{passes_by}
use Rattle.bser_format.proofs.Holders.{ReadsArrays, ItemsPass, items_handled}

-- ---- lists

-- each of the trees that R reads
pub each_passes : (A : Asks) (R : Meaning) → Passes A R → (o n : ℕ) (d : Due) (us : List Tree) (cs : List Content) (b : List ℕ) → Each (Fills n d) us b → each_some R us ≡ Some cs → steps.Passes (all (A o n d) (length us)) tt b
each_passes A R pass o n d [] cs b h r = λ x. ap (λ l. all (A o n d) zero (l ++ x)) h
each_passes A R pass o n d (u ∷ us) cs b h r =
    let w = both_some (λ c more. c ∷ more) (R u) (each_some R us) cs r in
    passes_then (A o n d) (λ v. all (A o n d) (length us)) tt tt (Fills n d u) (Each (Fills n d) us) b
    (λ l f x. pass o n d u w.0 l x f w.2) (λ l f. each_passes A R pass o n d us w.1 l f w.3) h

vec_arrays : (T : Meaning) → ReadsArrays (reads_vec T)
vec_arrays T (array us) c r = (us, refl)
vec_arrays T null c r = absurd cc
vec_arrays T other c r = absurd cc

vec_items : (A : Asks) (T : Meaning) → Passes A T → ItemsPass (λ o n. items_asked A (suc o) n) (reads_vec T)
vec_items A T pass o n (nodes k) us b x c h r =
    let w = mapped list_of (each_some T (items us)) c r in
    ap (λ j. all (A (suc o) n node_due) j (b ++ x)) (sym h.0) ∙ each_passes A T pass (suc o) n node_due (items us) w.0 b h.1 w.1 x
vec_items A T pass o n (rows_over ks k) us b x c h r =
    let w = mapped list_of (each_some T (items us)) c r in
    ap (λ j. all (A (suc o) n (row_due ks)) j (b ++ x)) (sym h.0) ∙ each_passes A T pass (suc o) n (row_due ks) (items us) w.0 b h.1 w.1 x

pub vec_passes : (A : Asks) (T : Meaning) → Passes A T → Passes (asks_vec A) (reads_vec T)
vec_passes A T pass = passes_by (items_handled (λ o n. items_asked A (suc o) n) (reads_vec T) (vec_arrays T) (vec_items A T pass))

-- ---- tuples

parts_pass : (As : List Asks) (Ts : List Meaning) → PassEach As Ts → (o n : ℕ) (d : Due) (us : List Tree) (cs : List Content) (b : List ℕ) → Each (Fills n d) us b → reads_each Ts us ≡ Some cs → steps.Passes (parts_asked As o n d (length us)) tt b
parts_pass [] [] pass o n d [] cs b h r = λ x. ap (λ l. parts_asked [] o n d zero (l ++ x)) h
parts_pass [] [] pass o n d (u ∷ us) cs b h r = absurd cc
parts_pass [] (T ∷ Ts) pass o n d us cs b h r = absurd pass
parts_pass (A ∷ As) [] pass o n d us cs b h r = absurd pass
parts_pass (A ∷ As) (T ∷ Ts) pass o n d [] cs b h r = absurd cc
parts_pass (A ∷ As) (T ∷ Ts) pass o n d (u ∷ us) cs b h r =
    let w = both_some (λ c more. c ∷ more) (T u) (reads_each Ts us) cs r in
    passes_then (A o n d) (λ v. parts_asked As o n d (length us)) tt tt (Fills n d u) (Each (Fills n d) us) b
    (λ l f x. pass.0 o n d u w.0 l x f w.2) (λ l f. parts_pass As Ts pass.1 o n d us w.1 l f w.3) h

tuple_arrays : (Ts : List Meaning) → ReadsArrays (reads_tuple Ts)
tuple_arrays Ts (array us) c r = (us, refl)
tuple_arrays Ts null c r = absurd cc
tuple_arrays Ts other c r = absurd cc

tuple_items : (As : List Asks) (Ts : List Meaning) → PassEach As Ts → ItemsPass (λ o n. tuple_asked As (suc o) n) (reads_tuple Ts)
tuple_items As Ts pass o n (nodes k) us b x c h r =
    let w = mapped list_of (reads_each Ts (items us)) c r in
    ap (λ j. parts_asked As (suc o) n node_due j (b ++ x)) (sym h.0) ∙ parts_pass As Ts pass (suc o) n node_due (items us) w.0 b h.1 w.1 x
tuple_items As Ts pass o n (rows_over ks k) us b x c h r =
    let w = mapped list_of (reads_each Ts (items us)) c r in
    ap (λ j. parts_asked As (suc o) n (row_due ks) j (b ++ x)) (sym h.0) ∙ parts_pass As Ts pass (suc o) n (row_due ks) (items us) w.0 b h.1 w.1 x

pub tuple_passes : (As : List Asks) (Ts : List Meaning) → PassEach As Ts → Passes (asks_tuple As) (reads_tuple Ts)
tuple_passes As Ts pass = passes_by (items_handled (λ o n. tuple_asked As (suc o) n) (reads_tuple Ts) (tuple_arrays Ts) (tuple_items As Ts pass))
