-- The tokens that were put say the value, and their text was written.
use Rattle.std.proofs.Common.{◌≡◌, ℕ, List, [], Bool, true, Option, Result, Ok, Err, OnOk, IfOk, is_ok, refl, sym, ap, subst, ◌∙◌}
use Rattle.std.specs.Bool.{OnTrue}
use Rattle.std.proofs.lemmas.Bool.{false≢true}
use Rattle.std.specs.Io.KnownBytes.{Appends}
use Rattle.json.specs.Token as tokens
use Rattle.bser_format.specs.Tree.{Tree}
use Rattle.bser_source.specs.Watched.{inner_of}
use Rattle.bser_json.specs.Printed.{Prints, laid_out}
use Rattle.bser_json.specs.Said.{PutsSaid, Says, WritesText}
use Rattle.bser_json.specs.declared.output.Output.{Output}
use Rattle.bser_json.specs.declared.printing.Layout.{Layout}
use Rattle.bser_json.specs.declared.printing.Printing.{Printing}
use Rattle.bser_json.proofs.writing.write_json.Goals as goal

-- where the text is whole, what was written since the start says the value
abbrev SaysAll : Bool → Layout → Tree → Option (List ℕ) → Option (List ℕ) → Type 0
SaysAll whole layout u start end = (ts : List tokens.Token) × Says u ts × OnTrue whole (Appends start end (laid_out layout ts))

-- what the writer holds that keeps its error
abbrev contents_in : {W : Type 0} → (W → Option (List ℕ)) → Output W → Option (List ℕ)
contents_in contents o = contents (inner_of o.out)

all_said : {W E : Type 0} (contents : W → Option (List ℕ)) (layout : Layout) (u : Tree) (start : Option (List ℕ)) (old new : Printing (Output W)) (whole : Bool) (end : Output W) (put : Result (Unit {0}) E) → Prints (contents_in contents) start layout [] old
    → ((s : Option (List ℕ)) (l : Layout) (ts : List tokens.Token) → Prints (contents_in contents) s l ts new → OnTrue whole (Appends s (contents_in contents end) (laid_out l ts)))
    → OnOk put (PutsSaid (contents_in contents) (Says u) old new) → OnOk put (SaysAll whole layout u start (contents_in contents end))
all_said contents layout u start old new whole end (Ok v) begun written p = (p.0, p.1, written start layout p.0 (p.2 start layout [] begun))
all_said contents layout u start old new whole end (Err e) begun written p = tt

text_written : {W E F : Type 0} (contents : W → Option (List ℕ)) (layout : Layout) (u : Tree) (start : Option (List ℕ)) (whole is_put : Bool) (put : Result (Unit {0}) E) (end : W) (r : Result W F) → is_put ≡ is_ok put → OnTrue whole (is_put ≡ true) → OnOk put (SaysAll whole layout u start (contents end)) → OnOk r (whole ≡ true) → IfOk r (λ w. w ≡ end) → IfOk r (λ new. WritesText layout u start (contents new))
text_written contents layout u start whole is_put (Ok v) end (Ok w) is all said here same =
    subst (λ w. WritesText layout u start (contents w)) (sym same) (laid_out layout said.0, (said.0, said.1, refl), subst (λ b. OnTrue b (Appends start (contents end) (laid_out layout said.0))) here said.2)
text_written contents layout u start whole is_put (Err e) end (Ok w) is all said here same = absurd (false≢true (sym is ∙ subst (λ b. OnTrue b (is_put ≡ true)) here all))
text_written contents layout u start whole is_put put end (Err e) is all said here same = tt

pub returns-clause-text : goal.returns-clause-text
returns-clause-text g c u h =
    let contents = g.W.Write.contents in
    let layout = c.args.layout in
    let whole = c.finish-out.result.1 in
    let put = c.put_item.result in
    let end = c.finish-out.result.0 in
    let said : OnOk put (SaysAll whole layout u (contents c.args.out) (contents_in contents end)) =
    subst (λ s. OnOk put (SaysAll whole layout u s (contents_in contents end))) (ap contents c.new.ensures)
    (all_said contents layout u (contents (inner_of c.new.result.out)) c.new-printing.result c.put_item.new.out whole end put c.new-printing.ensures c.finish-out.ensures.written (c.put_item.ensures u h)) in
    text_written contents layout u (contents c.args.out) whole c.is_ok-is_put.result put (inner_of end.out) c.end.result c.is_ok-is_put.ensures.value c.finish-out.ensures.put said c.end.ensures.whole c.end.ensures.same
