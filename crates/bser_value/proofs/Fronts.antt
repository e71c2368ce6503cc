-- A value that is due is read at once.
use Rattle.std.proofs.Common.{◌≡◌, ℕ, ◌-◌, ◌≤◌, List, length, take, refl, sym, ap, subst, ◌∙◌, arith, length-append}
use Rattle.std.proofs.lemmas.List.{take_at, take-take}
use Rattle.std.specs.Prelude.{option_map}
use Rattle.bser_format.specs.Content as content
use Rattle.bser_format.specs.Expand.{expand}
use Rattle.bser_format.specs.Expected.{Fills, FillsNode}
use Rattle.bser_format.specs.Grammar.{Spells}
use Rattle.bser_format.specs.ReadsAny.{reads_value}
use Rattle.bser_format.proofs.Settled.{filled_settles}
use Rattle.bser_format.proofs.TextLaws.{reads_text_keys}
use Rattle.bser_source.specs.Window.{consumed}
use Rattle.bser_source.proofs.Windows.{filled_here, took_by}
use Rattle.bser_deserializer.specs.Buffered.{IsValueFront}
use Rattle.bser_deserializer.specs.Reading.{Answers}
use Rattle.bser_deserializer.specs.Seen.{Seen}
use Rattle.bser_deserializer.specs.State.{State, past}
use Rattle.bser_value.specs.declared.value.Value.{Value}
use Rattle.bser_value.specs.ValueView.{tree_of, HoldsValue}
use Rattle.bser_value.specs.Direct.{ReadsValue}

pub front_answers : (s z : Seen) (levels : ℕ) (bytes rest : List ℕ) (v : Value) (n : ℕ) → IsValueFront s levels bytes → ReadsValue levels bytes v rest → n ≡ length bytes - length rest
    → z.state ≡ past s.state (consumed n s.state.source) → Answers reads_value HoldsValue s.state z.state v
front_answers s z levels bytes rest v n f h is after =
    let e = (reads_text_keys levels bytes rest h.it f.octets).0 h.read in
    let long : n ≡ length e.0 = omega (arith, is, ap length e.1, length-append e.0 rest) in
    let same : take n bytes ≡ e.0 = ap (take n) e.1 ∙ take_at e.0 rest n (sym long) in
    let node : FillsNode s.state.levels (expand h.it) (take n bytes) =
    record { tree = h.it; stands = refl; spelled = subst (λ k. Spells k h.it (take n bytes)) (sym f.left) (subst (Spells levels h.it) (sym same) e.2) } in
    let fills : Fills s.state.levels s.state.due (expand h.it) (take n bytes) = subst (λ d. Fills s.state.levels d (expand h.it) (take n bytes)) (sym f.due) node in
    let few : n ≤ length bytes = omega (arith, is) in
    let first : take n s.state.source.buffered ≡ take n bytes = sym (ap (take n) f.first ∙ take-take n (length bytes) s.state.source.buffered few) in
    let source : z.state.source ≡ consumed n s.state.source = ap (λ (x : State). x.source) after in record {
      tree = expand h.it;
      content = content.value (tree_of v);
      text = take n bytes;
      filled = fills;
      read = ap (option_map content.value) h.meant;
      held = record { same = refl; tree = filled_settles s.state.levels s.state.due (expand h.it) (tree_of v) (take n bytes) fills h.meant };
      took = took_by n s.state.source s.state.source z.state.source (take n bytes) (filled_here n s.state.source s.state.source refl f.buffered (omega (arith, few, f.within)) f.working) source (sym first);
      state = after ∙ ap (past s.state) (sym source);
    }
