-- What a writer took of a line.
use Rattle.std.proofs.Common.{◌≡◌, ℕ, ◌≤◌, true, List, [], ◌++◌, take, drop, subst, sym, inr, arith}
use Rattle.std.proofs.lemmas.List.{append-nil, take-append-drop}
use Rattle.bser_source.specs.Device.{Blamed, counted}
use Rattle.bser_ser.specs.Stopped.{Tells}
use Rattle.bser_canonical.specs.Line.{PutsLine}

blamed : (a b c : ℕ) → a ≤ b → c ≡ counted true b → Blamed a c
blamed a b c h e = grind arith

-- the writer failed
pub part_of_line : {S : Type 0} (sink : Tells S) → ((a b c : S) (xs ys : List ℕ) → sink.took a b xs → sink.took b c ys → sink.took a c (xs ++ ys)) → (old mid new : S) (done : ℕ) (line : List ℕ) → sink.took old mid (take done line) → sink.failures old ≤ sink.failures mid → sink.took mid new [] → sink.failures new ≡ counted true (sink.failures mid) → PutsLine sink line old new
part_of_line sink both old mid new done line p h q e = record {
  front = take done line;
  rest = drop done line;
  is = sym (take-append-drop done line);
  took_it = subst (λ xs. sink.took old new xs) (append-nil (take done line)) (both old mid new _ _ p q);
  whole = inr (blamed _ _ _ h e);
}
