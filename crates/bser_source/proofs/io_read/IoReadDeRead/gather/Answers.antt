use Rattle.std.proofs.Common.{ℕ, suc, ◌<◌, List, [], ◌∷◌, length, get_or, refl, arith, rules}
use Rattle.std.proofs.lemmas.Grind.{common_steps}
use Rattle.bser_source.specs.Window.{AreOctets}
use Rattle.bser_source.proofs.io_read.IoReadDeRead.gather.Goals as goal

octets_within : (bs : List ℕ) → ((i d : ℕ) → i < length bs → get_or bs i d < 256) → AreOctets bs
octets_within [] small = tt
octets_within (x ∷ bs) small = (small 0 0 (omega arith), octets_within bs (λ i d le. small (suc i) d (omega (arith, le))))

pub overflow_add-self : goal.overflow_add-self
overflow_add-self g c = grind (arith, common_steps)

pub returns-in-Ok-clause-ok : goal.returns-in-Ok-clause-ok
returns-in-Ok-clause-ok g c =
    let read = c.in-Ok.ensures.ok in
    record {
      more = read.more;
      bytes = grind (arith, common_steps);
      octets = octets_within _ c.type_inv.scratch;
      device = read.device;
      within = λ a h. search rules;
      count = grind (arith, common_steps);
      limit = refl;
      lends = refl;
      working = search rules;
      failed = search rules;
      failures = search rules;
      through = search rules;
    }

pub returns-in-Err-clause-err : goal.returns-in-Err-clause-err
returns-in-Err-clause-err g c = grind (arith, common_steps)
