use Rattle.std.proofs.Common.{rules, ℕ, ◌<◌, get_or, subst, sym}
use Rattle.bser_source.specs.Window.{Took}
use Rattle.bser_bunser.proofs.NumberBytes.{bytes_of_32}
use Rattle.bser_bunser.proofs.bunser.Bunser.read_capabilities.Goals as goal

pub returns-clause-ok : goal.returns-clause-ok
returns-clause-ok g c =
    let small : (i : ℕ) → get_or c.in_ok-bytes.bytes i 0 < 256 = search rules in
    subst (λ l. Took c.args.self.now.window c.front.new.self.window l) (sym (bytes_of_32 c.in_ok-bytes.bytes _ c.in_ok-bytes.ensures.length small c.read_u32.ensures).bytes) c.in_ok-bytes.ensures.ok
