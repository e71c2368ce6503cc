use Rattle.std.proofs.Common.{◌≡◌, refl, length, rules}
use Rattle.bser_events.specs.Events as events
use Rattle.bser_document.specs.declared.document.DocumentNode.TheVariants as nodes
use Rattle.bser_document.proofs.Kept.{string_ok}
use Rattle.bser_document.proofs.builder.DocumentBuilder.put_bytes.Goals as goal

pub returns : goal.returns
returns c =
    let k = c.in_ok-at in
    let long : c.len-len.result ≡ length c.args.string.items = search rules in
    string_ok c.args.self.now c.keep_whole.new.self c.put.new.self (λ l a. nodes.Bytes l a) (λ s. events.bytes s) c.args.string.items c.len-len.result k.at (events.bytes c.args.string.items) c.put.result refl k.ensures.place long k.ensures.strings k.ensures.nodes k.ensures.innermost c.put.ensures.nodes c.put.ensures.strings c.put.ensures.innermost (λ s l a. refl) (λ s l a h e. h) refl (λ l a. refl) (λ m. refl)
