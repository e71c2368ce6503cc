use Rattle.std.proofs.Common.{◌≡◌, ◌++◌, ◌∙◌, refl, sym, ap, subst, length, rules, string_bytes, IsUtf8}
use Rattle.std.proofs.lemmas.Str.{IsUtf8-string_bytes}
use Rattle.std.specs.Vec.{vec_items}
use Rattle.bser_events.specs.Events as events
use Rattle.bser_document.specs.declared.document.DocumentNode.TheVariants as nodes
use Rattle.bser_document.proofs.Kept.{string_ok}
use Rattle.bser_document.proofs.builder.DocumentBuilder.put_text.Goals as goal

pub returns : goal.returns
returns c =
    let k = c.in_ok-at in
    let text = string_bytes c.args.text in
    let long : c.len-len.result ≡ length text = search rules in
    let kept = k.ensures.strings ∙ ap (λ v. c.args.self.now.strings.items ++ vec_items v) c.into_bytes.ensures.value in
    string_ok c.args.self.now c.keep_whole.new.self c.put.new.self (λ l a. nodes.Text l a) (λ s. events.text s) text c.len-len.result k.at (events.text text) c.put.result refl k.ensures.place long kept k.ensures.nodes k.ensures.innermost c.put.ensures.nodes c.put.ensures.strings c.put.ensures.innermost (λ s l a. refl) (λ s l a h e. (h, subst IsUtf8 (sym e) (IsUtf8-string_bytes c.args.text))) refl (λ l a. refl) (λ m. refl)
