-- The writer puts the string in quotes, and what stands between them is taken.
use Rattle.std.proofs.Common.{◌≡◌, [], ◌∷◌, ◌++◌, OnOk, ap, subst, ◌∙◌}
use Rattle.json.specs.Print.{escape, print}
use Rattle.json.specs.Token as tokens
use Rattle.bser_json.proofs.LaidOut.{appended, printed_alone}
use Rattle.bser_json.proofs.text.put_escapes.Goals as goal

pub returns : goal.returns
returns c =
    let s = c.args.string.now in
    let old = c.args.text.now.items in
    let new = c.extend_from_slice.new.self.items in
    let same : c.deref.result.now ≡ 34 ∷ (escape s ++ 34 ∷ []) =
    c.deref.ensures.value ∙ c.into_inner-quoted.ensures.items
    ∙ (λ i. c.token.ensures.room.0 i ++ print (c.in_ok-token.ensures.ok i))
    ∙ (λ i. c.new-writer.ensures.before i ++ print (c.new-writer.ensures.tokens i ++ tokens.string s ∷ []))
    ∙ ap (λ l. l ++ print (tokens.string s ∷ [])) c.new.ensures.items ∙ printed_alone (tokens.string s) in
    subst (λ l. OnOk c.extend_from_slice.result (new ≡ old ++ l)) (c.within_quotes.ensures (escape s) same)
    (appended c.extend_from_slice.result old new c.within_quotes.result.now c.extend_from_slice.ensures.items)
