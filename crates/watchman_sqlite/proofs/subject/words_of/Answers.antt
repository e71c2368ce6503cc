use Rattle.std.proofs.Common.{◌∙◌, ap, sym, take}
use Rattle.std.proofs.lemmas.List.{take_more}
use Rattle.watchman_sqlite.specs.Fields.{behind_words, field_words}
use Rattle.watchman_sqlite.proofs.FieldWords.{field_words_push}
use Rattle.watchman_sqlite.proofs.subject.words_of.Goals as goal

pub loop-field-preserved : goal.loop-field-preserved
loop-field-preserved c =
    let i = c.loop-field.field-index in
    let fields = c.args.fields.now in
    let more = take_more fields i _ c.loop-field-test.true in
    c.in_ok-put_word.ensures
    ∙ ap (λ words. behind_words words c.word.result.now) c.loop-field.invariant
    ∙ ap (λ word. behind_words (field_words (take i fields)) word) c.word.ensures
    ∙ sym (field_words_push (take i fields) _)
    ∙ ap field_words (sym more)
