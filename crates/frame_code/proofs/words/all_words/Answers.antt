use Rattle.code_rules.specs.Modules.{words_of_fields}
use Rattle.frame_code.proofs.FieldWords.{one_more, all_counted}
use Rattle.frame_code.proofs.words.all_words.Goals as goal

pub loop-field-preserved : goal.loop-field-preserved
loop-field-preserved c =
    one_more c.args.fields.now c.loop-field.field-index c.field-item.result (words_of_fields c.args.fields.now) c.loop-field.words c.size_words.result
    c.in_ok-words.words c.requires c.loop-field-test.true c.field-item.is c.loop-field.invariant c.size_words.ensures c.in_ok-words.ensures

pub returns : goal.returns
returns c = all_counted c.args.fields.now c.loop-field.field-index c.loop-field.words c.loop-field-test.false c.loop-field.invariant
