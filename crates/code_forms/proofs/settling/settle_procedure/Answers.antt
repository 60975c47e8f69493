use Rattle.std.proofs.Common.{List, subst, arith}
use Rattle.code_forms.specs.declared.module_code.CodeEntry.{CodeEntry}
use Rattle.code_forms.specs.Phrases.{PhrasesFill}
use Rattle.code_forms.specs.Routine.{spots}
use Rattle.code_forms.specs.Valid.{FirstBadPhrase, in_phrases}
use Rattle.code_forms.proofs.Ordered.{spots_length}
use Rattle.code_forms.proofs.PhraseOrder.{fill_rise, fill_froms}
use Rattle.code_forms.proofs.settling.settle_procedure.Goals as goal

pub settle_all-requires-clause-rise : goal.settle_all-requires-clause-rise
settle_all-requires-clause-rise c = fill_rise (spots c.as_slice.result.now) c.args.around.now.phrases.now c.requires.armed c.in_default.ensures

pub settle_all-requires-clause-froms : goal.settle_all-requires-clause-froms
settle_all-requires-clause-froms c = fill_froms (spots c.as_slice.result.now) c.args.around.now.phrases.now c.in_default.ensures

pub returns-in-Some-clause-err : goal.returns-in-Some-clause-err
returns-in-Some-clause-err c =
    in_phrases c.in-Some.from (subst (λ (l : List CodeEntry). FirstBadPhrase (spots l) c.args.around.now.phrases.now c.in-Some.from) c.as_slice.ensures c.in-Some.ensures)

pub returns-in-Ok-clause-valid : goal.returns-in-Ok-clause-valid
returns-in-Ok-clause-valid c = record {
  phrases = subst (λ (l : List CodeEntry). PhrasesFill (spots l) c.args.around.now.phrases.now) c.as_slice.ensures c.in_default.ensures;
  spots = λ i spot l e. c.in-Ok.ensures.right i spot (let n = spots_length c.args.code.now in omega (arith, n, l)) e;
}
