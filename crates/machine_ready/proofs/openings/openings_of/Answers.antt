use Rattle.std.proofs.Common.{List, take, subst}
use Rattle.std.specs.List.{AllZip}
use Rattle.std.proofs.lemmas.List.{take_all}
use Rattle.code_forms.specs.declared.module_code.Arm.{Arm}
use Rattle.code_forms.specs.declared.module_code.Phrase.{Phrase}
use Rattle.machine_ready.specs.Openings.{IsOpening, arms_in}
use Rattle.machine_ready.proofs.Each.{arms_more}
use Rattle.machine_ready.proofs.openings.openings_of.Goals as goal

pub loop-phrase-preserved : goal.loop-phrase-preserved
loop-phrase-preserved c =
    subst (λ (l : List Arm). AllZip (IsOpening c.args.code.now) l c.add_openings.new.openings)
    (arms_more c.args.phrases.now c.loop-phrase.phrase-index c.phrase-item.result c.loop-phrase-test.true c.phrase-item.is c.as_slice.result.now c.as_slice.ensures)
    (c.in_ok-add_openings.ensures (arms_in (take c.loop-phrase.phrase-index c.args.phrases.now)) c.loop-phrase.invariant)

pub returns : goal.returns
returns c =
    subst (λ (l : List Phrase). AllZip (IsOpening c.args.code.now) (arms_in l) c.loop-phrase.openings)
    (take_all c.loop-phrase.phrase-index c.args.phrases.now c.loop-phrase-test.false) c.loop-phrase.invariant
