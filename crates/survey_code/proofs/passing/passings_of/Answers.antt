use Rattle.std.proofs.Common.{◌<◌, List, length, get_or, refl, sym, ap, ◌∙◌, arith}
use Rattle.std.specs.Prelude.{slice_get}
use Rattle.std.proofs.lemmas.Option.{slice_get-get_or}
use Rattle.code_forms.specs.declared.module_code.Phrase.{Phrase}
use Rattle.survey_code.proofs.Passings.{one_passing}
use Rattle.survey_code.proofs.passing.passings_of.Goals as goal

pub loop-number-preserved : goal.loop-number-preserved
loop-number-preserved c =
    let w = c.loop-number.invariant in
    let n = c.loop-number.number in
    let table = c.as_slice.result.now in
    let same = c.as_slice.ensures in
    let d = c.index-as_slice-number.result in
    let l : n < length c.args.procedure.now.phrases = (let t = c.loop-number-test.true in let e = c.len-number-end.ensures in omega (arith, t, e)) in
    let there = ap (λ (xs : List Phrase). slice_get xs n) (sym same) ∙ slice_get-get_or table n d (let e = ap length same in omega (arith, l, e)) in
    one_passing c.args.procedure.now c.args.marks.now c.args.beyonds.now c.loop-number.passings c.push.new.self (get_or table n d) c.as_slice-arms.result.now _ n w.0 l there c.as_slice-arms.ensures
    c.requires.many c.requires.beyonds refl c.in_ok-endings.ensures w.1 c.in_ok-push.ensures.ok
