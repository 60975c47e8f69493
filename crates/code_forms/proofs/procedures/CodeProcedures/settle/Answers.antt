use Rattle.std.proofs.Common.{List, length, get_or, sym, ap, subst, ◌∙◌, arith}
use Rattle.std.proofs.lemmas.List.{length-set}
use Rattle.std.proofs.lemmas.Result.{on_ok_weaker, IfErr-weaker}
use Rattle.code_forms.specs.declared.module_code.CodeEntry.{CodeEntry}
use Rattle.code_forms.specs.declared.module_code.CodeProcedure.{CodeProcedure}
use Rattle.code_forms.specs.Depths.{DepthsAreSettled}
use Rattle.code_forms.specs.Ranges.{InOrder}
use Rattle.code_forms.specs.Routine.{Routine, spots, routine_with}
use Rattle.code_forms.specs.Valid.{RoutineIsValid, FirstFault}
use Rattle.code_forms.proofs.Whole.{no_procedure, taken_routine, put_again, put_bare, put_other, put_code}
use Rattle.code_forms.proofs.procedures.CodeProcedures.settle.Goals as goal

pub settle_code-answer-requires-clause-there : goal.settle_code-answer-requires-clause-there
settle_code-answer-requires-clause-there c =
    let e = ap length (c.take_code-code.ensures.left no_procedure) in let t = c.requires.there in
    omega (arith, e, t, length-set {A = CodeProcedure})

pub settle_code-answer-requires-clause-order : goal.settle_code-answer-requires-clause-order
settle_code-answer-requires-clause-order c =
    subst (λ (l : List CodeEntry). InOrder l) (sym (c.take_code-code.ensures.code no_procedure)) (c.requires.ranges c.args.number no_procedure c.requires.there).code

pub put_code-requires : goal.put_code-requires
put_code-requires c =
    let e = ap length (c.take_code-code.ensures.left no_procedure) in let t = c.requires.there in
    omega (arith, e, t, length-set {A = CodeProcedure})

pub returns-clause-same : goal.returns-clause-same
returns-clause-same c =
    let d = no_procedure in let t = c.take_code-code.ensures in
    put_bare c.args.self.now c.put_code.new.self c.args.number c.settle_code-answer.new.code d c.requires.there
    (c.settle_code-answer.ensures.same ∙ ap spots (t.code d))
    (put_again c.args.self.now c.take_code-code.new.self c.put_code.new.self c.args.number c.settle_code-answer.new.code d c.requires.there (t.left d) (c.put_code.ensures d))

pub returns-clause-others : goal.returns-clause-others
returns-clause-others c k d m =
    let t = c.take_code-code.ensures in
    put_other c.args.self.now c.put_code.new.self c.args.number k c.settle_code-answer.new.code d m
    (put_again c.args.self.now c.take_code-code.new.self c.put_code.new.self c.args.number c.settle_code-answer.new.code d c.requires.there (t.left d) (c.put_code.ensures d))

pub returns-clause-valid : goal.returns-clause-valid
returns-clause-valid c =
    let t = c.take_code-code.ensures in
    on_ok_weaker c.settle_code-answer.result
    (λ v d. subst RoutineIsValid (taken_routine c.args.globals c.args.strings c.args.signals.now c.args.links.now c.args.self.now c.take_code-code.new.self c.args.number c.take_code-code.result d c.requires.there (t.code d) (t.left d)) (v d))
    c.settle_code-answer.ensures.valid

pub returns-clause-depths : goal.returns-clause-depths
returns-clause-depths c =
    let t = c.take_code-code.ensures in
    on_ok_weaker c.settle_code-answer.result
    (λ v d. subst (λ (l : List CodeEntry). DepthsAreSettled (routine_with c.args.globals c.args.strings c.args.signals.now c.args.links.now c.args.self.now (get_or c.args.self.now c.args.number d)) l)
    (sym (put_code c.args.self.now c.put_code.new.self c.args.number c.settle_code-answer.new.code d c.requires.there
    (put_again c.args.self.now c.take_code-code.new.self c.put_code.new.self c.args.number c.settle_code-answer.new.code d c.requires.there (t.left d) (c.put_code.ensures d))))
    (subst (λ (r : Routine). DepthsAreSettled r c.settle_code-answer.new.code)
    (taken_routine c.args.globals c.args.strings c.args.signals.now c.args.links.now c.args.self.now c.take_code-code.new.self c.args.number c.take_code-code.result d c.requires.there (t.code d) (t.left d)) (v d)))
    c.settle_code-answer.ensures.depths

pub returns-clause-err : goal.returns-clause-err
returns-clause-err c =
    let t = c.take_code-code.ensures in
    IfErr-weaker c.settle_code-answer.result _ _
    (λ fault v d. subst (λ (r : Routine). FirstFault r fault)
    (taken_routine c.args.globals c.args.strings c.args.signals.now c.args.links.now c.args.self.now c.take_code-code.new.self c.args.number c.take_code-code.result d c.requires.there (t.code d) (t.left d)) (v d))
    c.settle_code-answer.ensures.err
