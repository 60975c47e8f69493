use Rattle.std.proofs.Common.{sym, subst}
use Rattle.std.proofs.lemmas.Result.{err_from_is_err_and}
use Rattle.config_rules.specs.Template.{exported, instance_names}
use Rattle.config_templates.specs.Answers.{IsAnswer}
use Rattle.config_templates.specs.Going.{fits}
use Rattle.config_templates.specs.Known.{Knows}
use Rattle.config_templates.specs.Shown.{chained}
use Rattle.config_templates.proofs.AnswerLaws.{exits}
use Rattle.config_templates.proofs.HeadingLaws.{imports_stop, exports_stop, behind_exports, named_in_order}
use Rattle.config_templates.proofs.headings.fits.Goals as goal

pub returns-in_err-each_name : goal.returns-in_err-each_name
returns-in_err-each_name c =
    let h = c.args.heading.now in
    let ps = chained c.args.so_far.now.parts in
    let known = subst (λ xs. Knows c.in_ok-records.records (exported (chained xs))) c.as_slice.ensures c.in_ok-records.ensures in
    exits (λ one. one) (fits h ps) c.from_residual-in_err-each_name.result _ (err_from_is_err_and c.from_residual-in_err-each_name.result c.from_residual-in_err-each_name.ensures.1)
    (imports_stop h ps c.as_slice-imports.result.now _ c.as_slice-imports.ensures (c.in_err-each_name.ensures (exported ps) known))

pub returns-in_err-each_name-2 : goal.returns-in_err-each_name-2
returns-in_err-each_name-2 c =
    let h = c.args.heading.now in
    let ps = chained c.args.so_far.now.parts in
    let known = subst (λ xs. Knows c.in_ok-records.records (exported (chained xs))) c.as_slice.ensures c.in_ok-records.ensures in
    exits (λ one. one) (fits h ps) c.from_residual-in_err-each_name-2.result _
    (err_from_is_err_and c.from_residual-in_err-each_name-2.result c.from_residual-in_err-each_name-2.ensures.1)
    (exports_stop h ps c.as_slice-imports.result.now c.as_slice-exports.result.now c.in_ok-each_name.field-0 _ c.as_slice-imports.ensures
    (c.in_ok-each_name.ensures (exported ps) known) c.as_slice-exports.ensures (c.in_err-each_name-2.ensures (exported ps) known))

pub returns : goal.returns
returns c =
    let h = c.args.heading.now in
    let ps = chained c.args.so_far.now.parts in
    let known = subst (λ xs. Knows c.in_ok-records.records (exported (chained xs))) c.as_slice.ensures c.in_ok-records.ensures in
    subst (λ x. IsAnswer (λ one. one) x c.each_control.result)
    (sym (behind_exports h ps c.as_slice-imports.result.now c.as_slice-exports.result.now c.as_slice-2.result.now c.in_ok-each_name.field-0 c.in_ok-each_name-2.field-0
    c.as_slice-imports.ensures (c.in_ok-each_name.ensures (exported ps) known) c.as_slice-exports.ensures (c.in_ok-each_name-2.ensures (exported ps) known) c.as_slice-2.ensures))
    (c.each_control.ensures (instance_names ps) (named_in_order c.args.so_far.now.names c.args.so_far.now.parts c.requires))
