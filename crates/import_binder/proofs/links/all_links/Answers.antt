use Rattle.std.proofs.Common.{List, None, ◌≡◌, subst}
use Rattle.config_rules.specs.declared.tree.TreeInstance.{TreeInstance}
use Rattle.config_rules.specs.Resolves.{first_bad}
use Rattle.import_binder.specs.Bindings.{IsRefused}
use Rattle.import_binder.proofs.Answered.{passed_on}
use Rattle.import_binder.proofs.Linking.{wants_from, all_more, all_refused, none_is_bad}
use Rattle.import_binder.proofs.links.all_links.Goals as goal

pub loop-instance-preserved : goal.loop-instance-preserved
loop-instance-preserved c =
    let t = c.args.indexed.now.tree.now in
    all_more t c.loop-instance.all c.as_slice-instance-items.result.now c.loop-instance.instance-index c.push.new.self c.in_ok-links.links c.instance-item.result c.instance-item.result
    c.loop-instance-test.true c.instance-item.is c.in_ok-push.ensures.ok c.in_ok-links.ensures.ok c.loop-instance.invariant

pub returns-in_err-links-clause-err : goal.returns-in_err-links-clause-err
returns-in_err-links-clause-err c =
    let t = c.args.indexed.now.tree.now in
    let fault = c.in_err-links.field-0.0 in
    let P : List TreeInstance → Type 0 = λ xs. IsRefused t (wants_from t xs) fault in
    passed_on c.from_residual.result fault (λ e. IsRefused t (wants_from t t.instances) e) c.from_residual.ensures.1
    (subst P c.as_slice-instance-items.ensures
    (all_refused t c.loop-instance.all c.as_slice-instance-items.result.now c.loop-instance.instance-index fault c.instance-item.result c.instance-item.result c.loop-instance-test.true c.instance-item.is
    c.in_err-links.ensures.err c.loop-instance.invariant))

pub returns-clause-none_bad : goal.returns-clause-none_bad
returns-clause-none_bad c =
    let t = c.args.indexed.now.tree.now in
    let P : List TreeInstance → Type 0 = λ xs. first_bad (wants_from t xs) ≡ None in
    subst P c.as_slice-instance-items.ensures
    (none_is_bad t c.loop-instance.all c.as_slice-instance-items.result.now c.loop-instance.instance-index c.loop-instance-test.false c.loop-instance.invariant)
