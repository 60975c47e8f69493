use Rattle.std.proofs.Common.{sym, subst, ◌∙◌}
use Rattle.std.proofs.lemmas.Result.{err_from_is_err_and}
use Rattle.check_scopes.specs.Shows.{shows}
use Rattle.config_rules.specs.Through.{instance}
use Rattle.config_templates.specs.Answers.{IsAnswer}
use Rattle.config_templates.specs.Found.{made_from, made_of, modules_of}
use Rattle.config_templates.proofs.AnswerLaws.{exits, stops, stops_as, then}
use Rattle.config_templates.proofs.InstanceLaws.{instance_is}
use Rattle.config_templates.proofs.instances.instance.Goals as goal

pub returns-in_err-found : goal.returns-in_err-found
returns-in_err-found c = λ all k.
    let i = c.args.instance.now in
    let ms = modules_of c.args.modules.now in
    let s = shows c.args.nested.now in
    exits made_of (instance ms s all i) c.from_residual.result _ (err_from_is_err_and c.from_residual.result c.from_residual.ensures.1)
    (stops_as (instance ms s all i) _ _ (instance_is ms s all i) (stops _ (λ f. made_from all i f) _ c.in_err-found.ensures))

pub returns : goal.returns
returns c = λ all k.
    let i = c.args.instance.now in
    let ms = modules_of c.args.modules.now in
    let s = shows c.args.nested.now in
    subst (λ x. IsAnswer made_of x c.made_from.result) (sym (instance_is ms s all i ∙ then _ (λ f. made_from all i f) _ c.in_ok-found.ensures)) (c.made_from.ensures all k)
