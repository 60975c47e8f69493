use Rattle.std.proofs.Common.{◌≡◌, Some, None, sym, ap, subst, ◌∙◌}
use Rattle.check_scopes.specs.Scopes.{find}
use Rattle.check_scopes.specs.Shows.{shows}
use Rattle.config_rules.specs.Through.{found_as}
use Rattle.config_templates.specs.Answers.{IsAnswer}
use Rattle.config_templates.specs.Found.{found_of, modules_of}
use Rattle.config_templates.proofs.AnswerLaws.{ok}
use Rattle.config_templates.proofs.found.look_up.Goals as goal

pub returns-in_ok-nested_one-in-Some : goal.returns-in_ok-nested_one-in-Some
unfolding found_as
returns-in_ok-nested_one-in-Some c =
    let i = c.args.component.now in
    let there : find i.name (shows c.args.nested.now) ≡ Some c.in-Some.template.now = ap (λ x. find x (shows c.args.nested.now)) (sym c.bytes.ensures) ∙ sym c.in-Some.ensures in
    ap (found_as (modules_of c.args.modules.now) i) there ∙ ap (λ f. ok f) (sym c.in_ok-nested_one-in-Some.ensures)

pub returns-in-None : goal.returns-in-None
unfolding found_as
returns-in-None c =
    let i = c.args.component.now in
    let none : find i.name (shows c.args.nested.now) ≡ None = ap (λ x. find x (shows c.args.nested.now)) (sym c.bytes.ensures) ∙ sym c.in-None.ensures in
    subst (λ x. IsAnswer found_of x c.module.result) (sym (ap (found_as (modules_of c.args.modules.now) i) none)) c.module.ensures
