use Rattle.std.proofs.Common.{sym, ap, ◌∙◌}
use Rattle.std.proofs.lemmas.Result.{MatchResult-weaker}
use Rattle.check_scopes.specs.Shows.{shows}
use Rattle.cmesa_grammar.specs.Plain.{configuration}
use Rattle.config_rules.specs.Through.{through}
use Rattle.config_rules.specs.Tree.{modules_with}
use Rattle.config_templates.proofs.AnswerLaws.{stops_as}
use Rattle.config_templates.proofs.going.gone_through.Goals as goal

pub returns : goal.returns
returns c =
    let outermost = configuration c.args.config.now.outermost in
    let modules = modules_with c.args.components.now c.args.shapes.now in
    let whole = sym (ap (λ ms. through ms 1 (shows c.new-nested.result) outermost) c.in_ok-modules.ensures.modules ∙ ap (λ s. through modules 1 s outermost) c.new-nested.ensures) in
    MatchResult-weaker c.through.result c.through.ensures (λ template p. whole ∙ p.0) (λ fault s. stops_as _ _ fault whole s)

pub through-requires : goal.through-requires
through-requires c = c.in_ok-modules.ensures.indexed
