use Rattle.std.proofs.Common.{◌≡◌, rules, sym, ap, ◌∙◌}
use Rattle.syntax_trees.specs.PlainSyntax.{type_exp}
use Rattle.check_scopes.specs.Scopes.{over}
use Rattle.check_rules.specs.Programs.{elements_of}
use Rattle.check_state.specs.Views.{names}
use Rattle.check_directory.proofs.ElementLaws.{then_ok}
use Rattle.check_faces.specs.Ahead.{later}
use Rattle.check_faces.proofs.AheadLaws.{two_more}
use Rattle.check_faces.proofs.declared_names.data_ahead.Goals as goal

pub returns : goal.returns
returns c =
    let first : names c.also.new.scope ≡ over (names c.args.scope.now) (later c.args.names.now) = search rules in
    then_ok c.also_elements.result c.also_elements.ensures (λ h.
    h ∙ ap (λ t. over t (later (elements_of (type_exp c.args.kind.now)))) first ∙ sym (two_more (names c.args.scope.now) c.args.names.now (elements_of (type_exp c.args.kind.now))))
