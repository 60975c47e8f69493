use Rattle.std.proofs.Common.{◌≡◌, drop}
use Rattle.syntax_trees.specs.PlainSyntax.{named_fields, types}
use Rattle.check_scopes.specs.Scopes.{over}
use Rattle.check_rules.specs.Programs.{elements_in_named, elements_in_types}
use Rattle.check_state.specs.Views.{names}
use Rattle.check_faces.specs.Ahead.{later}
use Rattle.check_faces.proofs.declared_names.+elements.Given as goal

abbrev pub invariant-also_in_named-loop-field : goal.invariant-also_in_named-loop-field
invariant-also_in_named-loop-field l =
    over (names l.fn.scope) (later (elements_in_named (named_fields l.fields)))
    ≡ over (names l.scope) (later (elements_in_named (named_fields (drop l.field-index l.fields))))

abbrev pub invariant-also_in_types-loop-kind : goal.invariant-also_in_types-loop-kind
invariant-also_in_types-loop-kind l =
    over (names l.fn.scope) (later (elements_in_types (types l.types)))
    ≡ over (names l.scope) (later (elements_in_types (types (drop l.kind-index l.types))))
