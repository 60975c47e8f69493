use Rattle.std.proofs.Common.{◌≡◌, drop}
use Rattle.check_rules.specs.Scopes.{nothing}
use Rattle.check_rules.specs.Statements.{fields_from}
use Rattle.check_state.specs.Views.{fields, names}
use Rattle.check_jumps.proofs.entering.scope_of.Given as goal

abbrev pub invariant-loop-field : goal.invariant-loop-field
invariant-loop-field l = fields_from l.first (fields l.fields) nothing ≡ fields_from l.number (fields (drop l.field-index l.fields)) (names l.scope)
