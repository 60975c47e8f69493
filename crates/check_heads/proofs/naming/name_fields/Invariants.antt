use Rattle.std.proofs.Common.{◌≡◌, ◌+◌, drop}
use Rattle.check_rules.specs.Statements.{fields_from}
use Rattle.check_state.specs.Views.{fields, names}
use Rattle.check_heads.proofs.naming.name_fields.Given as goal

abbrev pub invariant-loop-field : goal.invariant-loop-field
invariant-loop-field l = record {
  number : l.number ≡ l.first + l.field-index;
  scope : fields_from l.first (fields l.fields) (names l.fn.scope) ≡ fields_from l.number (fields (drop l.field-index l.fields)) (names l.scope);
}
