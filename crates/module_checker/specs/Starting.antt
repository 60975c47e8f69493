-- The states in which the checking of a program and of an interface begins.
use Rattle.std.specs.Prelude.{ℕ, Bool, false, true, List, [], ◌∷◌, Some, None}
use Rattle.mesa_base.specs.declared.identifier.Identifier.{Identifier}
use Rattle.syntax_trees.specs.Syntax as s
use Rattle.check_rules.specs.CheckedModule.{known_of, start}
use Rattle.check_rules.specs.Definitions as d
use Rattle.check_rules.specs.Directory.{directory_scope, offered, opened, predeclared, those_of}
use Rattle.check_rules.specs.Meanings.{Meaning}
use Rattle.interface_records.specs.PlainTypes.{PlainInterface}
use Rattle.check_rules.specs.Programs.{ahead, unused}
use Rattle.check_rules.specs.Scopes.{Scope, nothing}
use Rattle.check_rules.specs.Steps.{State}
use Rattle.check_rules.specs.Typed.{NoKinds}

abbrev pub of_program : s.Module → List PlainInterface → List Identifier → List Identifier → s.Inner → State
of_program m is imports opens inner = start m (known_of m None true imports is) (ahead inner.declarations) opens (unused (those_of m.directory is imports))

abbrev pub of_interface : s.Module → ℕ → List PlainInterface → List Identifier → List s.Definition → State
of_interface m stamp is opens defs = start m (known_of m (Some stamp) false [] is) (d.ahead defs) opens []

-- the scopes around the names of a module with these IMPORTS, the innermost first
abbrev pub around_names : s.Module → List PlainInterface → List Identifier → List Identifier → List (Scope Meaning)
around_names m is imports opens = directory_scope 0 m.directory ∷ opened m.directory (offered imports m.directory is) opens ∷ predeclared ∷ []

abbrev pub before : List (Scope Meaning) → Scope Meaning → List (List Bool) → State
before scopes ahead used = record {
  scopes = nothing ∷ ahead ∷ scopes;
  coming = nothing;
  used = used;
  globals = NoKinds;
  variables = NoKinds;
  hidden = 0;
  operands = 0;
}
