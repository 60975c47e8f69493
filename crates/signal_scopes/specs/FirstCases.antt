-- What the cases of a SELECT tell but the last, which has no test.
use Rattle.std.specs.Prelude.{List, map}
use Rattle.mesa_base.specs.Chain.{chain}
use Rattle.mesa_types.specs.Plain.{case}
use Rattle.mesa_types.specs.Typed.{Null, Otherwise}
use Rattle.mesa_types.specs.declared.typed_tree.Case.{Case}
use Rattle.code_rules.specs.Scopes.{Found}
use Rattle.code_rules.specs.Told.{told_cases}

unfoldable pub told_first_cases : List Case → Found
told_first_cases cs = told_cases (chain (map case cs) (Otherwise Null))
