-- A body with a catch phrase of three arms, each with a jump.
use Rattle.std.specs.Prelude.{List, [], ◌∷◌}
use Rattle.mesa_types.specs.Plain.{chain}
use Rattle.mesa_types.specs.Typed as t
use Rattle.mesa_types.specs.declared.typed_parts.Goal.TheVariants.{ToReturn}
use Rattle.mesa_types.specs.declared.typed_parts.Label.TheVariants.{OnAny, OnBounds, OnZero}

abbrev pub leave : t.Stmt
leave = t.Jump 1 ToReturn

abbrev pub again : t.Arms → t.Arms
again = t.AndArm (OnBounds ∷ []) 0 0 (t.Retry 0)

abbrev pub away : t.Arms → t.Arms
away = t.AndArm (OnZero ∷ []) 0 0 leave

abbrev pub onward : t.Arms → t.Arms
onward = t.AndArm (OnAny ∷ []) 0 0 (t.Continue 0)

abbrev pub arms : List (t.Arms → t.Arms)
arms = again ∷ away ∷ onward ∷ []

abbrev pub statement : t.Stmt
statement = t.Marked 0 (t.Block (t.Catch 0 (chain arms t.NoArms)) t.NoStmts t.NoExits)

abbrev pub body : t.Body
body = record { variables = t.NoKinds; does = statement }
