-- What the scopes of the code are in the definition of scopes.
use Rattle.std.specs.Prelude.{List, map}
use Rattle.mesa_types.specs.Typed as t
use Rattle.code_rules.specs.Scopes as s
use Rattle.signal_scopes.specs.declared.scope_types.Point.{Point}
use Rattle.signal_scopes.specs.declared.scope_types.JumpScope.{JumpScope}
use Rattle.signal_scopes.specs.declared.scope_types.ArmScope.{ArmScope}
use Rattle.signal_scopes.specs.declared.scope_types.PhraseScope.{PhraseScope}

abbrev pub point_of : Point → t.Point
point_of (Point.Start n) = t.Start n
point_of (Point.After n) = t.After n
point_of (Point.At l) = t.At l
point_of Point.Leave = t.Leave

abbrev pub jump_of : JumpScope → s.JumpScope
jump_of j = record { point = point_of j.point; arms = j.arms }

abbrev pub jumps_of : List JumpScope → List s.JumpScope
jumps_of = map jump_of

abbrev pub arm_of : ArmScope → s.ArmScope
arm_of a = record { labels = a.labels; jumps = jumps_of a.jumps }

abbrev pub arms_of : List ArmScope → List s.ArmScope
arms_of = map arm_of

abbrev pub phrase_of : PhraseScope → s.PhraseScope
phrase_of p = record { statement = p.statement; arms = arms_of p.arms }

abbrev pub phrases_of : List PhraseScope → List s.PhraseScope
phrases_of = map phrase_of
