-- Initial values and procedures, one declaration after the other, by the heads that are read.
use Rattle.std.specs.Prelude.{List, [], ◌∷◌, ◌++◌}
use Rattle.syntax_trees.specs.Syntax as s
use Rattle.check_rules.specs.Typed as t
use Rattle.check_rules.specs.Around.{Around}
use Rattle.check_rules.specs.Parts.{join_stmts}
use Rattle.check_rules.specs.Programs.{Stated, Values, value_of}
use Rattle.check_rules.specs.Steps.{Check, ◌>>=◌, pure}

abbrev pub no_values : Values
no_values = record { procedures = []; statements = t.NoStmts }

abbrev pub behind : Values → Values → Values
behind done v = record { procedures = done.procedures ++ v.procedures; statements = join_stmts done.statements v.statements }

unfoldable pub values_by : Around → List s.Declaration → List Stated → Check Values
values_by a (d ∷ ds) (h ∷ hs) = do
  put ← value_of a d.names d.declared h
  v ← values_by a ds hs
  pure (put v)
values_by a _ _ = pure no_values
