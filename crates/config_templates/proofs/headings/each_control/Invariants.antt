use Rattle.std.proofs.Common.{◌≡◌, ℕ, List, drop}
use Rattle.config_rules.specs.Through.{each_control}
use Rattle.config_templates.specs.Known.{Knows}
use Rattle.config_templates.proofs.headings.each_control.Given as goal

abbrev pub invariant-loop-one : goal.invariant-loop-one
invariant-loop-one l = (all : List (List ℕ)) → Knows l.names all → each_control all l.list ≡ each_control all (drop l.one-index l.list)
