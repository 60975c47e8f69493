use Rattle.std.proofs.Common.{◌≡◌, ℕ, List, [], take, drop}
use Rattle.check_scopes.specs.Scopes.{has}
use Rattle.config_rules.specs.Through.{each_name}
use Rattle.config_templates.specs.Going.{if_same}
use Rattle.config_templates.specs.Known.{Knows}
use Rattle.config_templates.specs.Mentioned.{names_before}
use Rattle.config_templates.proofs.headings.each_name.Given as goal

abbrev pub invariant-loop-one : goal.invariant-loop-one
invariant-loop-one l =
    Knows l.before (names_before (take l.one-index l.list))
    × ((all : List (List ℕ)) → Knows l.records all
    → each_name (λ r. if_same l.fn.if_exported (has r all)) l.fn.cause [] l.list ≡ each_name (λ r. if_same l.fn.if_exported (has r all)) l.fn.cause (names_before (take l.one-index l.list)) (drop l.one-index l.list))
