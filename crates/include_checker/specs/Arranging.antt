-- The order of texts or their cycle, and the plan, by the lists of what each text names.
use Rattle.std.specs.Prelude.{◌≡◌, ℕ, List, length, map}
use Rattle.include_rules.specs.declared.entries.FileEntry.{FileEntry}
use Rattle.include_rules.specs.declared.plan.Plan.{Plan}
use Rattle.include_rules.specs.declared.plan.PlanFault.{PlanFault}
use Rattle.include_rules.specs.declared.plan.PlanFault.TheVariants.{Cycle}
use Rattle.include_rules.specs.Order.{IsOrder, IsCycle}
use Rattle.include_rules.specs.Stale.{faced, stale}
use Rattle.include_checker.specs.declared.arranging.Arranged.{Arranged}
use Rattle.include_checker.specs.declared.arranging.Arranged.TheVariants.{InOrder, Circling}

abbrev pub IsArranged : (names : List (List ℕ)) → Arranged → Type 0
IsArranged names (InOrder order) = IsOrder names order
IsArranged names (Circling cycle) = IsCycle names cycle

pub record IsPlanBy (names : List (List ℕ)) (files : List FileEntry) (p : Plan) : Type 0 where
  pub order : IsOrder names p.order
  pub stale_are : p.stale ≡ stale (length names) (map faced files)

-- why there is none
pub data HasNoPlanBy (names : List (List ℕ)) : PlanFault → Type 0 where
  circles : (cycle : List ℕ) → IsCycle names cycle → HasNoPlanBy names (Cycle cycle)
