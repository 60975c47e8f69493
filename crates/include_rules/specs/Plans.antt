-- The plan of texts, with the files that were made of them before (rule of this project).
use Rattle.std.specs.Prelude.{◌≡◌, ℕ, List, length, map}
use Rattle.include_rules.specs.declared.entries.FileEntry.{FileEntry}
use Rattle.include_rules.specs.declared.entries.TextEntry.{TextEntry}
use Rattle.include_rules.specs.declared.plan.Plan.{Plan}
use Rattle.include_rules.specs.declared.plan.PlanFault.{PlanFault}
use Rattle.include_rules.specs.declared.plan.PlanFault.TheVariants.{Cycle}
use Rattle.include_rules.specs.Naming.{naming}
use Rattle.include_rules.specs.Order.{IsOrder, IsCycle}
use Rattle.include_rules.specs.Stale.{faced, stale}

-- at most so many texts are planned at once
abbrev pub most_texts : ℕ
most_texts = 64

pub record IsPlan (texts : List TextEntry) (files : List FileEntry) (p : Plan) : Type 0 where
  pub order : IsOrder (naming texts) p.order
  pub stale_are : p.stale ≡ stale (length texts) (map faced files)

abbrev pub HasCycle : List TextEntry → (cycle : List ℕ) → Type 0
HasCycle texts cycle = IsCycle (naming texts) cycle

-- why they have none
pub data HasNoPlan (texts : List TextEntry) : PlanFault → Type 0 where
  circling : (cycle : List ℕ) → HasCycle texts cycle → HasNoPlan texts (Cycle cycle)
