-- What comes of what was gathered.
use Rattle.std.specs.Prelude.{◌≡◌, ℕ, List, ◌∷◌, map, Option, Result}
use Rattle.include_rules.specs.Stale.{Faced}
use Rattle.include_rules.specs.declared.entries.TextEntry.{TextEntry}
use Rattle.command_passes.specs.command_rules.specs.Case.{Refused}
use Rattle.command_passes.specs.command_rules.specs.declared.trouble.Trouble.TheVariants.{Cycle}
use Rattle.command_passes.specs.command_rules.specs.Forms.{module_file}
use Rattle.command_passes.specs.command_rules.specs.Planning.{Concludes, base_at}
use Rattle.command_passes.specs.command_rules.specs.Printing.{Report}
use Rattle.command_passes.specs.Shelves.{Decides}
use Rattle.command_passes.specs.Stops.{stop_case}
use Rattle.command_passes.specs.declared.stop.Stop.{Stop}
use Rattle.command_plans.specs.declared.gathered.Gathered.{Gathered}
use Rattle.command_plans.specs.declared.planning.PlanReport.{PlanReport}
use Rattle.command_plans.specs.Finding.{AreMade}
use Rattle.command_plans.specs.Gathering.{gathered_with}

abbrev pub report_of : PlanReport → Report
report_of r = record { text = r.text; missing = r.missing }

-- the file of the first of these texts is refused, since they name each other in a circle
abbrev pub TellsCycle : List TextEntry → (cycle : List ℕ) → Stop → Type 0
TellsCycle texts cycle why =
    (k : ℕ) (rest : List ℕ) → cycle ≡ k ∷ rest → stop_case why ≡ Refused (module_file (base_at texts k)) (Cycle (map (base_at texts) (k ∷ rest)))

-- the text of a report, with the files that are missing
abbrev pub report_with : Gathered → (text : List ℕ) → Report
report_with g text = record { text = text; missing = g.found.missing }

-- the text that what was gathered comes to, or why there is none
abbrev pub Tells : Gathered → Result (List ℕ) Stop → Type 0
Tells g result = (made : List (Option Faced)) → AreMade g.texts g.found made → Decides (report_with g) (Concludes (gathered_with g made)) result

-- the report
abbrev pub Reports : Gathered → Result PlanReport Stop → Type 0
Reports g result = (made : List (Option Faced)) → AreMade g.texts g.found made → Decides report_of (Concludes (gathered_with g made)) result
