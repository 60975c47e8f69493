-- The sites of the first so many instructions of a procedure, by marks that tell which are reached (rule of this project).
use Rattle.std.specs.Prelude.{◌≡◌, ◌↔◌, ℕ, ◌<◌, List, Bool, Option, Some, None, Contains, option_map, slice_get, slice_index_or, false, if◌then◌else◌}
use Rattle.code_forms.specs.declared.instruction.Instruction.{Instruction}
use Rattle.code_forms.specs.declared.module_code.CodeEntry.{CodeEntry}
use Rattle.code_forms.specs.declared.module_code.CodeProcedure.{CodeProcedure}
use Rattle.survey_rules.specs.Escapes.{position_of}
use Rattle.survey_code.specs.declared.event.Event.{Event}
use Rattle.survey_code.specs.declared.surveyed.Site.{Site}
use Rattle.survey_code.specs.Events.{event_of}

abbrev pub site_with : Option ℕ → Event → Site
site_with position event = record { position = position; event = event }

abbrev pub site_of : Bool → Option ℕ → Instruction → Option Site
site_of reached position instruction = if reached then option_map (site_with position) (event_of instruction) else None

pub record SiteBy (p : CodeProcedure) (marks : List Bool) (count : ℕ) (site : Site) : Type 0 where
  pub number : ℕ
  pub below : number < count
  pub entry : CodeEntry
  pub is : slice_get p.code number ≡ Some entry
  pub made : site_of (slice_index_or marks number false) (position_of p entry.at) entry.instruction ≡ Some site

abbrev pub AreSites : CodeProcedure → (marks : List Bool) → (count : ℕ) → List Site → Type 0
AreSites p marks count sites = (site : Site) → Contains sites site ↔ SiteBy p marks count site
