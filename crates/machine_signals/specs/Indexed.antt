-- What a search reads beside the image and the table (rule of this project).
use Rattle.std.specs.Prelude.{◌≡◌, ℕ, ◌<◌, ◌≤◌, List, length, Bool, Some, IfSome, slice_get}
use Rattle.std.specs.List.{AllZip}
use Rattle.code_forms.specs.declared.module_code.CodeEntry.{CodeEntry}
use Rattle.code_forms.specs.declared.module_code.CodeProcedure.{CodeProcedure}
use Rattle.object_files.specs.declared.image.Image.{Image}
use Rattle.signaller.specs.declared.search.Links.{Links}
use Rattle.signaller.specs.declared.search.Search.{Search}
use Rattle.signaller.specs.Search.{search_at}
use Rattle.machine_rules.specs.LookUps.{procedure_of, links_of}
use Rattle.machine_activations.specs.declared.row.Layout.{Layout}
use Rattle.machine_activations.specs.declared.row.Row.{Row}
use Rattle.machine_activations.specs.Frames.{row_at, owner_place}
use Rattle.machine_activations.specs.Shows.{IsPrepared}
use Rattle.machine_ready.specs.declared.prepared.Tables.{Tables}
use Rattle.machine_ready.specs.Ready.{IsPlanned}

-- how each instance reads the links of labels
abbrev pub ReadsLinks : Image → List Links → Type 0
ReadsLinks image links = (j : ℕ) → j < length image.instances → slice_get links j ≡ Some (links_of image j)

-- an image is prepared for a layout, and the tables are its own
pub record AreTables (image : Image) (layout : Layout) (tables : Tables) : Type 0 where
  pub prepared : IsPrepared image layout
  pub planned : AllZip IsPlanned image.modules tables.plans
  pub links : ReadsLinks image tables.links

-- the phrase that a search asks next is one of the procedure's; of the procedure of a row
abbrev pub AsksIn : CodeProcedure → Search → Type 0
AsksIn p search = IfSome search.phrase (λ n. n < length p.phrases)

abbrev pub AskedOf : Image → Row → Search → Type 0
AskedOf image row search = (p : CodeProcedure) → procedure_of image row.instance row.procedure ≡ Some p → AsksIn p search

-- the search that begins about the entry of a row, outward of arms or in its region
abbrev pub BeginsThere : Image → (outward : Bool) → Row → Search → Type 0
BeginsThere image outward row search = (p : CodeProcedure) (e : CodeEntry) → procedure_of image row.instance row.procedure ≡ Some p
    → slice_get p.code row.entry ≡ Some e → search ≡ search_at outward p.phrases e.at

-- a row tells a procedure and an entry of it
pub record IsRead (image : Image) (row : Row) : Type 0 where
  pub procedure : CodeProcedure
  pub is : procedure_of image row.instance row.procedure ≡ Some procedure
  pub within : row.entry < length procedure.code

-- so does that of a place, whose frame is no higher
pub record IsAsked (image : Image) (table : List Row) (q : ℕ) : Type 0 where
  pub read : IsRead image (row_at table q)
  pub low : owner_place (row_at table q).kind q ≤ q
