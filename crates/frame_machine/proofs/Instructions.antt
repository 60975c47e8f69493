-- The code of the topmost activation, as it is read.
use Rattle.std.proofs.Common.{◌≡◌, ℕ, List, Some, sym, ap, subst, ◌∙◌}
use Rattle.std.specs.Prelude.{slice_get}
use Rattle.std.proofs.lemmas.Option.{same_Some}
use Rattle.code_forms.specs.declared.instruction.Instruction.{Instruction}
use Rattle.code_forms.specs.declared.module_code.CodeEntry.{CodeEntry}
use Rattle.code_forms.specs.declared.module_code.CodeProcedure.{CodeProcedure}
use Rattle.code_forms.specs.declared.module_code.ModuleCode.{ModuleCode}
use Rattle.object_files.specs.declared.image.Image.{Image}
use Rattle.machine_rules.specs.LookUps.{code_of}
use Rattle.machine_topmost.specs.declared.registers.Registers.{Registers}
use Rattle.machine_activations.specs.declared.row.Layout.{Layout}
use Rattle.machine_activations.specs.declared.row.Row.{Row}
use Rattle.machine_activations.specs.Calling.{IsCodeOf, IsAt, Stands, StandsIn}
use Rattle.machine_activations.specs.Frames.{row_at}
use Rattle.machine_activations.specs.Shows.{IsPrepared}
use Rattle.machine_calls.specs.Linking.{StandsAt}

pub at_read : (image : Image) (table : List Row) (r : Registers) (i : Instruction) → StandsAt image table r i → (code : ModuleCode) → IsCodeOf image code table r → IsAt code table r i
at_read image table r i at code is = subst (λ (c : ModuleCode). IsAt c table r i) (same_Some at.code code (sym at.is_code ∙ is)) at.at

-- it stands at an entry of the code that was read
pub stands_at : (image : Image) (table : List Row) (r u : Registers) (row : Row) → row ≡ row_at table r.top → u.top ≡ r.top → (code : ModuleCode) → code_of image row.instance ≡ Some code
    → (procedure : CodeProcedure) → slice_get code.procedures row.procedure ≡ Some procedure → (e : CodeEntry) → slice_get procedure.code u.entry ≡ Some e
    → (i : Instruction) → e.instruction ≡ i → StandsAt image table u i
stands_at image table r u row same top code is procedure read e fetched i at =
    let there : row_at table u.top ≡ row = ap (λ q. row_at table q) top ∙ sym same in
    record {
      code = code;
      is_code = ap (λ (x : Row). code_of image x.instance) there ∙ is;
      at = record {
        procedure = procedure;
        is = ap (λ (x : Row). slice_get code.procedures x.procedure) there ∙ read;
        entry = e;
        fetched = fetched;
        at = at;
      };
    }

-- the topmost activation stands in the code that was read
pub stands_there : (image : Image) (layout : Layout) → IsPrepared image layout → (region : List ℕ) (table : List Row) (r : Registers) (code : ModuleCode) → IsCodeOf image code table r
    → StandsIn image layout region table r → Stands code layout region table r
stands_there image layout prepared region table r code is stands = record {
  image = image;
  prepared = prepared;
  is = is;
  start = stands.start;
  unstuck = stands.unstuck;
  store = stands.store;
  shown = stands.shown;
}
