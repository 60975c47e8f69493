-- Each procedure of an image that can be run is as the calls ask.
use Rattle.std.proofs.Common.{ℕ}
use Rattle.code_forms.specs.declared.module_code.CodeProcedure.{CodeProcedure}
use Rattle.code_forms.specs.declared.module_code.ModuleCode.{ModuleCode}
use Rattle.code_forms.specs.Routine.{spots}
use Rattle.object_files.specs.declared.image.Image.{Image}
use Rattle.machine_rules.specs.Laws.{CanRun}
use Rattle.signaller.proofs.Lying.{table_of}
use Rattle.signaller.proofs.Regions.{rises}
use Rattle.survey_rules.specs.Escapes.{IsCode}
use Rattle.survey_rules.proofs.Codes.{world, has_code}
use Rattle.survey_code.specs.Reading.{CanBeRead}

pub can_be_read : (image : Image) → CanRun image → (j n : ℕ) (m : ModuleCode) (p : CodeProcedure) → IsCode image j n m p → CanBeRead p
can_be_read image ready j n m p c =
    let h = has_code image (world image ready) j n m p c in
    let table = table_of p.code p.phrases h.order h.valid.phrases in
    record { order = h.order; fills = h.valid.phrases; few = table.few; sorted = table.sorted; rise = rises (spots p.code) p.phrases h.valid.phrases }
