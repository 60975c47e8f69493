-- The rows of a module as the code holds them.
use Rattle.std.specs.Prelude.{◌≡◌, ℕ, List, [], ◌∷◌, map, nat_le, Option, Some, None}
use Rattle.mesa_base.specs.declared.limits.TheConstants.{GLOBAL_WORDS, DISTINCT_STRINGS}
use Rattle.mesa_types.specs.declared.faces.Export.{Export}
use Rattle.mesa_types.specs.declared.faces.Import.{Import}
use Rattle.mesa_types.specs.declared.faces.Item.{Item}
use Rattle.code_forms.specs.declared.module_code.CodeSignal.{CodeSignal}
use Rattle.code_forms.specs.declared.module_code.CodeProcedure.{CodeProcedure}
use Rattle.file_forms.specs.Forms.{Form, pair, list, at_least}
use Rattle.held_objects.specs.declared.rows.Body.{Body}
use Rattle.held_objects.specs.declared.rows.ModuleRows.{ModuleRows}
use Rattle.object_rules.specs.ModuleForms.{signal, text, procedure, export_form, module_of}
use Rattle.object_rules.specs.Numbers.{length_where}
use Rattle.object_rules.specs.Parts.{ProcedurePart, ModulePart, procedure_part, procedure_code, link_codes}

abbrev pub body_parts : Body → ℕ × (List CodeSignal × (List (List ℕ) × (List ProcedurePart × List Export)))
body_parts b = (b.global_words, (b.signals, (b.strings, (map procedure_part b.procedures, b.exports))))

-- what stands behind the imports of a module
unfoldable pub body_form : ℕ → List Import → Form (ℕ × (List CodeSignal × (List (List ℕ) × (List ProcedurePart × List Export))))
body_form version imports =
    pair (length_where 2 (λ n. nat_le n GLOBAL_WORDS)) (λ _.
    pair (list (at_least 0) (λ _. signal)) (λ signals.
    pair (list (λ n. nat_le n DISTINCT_STRINGS) (λ _. text)) (λ _.
    pair (list (at_least 1) (procedure signals (link_codes imports))) (λ procedures.
    list (at_least 0) (λ _. export_form version signals procedures)))))

-- the item, if there is one
abbrev pub items_at : Option Item → List Item
items_at None = []
items_at (Some i) = i ∷ []

-- the parts of an object that the rows say
abbrev pub module_part : ModuleRows → ModulePart
module_part m = module_of (m.name, (m.imports, body_parts m.body))

-- each instruction stands where the one before it ends
abbrev pub AreEntered : List CodeProcedure → Type 0
AreEntered procedures = procedures ≡ map procedure_code (map procedure_part procedures)

-- the links are those of the imports, and the instructions stand where they should
abbrev pub BodyFits : List Import → Body → Type 0
BodyFits imports b = (b.links ≡ link_codes imports) × AreEntered b.procedures

abbrev pub RowsFit : ModuleRows → Type 0
RowsFit m = BodyFits m.imports m.body
