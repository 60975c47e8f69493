-- Objects that are the same, depths aside, have one listing: it shows no depth of an instruction.
use Rattle.std.proofs.Common.{◌≡◌, ℕ, List, [], ◌∷◌, ◌++◌, map, flat_map, refl, sym, ap, ◌∙◌}
use Rattle.std.proofs.lemmas.List.Folds.{flat_map-map}
use Rattle.code_forms.specs.declared.module_code.CodeEntry.{CodeEntry}
use Rattle.code_forms.specs.declared.module_code.CodeProcedure.{CodeProcedure}
use Rattle.code_forms.specs.declared.module_code.CodeSignal.{CodeSignal}
use Rattle.code_forms.specs.declared.module_code.ModuleCode.{ModuleCode}
use Rattle.code_forms.specs.Same.{bare_entry, bare_procedure, bare, IsSameCode}
use Rattle.mesa_types.specs.declared.faces.Shape.{Shape}
use Rattle.listing_rules.specs.Code.{signal_line, string_line, entry_line, phrase_lines, procedure_head, procedure_lines, globals_line, code_lines}
use Rattle.listing_rules.specs.Laws.{SameObjectsHaveOneListing}
use Rattle.listing_rules.specs.Objects.{object_line, import_lines, export_lines}

-- ---- one entry, one procedure, all procedures

entries_same : (code : List CodeEntry) → flat_map entry_line (map bare_entry code) ≡ flat_map entry_line code
entries_same code = flat_map-map entry_line bare_entry code

procedure_same : (p : CodeProcedure) → procedure_lines (bare_procedure p) ≡ procedure_lines p
procedure_same p = ap (λ (t : List ℕ). procedure_head p ++ (t ++ flat_map phrase_lines p.phrases)) (entries_same p.code)

procedures_same : (all : List CodeProcedure) → flat_map procedure_lines (bare all) ≡ flat_map procedure_lines all
procedures_same [] = refl
procedures_same (p ∷ all) =
    ap (λ (t : List ℕ). t ++ flat_map procedure_lines (bare all)) (procedure_same p) ∙ ap (λ (t : List ℕ). procedure_lines p ++ t) (procedures_same all)

same_procedures : (a b : List CodeProcedure) → bare a ≡ bare b → flat_map procedure_lines a ≡ flat_map procedure_lines b
same_procedures a b e = sym (procedures_same a) ∙ ap (λ (ps : List CodeProcedure). flat_map procedure_lines ps) e ∙ procedures_same b

-- ---- the code, and the object

abbrev of_code : ℕ → List CodeSignal → List (List ℕ) → List ℕ → List ℕ
of_code words signals strings procedures = globals_line words ++ (flat_map signal_line signals ++ (flat_map string_line strings ++ procedures))

same_code : (a b : ModuleCode) → IsSameCode a b → code_lines a ≡ code_lines b
same_code a b same =
    ap (λ (n : ℕ). of_code n a.signals a.strings (flat_map procedure_lines a.procedures)) same.global_words
    ∙ ap (λ (ss : List CodeSignal). of_code b.global_words ss a.strings (flat_map procedure_lines a.procedures)) same.signals
    ∙ ap (λ (ss : List (List ℕ)). of_code b.global_words b.signals ss (flat_map procedure_lines a.procedures)) same.strings
    ∙ ap (λ (t : List ℕ). of_code b.global_words b.signals b.strings t) (same_procedures a.procedures b.procedures same.procedures)

abbrev of_shape : Shape → List ℕ → List ℕ
of_shape shape code = object_line shape.name ++ (flat_map import_lines shape.imports ++ (code ++ flat_map export_lines shape.exports))

pub same_listing : SameObjectsHaveOneListing
same_listing a b shape code =
    ap (λ (s : Shape). of_shape s (code_lines a.code)) shape ∙ ap (λ (t : List ℕ). of_shape b.shape t) (same_code a.code b.code code)
