-- The bytes of a module are what its form spells, and the parts of one that fits can be written.
use Rattle.std.proofs.Common.{◌≡◌, ℕ, ◌<◌, ◌^◌, List, [], ◌++◌, length, map, refl, ap, subst}
use Rattle.std.specs.Prelude.{All, nat_le}
use Rattle.std.proofs.lemmas.List.{length-map}
use Rattle.mesa_base.specs.declared.limits.TheConstants.{DISTINCT_STRINGS}
use Rattle.mesa_types.specs.declared.faces.Export.{Export}
use Rattle.mesa_types.specs.declared.faces.Import.{Import}
use Rattle.mesa_types.specs.declared.faces.Item.{Item}
use Rattle.mesa_types.specs.declared.faces.Pair.{Pair}
use Rattle.code_forms.specs.declared.module_code.CodeLink.{CodeLink}
use Rattle.code_forms.specs.declared.module_code.CodeProcedure.{CodeProcedure}
use Rattle.code_forms.specs.declared.module_code.CodeSignal.{CodeSignal}
use Rattle.file_forms.specs.Forms.{list, at_least}
use Rattle.file_forms.specs.Names.{name}
use Rattle.interface_writers.specs.face_rules.specs.FaceForms.{face}
use Rattle.object_files.specs.declared.object.Object.{Object}
use Rattle.object_rules.specs.ModuleForms.{is_next, import_form, signal, text, procedure, given, export_form, module_form}
use Rattle.object_rules.specs.Numbers.{number_where, last_of}
use Rattle.object_rules.specs.Parts.{ProcedurePart, procedure_part, parts_of, link_codes}
use Rattle.object_rules.proofs.AllFit.{all_fit}
use Rattle.object_writers.specs.CodeBytes.{signal_bytes, SignalFits, text_bytes, TextFits, procedure_bytes, ProcedureFits}
use Rattle.object_writers.specs.ObjectBytes.{import_bytes, ImportFits, pair_bytes, export_bytes, ExportFits, module_bytes, ModuleFits}
use Rattle.object_writers.specs.Spelling.{spell_list, u16_bytes, u32_bytes}
use Rattle.object_writers.proofs.CodeLaws.{signal_spelled, signal_fits, text_spelled, text_fits, procedure_spelled, procedure_fits}
use Rattle.object_writers.proofs.Lists.{list_spelled, list_view_spelled, all_viewed, all_then}

-- ---- imports and exports

import_spelled : (i : Import) → (import_form 2).spell i ≡ import_bytes i
unfolding import_form
import_spelled i =
    ap (λ (t : List ℕ). (face 2).spell i.face ++ t) (list_spelled (at_least 0) (λ before. number_where 4 (is_next (length i.face.items) (last_of before))) u32_bytes (λ _ n. refl) i.used)

import_fits : (i : Import) → (import_form 2).fits i → ImportFits i
unfolding import_form
import_fits i fits = record { face_fits = fits.0; few = fits.1.0.0 }

module _ (signals : List CodeSignal) (procedures : List ProcedurePart) where
  pair_spelled : (items : List Item) (before : List Pair) (p : Pair) → (given signals procedures items before).spell p ≡ pair_bytes p
  unfolding given
  pair_spelled items before p = refl

  export_spelled : (e : Export) → (export_form 2 signals procedures).spell e ≡ export_bytes e
  unfolding export_form
  export_spelled e = ap (λ (t : List ℕ). (face 2).spell e.face ++ t) (list_spelled (at_least 0) (given signals procedures e.face.items) pair_bytes (pair_spelled e.face.items) e.given)

  export_fits : (e : Export) → (export_form 2 signals procedures).fits e → ExportFits e
  unfolding export_form
  export_fits e fits = record { face_fits = fits.0; few = fits.1.0.0 }

-- ---- procedures, as their parts

module _ (signals : List CodeSignal) (links : List CodeLink) where
  PartFits : ProcedurePart → Type 0
  PartFits q = (before : List ProcedurePart) × (procedure signals links before).fits q

  part_fits : (p : CodeProcedure) → PartFits (procedure_part p) → ProcedureFits p
  unfolding PartFits
  part_fits p h = procedure_fits signals links h.0 p h.1

  procedures_fit : (all : List CodeProcedure) → (list (at_least 1) (procedure signals links)).fits (map procedure_part all) → All ProcedureFits all
  unfolding PartFits
  procedures_fit all fits =
      all_then (λ p. PartFits (procedure_part p)) ProcedureFits all part_fits
      (all_viewed PartFits procedure_part all (all_fit PartFits (procedure signals links) (λ before q h. (before, h)) [] (map procedure_part all) fits.1.1))

-- ---- modules

same_parts : (n a b g c d e f h i j k : List ℕ) → a ≡ b → c ≡ d → e ≡ f → h ≡ i → j ≡ k → n ++ (a ++ (g ++ (c ++ (e ++ (h ++ j))))) ≡ n ++ (b ++ (g ++ (d ++ (f ++ (i ++ k)))))
same_parts n a b g c d e f h i j k p q r s t = rw (p, q, r, s, t) refl

module _ (o : Object) where
  abbrev links : List CodeLink
  links = link_codes o.shape.imports

  abbrev parts : List ProcedurePart
  parts = map procedure_part o.code.procedures

  imports_spelled : (list (at_least 0) (λ _. import_form 2)).spell o.shape.imports ≡ spell_list import_bytes o.shape.imports
  imports_spelled = list_spelled (at_least 0) (λ _. import_form 2) import_bytes (λ _ i. import_spelled i) o.shape.imports

  signals_spelled : (list (at_least 0) (λ _. signal)).spell o.code.signals ≡ spell_list signal_bytes o.code.signals
  signals_spelled = list_spelled (at_least 0) (λ _. signal) signal_bytes (λ _ s. signal_spelled s) o.code.signals

  strings_spelled : (list (λ n. nat_le n DISTINCT_STRINGS) (λ _. text)).spell o.code.strings ≡ spell_list text_bytes o.code.strings
  strings_spelled = list_spelled (λ n. nat_le n DISTINCT_STRINGS) (λ _. text) text_bytes (λ _ s. text_spelled s) o.code.strings

  procedures_spelled : (list (at_least 1) (procedure o.code.signals links)).spell parts ≡ spell_list procedure_bytes o.code.procedures
  procedures_spelled = list_view_spelled procedure_part (procedure o.code.signals links) procedure_bytes (procedure_spelled o.code.signals links) (at_least 1) o.code.procedures

  exports_spelled : (list (at_least 0) (λ _. export_form 2 o.code.signals parts)).spell o.shape.exports ≡ spell_list export_bytes o.shape.exports
  exports_spelled = list_spelled (at_least 0) (λ _. export_form 2 o.code.signals parts) export_bytes (λ _ e. export_spelled o.code.signals parts e) o.shape.exports

  pub module_spelled : (module_form 2).spell (parts_of o) ≡ module_bytes o
  unfolding module_form
  module_spelled =
      same_parts (name.spell o.shape.name) _ _ (u16_bytes o.code.global_words) _ _ _ _ _ _ _ _ imports_spelled signals_spelled strings_spelled procedures_spelled exports_spelled

  pub module_fits : (module_form 2).fits (parts_of o) → ModuleFits o
  unfolding module_form
  module_fits fits = record {
    named = fits.0;
    few_imports = fits.1.0.0.0;
    imports = all_fit ImportFits (λ _. import_form 2) (λ _ i. import_fits i) [] o.shape.imports fits.1.0.1.1;
    few_signals = fits.1.1.1.0.0.0;
    signals = all_fit SignalFits (λ _. signal) (λ _ s. signal_fits s) [] o.code.signals fits.1.1.1.0.1.1;
    few_strings = fits.1.1.1.1.0.0.0;
    strings = all_fit TextFits (λ _. text) (λ _ s. text_fits s) [] o.code.strings fits.1.1.1.1.0.1.1;
    few_procedures = subst (λ n. n < 2 ^ 32) (length-map o.code.procedures procedure_part) fits.1.1.1.1.1.0.0.0;
    procedures = procedures_fit o.code.signals links o.code.procedures fits.1.1.1.1.1.0;
    few_exports = fits.1.1.1.1.1.1.0.0;
    exports = all_fit ExportFits (λ _. export_form 2 o.code.signals parts) (λ _ e. export_fits o.code.signals parts e) [] o.shape.exports fits.1.1.1.1.1.1.1.1;
  }
