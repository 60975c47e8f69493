-- How many bytes an object takes.
use Rattle.std.proofs.Common.{◌≡◌, ℕ, ◌+◌, List, length, map, arith}
use Rattle.std.specs.Prelude.{nat_le}
use Rattle.mesa_base.specs.declared.limits.TheConstants.{DISTINCT_STRINGS}
use Rattle.mesa_types.specs.declared.faces.Export.{Export}
use Rattle.mesa_types.specs.declared.faces.Import.{Import}
use Rattle.mesa_types.specs.declared.faces.Item.{Item}
use Rattle.mesa_types.specs.declared.faces.Pair.{Pair}
use Rattle.code_forms.specs.declared.module_code.CodeLink.{CodeLink}
use Rattle.code_forms.specs.declared.module_code.CodeSignal.{CodeSignal}
use Rattle.file_forms.specs.Forms.{number, list, at_least}
use Rattle.file_forms.specs.Names.{name}
use Rattle.file_forms.proofs.Numbers.{length-number}
use Rattle.face_rules.specs.FaceForms.{face}
use Rattle.object_files.specs.declared.object.Object.{Object}
use Rattle.object_rules.specs.ModuleForms.{is_next, import_form, signal, text, procedure, given, export_form, module_form}
use Rattle.object_rules.specs.Numbers.{number_where, last_of}
use Rattle.object_rules.specs.Parts.{ProcedurePart, procedure_part, parts_of, link_codes}
use Rattle.file_sizes.specs.Laws.{ObjectsAreSized}
use Rattle.file_sizes.specs.Sizes.{total, face_size, import_size, export_size, signal_size, string_size, procedure_size, module_size}
use Rattle.file_sizes.proofs.Codes.{procedure_sized, signal_sized, text_sized}
use Rattle.file_sizes.proofs.Faces.{name_sized}
use Rattle.file_sizes.proofs.Lists.{list_sized, list_view_sized, total_of, two, seven}

import_sized : (i : Import) → length ((import_form 2).spell i) ≡ import_size i
unfolding import_form face_size
import_sized i =
    let used : length ((list (at_least 0) (λ before. number_where 4 (is_next (length i.face.items) (last_of before)))).spell i.used) ≡ 4 + total (λ n. 4) i.used =
    list_sized (λ before. number_where 4 (is_next (length i.face.items) (last_of before))) (λ n. 4) (λ before n. length-number 4 n) (at_least 0) i.used in
    omega (
      arith,
      two ((face 2).spell i.face) ((list (at_least 0) (λ before. number_where 4 (is_next (length i.face.items) (last_of before)))).spell i.used),
      used,
      total_of 4 i.used,
    )

module _ (signals : List CodeSignal) (procedures : List ProcedurePart) where
  pair_sized : (items : List Item) (before : List Pair) (p : Pair) → length ((given signals procedures items before).spell p) ≡ 8
  unfolding given
  pair_sized items before p = omega (arith, two ((number 4).spell p.item) ((number 4).spell p.number), length-number 4 p.item, length-number 4 p.number)

  export_sized : (e : Export) → length ((export_form 2 signals procedures).spell e) ≡ export_size e
  unfolding export_form face_size
  export_sized e =
      let pairs : length ((list (at_least 0) (given signals procedures e.face.items)).spell e.given) ≡ 4 + total (λ p. 8) e.given =
      list_sized (given signals procedures e.face.items) (λ p. 8) (pair_sized e.face.items) (at_least 0) e.given in
      omega (
        arith,
        two ((face 2).spell e.face) ((list (at_least 0) (given signals procedures e.face.items)).spell e.given),
        pairs,
        total_of 8 e.given,
      )

module _ (o : Object) where
  abbrev links : List CodeLink
  links = link_codes o.shape.imports

  abbrev parts : List ProcedurePart
  parts = map procedure_part o.code.procedures

  abbrev imports_spelled : List ℕ
  imports_spelled = (list (at_least 0) (λ _. import_form 2)).spell o.shape.imports

  abbrev signals_spelled : List ℕ
  signals_spelled = (list (at_least 0) (λ _. signal)).spell o.code.signals

  abbrev strings_spelled : List ℕ
  strings_spelled = (list (λ n. nat_le n DISTINCT_STRINGS) (λ _. text)).spell o.code.strings

  abbrev procedures_spelled : List ℕ
  procedures_spelled = (list (at_least 1) (procedure o.code.signals links)).spell parts

  abbrev exports_spelled : List ℕ
  exports_spelled = (list (at_least 0) (λ _. export_form 2 o.code.signals parts)).spell o.shape.exports

  pub module_sized : length ((module_form 2).spell (parts_of o)) ≡ module_size o
  unfolding module_form module_size
  module_sized =
      let whole : length ((module_form 2).spell (parts_of o)) ≡ length (name.spell o.shape.name) + (length imports_spelled + (length ((number 2).spell o.code.global_words)
      + (length signals_spelled + (length strings_spelled + (length procedures_spelled + length exports_spelled))))) =
      seven (name.spell o.shape.name) imports_spelled ((number 2).spell o.code.global_words) signals_spelled strings_spelled procedures_spelled exports_spelled in
      omega (
        arith,
        whole,
        name_sized o.shape.name,
        length-number 2 o.code.global_words,
        list_sized (λ _. import_form 2) import_size (λ _ i. import_sized i) (at_least 0) o.shape.imports,
        list_sized (λ _. signal) signal_size (λ _ s. signal_sized s) (at_least 0) o.code.signals,
        list_sized (λ _. text) string_size (λ _ s. text_sized s) (λ n. nat_le n DISTINCT_STRINGS) o.code.strings,
        list_view_sized procedure_part (procedure o.code.signals links) procedure_size (procedure_sized o.code.signals links) (at_least 1) o.code.procedures,
        list_sized (λ _. export_form 2 o.code.signals parts) export_size (λ _ e. export_sized o.code.signals parts e) (at_least 0) o.shape.exports,
      )

pub objects_are_sized : ObjectsAreSized
objects_are_sized o = omega (arith, two ((number 1).spell 2) ((module_form 2).spell (parts_of o)), length-number 1 2, module_sized o)
