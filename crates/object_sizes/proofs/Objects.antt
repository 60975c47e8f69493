-- An object of a text is bounded by the text's size.
use Rattle.std.specs.Prelude.{◌≡◌, ℕ, ◌+◌, ◌*◌, ◌≤◌, List, length, map, Ok, IfOk}
use Rattle.std.proofs.Common.{ap, subst, ◌∙◌, arith}
use Rattle.syntax_trees.specs.declared.syntax.Module.{Module}
use Rattle.syntax_trees.specs.PlainSyntax.{syntax}
use Rattle.syntax_trees.specs.SyntaxNodes.{module_nodes}
use Rattle.mesa_types.specs.Nodes.{nodes}
use Rattle.mesa_types.specs.declared.faces.Shape.{Shape}
use Rattle.interface_records.specs.declared.interface.Interface.{Interface}
use Rattle.check_rules.specs.CheckedModule.{checked}
use Rattle.check_rules.specs.Steps.{Checked}
use Rattle.check_rules.specs.Typed as t
use Rattle.typing_laws.proofs.KeptModule.{few_nodes}
use Rattle.checking_laws.specs.Sizes.{SizedBy, item_bytes, head_bytes, literal_bytes, imports_count, exports_count, interfaces_count}
use Rattle.checking_laws.specs.UsedItems.{used_items}
use Rattle.checking_laws.specs.Weights.{one_each, kind_weight, module_weight}
use Rattle.checking_laws.proofs.Modules.{modules_are_sized}
use Rattle.code_blocks.specs.Weights.{procedures_bytes}
use Rattle.code_rules.specs.Modules.{procedures_of, signal_code}
use Rattle.code_forms.specs.Routine.{routine_with}
use Rattle.object_files.specs.declared.object.Object.{Object}
use Rattle.file_sizes.specs.Sizes.{total, face_size, import_size, export_size, signal_size, string_size, procedure_size, module_size}
use Rattle.text_weights.specs.Laws.{IsSizedBy}
use Rattle.text_weights.proofs.LawProofs.{trees_are_sized_by_their_text}
use Rattle.object_sizes.specs.Laws.{IsChecked, CanBeHeld, IsShortObjectOf, ObjectsAreShort}
use Rattle.object_sizes.specs.TextSizes.{files_size, text_size}
use Rattle.object_sizes.proofs.Faces.{both_sizes, counts_joined, both_given}
use Rattle.object_sizes.proofs.Modules.{imports_sized, exported_size, exports_sized, strings_sized, signals_sized, procedures_sized, heads_sized}
use Rattle.object_sizes.proofs.Once.{built_ins, built_in_once}

pub sized_by : (x : Module) (is : List Interface) (m : t.Module) → checked (syntax x) is ≡ Ok m → SizedBy (syntax x) is m
sized_by x is m e = subst (λ (r : Checked t.Module). IfOk r (SizedBy (syntax x) is)) e (modules_are_sized (syntax x) is)

nodes_by : (x : Module) (is : List Interface) (m : t.Module) → checked (syntax x) is ≡ Ok m → nodes m ≤ 2 * module_nodes (syntax x)
nodes_by x is m e = subst (λ (r : Checked t.Module). IfOk r (λ (n : t.Module). nodes n ≤ 2 * module_nodes (syntax x))) e (few_nodes (syntax x) is)

pub text_by : (text : List ℕ) (x : Module) (is : List Interface) (m : t.Module) → IsChecked text x is m → IsSizedBy text x
text_by text x is m h = trees_are_sized_by_their_text text h.tokens x h.has_tokens h.parsed

-- what stands behind the word of a module's kind is no more than all
pub kind_within : (x : Module) → kind_weight one_each (syntax x).kind ≤ module_weight one_each (syntax x)
unfolding module_weight
kind_within x = omega arith

-- ---- the parts, each by what is counted

module _ (m : t.Module) (o : Object) (held : CanBeHeld m) (its : IsShortObjectOf m o) where
  name_is : length o.shape.name ≡ length m.name
  name_is = ap (λ (s : Shape). length s.name) its.shape

  imports_are : total import_size o.shape.imports ≡ imports_count (λ f. face_size f + 4) m.imports + 4 * used_items m.imports
  imports_are = ap (λ (s : Shape). total import_size s.imports) its.shape ∙ imports_sized m.imports

  exports_are : total export_size o.shape.exports ≤ exports_count exported_size m.exports
  exports_are =
      let same : total export_size o.shape.exports ≡ total export_size m.exports = ap (λ (s : Shape). total export_size s.exports) its.shape in
      let few : total export_size m.exports ≤ exports_count exported_size m.exports = exports_sized m.exports (held.shape).exports in
      omega (arith, same, few)

  signals_are : total signal_size o.code.signals ≤ 7 * item_bytes m.signals
  signals_are =
      let same : total signal_size o.code.signals ≡ total signal_size (map signal_code m.signals) = ap (total signal_size) (its.code).each_signal in
      let few : total signal_size (map signal_code m.signals) ≤ 7 * item_bytes m.signals = signals_sized m.signals (held.named).signals in
      omega (arith, same, few)

  strings_are : total string_size o.code.strings ≤ 3 * literal_bytes m.strings + 2
  strings_are =
      let same : total string_size o.code.strings ≡ total string_size m.strings = ap (total string_size) (its.code).each_string in
      let few : total string_size m.strings ≤ 3 * literal_bytes m.strings + 2 = strings_sized m.strings (held.sound).strings_differ in
      omega (arith, same, few)

  -- the body stands first, under the module's name
  heads_are : 11 * length (procedures_of m) + head_bytes (procedures_of m) ≤ 11 + length m.name + 12 * head_bytes m.procedures
  unfolding head_bytes
  heads_are = let few = heads_sized m.procedures (held.named).procedures in omega (arith, few)

  procedures_are : total procedure_size o.code.procedures ≤ procedures_bytes o.code.procedures + (11 + length m.name + 12 * head_bytes m.procedures)
  procedures_are =
      let each : total procedure_size o.code.procedures ≡ procedures_bytes o.code.procedures + (11 * length (procedures_of m) + head_bytes (procedures_of m)) =
      procedures_sized m (routine_with o.code.global_words (length o.code.strings) o.code.signals o.code.links o.code.procedures) (procedures_of m) o.code.procedures
      (its.code).each_procedure in
      omega (arith, each, heads_are)

  pub module_by : module_size o ≤ 36 + 12 * (length m.name + item_bytes m.signals + head_bytes m.procedures + literal_bytes m.strings) + 4 * used_items m.imports
      + 32 * nodes m + (imports_count (λ f. face_size f + 4) m.imports + exports_count exported_size m.exports)
  unfolding module_size
  module_by = omega (arith, name_is, imports_are, exports_are, signals_are, strings_are, procedures_are, its.short)

faces_by : (text : List ℕ) (x : Module) (is : List Interface) (m : t.Module) → IsChecked text x is m
    → imports_count (λ f. face_size f + 4) m.imports + exports_count exported_size m.exports ≤ 4 * files_size x.directory is + 456
faces_by text x is m h =
    let sized = sized_by x is m h.its in
    let once : built_ins x.directory ≤ 1 = built_in_once (syntax x) is m h.its in
    let imported : imports_count (λ f. face_size f + 4) m.imports ≤ interfaces_count (λ f. face_size f + 4) is = sized.imported (λ f. face_size f + 4) in
    let exported : exports_count exported_size m.exports ≤ interfaces_count exported_size is = sized.exported exported_size in
    let both : interfaces_count both_sizes is ≡ interfaces_count (λ f. face_size f + 4) is + interfaces_count exported_size is =
    counts_joined (λ f. face_size f + 4) exported_size is in
    omega (arith, imported, exported, both, both_given x.directory is h.given, once)

together : (size written used names kind nodes syntax bytes files faces : ℕ) → size ≤ 36 + 12 * written + 4 * used + 32 * nodes + faces → written ≤ bytes
    → used ≤ kind → kind ≤ names → 2 * names ≤ bytes + 1 → nodes ≤ 2 * syntax → syntax ≤ 2 * bytes → faces ≤ 4 * files + 456
    → 4 + size ≤ 160 * bytes + 4 * files + 1000
together size written used names kind nodes syntax bytes files faces a b c d e f g h = omega (arith, a, b, c, d, e, f, g, h)

pub objects_are_short : ObjectsAreShort
unfolding text_size
objects_are_short text x is m o h held its =
    let sized = sized_by x is m h.its in
    let tree = text_by text x is m h in
    let named : used_items m.imports ≤ kind_weight one_each (syntax x).kind = omega (arith, sized.named) in
    let written : length m.name + item_bytes m.signals + head_bytes m.procedures + literal_bytes m.strings ≤ length text = omega (arith, sized.written, tree.bytes) in
    together (module_size o) (length m.name + item_bytes m.signals + head_bytes m.procedures + literal_bytes m.strings) (used_items m.imports)
    (module_weight one_each (syntax x)) (kind_weight one_each (syntax x).kind) (nodes m) (module_nodes (syntax x)) (length text) (files_size x.directory is)
    (imports_count (λ f. face_size f + 4) m.imports + exports_count exported_size m.exports)
    (module_by m o held its) written named (kind_within x) tree.names (nodes_by x is m h.its) tree.nodes (faces_by text x is m h)
