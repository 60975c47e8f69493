-- Modules in files: a definition for each row (rule of this project). A field may depend on what stands before it alone.
use Rattle.std.specs.Prelude.{ℕ, ◌+◌, Bool, true, false, ◌&&◌, ◌||◌, ◌==◌, List, length, nat_le, nat_lt, nat_eq, Option, Some, None, option_map, slice_get, if◌then◌else◌}
use Rattle.mesa_base.specs.declared.file_fault.Field.TheVariants as field
use Rattle.mesa_base.specs.declared.limits.TheConstants.{GLOBAL_WORDS, DISTINCT_STRINGS, STRING_BYTES}
use Rattle.mesa_types.specs.Types.{words_of_fields}
use Rattle.mesa_types.specs.declared.faces.Export.{Export}
use Rattle.mesa_types.specs.declared.faces.Face.{Face}
use Rattle.mesa_types.specs.declared.faces.Import.{Import}
use Rattle.mesa_types.specs.declared.faces.Item.{Item}
use Rattle.mesa_types.specs.declared.faces.ItemKind.{ItemKind}
use Rattle.mesa_types.specs.declared.faces.ItemKind.TheVariants as item
use Rattle.mesa_types.specs.declared.faces.Pair.{Pair}
use Rattle.code_forms.specs.declared.instruction.Instruction.{Instruction}
use Rattle.code_forms.specs.declared.limits.TheConstants.{FRAME_WORDS, STACK_WORDS}
use Rattle.code_forms.specs.declared.module_code.CodeKind.{CodeKind}
use Rattle.code_forms.specs.declared.module_code.CodeKind.TheVariants.{Procedure, Signal, Error}
use Rattle.code_forms.specs.declared.module_code.CodeLink.{CodeLink}
use Rattle.code_forms.specs.declared.module_code.CodeSignal.{CodeSignal}
use Rattle.code_forms.specs.declared.module_code.Phrase.{Phrase}
use Rattle.code_forms.specs.Instructions.{bytes_of}
use Rattle.file_forms.specs.Forms.{Form, number, raw, pair, led, ruled, built, list, at_least, between}
use Rattle.file_forms.specs.Names.{name}
use Rattle.face_rules.specs.FaceForms.{face}
use Rattle.object_rules.specs.CatchForms.{phrase}
use Rattle.object_rules.specs.Filling.{filling, size_of_all}
use Rattle.object_rules.specs.Instructions.{instruction}
use Rattle.object_rules.specs.Numbers.{u16, number_where, length_where, last_of, rises_from}
use Rattle.object_rules.specs.Parts.{ProcedurePart, ModulePart, link_codes}

-- ---- imports: a face, and the numbers of its items that are used, ascending

abbrev pub import_of : Face × List ℕ → Import
import_of p = record { face = p.0; used = p.1 }

abbrev pub import_parts : Import → Face × List ℕ
import_parts i = (i.face, i.used)

-- the number of one of these, above the last one before
abbrev pub is_next : (count : ℕ) → (last : Option ℕ) → ℕ → Bool
is_next count last n = nat_lt n count && rises_from last n

unfoldable pub import_form : ℕ → Form Import
import_form version = built import_of import_parts
    (pair (face version) (λ f. list (at_least 0) (λ before. number_where 4 (is_next (length f.items) (last_of before)))))

-- ---- signals: 2 signal or 3 error, name, argument words, result words, none of an error

abbrev pub number_of_kind : CodeKind → ℕ
number_of_kind Procedure = 1
number_of_kind Signal = 2
number_of_kind Error = 3

abbrev pub kind_of_number : ℕ → CodeKind
kind_of_number n = if n == 1 then Procedure else if n == 2 then Signal else Error

unfoldable pub signal_kind : Form CodeKind
signal_kind = built kind_of_number number_of_kind (ruled (number 1) (between 2 3) field.Kind)

abbrev pub may_give : CodeKind → (words : ℕ) → Bool
may_give Procedure words = true
may_give Signal words = true
may_give Error words = words == 0

abbrev pub signal_of : CodeKind × (List ℕ × (ℕ × ℕ)) → CodeSignal
signal_of p = record { kind = p.0; name = p.1.0; args = p.1.1.0; results = p.1.1.1 }

abbrev pub signal_parts : CodeSignal → CodeKind × (List ℕ × (ℕ × ℕ))
signal_parts s = (s.kind, (s.name, (s.args, s.results)))

unfoldable pub signal : Form CodeSignal
signal = built signal_of signal_parts (pair signal_kind (λ kind. pair name (λ _. pair u16 (λ _. length_where 2 (may_give kind)))))

-- ---- strings: a length of two bytes, and so many bytes

unfoldable pub text : Form (List ℕ)
text = led length (length_where 2 (λ n. nat_le n STRING_BYTES)) raw

-- ---- procedures: name, argument words, result words, frame, depth, code with its length, phrases

-- the first procedure is the body, which takes and gives nothing
abbrev pub may_have : List ProcedurePart → (words : ℕ) → Bool
may_have before words = nat_lt 0 (length before) || (words == 0)

-- the length in bytes, and instructions that fill it
unfoldable pub code : Form (List Instruction)
code = led (size_of_all bytes_of) (length_where 4 (at_least 1)) (filling bytes_of instruction)

abbrev pub procedure_of : List ℕ × (ℕ × (ℕ × (ℕ × (ℕ × (List Instruction × List Phrase))))) → ProcedurePart
procedure_of p = record { name = p.0; args = p.1.0; results = p.1.1.0; frame = p.1.1.1.0; depth = p.1.1.1.1.0; code = p.1.1.1.1.1.0; phrases = p.1.1.1.1.1.1 }

abbrev pub procedure_parts : ProcedurePart → List ℕ × (ℕ × (ℕ × (ℕ × (ℕ × (List Instruction × List Phrase)))))
procedure_parts p = (p.name, (p.args, (p.results, (p.frame, (p.depth, (p.code, p.phrases))))))

unfoldable pub procedure : List CodeSignal → List CodeLink → List ProcedurePart → Form ProcedurePart
procedure signals links before = built procedure_of procedure_parts
    (pair name (λ _.
    pair (length_where 2 (may_have before)) (λ args.
    pair (length_where 2 (may_have before)) (λ results.
    pair (length_where 2 (between (args + results) FRAME_WORDS)) (λ _.
    pair (length_where 4 (λ n. nat_le n STACK_WORDS)) (λ _.
    pair code (λ _.
    list (at_least 0) (λ _. phrase signals links))))))))

-- ---- exports: a face, and for some of its items, ascending, a procedure above 0 or a signal of the item's kind and sizes

-- one of these sizes
abbrev pub has_sizes : Item → (args results : ℕ) → Bool
has_sizes i args results = nat_eq args (words_of_fields i.takes) && nat_eq results (words_of_fields i.gives)

abbrev pub is_of_kind : ItemKind → CodeKind → Bool
is_of_kind item.Procedure Procedure = true
is_of_kind item.Signal Signal = true
is_of_kind item.Error Error = true
is_of_kind _ _ = false

abbrev pub procedure_gives : Item → Option ProcedurePart → Bool
procedure_gives i None = false
procedure_gives i (Some p) = has_sizes i p.args p.results

abbrev pub signal_gives : Item → Option CodeSignal → Bool
signal_gives i None = false
signal_gives i (Some s) = is_of_kind i.kind s.kind && has_sizes i s.args s.results

-- what a module gives under a number for an item of this kind
abbrev pub gives_as : ItemKind → List CodeSignal → List ProcedurePart → Item → ℕ → Bool
gives_as item.Procedure signals procedures i n = nat_lt 0 n && procedure_gives i (slice_get procedures n)
gives_as _ signals procedures i n = signal_gives i (slice_get signals n)

abbrev pub gives_item : List CodeSignal → List ProcedurePart → Option Item → ℕ → Bool
gives_item signals procedures None n = false
gives_item signals procedures (Some i) n = gives_as i.kind signals procedures i n

abbrev pub pair_of : ℕ × ℕ → Pair
pair_of p = record { item = p.0; number = p.1 }

abbrev pub pair_parts : Pair → ℕ × ℕ
pair_parts p = (p.item, p.number)

abbrev pub last_item : List Pair → Option ℕ
last_item before = option_map (λ (p : Pair). p.item) (last_of before)

unfoldable pub given : List CodeSignal → List ProcedurePart → List Item → List Pair → Form Pair
given signals procedures items before = built pair_of pair_parts
    (pair (number_where 4 (is_next (length items) (last_item before))) (λ k. number_where 4 (gives_item signals procedures (slice_get items k))))

abbrev pub export_of : Face × List Pair → Export
export_of p = record { face = p.0; given = p.1 }

abbrev pub export_parts : Export → Face × List Pair
export_parts e = (e.face, e.given)

unfoldable pub export_form : ℕ → List CodeSignal → List ProcedurePart → Form Export
export_form version signals procedures = built export_of export_parts
    (pair (face version) (λ f. list (at_least 0) (given signals procedures f.items)))

-- ---- modules: name, imports, globals, signals, strings, procedures, exports

abbrev pub module_of : List ℕ × (List Import × (ℕ × (List CodeSignal × (List (List ℕ) × (List ProcedurePart × List Export))))) → ModulePart
module_of p = record { name = p.0; imports = p.1.0; global_words = p.1.1.0; signals = p.1.1.1.0; strings = p.1.1.1.1.0; procedures = p.1.1.1.1.1.0; exports = p.1.1.1.1.1.1 }

abbrev pub module_parts : ModulePart → List ℕ × (List Import × (ℕ × (List CodeSignal × (List (List ℕ) × (List ProcedurePart × List Export)))))
module_parts m = (m.name, (m.imports, (m.global_words, (m.signals, (m.strings, (m.procedures, m.exports))))))

unfoldable pub module_form : ℕ → Form ModulePart
module_form version = built module_of module_parts
    (pair name (λ _.
    pair (list (at_least 0) (λ _. import_form version)) (λ imports.
    pair (length_where 2 (λ n. nat_le n GLOBAL_WORDS)) (λ _.
    pair (list (at_least 0) (λ _. signal)) (λ signals.
    pair (list (λ n. nat_le n DISTINCT_STRINGS) (λ _. text)) (λ _.
    pair (list (at_least 1) (procedure signals (link_codes imports))) (λ procedures.
    list (at_least 0) (λ _. export_form version signals procedures))))))))
