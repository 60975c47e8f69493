-- Single listings, by computing.
use Rattle.std.proofs.Common.{◌≡◌, ℕ, true, List, [], ◌∷◌, ◌++◌, flat_map, refl, ap, ◌∙◌}
use Rattle.std.specs.Fmt.{digits}
use Rattle.std.specs.Prelude.{codes, decimal, None}
use Rattle.code_forms.specs.declared.instruction.Instruction.TheVariants as i
use Rattle.code_forms.specs.declared.module_code.CodeProcedure.{CodeProcedure}
use Rattle.code_forms.specs.declared.module_code.Label.TheVariants as label
use Rattle.interface_records.specs.Faces.{procedure, error, unnamed}
use Rattle.interface_records.specs.declared.interface.Interface.{Interface}
use Rattle.mesa_types.specs.declared.faces.Export.{Export}
use Rattle.mesa_types.specs.declared.faces.Import.{Import}
use Rattle.mesa_types.specs.declared.types.TypeTree.{TypeTree}
use Rattle.mesa_types.specs.declared.types.TypeTree.TheVariants as v
use Rattle.object_files.specs.declared.image.Image.{Image}
use Rattle.object_files.specs.declared.image.Link.TheVariants.{Wanted, To}
use Rattle.listing_rules.specs.Lines.{between, line, offset_text}
use Rattle.listing_rules.specs.Types.{Printed, signed, bounds_text, word_text, printed, type_text}
use Rattle.listing_rules.specs.Interfaces.{constant_line, interface_listing}
use Rattle.listing_rules.specs.Code.{operand_texts, entry_line, procedure_lines}
use Rattle.listing_rules.specs.Images.{bound_lines, instances_from}
use Rattle.listing_rules.specs.Objects.{import_lines, export_lines}
use Rattle.listing_rules.proofs.TypeLaws.{integer_printed, cardinal_printed, long_integer_printed, long_cardinal_printed, character_printed, subrange_printed, array_printed, made_field_printed, cardinal_value, subrange_value, long_integer_value, long_cardinal_value}

-- lines, each with its line feed
lines : List (List ℕ) → List ℕ
lines texts = flat_map (λ text. text ++ codes "\n") texts

number : decimal 10203 ≡ codes "10203"
unfolding digits
number = refl

negative : word_text true 0xFFFB ≡ codes "-5"
unfolding digits
negative = refl

offset : offset_text 0xABCDE ≡ codes "000ABCDE"
unfolding offset_text
offset = refl

-- ---- types

-- INTEGER [-5..9]
small : TypeTree
small = v.Subrange v.Integer 0xFFFB 9

small_printed : printed small ≡ signed (codes "INTEGER [-5..9]")
unfolding digits small
small_printed =
    subrange_printed v.Integer 0xFFFB 9
    ∙ ap (λ (p : Printed). record { text = p.text ++ bounds_text p.is_signed 0xFFFB 9; is_signed = p.is_signed }) integer_printed

the_subrange : type_text small ≡ codes "INTEGER [-5..9]"
the_subrange = ap (λ (p : Printed). p.text) small_printed

the_array : type_text (v.Array small v.Character) ≡ codes "ARRAY INTEGER [-5..9] OF CHARACTER"
the_array =
    ap (λ (p : Printed). p.text) (array_printed small v.Character)
    ∙ ap (λ (t : List ℕ). codes "ARRAY " ++ (t ++ (codes " OF " ++ type_text v.Character))) the_subrange
    ∙ ap (λ (p : Printed). codes "ARRAY INTEGER [-5..9] OF " ++ p.text) character_printed

a_constant : constant_line (record { name = codes "Least"; kind = small; value = 0xFFFB }) ≡ lines (codes "CONSTANT Least INTEGER [-5..9] -5" ∷ [])
unfolding digits lines between line small
a_constant =
    ap (λ (t : List ℕ). line (codes "CONSTANT" ∷ codes "Least" ∷ type_text small ∷ t ∷ [])) (subrange_value v.Integer 0xFFFB 9 0xFFFB)
    ∙ ap (λ (p : Printed). line (codes "CONSTANT" ∷ codes "Least" ∷ p.text ∷ word_text p.is_signed 0xFFFB ∷ [])) small_printed

a_long_constant : constant_line (record { name = codes "Far"; kind = v.LongInteger; value = 0xFFFFFFFB }) ≡ lines (codes "CONSTANT Far LONG INTEGER -5" ∷ [])
unfolding digits lines between line
a_long_constant =
    ap (λ (t : List ℕ). line (codes "CONSTANT" ∷ codes "Far" ∷ type_text v.LongInteger ∷ t ∷ [])) (long_integer_value 0xFFFFFFFB)
    ∙ ap (λ (p : Printed). line (codes "CONSTANT" ∷ codes "Far" ∷ p.text ∷ codes "-5" ∷ [])) long_integer_printed

an_unsigned_long : constant_line (record { name = codes "Far"; kind = v.LongCardinal; value = 0xFFFFFFFB }) ≡ lines (codes "CONSTANT Far LONG CARDINAL 4294967291" ∷ [])
unfolding digits lines between line
an_unsigned_long =
    ap (λ (t : List ℕ). line (codes "CONSTANT" ∷ codes "Far" ∷ type_text v.LongCardinal ∷ t ∷ [])) (long_cardinal_value 0xFFFFFFFB)
    ∙ ap (λ (p : Printed). line (codes "CONSTANT" ∷ codes "Far" ∷ p.text ∷ word_text p.is_signed 0xFFFFFFFB ∷ [])) long_cardinal_printed

-- ---- interfaces

-- One: DEFINITIONS = BEGIN Get: PROCEDURE RETURNS [INTEGER]; END. under the stamp 00000000000A
one : Interface
one = record { face = record { name = codes "One"; stamp = 10; items = procedure (codes "Get") [] (unnamed v.Integer) ∷ [] }; constants = []; types = [] }

the_first_interface : interface_listing one ≡ lines (codes "INTERFACE One 00000000000A" ∷ codes "PROCEDURE Get [] RETURNS [INTEGER]" ∷ [])
unfolding one lines between line
the_first_interface = rw (made_field_printed None v.Integer, integer_printed) refl

-- Two: DEFINITIONS = BEGIN Full: ERROR; Size: CARDINAL = 3; END. under the stamp 00000000000B
two : Interface
two = record {
  face = record { name = codes "Two"; stamp = 11; items = error (codes "Full") ∷ [] };
  constants = record { name = codes "Size"; kind = v.Cardinal; value = 3 } ∷ [];
  types = [];
}

the_second_interface : interface_listing two ≡ lines (codes "INTERFACE Two 00000000000B" ∷ codes "ERROR Full []" ∷ codes "CONSTANT Size CARDINAL 3" ∷ [])
unfolding digits two lines between line
the_second_interface = rw (cardinal_value 3, cardinal_printed) refl

-- ---- code, imports and exports

-- a procedure that calls, catches a signal of its module and an imported one, and leaves the arm
caught : CodeProcedure
caught = record {
  name = codes "Try";
  args = 1;
  results = 0;
  frame = 3;
  depth = 2;
  code = record { at = 0; depth = 0; instruction = i.CallLink 4 } ∷ record { at = 5; depth = 0; instruction = i.Return } ∷ record { at = 6; depth = 0; instruction = i.Leave 1 5 } ∷ [];
  phrases = record { from = 0; to = 5; arms = record { labels = label.Own 0 ∷ label.Link 1 ∷ []; slot = 1; words = 2; start = 6; end = 13 } ∷ [] } ∷ [];
}

the_procedure : procedure_lines caught ≡ lines (
    codes "CODE Try 1 0 3 2" ∷ codes "00000000 CallLink 4" ∷ codes "00000005 Return" ∷ codes "00000006 Leave 1 00000005"
    ∷ codes "PHRASE 00000000 00000005" ∷ codes "ARM 00000006 0000000D 1 2 own 0 link 1" ∷ [])
unfolding digits caught lines between line offset_text operand_texts
the_procedure = refl

-- an instruction without operands
the_sum : entry_line (record { at = 16; depth = 4; instruction = i.AddD }) ≡ lines (codes "00000010 AddD" ∷ [])
unfolding lines between line offset_text operand_texts
the_sum = refl

an_import : Import
an_import = record { face = record { name = codes "Two"; stamp = 11; items = error (codes "Full") ∷ error (codes "Empty") ∷ [] }; used = 1 ∷ [] }

the_import : import_lines an_import ≡ lines (codes "IMPORT Two 00000000000B" ∷ codes "USES Empty" ∷ [])
unfolding an_import lines between line
the_import = refl

an_export : Export
an_export = record { face = record { name = codes "Two"; stamp = 11; items = error (codes "Full") ∷ [] }; given = record { item = 0; number = 7 } ∷ [] }

the_export : export_lines an_export ≡ lines (codes "EXPORT Two 00000000000B" ∷ codes "GIVES Full 7" ∷ [])
unfolding digits an_export lines between line
the_export = refl

-- ---- images

-- instances A.B and C of module 0 and 1, with a link to what is wanted and one to instance 1
bound : Image
bound = record {
  modules = [];
  wanted = [];
  instances = record { path = codes "A" ∷ codes "B" ∷ []; «module» = 0 } ∷ record { path = codes "C" ∷ []; «module» = 1 } ∷ [];
  links = (Wanted 3 ∷ To 1 2 ∷ []) ∷ [] ∷ [];
  offered = record { name = codes "R"; instance = 1; export = 0 } ∷ [];
  control = 0 ∷ [];
}

the_instances : bound_lines bound ≡ lines (
    codes "INSTANCE A.B 0" ∷ codes "LINK wanted 3" ∷ codes "LINK C 2" ∷ codes "INSTANCE C 1" ∷ codes "OFFERED R C 0" ∷ codes "CONTROL A.B" ∷ [])
unfolding digits bound instances_from lines between line
the_instances = refl
