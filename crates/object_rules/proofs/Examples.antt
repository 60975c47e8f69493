-- Single files, read by the forms: the object N, whose body returns, its image, and some with a fault.
use Rattle.std.proofs.Common.{◌≡◌, ℕ, List, [], ◌∷◌, Ok, Err, take, drop, refl}
use Rattle.std.specs.Prelude.{codes, slice_set}
use Rattle.mesa_base.specs.declared.file_fault.Field.TheVariants as field
use Rattle.code_forms.specs.declared.instruction.Instruction.{Instruction}
use Rattle.code_forms.specs.declared.instruction.Instruction.TheVariants.{Return, CheckD}
use Rattle.file_forms.specs.declared.stopped.Stopped.TheVariants.{Cut, Bad}
use Rattle.file_forms.specs.Files.{versioned}
use Rattle.file_forms.specs.Forms.{Reading, read_each}
use Rattle.file_forms.specs.Names.{short_text, name}
use Rattle.object_files.specs.declared.image.Instance.{Instance}
use Rattle.object_rules.specs.Filling.{read_full}
use Rattle.object_rules.specs.ImageForms.{ImagePart, path, has_path, instance_form, link_table, link_tables, image_form}
use Rattle.object_rules.specs.Instructions.{sizes_of, with_operands, numbers, instruction}
use Rattle.object_rules.specs.ModuleForms.{code, procedure, module_form}
use Rattle.object_rules.specs.Parts.{ProcedurePart, ModulePart}

object_file : List ℕ
object_file =
    0x4D ∷ 0x4F ∷ 0x42 ∷ 0x01 ∷ 0x01 ∷ 0x4E ∷ 0x00 ∷ 0x00 ∷ 0x00 ∷ 0x00 ∷ 0x00 ∷ 0x00 ∷
    0x00 ∷ 0x00 ∷ 0x00 ∷ 0x00 ∷ 0x00 ∷ 0x00 ∷ 0x00 ∷ 0x00 ∷ 0x00 ∷ 0x00 ∷ 0x00 ∷ 0x01 ∷ 0x01 ∷ 0x4E ∷
    0x00 ∷ 0x00 ∷ 0x00 ∷ 0x00 ∷ 0x00 ∷ 0x00 ∷ 0x00 ∷ 0x00 ∷ 0x00 ∷ 0x00 ∷ 0x00 ∷ 0x00 ∷ 0x00 ∷ 0x01 ∷ 0x22 ∷
    0x00 ∷ 0x00 ∷ 0x00 ∷ 0x00 ∷ 0x00 ∷ 0x00 ∷ 0x00 ∷ 0x00 ∷ []

image_file : List ℕ
image_file =
    0x4D ∷ 0x49 ∷ 0x4D ∷ 0x01 ∷ 0x00 ∷ 0x00 ∷ 0x00 ∷ 0x01 ∷ 0x01 ∷ 0x4E ∷ 0x00 ∷ 0x00 ∷ 0x00 ∷ 0x00 ∷
    0x00 ∷ 0x00 ∷ 0x00 ∷ 0x00 ∷ 0x00 ∷ 0x00 ∷ 0x00 ∷ 0x00 ∷ 0x00 ∷ 0x00 ∷ 0x00 ∷ 0x00 ∷ 0x00 ∷ 0x01 ∷
    0x01 ∷ 0x4E ∷ 0x00 ∷ 0x00 ∷ 0x00 ∷ 0x00 ∷ 0x00 ∷ 0x00 ∷ 0x00 ∷ 0x00 ∷ 0x00 ∷ 0x00 ∷
    0x00 ∷ 0x00 ∷ 0x00 ∷ 0x01 ∷ 0x22 ∷ 0x00 ∷ 0x00 ∷ 0x00 ∷ 0x00 ∷ 0x00 ∷ 0x00 ∷ 0x00 ∷ 0x00 ∷
    0x00 ∷ 0x00 ∷ 0x00 ∷ 0x00 ∷ 0x00 ∷ 0x00 ∷ 0x00 ∷ 0x01 ∷ 0x01 ∷ 0x01 ∷ 0x4E ∷ 0x00 ∷ 0x00 ∷ 0x00 ∷ 0x00 ∷
    0x00 ∷ 0x00 ∷ 0x00 ∷ 0x00 ∷ 0x00 ∷ 0x00 ∷ 0x00 ∷ 0x01 ∷ 0x00 ∷ 0x00 ∷ 0x00 ∷ 0x00 ∷ []

body : ProcedurePart
body = record { name = codes "N"; args = 0; results = 0; frame = 0; depth = 0; code = Return ∷ []; phrases = [] }

the_module : ModulePart
the_module = record { name = codes "N"; imports = []; global_words = 0; signals = []; strings = []; procedures = body ∷ []; exports = [] }

-- that module, whose procedure has this code
with_code : List Instruction → ModulePart
with_code all = record the_module { procedures = record body { code = all } ∷ [] }

the_instance : Instance
the_instance = record { path = codes "N" ∷ []; «module» = 0 }

the_image : ImagePart
the_image = record { modules = the_module ∷ []; wanted = []; instances = the_instance ∷ []; links = [] ∷ []; offered = []; control = 0 ∷ [] }

-- what is read behind the letters
abbrev object_in : List ℕ → Reading (ℕ × ModulePart)
object_in bytes = (versioned module_form).read (drop 3 bytes)

abbrev image_in : List ℕ → Reading (ℕ × ImagePart)
image_in bytes = (versioned image_form).read (drop 3 bytes)

the_object : object_in object_file ≡ Ok ((1, the_module), [])
unfolding object_file image_file body the_module the_instance the_image short_text name path has_path instance_form link_table link_tables image_form sizes_of with_operands numbers instruction code procedure module_form read_each read_full
the_object = refl

whole_image : image_in image_file ≡ Ok ((1, the_image), [])
unfolding object_file image_file body the_module the_instance the_image short_text name path has_path instance_form link_table link_tables image_form sizes_of with_operands numbers instruction code procedure module_form read_each read_full
whole_image = refl

second_version : image_in (slice_set image_file 3 2) ≡ Ok ((2, the_image), [])
unfolding object_file image_file body the_module the_instance the_image short_text name path has_path instance_form link_table link_tables image_form sizes_of with_operands numbers instruction code procedure module_form read_each read_full
second_version = refl

third_version : image_in (slice_set image_file 3 3) ≡ Err (Bad field.Version 77)
unfolding object_file image_file body the_module the_instance the_image short_text name path has_path instance_form link_table link_tables image_form sizes_of with_operands numbers instruction code procedure module_form read_each read_full
third_version = refl

no_such_instance : image_in (slice_set image_file 79 1) ≡ Err (Bad field.Number 4)
unfolding object_file image_file body the_module the_instance the_image short_text name path has_path instance_form link_table link_tables image_form sizes_of with_operands numbers instruction code procedure module_form read_each read_full
no_such_instance = refl

no_such_module : image_in (slice_set image_file 67 1) ≡ Err (Bad field.Number 16)
unfolding object_file image_file body the_module the_instance the_image short_text name path has_path instance_form link_table link_tables image_form sizes_of with_operands numbers instruction code procedure module_form read_each read_full
no_such_module = refl

empty_path : image_in (slice_set image_file 61 0) ≡ Err (Bad field.Length 19)
unfolding object_file image_file body the_module the_instance the_image short_text name path has_path instance_form link_table link_tables image_form sizes_of with_operands numbers instruction code procedure module_form read_each read_full
empty_path = refl

no_opcode : image_in (slice_set image_file 44 0xFF) ≡ Err (Bad field.Opcode 36)
unfolding object_file image_file body the_module the_instance the_image short_text name path has_path instance_form link_table link_tables image_form sizes_of with_operands numbers instruction code procedure module_form read_each read_full
no_opcode = refl

last_opcode : object_in (slice_set object_file 40 0x3D) ≡ Ok ((1, with_code (CheckD ∷ [])), [])
unfolding with_code object_file image_file body the_module the_instance the_image short_text name path has_path instance_form link_table link_tables image_form sizes_of with_operands numbers instruction code procedure module_form read_each read_full
last_opcode = refl

past_last_opcode : object_in (slice_set object_file 40 0x3E) ≡ Err (Bad field.Opcode 9)
unfolding object_file image_file body the_module the_instance the_image short_text name path has_path instance_form link_table link_tables image_form sizes_of with_operands numbers instruction code procedure module_form read_each read_full
past_last_opcode = refl

instruction_is_cut : object_in (slice_set object_file 40 0x1A) ≡ Err (Bad field.Opcode 9)
unfolding object_file image_file body the_module the_instance the_image short_text name path has_path instance_form link_table link_tables image_form sizes_of with_operands numbers instruction code procedure module_form read_each read_full
instruction_is_cut = refl

file_ends : object_in (take 48 object_file) ≡ Err Cut
unfolding object_file image_file body the_module the_instance the_image short_text name path has_path instance_form link_table link_tables image_form sizes_of with_operands numbers instruction code procedure module_form read_each read_full
file_ends = refl

no_code : object_in (slice_set object_file 39 0) ≡ Err (Bad field.Length 13)
unfolding object_file image_file body the_module the_instance the_image short_text name path has_path instance_form link_table link_tables image_form sizes_of with_operands numbers instruction code procedure module_form read_each read_full
no_code = refl
