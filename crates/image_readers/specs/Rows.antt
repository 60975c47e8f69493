-- The rows of an image as the code holds them.
use Rattle.std.specs.Prelude.{◌≡◌, ℕ, List, length, map, nat_le}
use Rattle.code_forms.specs.Ranges.{KeepsRanges}
use Rattle.code_forms.specs.declared.bad_code.BadCode.{BadCode}
use Rattle.file_forms.specs.Forms.{Form, pair, list, at_least}
use Rattle.held_objects.specs.declared.rows.ModuleRows.{ModuleRows}
use Rattle.image_readers.specs.declared.image_rows.ImageRows.{ImageRows}
use Rattle.image_readers.specs.declared.image_rows.ImageTail.{ImageTail}
use Rattle.interface_records.specs.declared.wanted.Wanted.{Wanted as Entry}
use Rattle.mesa_base.specs.declared.limits.TheConstants.{INSTANCES}
use Rattle.object_files.specs.declared.image.Instance.{Instance}
use Rattle.object_files.specs.declared.image.Link.{Link}
use Rattle.object_files.specs.declared.image.Offer.{Offer}
use Rattle.object_readers.specs.Rows.{module_part}
use Rattle.object_rules.specs.ImageFiles.{HasModuleFault}
use Rattle.object_rules.specs.ImageForms.{ImagePart, image_of, instance_form, link_tables, offer}
use Rattle.object_rules.specs.Numbers.{number_where, is_below}
use Rattle.object_rules.specs.Parts.{ModulePart}
use Rattle.object_rules.specs.declared.object_fault.ObjectFault.{ObjectFault}
use Rattle.object_rules.specs.declared.object_fault.ObjectFault.TheVariants.{Code}

abbrev pub tail_parts : ImageTail → List Instance × (List (List Link) × (List Offer × List ℕ))
tail_parts t = (t.instances, (t.links, (t.offered, t.control)))

-- what stands behind the modules of an image and what it wants
unfoldable pub tail_form : List ModulePart → List Entry → Form (List Instance × (List (List Link) × (List Offer × List ℕ)))
tail_form modules wanted =
    pair (list (λ n. nat_le n INSTANCES) (instance_form modules)) (λ instances.
    pair (link_tables modules wanted instances) (λ _.
    pair (list (at_least 0) (λ _. offer modules instances)) (λ _.
    list (at_least 0) (λ _. number_where 4 (is_below (length instances))))))

-- the parts of an image that the rows say
abbrev pub image_part : ImageRows → ImagePart
image_part r = image_of (map module_part r.head.modules, (r.head.wanted, tail_parts r.tail))

-- counts and sizes of a module are in range
abbrev pub AreInRange : ModuleRows → Type 0
AreInRange m = KeepsRanges m.body.global_words m.body.signals m.body.strings m.body.links m.body.procedures

-- the first fault of the code of modules
pub record HasOneFault (modules : List ModulePart) (fault : ObjectFault) : Type 0 where
  pub number : ℕ
  pub bad : BadCode
  pub is : fault ≡ Code number bad.procedure bad.fault
  pub first : HasModuleFault modules number bad
