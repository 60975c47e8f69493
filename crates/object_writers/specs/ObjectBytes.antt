-- The bytes of objects and images, and what makes them fit: names, faces, counts.
use Rattle.std.specs.Prelude.{ℕ, ◌<◌, ◌^◌, List, ◌++◌, length, All, codes}
use Rattle.mesa_types.specs.declared.faces.Export.{Export}
use Rattle.mesa_types.specs.declared.faces.Import.{Import}
use Rattle.mesa_types.specs.declared.faces.Pair.{Pair}
use Rattle.code_forms.specs.Ranges.{AreFew}
use Rattle.interface_records.specs.declared.wanted.Wanted.{Wanted as Entry}
use Rattle.file_forms.specs.Files.{versioned}
use Rattle.file_forms.specs.Forms.{number}
use Rattle.file_forms.specs.Names.{name}
use Rattle.interface_writers.specs.face_rules.specs.FaceForms.{face, item}
use Rattle.object_files.specs.declared.image.Image.{Image}
use Rattle.object_files.specs.declared.image.Instance.{Instance}
use Rattle.object_files.specs.declared.image.Link.{Link}
use Rattle.object_files.specs.declared.image.Link.TheVariants.{Wanted, To}
use Rattle.object_files.specs.declared.image.Offer.{Offer}
use Rattle.object_files.specs.declared.object.Object.{Object}
use Rattle.object_rules.specs.ImageForms.{parts_of_image, image_form}
use Rattle.object_rules.specs.ModuleForms.{module_form}
use Rattle.object_rules.specs.Parts.{parts_of}
use Rattle.object_writers.specs.CodeBytes.{signal_bytes, SignalFits, text_bytes, TextFits, procedure_bytes, ProcedureFits}
use Rattle.object_writers.specs.Spelling.{spell_all, spell_list, u8_bytes, u16_bytes, u32_bytes}

-- ---- modules

abbrev pub import_bytes : Import → List ℕ
import_bytes i = (face 2).spell i.face ++ spell_list u32_bytes i.used

pub record ImportFits (i : Import) : Type 0 where
  pub face_fits : (face 2).fits i.face
  pub few : AreFew i.used

abbrev pub pair_bytes : Pair → List ℕ
pair_bytes p = u32_bytes p.item ++ u32_bytes p.number

abbrev pub export_bytes : Export → List ℕ
export_bytes e = (face 2).spell e.face ++ spell_list pair_bytes e.given

pub record ExportFits (e : Export) : Type 0 where
  pub face_fits : (face 2).fits e.face
  pub few : AreFew e.given

abbrev pub module_bytes : Object → List ℕ
module_bytes o =
    name.spell o.shape.name ++ (spell_list import_bytes o.shape.imports ++ (u16_bytes o.code.global_words ++ (spell_list signal_bytes o.code.signals
    ++ (spell_list text_bytes o.code.strings ++ (spell_list procedure_bytes o.code.procedures ++ spell_list export_bytes o.shape.exports)))))

pub record ModuleFits (o : Object) : Type 0 where
  pub named : name.fits o.shape.name
  pub few_imports : AreFew o.shape.imports
  pub imports : All ImportFits o.shape.imports
  pub few_signals : AreFew o.code.signals
  pub signals : All SignalFits o.code.signals
  pub few_strings : AreFew o.code.strings
  pub strings : All TextFits o.code.strings
  pub few_procedures : AreFew o.code.procedures
  pub procedures : All ProcedureFits o.code.procedures
  pub few_exports : AreFew o.shape.exports
  pub exports : All ExportFits o.shape.exports

-- ---- images

abbrev pub entry_bytes : Entry → List ℕ
entry_bytes e = name.spell e.face ++ ((number 6).spell e.stamp ++ (item 2).spell e.item)

pub record EntryFits (e : Entry) : Type 0 where
  pub named : name.fits e.face
  pub item_fits : (item 2).fits e.item

abbrev pub instance_bytes : Instance → List ℕ
instance_bytes x = u8_bytes (length x.path) ++ (spell_all name.spell x.path ++ u32_bytes x.«module»)

pub record InstanceFits (x : Instance) : Type 0 where
  pub short : length x.path < 2 ^ 8
  pub each : All name.fits x.path

abbrev pub link_bytes : Link → List ℕ
link_bytes (Wanted n) = u8_bytes 1 ++ u32_bytes n
link_bytes (To j n) = u8_bytes 2 ++ (u32_bytes j ++ u32_bytes n)

abbrev pub table_bytes : List Link → List ℕ
table_bytes links = spell_all link_bytes links

abbrev pub offer_bytes : Offer → List ℕ
offer_bytes o = name.spell o.name ++ (u32_bytes o.instance ++ u32_bytes o.export)

abbrev pub OfferFits : Offer → Type 0
OfferFits o = name.fits o.name

abbrev pub image_bytes : Image → List ℕ
image_bytes i =
    spell_list module_bytes i.modules ++ (spell_list entry_bytes i.wanted ++ (spell_list instance_bytes i.instances
    ++ (spell_all table_bytes i.links ++ (spell_list offer_bytes i.offered ++ spell_list u32_bytes i.control))))

pub record ImageFits (i : Image) : Type 0 where
  pub few_modules : AreFew i.modules
  pub modules : All ModuleFits i.modules
  pub few_wanted : AreFew i.wanted
  pub wanted : All EntryFits i.wanted
  pub few_instances : AreFew i.instances
  pub instances : All InstanceFits i.instances
  pub few_offered : AreFew i.offered
  pub offered : All OfferFits i.offered
  pub few_control : AreFew i.control

-- ---- whole files: three letters, the version, and the value

abbrev pub object_file : Object → List ℕ
object_file o = codes "MOB" ++ (versioned module_form).spell (2, parts_of o)

abbrev pub image_file : Image → List ℕ
image_file i = codes "MIM" ++ (versioned image_form).spell (2, parts_of_image i)
