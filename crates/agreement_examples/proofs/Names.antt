-- An image that wants a host's item under other names of its parameters: what a link is bound to, and what the host has, go by the types.
use Rattle.std.specs.Prelude.{◌≡◌, ℕ, List, [], ◌∷◌, Some, codes}
use Rattle.std.proofs.Common.{refl, sym, ap, ◌∙◌, zero, suc, arith}
use Rattle.mesa_types.specs.Types.{types_in}
use Rattle.mesa_types.specs.declared.faces.Import.{Import}
use Rattle.mesa_types.specs.declared.faces.Item.{Item}
use Rattle.mesa_types.specs.declared.types.FieldType.{FieldType, out-roll-FieldType}
use Rattle.mesa_types.specs.declared.types.TypeTree.{TypeTree}
use Rattle.mesa_types.specs.declared.types.TypeTree.TheOpen.{FieldType-F}
use Rattle.mesa_types.specs.declared.types.TypeTree.TheVariants.{Character}
use Rattle.interface_records.specs.Faces.{parameter, procedure, iodefs}
use Rattle.interface_records.specs.Hosts.{SameItem}
use Rattle.object_files.specs.declared.image.Image.{Image}
use Rattle.agreement_rules.specs.Stands.{IsWanted, WantsTheHost}

-- WriteChar: PROCEDURE [c: CHARACTER], and as another module saw it: WriteChar: PROCEDURE [letter: CHARACTER]
abbrev write_char : List ℕ → Item
write_char name = procedure (codes "WriteChar") (parameter name Character) []

abbrev image : Image
image = record {
  modules = [];
  wanted = record { face = codes "IODefs"; stamp = 1; item = write_char (codes "letter") } ∷ [];
  instances = [];
  links = [];
  offered = [];
  control = [];
}

abbrev import : Import
import = record { face = iodefs.face; used = 0 ∷ [] }

takes_one : (name : List ℕ) → types_in (parameter name Character) ≡ Character ∷ []
takes_one name = ap (λ (f : FieldType-F TypeTree FieldType). f.kind ∷ []) (out-roll-FieldType (record { name = Some name; kind = Character }))

same_item : SameItem (write_char (codes "letter")) (write_char (codes "c"))
same_item = (refl, (refl, takes_one (codes "letter") ∙ sym (takes_one (codes "c")), refl))

-- it is the entry for the item under its own names
is_wanted : IsWanted image import (write_char (codes "c")) 0
is_wanted = record { entry = record { face = codes "IODefs"; stamp = 1; item = write_char (codes "letter") }; is_there = refl; face = refl; stamp = refl; its_item = same_item }

-- and the host has it
wants_the_host : WantsTheHost image
wants_the_host zero d l = (refl, refl, (0, write_char (codes "c"), omega arith, refl, same_item))
wants_the_host (suc k) d l = absurd (omega (arith, l))
