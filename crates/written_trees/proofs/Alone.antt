-- What checking gives of a text with the built-in interface alone, from the laws of checking.
use Rattle.std.proofs.Common.{◌≡◌, refl, ℕ, zero, suc, ◌*◌, ◌≤◌, map, Ok, Err, arith}
use Rattle.std.proofs.lemmas.List.Elements.{All-contains, All-map, All-replicate, All-weaker}
use Rattle.std.specs.Prelude.{IfOk}
use Rattle.std.specs.List.{All, Contains}
use Rattle.mesa_types.specs.declared.faces.Face.{Face}
use Rattle.mesa_types.specs.declared.faces.Import.{Import}
use Rattle.mesa_types.specs.Nodes.{nodes}
use Rattle.syntax_trees.specs.PlainSyntax.{syntax}
use Rattle.mesa_types.specs.Sound.{Sound}
use Rattle.interface_records.specs.declared.interface.Interface.{Interface}
use Rattle.interface_records.specs.Faces.{iodefs}
use Rattle.check_rules.specs.CheckedModule.{checked}
use Rattle.check_rules.specs.Interfaces.{InterfacesInOrder}
use Rattle.check_rules.specs.Laws.{ShapesAreGiven, faces}
use Rattle.interface_records.specs.PlainTypes.{plain_interface}
use Rattle.check_rules.specs.Steps.{Checked}
use Rattle.check_rules.specs.Typed as t
use Rattle.typing_laws.proofs.KeptModule.{few_nodes}
use Rattle.written_trees.specs.Alone.{StandsAlone, built_in, CheckedTextsStandAlone}
use Rattle.written_trees.proofs.InOrder as order
use Rattle.written_trees.proofs.LawProofs.{checked_texts_are_sound}
use Rattle.written_trees.proofs.Sizes.{of_text_size}

each_in_order : (count : ℕ) → InterfacesInOrder (map plain_interface (built_in count))
unfolding InterfacesInOrder
each_in_order zero = tt
each_in_order (suc n) = ((order.built_in).0, each_in_order n)

abbrev IsBuiltIn : Face → Type 0
IsBuiltIn f = f ≡ iodefs.face

each_face : (count : ℕ) → All IsBuiltIn (faces (built_in count))
each_face count = All-map IsBuiltIn (λ (i : Interface). i.face) (built_in count) (All-replicate (λ (i : Interface). IsBuiltIn i.face) count iodefs refl)

together : (r : Checked t.Module) (size count : ℕ) → size ≤ 2097152 → IfOk r Sound → IfOk r (λ (m : t.Module). nodes m ≤ 2 * size)
    → IfOk r (λ (m : t.Module). All (λ (i : Import). Contains (faces (built_in count)) i.face) m.imports) → IfOk r StandsAlone
together (Ok m) size count small sound few given = record {
  sound = sound;
  few = omega (arith, small, few);
  host = All-weaker (λ (i : Import). Contains (faces (built_in count)) i.face) (λ (i : Import). IsBuiltIn i.face)
      (λ i h. All-contains IsBuiltIn (faces (built_in count)) i.face (each_face count) h) m.imports given;
}
together (Err f) size count small sound few given = tt

pub stand_alone : ShapesAreGiven → CheckedTextsStandAlone
stand_alone given text x count h =
    together (checked (syntax x) (built_in count)) _ count (of_text_size text x h)
    (checked_texts_are_sound.with_interfaces text x (built_in count) h (each_in_order count))
    (few_nodes (syntax x) (built_in count))
    (given.imports (syntax x) (built_in count))
