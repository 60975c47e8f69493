-- What a text comes to can be translated and written, from the laws of checked texts.
use Rattle.std.proofs.Common.{◌≡◌, ◌<◌, List, [], ◌∷◌, map, Ok, subst, arith}
use Rattle.std.specs.Prelude.{IfOk}
use Rattle.syntax_trees.specs.PlainSyntax.{syntax}
use Rattle.mesa_types.specs.Nodes.{nodes}
use Rattle.mesa_types.specs.Sound.{Sound}
use Rattle.mesa_types.specs.Typed as t
use Rattle.interface_records.specs.declared.interface.Interface as records
use Rattle.interface_records.specs.PlainTypes.{PlainInterface, plain_interface}
use Rattle.interface_records.specs.Spelled.{InterfaceCanBeSpelled, InterfacesCanBeSpelled, ShapeCanBeSpelled}
use Rattle.check_rules.specs.Interfaces.{InterfacesInOrder}
use Rattle.check_rules.specs.Laws.{NamedThroughout, SpelledInterfacesAreInOrder, shape_of}
use Rattle.check_rules.specs.Steps.{Checked}
use Rattle.checking_laws.specs.Laws.{UsedItemsAreFew}
use Rattle.checking_laws.specs.UsedItems.{used_items}
use Rattle.written_trees.specs.Laws.{CheckedTextsAreSound, CheckedTextsCanBeSpelled, CheckedTextsHaveNames}
use Rattle.checked_texts.specs.Laws.{ReadModulesCanBeKept, DefinedInterfacesCanBeSpelled}
use Rattle.checked_texts.proofs.InOrder.{shape_in_order}
use Rattle.checked_texts.proofs.Sizes.{few}

all_in_order : SpelledInterfacesAreInOrder → (is : List PlainInterface) → InterfacesCanBeSpelled is → InterfacesInOrder is
unfolding InterfacesCanBeSpelled InterfacesInOrder
all_in_order law [] h = tt
all_in_order law (i ∷ is) h = (law i h.0, all_in_order law is h.1)

at_ok : {A : Type 0} (P : A → Type 0) (r : Checked A) (a : A) → r ≡ Ok a → IfOk r P → P a
at_ok {A = A} P r a e h = subst (λ (q : Checked A). IfOk q P) e h

pub modules : CheckedTextsAreSound → CheckedTextsCanBeSpelled → CheckedTextsHaveNames → SpelledInterfacesAreInOrder → UsedItemsAreFew → ReadModulesCanBeKept
modules sound spelled named order used text is m given h =
    let shape = at_ok (λ (x : t.Module). ShapeCanBeSpelled (shape_of x)) _ m h.is_checked (spelled.modules text h.tree is h.begins.is_tree given) in
    let fewer : used_items m.imports < nodes m = at_ok (λ (x : t.Module). used_items x.imports < nodes x) _ m h.is_checked (used (syntax h.tree) is) in
    record {
      sound = at_ok Sound _ m h.is_checked (sound.with_interfaces text h.tree is h.begins.is_tree (all_in_order order (map plain_interface is) given));
      few = few text h.tree is m h.begins.is_tree h.is_checked;
      few_items = omega (arith, fewer);
      shape = shape;
      named = at_ok NamedThroughout _ m h.is_checked (named text h.tree is h.begins.is_tree);
      in_order = shape_in_order (shape_of m) shape;
    }

pub interfaces : CheckedTextsCanBeSpelled → DefinedInterfacesCanBeSpelled
interfaces spelled text stamp is i small given h =
    at_ok (λ (x : records.Interface). InterfaceCanBeSpelled (plain_interface x)) _ i h.is_checked
    (spelled.interfaces text h.tree stamp is h.begins.is_tree small given)
