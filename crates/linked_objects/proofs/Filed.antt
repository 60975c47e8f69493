-- Objects that came of files: version 2 can spell them, and their shapes are in order.
use Rattle.std.proofs.Common.{◌≡◌, List, All, sym, subst}
use Rattle.std.proofs.lemmas.List.Elements.{All-contains, All-map, All-weaker}
use Rattle.mesa_types.specs.declared.faces.Shape.{Shape}
use Rattle.object_files.specs.declared.object.Object.{Object}
use Rattle.object_rules.specs.ModuleForms.{module_form}
use Rattle.object_rules.specs.Parts.{parts_of}
use Rattle.config_rules.specs.InOrder.{ShapeInOrder}
use Rattle.link_tables.specs.Parts.{shapes_of}
use Rattle.linked_files.specs.read_files.proofs.Files.{objects_of_files_are_in_order}
use Rattle.linked_objects.specs.Filed.{IsFiled}
use Rattle.linked_objects.specs.Laws.{FiledTreesAreInOrder}
use Rattle.linked_objects.proofs.Versions.{versions_fit_the_second}

pub fits : (o : Object) → IsFiled o → (module_form 2).fits (parts_of o)
fits o h = versions_fit_the_second h.version (parts_of o) h.is_file.file.spells.fits.1

in_order : (o : Object) → IsFiled o → ShapeInOrder o.shape
in_order o h = objects_of_files_are_in_order h.version o h.bytes h.is_file

shapes_in_order : (objects : List Object) → All IsFiled objects → All ShapeInOrder (shapes_of objects)
shapes_in_order objects h = All-map ShapeInOrder (λ (o : Object). o.shape) objects (All-weaker IsFiled (λ o. ShapeInOrder o.shape) in_order objects h)

-- so are copies of them
pub all_in_order : (objects : List Object) (shapes : List Shape) → shapes ≡ shapes_of objects → All IsFiled objects → All ShapeInOrder shapes
all_in_order objects shapes is h = subst (All ShapeInOrder) (sym is) (shapes_in_order objects h)

pub filed_trees_are_in_order : FiledTreesAreInOrder
filed_trees_are_in_order t objects of_shapes h = record {
  shapes = shapes_of objects;
  each = λ s at. All-contains ShapeInOrder (shapes_of objects) s (shapes_in_order objects h) at;
  tree = of_shapes.tree;
}
