-- The image that is linked from objects which came of files has a file, where its counts fit.
use Rattle.std.proofs.Common.{◌≡◌, List, All, None, sym, subst}
use Rattle.std.proofs.lemmas.List.Elements.{All-weaker}
use Rattle.config_rules.specs.Resolves.{wants, first_bad}
use Rattle.config_rules.specs.declared.tree.Tree.{Tree}
use Rattle.config_rules.proofs.Members.{mem_get}
use Rattle.linked_files.specs.bound_images.proofs.Elements.{all_by, all_mem}
use Rattle.linked_files.specs.bound_images.proofs.Kept.{kept_mem}
use Rattle.object_files.specs.declared.image.Image.{Image}
use Rattle.object_files.specs.declared.object.Object.{Object}
use Rattle.object_rules.specs.ModuleForms.{module_form}
use Rattle.object_rules.specs.Parts.{parts_of, IsWhole}
use Rattle.link_tables.specs.Linked.{kept, image_of}
use Rattle.link_tables.specs.Parts.{shapes_of}
use Rattle.linked_files.proofs.Images.{linked_images_fit}
use Rattle.linked_programs.specs.Laws.{IsOfShapes}
use Rattle.linked_files.specs.spelled_trees.specs.Paths.{PathsAndRecords}
use Rattle.filed_images.specs.Images.{CanBeFiled}
use Rattle.linked_objects.specs.Filed.{IsFiled}
use Rattle.linked_objects.proofs.Filed.{fits}

kept_whole : (t : Tree) (objects : List Object) → All IsFiled objects → All IsWhole (kept t.instances 0 objects)
kept_whole t objects h =
    all_by IsWhole (kept t.instances 0 objects) (λ k o e.
    all_mem IsWhole objects (All-weaker IsFiled IsWhole (λ x i. i.is_file.whole) objects h) o
    (kept_mem t.instances 0 objects o (mem_get (kept t.instances 0 objects) k o e)))

linked : (t : Tree) (objects : List Object) → IsOfShapes (shapes_of objects) t → All IsFiled objects → PathsAndRecords t → first_bad (wants t) ≡ None
    → CanBeFiled (image_of t objects)
unfolding image_of
linked t objects shapes h named none = record {
  fits = λ counts.
      linked_images_fit t objects (record {
        tree = shapes.tree;
        agree = shapes.agree;
        none_bad = none;
        fit = All-weaker IsFiled (λ (o : Object). (module_form 2).fits (parts_of o)) fits objects h;
        spelled = record { named = named; wanted = counts.wanted; offered = counts.offered; started = counts.started };
      });
  whole = kept_whole t objects h;
}

pub can_be_filed : (t : Tree) (objects : List Object) (image : Image) → IsOfShapes (shapes_of objects) t → All IsFiled objects → PathsAndRecords t
    → first_bad (wants t) ≡ None → image ≡ image_of t objects → CanBeFiled image
can_be_filed t objects image shapes h named none is = subst CanBeFiled (sym is) (linked t objects shapes h named none)
