-- The image that is linked from objects with files has a file, where its counts fit.
use Rattle.std.proofs.Common.{◌≡◌, ℕ, List, None, sym, subst}
use Rattle.std.specs.Prelude.{All}
use Rattle.std.specs.List.{AllZip}
use Rattle.mesa_types.specs.Typed.{Module}
use Rattle.mesa_types.specs.declared.faces.Shape.{Shape}
use Rattle.config_rules.specs.Resolves.{wants, first_bad}
use Rattle.config_rules.specs.Tree.{Agree, all_faces}
use Rattle.config_rules.specs.declared.tree.Tree.{Tree}
use Rattle.config_rules.proofs.Members.{mem_get}
use Rattle.linked_files.specs.bound_images.proofs.Elements.{all_by, all_mem}
use Rattle.linked_files.specs.bound_images.proofs.Kept.{kept_mem}
use Rattle.object_files.specs.declared.image.Image.{Image}
use Rattle.object_files.specs.declared.object.Object.{Object}
use Rattle.object_rules.specs.ModuleForms.{module_form}
use Rattle.object_rules.specs.Parts.{parts_of, IsWhole}
use Rattle.link_tables.specs.Linked.{kept, image_of}
use Rattle.linked_files.proofs.Images.{linked_images_fit}
use Rattle.linked_programs.specs.Laws.{IsOfShapes}
use Rattle.linked_programs.specs.Modules.{shapes_of}
use Rattle.linked_programs.specs.Objects.{AreObjectsOf}
use Rattle.linked_programs.proofs.Building.{link_tree, shapes_are}
use Rattle.linked_files.specs.spelled_trees.specs.Paths.{PathsAndRecords}
use Rattle.filed_images.specs.Images.{CanBeFiled}
use Rattle.program_files.specs.Objects.{HasFile}
use Rattle.program_files.proofs.Files.{all_first}

kept_whole : (t : Tree) (objects : List Object) (files : List (List ℕ)) → AllZip HasFile objects files → All IsWhole (kept t.instances 0 objects)
kept_whole t objects files h =
    all_by IsWhole (kept t.instances 0 objects) (λ k o e.
    all_mem IsWhole objects (all_first IsWhole (λ x f i. i.is_file.whole) objects files h) o
    (kept_mem t.instances 0 objects o (mem_get (kept t.instances 0 objects) k o e)))

linked : (t : Tree) (modules : List Module) (objects : List Object) (files : List (List ℕ)) → IsOfShapes (shapes_of modules) t → AreObjectsOf modules objects
    → first_bad (wants t) ≡ None → PathsAndRecords t → AllZip HasFile objects files → CanBeFiled (image_of t objects)
unfolding image_of
linked t modules objects files shapes are none named h = record {
  fits = λ counts.
      linked_images_fit t objects (record {
        tree = link_tree t modules objects are shapes;
        agree = subst (λ (ss : List Shape). Agree (all_faces ss)) (sym (shapes_are modules objects are)) shapes.agree;
        none_bad = none;
        fit = all_first (λ (o : Object). (module_form 2).fits (parts_of o)) (λ o f x. x.is_file.file.spells.fits.1) objects files h;
        spelled = record { named = named; wanted = counts.wanted; offered = counts.offered; started = counts.started };
      });
  whole = kept_whole t objects files h;
}

pub can_be_filed : (t : Tree) (modules : List Module) (objects : List Object) (files : List (List ℕ)) (image : Image) → IsOfShapes (shapes_of modules) t → AreObjectsOf modules objects
    → first_bad (wants t) ≡ None → PathsAndRecords t → AllZip HasFile objects files → image ≡ image_of t objects → CanBeFiled image
can_be_filed t modules objects files image shapes are none named h is = subst CanBeFiled (sym is) (linked t modules objects files shapes are none named h)
