-- From what the binder and the machine answer to what is made, or why it is not.
use Rattle.std.proofs.Common.{◌≡◌, ◌≢◌, ⊎_elim, List, All, sym, ap, subst}
use Rattle.std.specs.Prelude.{Result, Ok, Err, IfOk, IfErr, OnOk}
use Rattle.std.proofs.lemmas.List.Elements.{All-map, All-weaker, All-contains}
use Rattle.mesa_types.specs.Typed.{Module}
use Rattle.object_files.specs.declared.image.Image.{Image}
use Rattle.config_rules.specs.InOrder.{ShapeInOrder, TreeIn}
use Rattle.config_rules.specs.Resolves.{wants}
use Rattle.config_rules.specs.declared.tree.Tree.{Tree}
use Rattle.built_runs.specs.link_tables.specs.Linked.{image_of, wanted_of}
use Rattle.built_runs.specs.import_binder.specs.Bindings.{IsRefused}
use Rattle.built_runs.specs.import_binder.specs.InOrder.{IsInOrder}
use Rattle.built_runs.specs.import_binder.specs.declared.fault.BindFault.{BindFault}
use Rattle.built_runs.specs.import_binder.specs.declared.fault.BindFault.TheVariants as bind
use Rattle.interface_records.specs.Hosts.{IsHostItem}
use Rattle.built_runs.specs.machine_ready.specs.Hosts.{IsFault}
use Rattle.built_runs.specs.machine_ready.specs.Order.{ImageInOrder}
use Rattle.built_runs.specs.machine_ready.specs.declared.fault.ReadyFault.{ReadyFault}
use Rattle.built_runs.specs.agreement_rules.specs.Stands.{WantsTheHost}
use Rattle.built_runs.specs.bound_images.specs.Programs.{shape_of}
use Rattle.built_runs.specs.bound_images.proofs.Running.{images_are_in_order}
use Rattle.built_runs.specs.Linked.{IsLinkedFrom}
use Rattle.linked_programs.specs.Modules.{AllCanBeLinked, CanBeLinked, shapes_of}
use Rattle.linked_programs.specs.Programs.{IsMachineOf, IsOfFirstBad}
use Rattle.linked_programs.proofs.InOrder.{in_order}

-- the shapes of all modules are in order
pub shapes_in_order : (modules : List Module) → AllCanBeLinked modules → All ShapeInOrder (shapes_of modules)
shapes_in_order modules h = All-map ShapeInOrder shape_of modules (All-weaker CanBeLinked (λ m. ShapeInOrder (shape_of m)) in_order modules h)

-- so the tree is one that can be bound
pub can_be_bound : (modules : List Module) (t : Tree) → AllCanBeLinked modules → TreeIn (shapes_of modules) t → IsInOrder t
can_be_bound modules t h tree = record {
  shapes = shapes_of modules;
  each = λ s at. All-contains ShapeInOrder (shapes_of modules) s (shapes_in_order modules h) at;
  tree = tree;
}

-- what the binder refuses is refused by its first bad item
pub refused : (t : Tree) (fault : BindFault) → IsRefused t (wants t) fault → fault ≢ bind.Memory → IsOfFirstBad t fault
refused t fault h other = ⊎_elim (λ e. absurd (other e)) (λ x. record { want = x.0; first = x.1; its = x.2 }) h

pub all_refused : {A : Type 0} (t : Tree) (r : Result A BindFault) → IfErr r (IsRefused t (wants t)) → IfErr r (λ fault. fault ≢ bind.Memory → IsOfFirstBad t fault)
all_refused t (Ok a) h = tt
all_refused t (Err fault) h = refused t fault h

-- ---- the machine of a linked image

-- what a linked image wants is what is left to the loader
pub wanted_is : (t : Tree) (modules : List Module) (image : Image) → IsLinkedFrom t modules image → image.wanted ≡ wanted_of (wants t)
unfolding image_of
wanted_is t modules image (objects, built) = ap (λ (i : Image). i.wanted) built.linked

pub image_in_order : (t : Tree) (modules : List Module) (image : Image) → IsLinkedFrom t modules image → ImageInOrder image
image_in_order t modules image (objects, built) = images_are_in_order t modules objects image built

machine_from : (t : Tree) (modules : List Module) (image machine : Image) → IsLinkedFrom t modules image → machine ≡ image → All IsHostItem image.wanted
    → IsMachineOf t modules machine
machine_from t modules image machine from is host = record {
  linked = subst (IsLinkedFrom t modules) (sym is) from;
  host = subst WantsTheHost (sym is) host;
  wanted = subst (All IsHostItem) (wanted_is t modules image from) host;
}

pub all_from : {E : Type 0} (t : Tree) (modules : List Module) (image : Image) (r : Result Image E) → IsLinkedFrom t modules image → IfOk r (λ machine. machine ≡ image)
    → OnOk r (All IsHostItem image.wanted) → IfOk r (IsMachineOf t modules)
all_from t modules image (Ok machine) from is host = machine_from t modules image machine from is host
all_from t modules image (Err e) from is host = tt

-- what is not made ready is refused by what the tree leaves to the loader
pub unready : {A : Type 0} (t : Tree) (modules : List Module) (image : Image) (r : Result A ReadyFault) → IsLinkedFrom t modules image → IfErr r (IsFault image.wanted)
    → IfErr r (IsFault (wanted_of (wants t)))
unready t modules image (Ok a) from h = tt
unready t modules image (Err fault) from h = subst (λ ws. IsFault ws fault) (wanted_is t modules image from) h
