-- The program that a tree makes of the typed modules of its components: the instances in tree order, each with what every item that it uses
-- stands for, and the instances that CONTROL starts (Language Manual, chapter 7; what an item stands for is a rule of this project).
use Rattle.std.specs.Prelude.{ℕ, List, map, Option, Some, None, slice_get}
use Rattle.mesa_types.specs.Typed.{Module}
use Rattle.mesa_types.specs.declared.faces.Face.{Face}
use Rattle.mesa_types.specs.declared.faces.Import.{Import}
use Rattle.mesa_types.specs.declared.faces.Item.{Item}
use Rattle.mesa_types.specs.declared.faces.ItemKind.{ItemKind}
use Rattle.mesa_types.specs.declared.faces.ItemKind.TheVariants as kind
use Rattle.mesa_types.specs.declared.faces.Shape.{Shape}
use Rattle.source_meaning.specs.Program.{Target, ToProcedure, ToSignal, SignalOf, Unnamed, Instance, Program, or_else, no_module, host_of, host_target}
use Rattle.config_rules.specs.declared.tree.Tree.{Tree}
use Rattle.config_rules.specs.declared.tree.TreeInstance.{TreeInstance}
use Rattle.config_rules.specs.Exporters.{Spot}
use Rattle.config_rules.specs.Resolves.{Resolution, Left, Bound, NoExporter, Twice, OtherInterface, OtherStamp, resolved}

-- what a configuration knows of a module
abbrev pub shape_of : Module → Shape
shape_of m = record { name = m.name; imports = m.imports; exports = m.exports }

-- what an instance gives under a number for an item of this kind
unfoldable pub given_as : ItemKind → (instance number : ℕ) → Target
given_as kind.Procedure j n = ToProcedure j n
given_as kind.Signal j n = ToSignal (SignalOf j n)
given_as kind.Error j n = ToSignal (SignalOf j n)

-- an item that is left to the loader stands for the host's of its name; no lawful program has an item that is bad
unfoldable pub target_by : Item → Resolution → Target
target_by i Left = host_target (host_of i.name)
target_by i (Bound j n) = given_as i.kind j n
target_by i NoExporter = ToSignal Unnamed
target_by i (Twice j k) = ToSignal Unnamed
target_by i (OtherInterface j) = ToSignal Unnamed
target_by i (OtherStamp s) = ToSignal Unnamed

-- an item of a face that the record of a scope imports
unfoldable pub target_at : Tree → Spot → Face → Option Item → Target
target_at t a face None = ToSignal Unnamed
target_at t a face (Some i) = target_by i (resolved t a face i.name)

-- by the record and the import of one number
unfoldable pub target_in : Tree → (scope : ℕ) → Option (List ℕ) → Option Import → (item : ℕ) → Target
target_in t scope None m n = ToSignal Unnamed
target_in t scope (Some r) None n = ToSignal Unnamed
target_in t scope (Some r) (Some m) n = target_at t (record { scope = scope; record_name = r }) m.face (slice_get m.face.items n)

-- what an item stands for, by the number of the import and that of the item in its face
unfoldable pub target : Tree → TreeInstance → (import item : ℕ) → Target
target t x k n = target_in t x.scope (slice_get x.imports k) (slice_get x.shape.imports k) n

abbrev pub instance_for : Tree → List Module → TreeInstance → Instance
instance_for t modules x = record {
  path = x.path;
  code = or_else no_module (slice_get modules x.component);
  links = target t x;
}

-- the modules are those of the components, in their order
unfoldable pub program_of : Tree → List Module → Program
program_of t modules = record { instances = map (instance_for t modules) t.instances; control = t.control }
