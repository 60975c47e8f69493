-- What the links of each instance are bound to (Language Manual, chapter 7).
use Rattle.std.specs.Prelude.{List, map}
use Rattle.config_rules.specs.Resolves.{Resolution, Left, Bound, NoExporter, Twice, OtherInterface, OtherStamp, Want, wants_in}
use Rattle.config_rules.specs.declared.tree.Binding.{Binding}
use Rattle.config_rules.specs.declared.tree.Binding.TheVariants.{Left as ToLoader, To}
use Rattle.config_rules.specs.declared.tree.Tree.{Tree}
use Rattle.config_rules.specs.declared.tree.TreeInstance.{TreeInstance}

-- a bad item is bound to nothing: where there is one, nothing is linked
unfoldable pub binding_of : Resolution → Binding
binding_of Left = ToLoader
binding_of (Bound j n) = To j n
binding_of NoExporter = ToLoader
binding_of (Twice j k) = ToLoader
binding_of (OtherInterface j) = ToLoader
binding_of (OtherStamp s) = ToLoader

-- one for each item that the instance uses, in the order of its links
abbrev pub bindings_in : Tree → TreeInstance → List Binding
bindings_in t x = map (λ (w : Want). binding_of w.answer) (wants_in t x)

abbrev pub bindings_of : Tree → List (List Binding)
bindings_of t = map (bindings_in t) t.instances
