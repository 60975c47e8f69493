-- The scopes, the instances and the CONTROL list that a configuration makes, in tree order: depth first, in text order.
use Rattle.std.specs.Prelude.{ℕ, ◌+◌, Bool, false, ◌||◌, List, [], ◌∷◌, ◌++◌, flat_map, nat_eq, bytes_eq, Option, Some, None, slice_get, if◌then◌else◌}
use Rattle.mesa_types.specs.declared.faces.Shape.{Shape}
use Rattle.cmesa_grammar.specs.Syntax.{Identifier}
use Rattle.cmesa_grammar.specs.declared.syntax.Heading.{Heading}
use Rattle.config_rules.specs.Components.{names_of}
use Rattle.config_rules.specs.Template.{Part, Template, Gone, Parts, NoParts, AndModule, AndNested, heading_in, modules_of, scopes_of}
use Rattle.config_rules.specs.Through.{Module}
use Rattle.config_rules.specs.declared.tree.RecordPair.{RecordPair}
use Rattle.config_rules.specs.declared.tree.TreeScope.{TreeScope}
use Rattle.config_rules.specs.declared.tree.TreeInstance.{TreeInstance}
use Rattle.config_rules.specs.declared.tree.Tree.{Tree}

unfoldable pub pairs : (inside outside : List (List ℕ)) → List RecordPair
pairs [] _ = []
pairs _ [] = []
pairs (x ∷ xs) (y ∷ ys) = record { inside = x; outside = y } ∷ pairs xs ys

-- the scope of an instance of a nested configuration
abbrev pub scope_for : (around : ℕ) → Part → Heading → TreeScope
scope_for around p h = record {
  around = Some around;
  imports = pairs (names_of h.imports) p.imports;
  exports = pairs (names_of h.exports) p.exports;
}

abbrev pub outermost : Heading → TreeScope
outermost h = record {
  around = None;
  imports = pairs (names_of h.imports) (names_of h.imports);
  exports = pairs (names_of h.exports) (names_of h.exports);
}

-- the scopes inside the scope `around`, the first of which has the number `next`
unfoldable mutual
  pub scopes_in : (around next : ℕ) → Template → List TreeScope
  scopes_in around next (Gone h ps) = inner_scopes around next ps

  pub inner_scopes : (around next : ℕ) → Parts → List TreeScope
  inner_scopes around next NoParts = []
  inner_scopes around next (AndModule p c ps) = inner_scopes around next ps
  inner_scopes around next (AndNested p t ps) =
      scope_for around p (heading_in t) ∷ scopes_in next (next + 1) t ++ inner_scopes around (next + 1 + scopes_of t) ps

unfoldable pub no_shape : Shape
no_shape = record { name = []; imports = []; exports = [] }

unfoldable pub shape_in : Option Module → Shape
shape_in None = no_shape
shape_in (Some m) = m.shape

abbrev pub shape_of : List Module → ℕ → Shape
shape_of modules n = shape_in (slice_get modules n)

-- the instances of modules in the scope `scope`, under this path; the scopes inside it are numbered from `next`
unfoldable mutual
  pub instances_in : List Module → (path : List (List ℕ)) → (scope next : ℕ) → Template → List TreeInstance
  instances_in modules path scope next (Gone h ps) = inner_instances modules path scope next ps

  pub inner_instances : List Module → (path : List (List ℕ)) → (scope next : ℕ) → Parts → List TreeInstance
  inner_instances modules path scope next NoParts = []
  inner_instances modules path scope next (AndModule p c ps) =
      record { path = path ++ p.name ∷ []; component = c; scope = scope; shape = shape_of modules c; imports = p.imports; exports = p.exports }
      ∷ inner_instances modules path scope next ps
  inner_instances modules path scope next (AndNested p t ps) =
      instances_in modules (path ++ p.name ∷ []) next (next + 1) t ++ inner_instances modules path scope (next + 1 + scopes_of t) ps

-- what a name of CONTROL starts
pub record Starts : Type 0 where
  pub name : List ℕ
  pub instances : List ℕ

unfoldable pub started_by : List Starts → List ℕ → List ℕ
started_by [] name = []
started_by (s ∷ ss) name = if bytes_eq s.name name then s.instances else started_by ss name

unfoldable pub is_in : ℕ → List ℕ → Bool
is_in n [] = false
is_in n (m ∷ ms) = nat_eq n m || is_in n ms

-- each once, at its first place
unfoldable pub once : (before : List ℕ) → List ℕ → List ℕ
once before [] = []
once before (n ∷ ns) = if is_in n before then once before ns else n ∷ once (n ∷ before) ns

-- a module's instance starts itself, a nested configuration's its own CONTROL list; instances are numbered from `next`
unfoldable mutual
  pub control_of : (next : ℕ) → Template → List ℕ
  control_of next (Gone h ps) = once [] (flat_map (λ (i : Identifier). started_by (starts next ps) i.name) h.control)

  pub starts : (next : ℕ) → Parts → List Starts
  starts next NoParts = []
  starts next (AndModule p c ps) = record { name = p.name; instances = next ∷ [] } ∷ starts (next + 1) ps
  starts next (AndNested p t ps) = record { name = p.name; instances = control_of next t } ∷ starts (next + modules_of t) ps

unfoldable pub grown : List Module → Template → Tree
grown modules t = record {
  scopes = outermost (heading_in t) ∷ scopes_in 0 1 t;
  instances = instances_in modules [] 0 1 t;
  control = control_of 0 t;
}
