-- A configuration that has been gone through: each of its instances with what it is an instance of, and with the record that each import and each
-- export takes, in text order. Scopes and instances are made from it, once for each instance of it.
use Rattle.std.specs.Prelude.{ℕ, ◌+◌, List, [], ◌∷◌, ◌++◌, max}
use Rattle.cmesa_grammar.specs.Syntax.{Place}
use Rattle.cmesa_grammar.specs.declared.syntax.Heading.{Heading}

-- an instance, at its first token
pub record Part : Type 0 where
  pub name : List ℕ
  pub imports : List (List ℕ)
  pub exports : List (List ℕ)
  pub place : Place

mutual
  pub data Template : Type 0 where
    Gone : Heading → Parts → Template

  -- instances of modules, by the component's number, and of nested configurations
  pub data Parts : Type 0 where
    NoParts : Parts
    AndModule : Part → (component : ℕ) → Parts → Parts
    AndNested : Part → Template → Parts → Parts

unfoldable pub heading_in : Template → Heading
heading_in (Gone h ps) = h

unfoldable pub parts_in : Template → Parts
parts_in (Gone h ps) = ps

unfoldable pub instance_names : Parts → List (List ℕ)
instance_names NoParts = []
instance_names (AndModule p c ps) = p.name ∷ instance_names ps
instance_names (AndNested p t ps) = p.name ∷ instance_names ps

-- the records to which they export
unfoldable pub exported : Parts → List (List ℕ)
exported NoParts = []
exported (AndModule p c ps) = p.exports ++ exported ps
exported (AndNested p t ps) = p.exports ++ exported ps

-- how many instances of modules there will be
unfoldable mutual
  pub modules_of : Template → ℕ
  modules_of (Gone h ps) = modules_below ps

  pub modules_below : Parts → ℕ
  modules_below NoParts = 0
  modules_below (AndModule p c ps) = 1 + modules_below ps
  modules_below (AndNested p t ps) = modules_of t + modules_below ps

-- and how many of nested configurations, each with its scope
unfoldable mutual
  pub scopes_of : Template → ℕ
  scopes_of (Gone h ps) = scopes_below ps

  pub scopes_below : Parts → ℕ
  scopes_below NoParts = 0
  scopes_below (AndModule p c ps) = scopes_below ps
  scopes_below (AndNested p t ps) = 1 + scopes_of t + scopes_below ps

-- the most names of a path
unfoldable mutual
  pub depth_of : Template → ℕ
  depth_of (Gone h ps) = depth_below ps

  pub depth_below : Parts → ℕ
  depth_below NoParts = 0
  depth_below (AndModule p c ps) = max 1 (depth_below ps)
  depth_below (AndNested p t ps) = max (1 + depth_of t) (depth_below ps)
