-- The outermost scope of a tree, and by which record an import passes it (rule of this project).
use Rattle.std.specs.Prelude.{◌≡◌, ℕ, zero, suc, ◌<◌, List, length, Option, Some, None, slice_get}
use Rattle.mesa_types.specs.declared.faces.Import.{Import}
use Rattle.config_rules.specs.declared.tree.RecordPair.{RecordPair}
use Rattle.config_rules.specs.declared.tree.Tree.{Tree}
use Rattle.config_rules.specs.declared.tree.TreeInstance.{TreeInstance}
use Rattle.config_rules.specs.declared.tree.TreeScope.{TreeScope}
use Rattle.config_rules.specs.Exporters.{Spot, Step, Stays, Goes, Leaves, step}

-- the first scope is the outermost one, and no other is; it exports no record that it imports, and each instance is in a scope. A law says that so it is
-- in each tree that is made of a configuration
pub record HasOutermost (t : Tree) : Type 0 where
  pub inner : (k : ℕ) (s : TreeScope) → slice_get t.scopes (suc k) ≡ Some s → (n : ℕ) × (s.around ≡ Some n)
  pub apart : (s : TreeScope) → slice_get t.scopes 0 ≡ Some s → (a b : ℕ) (p q : RecordPair) → slice_get s.imports a ≡ Some p → slice_get s.exports b ≡ Some q
      → p.inside ≡ q.inside → ⊥
  pub scoped : (j : ℕ) (x : TreeInstance) → slice_get t.instances j ≡ Some x → x.scope < length t.scopes

unfoldable pub passed_by : (here : Spot) → Step → (Spot → Option (List ℕ)) → Option (List ℕ)
passed_by a Stays f = None
passed_by a (Goes b) f = f b
passed_by a Leaves f = Some a.record_name

-- the record that the outermost scope imports, where the import is looked up outward beyond that scope
unfoldable pub passed_within : (most : ℕ) → Tree → Spot → Option (List ℕ)
passed_within zero t a = None
passed_within (suc n) t a = passed_by a (step (λ s. s.imports) t a) (λ b. passed_within n t b)

abbrev pub passed : Tree → Spot → Option (List ℕ)
passed t a = passed_within (suc a.scope) t a

-- each import that passes the outermost scope passes it at the record of its interface's name
abbrev pub PassesByName : Tree → Type 0
PassesByName t = (j k : ℕ) (x : TreeInstance) (r : List ℕ) (m : Import) → slice_get t.instances j ≡ Some x → slice_get x.imports k ≡ Some r
    → slice_get x.shape.imports k ≡ Some m → (out : List ℕ) → passed t (record { scope = x.scope; record_name = r }) ≡ Some out → out ≡ m.face.name
