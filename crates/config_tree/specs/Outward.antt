-- What the indexes of the scopes' lists show, and a step outward by them.
use Rattle.std.specs.Prelude.{ℕ, List, map, Option, Some, None, slice_get}
use Rattle.check_scopes.specs.Shows.{listed}
use Rattle.check_scopes.specs.declared.index.Index.{Index}
use Rattle.config_rules.specs.declared.tree.RecordPair.{RecordPair}
use Rattle.config_rules.specs.declared.tree.Tree.{Tree}
use Rattle.config_rules.specs.declared.tree.TreeScope.{TreeScope}
use Rattle.config_rules.specs.Exporters.{Spot, Step, outside_of, stepped}
use Rattle.config_rules.specs.Exporters as rules
use Rattle.config_tree.specs.declared.outward.Onward.{Onward}
use Rattle.config_tree.specs.declared.outward.Onward.TheVariants.{Stays, Goes, Leaves}

abbrev pub exported : TreeScope → List RecordPair
exported s = s.exports

abbrev pub imported : TreeScope → List RecordPair
imported s = s.imports

-- what stands around for each record of a scope, if anything
abbrev pub Outside : Type 0
Outside = List ℕ → Option (List ℕ)

-- that of each scope, by its exports or by its imports
abbrev pub outsides : (TreeScope → List RecordPair) → Tree → List Outside
outsides list t = map (λ (s : TreeScope). outside_of (list s)) t.scopes

abbrev pub shown : List (Index (List ℕ)) → List Outside
shown records = map listed records

unfoldable pub step_shown : Onward → Step
step_shown Stays = rules.Stays
step_shown (Goes n r) = rules.Goes (record { scope = n; record_name = r.now })
step_shown Leaves = rules.Leaves

unfoldable pub step_by : List ℕ → Option TreeScope → Option Outside → Step
step_by r None o = rules.Stays
step_by r (Some s) None = rules.Stays
step_by r (Some s) (Some f) = stepped s.around (f r)

-- a step outward, where the outside of each scope is given
abbrev pub step_among : List Outside → Tree → Spot → Step
step_among fs t a = step_by a.record_name (slice_get t.scopes a.scope) (slice_get fs a.scope)
