-- Declarations of the typed tree, with their types in the words of the definition.
use Rattle.std.proofs.Common.{◌≡◌, List, sym, ap, ◌∙◌}
use Rattle.mesa_types.specs.Plain.{expr, stmt}
use Rattle.check_rules.specs.Typed as t
use Rattle.mesa_types.specs.declared.types.TypeTree.{TypeTree}
use Rattle.mesa_types.specs.declared.typed_tree.TypedExpr.{TypedExpr}
use Rattle.mesa_types.specs.declared.typed_tree.TypedStmt.TheVariants as tree
use Rattle.mesa_types.specs.declared.typed_tree.Condition.TheFolds.{fold-roll-TypedStmt}
use Rattle.interface_records.specs.PlainTypes.{kind_of, plain}
use Rattle.check_state.proofs.KindLaws.{kind_plain}

pub declare_form : (hs : List t.Home) (k : TypeTree) → stmt (tree.Declare hs k) ≡ t.Declare hs (kind_of (plain k))
declare_form hs k = ap stmt (sym (tree.rolls-Declare hs k)) ∙ rw fold-roll-TypedStmt (ap (t.Declare hs) (kind_plain k))

pub declare_as_form : (hs : List t.Home) (k : TypeTree) (e : TypedExpr) → stmt (tree.DeclareAs hs k e) ≡ t.DeclareAs hs (kind_of (plain k)) (expr e)
declare_as_form hs k e = ap stmt (sym (tree.rolls-DeclareAs hs k e)) ∙ rw fold-roll-TypedStmt (ap (λ j. t.DeclareAs hs j (expr e)) (kind_plain k))
