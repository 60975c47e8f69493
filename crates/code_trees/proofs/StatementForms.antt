-- What each form of a statement of the code is in the plain twin.
use Rattle.std.proofs.Common.{◌≡◌, refl, sym, ap, ◌∙◌, ℕ, List, map, Bool}
use Rattle.mesa_base.specs.Chain.{chain}
use Rattle.mesa_types.specs.Plain.{case, exit, expr, exprs, interval, kind_of, loop, phrase, stmt, stmts, suffix, target}
use Rattle.mesa_types.specs.Typed as t
use Rattle.mesa_types.specs.declared.typed_parts.Base.{Base}
use Rattle.mesa_types.specs.declared.typed_parts.Given.{Given}
use Rattle.mesa_types.specs.declared.typed_parts.Home.{Home}
use Rattle.mesa_types.specs.declared.types.TypeTree.{TypeTree}
use Rattle.mesa_types.specs.declared.typed_tree.Case.{Case}
use Rattle.mesa_types.specs.declared.typed_tree.Exit.{Exit}
use Rattle.mesa_types.specs.declared.typed_tree.Interval.{Interval}
use Rattle.mesa_types.specs.declared.typed_tree.Loop.{Loop}
use Rattle.mesa_types.specs.declared.typed_tree.Phrase.{Phrase}
use Rattle.mesa_types.specs.declared.typed_tree.Suffix.{Suffix}
use Rattle.mesa_types.specs.declared.typed_tree.Target.{Target}
use Rattle.mesa_types.specs.declared.typed_tree.TypedExpr.{TypedExpr}
use Rattle.mesa_types.specs.declared.typed_tree.TypedStmt.{TypedStmt}
use Rattle.mesa_types.specs.declared.typed_tree.TypedStmt.TheVariants as v
use Rattle.mesa_types.specs.declared.typed_tree.Condition.TheFolds.{fold-roll-TypedStmt}

pub declare_as_is : (hs : List Home) (k : TypeTree) (e : TypedExpr) → stmt (v.DeclareAs hs k e) ≡ t.DeclareAs hs (kind_of k) (expr e)
declare_as_is hs k e = ap stmt (sym (v.rolls-DeclareAs hs k e)) ∙ rw fold-roll-TypedStmt refl

pub assign_is : (h : Home) (s : List Suffix) (e : TypedExpr) → stmt (v.Assign h s e) ≡ t.Assign h (chain (map suffix s) t.NoSuffix) (expr e)
assign_is h s e = ap stmt (sym (v.rolls-Assign h s e)) ∙ rw fold-roll-TypedStmt refl

pub extract_is : (of_record : Bool) (ts : List Target) (e : TypedExpr) → stmt (v.Extract of_record ts e) ≡ t.Extract of_record (chain (map target ts) t.NoTargets) (expr e)
extract_is of_record ts e = ap stmt (sym (v.rolls-Extract of_record ts e)) ∙ rw fold-roll-TypedStmt refl

pub if_is : (e : TypedExpr) (s u : TypedStmt) → stmt (v.If e s u) ≡ t.If (expr e) (stmt s) (stmt u)
if_is e s u = ap stmt (sym (v.rolls-If e s u)) ∙ rw fold-roll-TypedStmt refl

pub select_is : (e : TypedExpr) (cs : List Case) (s : TypedStmt) → stmt (v.Select e cs s) ≡ t.Select (expr e) (chain (map case cs) (t.Otherwise (stmt s)))
select_is e cs s = ap stmt (sym (v.rolls-Select e cs s)) ∙ rw fold-roll-TypedStmt refl

pub select_long_is : (e : TypedExpr) (cs : List Case) (s : TypedStmt)
    → stmt (v.SelectLong e cs s) ≡ t.SelectLong (expr e) (chain (map case cs) (t.Otherwise (stmt s)))
select_long_is e cs s = ap stmt (sym (v.rolls-SelectLong e cs s)) ∙ rw fold-roll-TypedStmt refl

pub block_is : (p : Phrase) (ss : List TypedStmt) (es : List Exit) → stmt (v.Block p ss es) ≡ t.Block (phrase p) (stmts (map stmt ss)) (chain (map exit es) t.NoExits)
block_is p ss es = ap stmt (sym (v.rolls-Block p ss es)) ∙ rw fold-roll-TypedStmt refl

pub for_is : (g : Given) (down : Bool) (b : Base) (i : Interval) (l : Loop) → stmt (v.For g down b i l) ≡ t.For g down b (interval i) (loop l)
for_is g down b i l = ap stmt (sym (v.rolls-For g down b i l)) ∙ rw fold-roll-TypedStmt refl

pub return_is : (arms first : ℕ) (places : List ℕ) (es : List TypedExpr) → stmt (v.ReturnWith arms first places es) ≡ t.ReturnWith arms first places (exprs (map expr es))
return_is arms first places es = ap stmt (sym (v.rolls-ReturnWith arms first places es)) ∙ rw fold-roll-TypedStmt refl

pub resume_is : (places : List ℕ) (es : List TypedExpr) → stmt (v.Resume places es) ≡ t.Resume places (exprs (map expr es))
resume_is places es = ap stmt (sym (v.rolls-Resume places es)) ∙ rw fold-roll-TypedStmt refl
