-- What is counted so far and what is still to come are all; the last of some parts; the hidden words of a target, and of the cases of a SELECT.
use Rattle.std.proofs.Common.{◌≡◌, refl, sym, ap, ◌∙◌, ℕ, suc, ◌+◌, ◌-◌, ◌≤◌, ◌<◌, List, [], ◌∷◌, length, get_or, map, arith}
use Rattle.std.specs.Prelude.{min}
use Rattle.mesa_base.specs.Chain.{chain}
use Rattle.mesa_types.specs.Counts.{hidden, hidden_cases, hidden_expr, hidden_suffixes, hidden_targets, hidden_tests, last_words}
use Rattle.mesa_types.specs.Plain.{case, expr, stmt, suffix, target, target_by, test}
use Rattle.mesa_types.specs.Typed as t
use Rattle.mesa_types.specs.declared.typed_parts.Conversion.{Conversion}
use Rattle.mesa_types.specs.declared.typed_parts.Conversion.TheVariants.{Kept, Widened, Narrowed, InCommon}
use Rattle.mesa_types.specs.declared.typed_parts.Home.{Home}
use Rattle.mesa_types.specs.declared.typed_parts.Part.{Part}
use Rattle.mesa_types.specs.declared.typed_parts.Range.{Range}
use Rattle.mesa_types.specs.declared.typed_tree.Case.{Case}
use Rattle.mesa_types.specs.declared.typed_tree.Target.{Target}
use Rattle.mesa_types.specs.declared.typed_tree.TypedExpr.{TypedExpr}
use Rattle.mesa_types.specs.declared.typed_tree.TypedStmt.{TypedStmt}
use Rattle.mesa_types.specs.declared.typed_tree.TypedStmt.TheVariants as v
use Rattle.mesa_types.specs.declared.typed_tree.Condition.TheFolds.{fold_out-Case, fold_out-Target, fold-roll-TypedStmt}

abbrev pub Counted : (words rest all : ℕ) → Type 0
Counted words rest all = (min (words + rest) 18446744073709551615 ≡ min all 18446744073709551615) × (words ≤ 18446744073709551615)

pub last_at : (ps : List Part) (d : Part) → 0 < length ps → (get_or ps (length ps - 1) d).words ≡ last_words ps
unfolding last_words
last_at [] d h = let no : ⊥ = omega arith in absurd no
last_at (p ∷ []) d h = refl
last_at (p ∷ q ∷ qs) d h =
    let one : length (p ∷ q ∷ qs) - 1 ≡ suc (length qs) = omega arith in
    let rest : length (q ∷ qs) - 1 ≡ length qs = omega arith in
    ap (λ n. (get_or (p ∷ q ∷ qs) n d).words) one ∙ ap (λ n. (get_or (q ∷ qs) n d).words) (sym rest) ∙ last_at (q ∷ qs) d (omega arith)

pub case_is : (c : Case) (cs : t.Cases) → case c cs ≡ t.AndCase (chain (map test c.tests) t.NoTests) (stmt c.body) cs
case_is c cs = rw fold_out-Case refl

-- a target has those of its suffixes, whether it converts what it takes or checks it
pub hidden_given : (c : Conversion) (r : Range) (part : Part) (h : Home) (s : t.Suffixes) (ts : t.Targets)
    → hidden_targets (target_by c r part h s ts) ≡ hidden_suffixes s + hidden_targets ts
unfolding hidden
hidden_given Kept r part h s ts = refl
hidden_given (Widened from to) r part h s ts = refl
hidden_given (Narrowed from to q) r part h s ts = refl
hidden_given InCommon r part h s ts = refl

pub hidden_target : (x : Target) (ts : t.Targets)
    → hidden_targets (target x ts) ≡ hidden_suffixes (chain (map suffix x.suffixes) t.NoSuffix) + hidden_targets ts
hidden_target x ts = rw fold_out-Target (hidden_given x.conversion x.check x.part x.home (chain (map suffix x.suffixes) t.NoSuffix) ts)

-- the last case has no test
pub hidden_last : (cs : List Case) (s : t.Stmt)
    → hidden_cases (chain (map case cs) (t.Otherwise s)) ≡ hidden_cases (chain (map case cs) (t.Otherwise t.Null)) + hidden s
unfolding hidden
hidden_last [] s = omega arith
hidden_last (c ∷ cs) s =
    let long : hidden_cases (case c (chain (map case cs) (t.Otherwise s)))
    ≡ hidden_tests (chain (map test c.tests) t.NoTests) + hidden (stmt c.body) + hidden_cases (chain (map case cs) (t.Otherwise s))
    = ap hidden_cases (case_is c (chain (map case cs) (t.Otherwise s))) in
    let short : hidden_cases (case c (chain (map case cs) (t.Otherwise t.Null)))
    ≡ hidden_tests (chain (map test c.tests) t.NoTests) + hidden (stmt c.body) + hidden_cases (chain (map case cs) (t.Otherwise t.Null))
    = ap hidden_cases (case_is c (chain (map case cs) (t.Otherwise t.Null))) in
    omega (arith, hidden_last cs s)

select_is : (e : TypedExpr) (cs : List Case) (s : TypedStmt) → stmt (v.Select e cs s) ≡ t.Select (expr e) (chain (map case cs) (t.Otherwise (stmt s)))
select_is e cs s = ap stmt (sym (v.rolls-Select e cs s)) ∙ rw fold-roll-TypedStmt refl

select_long_is : (e : TypedExpr) (cs : List Case) (s : TypedStmt)
    → stmt (v.SelectLong e cs s) ≡ t.SelectLong (expr e) (chain (map case cs) (t.Otherwise (stmt s)))
select_long_is e cs s = ap stmt (sym (v.rolls-SelectLong e cs s)) ∙ rw fold-roll-TypedStmt refl

pub select_hidden : (x : TypedStmt) (e : TypedExpr) (cs : List Case) (s : TypedStmt) (read_cs : List Case) (read_s : TypedStmt)
    → x ≡ v.Select e cs s → read_cs ≡ cs → read_s ≡ s
    → hidden (stmt x) ≡ 1 + hidden_expr (expr e) + hidden_cases (chain (map case read_cs) (t.Otherwise t.Null)) + hidden (stmt read_s)
unfolding hidden
select_hidden x e cs s read_cs read_s is is_cs is_s =
    let whole : hidden (stmt x) ≡ 1 + hidden_expr (expr e) + hidden_cases (chain (map case cs) (t.Otherwise (stmt s)))
    = ap (λ y. hidden (stmt y)) is ∙ ap hidden (select_is e cs s) in
    let cases : hidden_cases (chain (map case read_cs) (t.Otherwise t.Null)) ≡ hidden_cases (chain (map case cs) (t.Otherwise t.Null))
    = ap (λ l. hidden_cases (chain (map case l) (t.Otherwise t.Null))) is_cs in
    let last : hidden (stmt read_s) ≡ hidden (stmt s) = ap (λ y. hidden (stmt y)) is_s in
    omega (arith, hidden_last cs (stmt s))

pub select_long_hidden : (x : TypedStmt) (e : TypedExpr) (cs : List Case) (s : TypedStmt) (read_cs : List Case) (read_s : TypedStmt)
    → x ≡ v.SelectLong e cs s → read_cs ≡ cs → read_s ≡ s
    → hidden (stmt x) ≡ 2 + hidden_expr (expr e) + hidden_cases (chain (map case read_cs) (t.Otherwise t.Null)) + hidden (stmt read_s)
unfolding hidden
select_long_hidden x e cs s read_cs read_s is is_cs is_s =
    let whole : hidden (stmt x) ≡ 2 + hidden_expr (expr e) + hidden_cases (chain (map case cs) (t.Otherwise (stmt s)))
    = ap (λ y. hidden (stmt y)) is ∙ ap hidden (select_long_is e cs s) in
    let cases : hidden_cases (chain (map case read_cs) (t.Otherwise t.Null)) ≡ hidden_cases (chain (map case cs) (t.Otherwise t.Null))
    = ap (λ l. hidden_cases (chain (map case l) (t.Otherwise t.Null))) is_cs in
    let last : hidden (stmt read_s) ≡ hidden (stmt s) = ap (λ y. hidden (stmt y)) is_s in
    omega (arith, hidden_last cs (stmt s))
