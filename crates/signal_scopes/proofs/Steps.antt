-- What the walk does at a catch phrase, and what is told of a statement whose parts it reads one by one.
use Rattle.std.proofs.Common.{◌≡◌, ◌⊎◌, inl, inr, ℕ, List, [], ◌∷◌, ◌++◌, length, map, refl, sym, ap, ◌∙◌, append_assoc}
use Rattle.std.specs.Prelude.{Bool, slice_set, IfOk, Result}
use Rattle.std.proofs.lemmas.Result.{IfOk-equal}
use Rattle.std.proofs.Math.Seq.{set-append_seam}
use Rattle.std.proofs.lemmas.List.{map-set, map-append, length-map}
use Rattle.mesa_base.specs.Chain.{chain}
use Rattle.mesa_types.specs.Plain.{arm, case, exit, expr, exprs, interval, loop, phrase, stmt, stmts, suffix, target, target_by, condition_step, phrase_step, suffix_step, test_step, expr_step, stmt_step, arm_step, case_step, exit_step, interval_step, loop_step, operation_step, target_step}
use Rattle.mesa_types.specs.Typed as t
use Rattle.mesa_types.specs.declared.typed_parts.Base.{Base}
use Rattle.mesa_types.specs.declared.typed_parts.Conversion.{Conversion}
use Rattle.mesa_types.specs.declared.typed_parts.Conversion.TheVariants.{Kept, Widened, Narrowed, InCommon}
use Rattle.mesa_types.specs.declared.typed_parts.Given.{Given}
use Rattle.mesa_types.specs.declared.typed_parts.Home.{Home}
use Rattle.mesa_types.specs.declared.typed_parts.Part.{Part}
use Rattle.mesa_types.specs.declared.typed_parts.Range.{Range}
use Rattle.mesa_types.specs.declared.typed_tree.Arm.{Arm}
use Rattle.mesa_types.specs.declared.typed_tree.Case.{Case}
use Rattle.mesa_types.specs.declared.typed_tree.Exit.{Exit}
use Rattle.mesa_types.specs.declared.typed_tree.Interval.{Interval}
use Rattle.mesa_types.specs.declared.typed_tree.Loop.{Loop}
use Rattle.mesa_types.specs.declared.typed_tree.Phrase.{Phrase}
use Rattle.mesa_types.specs.declared.typed_tree.Phrase.TheVariants as v
use Rattle.mesa_types.specs.declared.typed_tree.Target.{Target}
use Rattle.mesa_types.specs.declared.typed_tree.TypedExpr.{TypedExpr}
use Rattle.mesa_types.specs.declared.typed_tree.TypedStmt.{TypedStmt}
use Rattle.mesa_types.specs.declared.typed_tree.TypedStmt.TheVariants as v_stmt
use Rattle.mesa_types.specs.declared.typed_tree.Condition.TheFolds.{fold_out-Case, fold_out-Target, fold-roll-Phrase, fold-roll-TypedStmt}
use Rattle.code_rules.specs.Scopes.{Found, JumpScope, PhraseScope, ◌&◌, scopes, the_phrase}
use Rattle.code_rules.specs.Scopes as spec
use Rattle.code_rules.specs.Told.{a_told_jump, told_arms, told_cases, told_exits, told_expr, told_exprs, told_interval, told_loop, told_phrase, told_scopes, told_stmt, told_stmts, told_suffixes, told_targets, told_tests}
use Rattle.code_rules.proofs.Counted.{scopes_are_told}
use Rattle.signal_scopes.specs.Bodies.{IsSoundBody}
use Rattle.signal_scopes.specs.declared.scope_types.ArmScope.{ArmScope}
use Rattle.signal_scopes.specs.Views.{arms_of}
use Rattle.signal_scopes.specs.FirstCases.{told_first_cases}

-- the place that is taken for a phrase gets it when its arms are known
pub filled : {A B : Type 0} (f : A → B) (before taken after end : List A) (x y : A) (inner : List B) (at : ℕ)
    → at ≡ length before → taken ≡ before ++ x ∷ [] → map f after ≡ map f taken ++ inner → end ≡ slice_set after at y
    → map f end ≡ map f before ++ f y ∷ inner
filled f before taken after end x y inner at is_at is_taken is_after is_end =
    ap (map f) is_end
    ∙ map-set f after at y
    ∙ ap (λ l. slice_set l at (f y))
    (is_after ∙ ap (λ l. map f l ++ inner) is_taken ∙ ap (λ l. l ++ inner) (map-append f before (x ∷ [])) ∙ append_assoc (map f before) (f x ∷ []) inner)
    ∙ ap (λ n. slice_set (map f before ++ f x ∷ inner) n (f y)) (is_at ∙ sym (length-map before f))
    ∙ set-append_seam (map f before) (f x) inner (f y)

both_lists : List JumpScope → List PhraseScope → Found
both_lists js ps = record { jumps = js; phrases = ps }

joins : (a b c : Found) → a & (b & c) ≡ (a & b) & c
unfolding both_lists
joins a b c =
    ap (λ js. both_lists js (a.phrases ++ (b.phrases ++ c.phrases))) (sym (append_assoc a.jumps b.jumps c.jumps))
    ∙ ap (λ ps. both_lists ((a.jumps ++ b.jumps) ++ c.jumps) ps) (sym (append_assoc a.phrases b.phrases c.phrases))

of_any : (step : t.Cases → t.Cases) (ts : t.Tests) (s : t.Stmt) → step ≡ t.AndCase ts s
    → (long short : t.Cases) (f : Found) → told_cases long ≡ told_cases short & f → told_cases (step long) ≡ told_cases (step short) & f
unfolding told_cases
of_any step ts s is long short f h =
    ap (λ g. told_cases (g long)) is
    ∙ ap (λ x. told_tests ts & (told_stmt s & x)) h
    ∙ ap (λ x. told_tests ts & x) (joins (told_stmt s) (told_cases short) f)
    ∙ joins (told_tests ts) (told_stmt s & told_cases short) f
    ∙ ap (λ g. told_cases (g short) & f) (sym is)

of_case : (c : Case) (long short : t.Cases) (f : Found) → told_cases long ≡ told_cases short & f → told_cases (case c long) ≡ told_cases (case c short) & f
of_case c long short f h =
    of_any (case c) _ _ (fold_out-Case
    t.Condition t.Phrase (t.Suffixes → t.Suffixes) (t.Tests → t.Tests) t.Expr t.Stmt (t.Arms → t.Arms) (t.Cases → t.Cases)
    (t.Exits → t.Exits) t.Interval t.Loop (t.Operations → t.Operations) (t.Targets → t.Targets)
    condition_step phrase_step suffix_step test_step expr_step stmt_step arm_step case_step
    exit_step interval_step loop_step operation_step target_step c) long short f h

-- a target tells what its suffixes do, whether it converts what it takes or checks it
told_given : (c : Conversion) (r : Range) (part : Part) (h : Home) (s : t.Suffixes) (ts : t.Targets)
    → told_targets (target_by c r part h s ts) ≡ told_suffixes s & told_targets ts
unfolding told_targets
told_given Kept r part h s ts = refl
told_given (Widened from to) r part h s ts = refl
told_given (Narrowed from to q) r part h s ts = refl
told_given InCommon r part h s ts = refl

told_target : (x : Target) (ts : t.Targets) → told_targets (target x ts) ≡ told_suffixes (chain (map suffix x.suffixes) t.NoSuffix) & told_targets ts
told_target x ts = rw fold_out-Target (told_given x.conversion x.check x.part x.home (chain (map suffix x.suffixes) t.NoSuffix) ts)

pub target_jumps : (x : Target) (ts : t.Targets)
    → (told_targets (target x ts)).jumps ≡ (told_suffixes (chain (map suffix x.suffixes) t.NoSuffix)).jumps ++ (told_targets ts).jumps
target_jumps x ts = ap (λ (f : Found). f.jumps) (told_target x ts)

pub target_phrases : (x : Target) (ts : t.Targets)
    → (told_targets (target x ts)).phrases ≡ (told_suffixes (chain (map suffix x.suffixes) t.NoSuffix)).phrases ++ (told_targets ts).phrases
target_phrases x ts = ap (λ (f : Found). f.phrases) (told_target x ts)

-- the last case has no test
told_last : (cs : List Case) (s : t.Stmt) → told_cases (chain (map case cs) (t.Otherwise s)) ≡ told_first_cases cs & told_stmt s
unfolding told_cases told_first_cases
told_last [] s = refl
told_last (c ∷ cs) s = of_case c (chain (map case cs) (t.Otherwise s)) (chain (map case cs) (t.Otherwise t.Null)) (told_stmt s) (told_last cs s)

-- what a sound body tells are its scopes
pub told_whole : (body : t.Body) → IsSoundBody body → scopes body ≡ (told_stmt body.does).phrases
unfolding told_scopes
told_whole body is = scopes_are_told is.0 is.1 is.2 body is.3

-- the jumps in a phrase stand with its arms
told_phrase_jumps : (p : t.Phrase) → (told_phrase p).jumps ≡ []
unfolding told_phrase
told_phrase_jumps t.NoPhrase = refl
told_phrase_jumps (t.Catch n arms) = refl

catch_is : (n : ℕ) (arms : List Arm) → phrase (v.Catch n arms) ≡ t.Catch n (chain (map arm arms) t.NoArms)
catch_is n arms = ap phrase (sym (v.rolls-Catch n arms)) ∙ rw fold-roll-Phrase refl

told_catch : (n : ℕ) (arms : List Arm) → told_phrase (phrase (v.Catch n arms)) ≡ the_phrase n (told_arms (chain (map arm arms) t.NoArms))
unfolding told_phrase
told_catch n arms = ap told_phrase (catch_is n arms)

abbrev of_statement : ℕ → List spec.ArmScope → PhraseScope
of_statement n arms = record { statement = n; arms = arms }

-- a phrase with the arms that were found is what is told of it
pub placed : (catching : Phrase) (n : ℕ) (arms : List Arm) (read : List Arm) (found : List ArmScope) (before : List PhraseScope)
    → catching ≡ v.Catch n arms → read ≡ arms → arms_of found ≡ (told_arms (chain (map arm read) t.NoArms)).arms
    → before ++ of_statement n (arms_of found) ∷ (told_arms (chain (map arm read) t.NoArms)).phrases ≡ before ++ (told_phrase (phrase catching)).phrases
placed catching n arms read found before is is_read is_found =
    ap (λ xs. before ++ of_statement n xs ∷ (told_arms (chain (map arm read) t.NoArms)).phrases) is_found
    ∙ ap (λ l. before ++ (the_phrase n (told_arms (chain (map arm l) t.NoArms))).phrases) is_read
    ∙ ap (λ f. before ++ f.phrases) (sym (ap (λ p. told_phrase (phrase p)) is ∙ told_catch n arms))

pub same_jumps : (f g : Found) → f ≡ g → f.jumps ≡ g.jumps
same_jumps f g e = ap (λ (h : Found). h.jumps) e

pub same_phrases : (f g : Found) → f ≡ g → f.phrases ≡ g.phrases
same_phrases f g e = ap (λ (h : Found). h.phrases) e

-- the plain form of four statements
select_is : (e : TypedExpr) (cs : List Case) (s : TypedStmt) → stmt (v_stmt.Select e cs s) ≡ t.Select (expr e) (chain (map case cs) (t.Otherwise (stmt s)))
select_is e cs s = ap stmt (sym (v_stmt.rolls-Select e cs s)) ∙ rw fold-roll-TypedStmt refl

select_long_is : (e : TypedExpr) (cs : List Case) (s : TypedStmt)
    → stmt (v_stmt.SelectLong e cs s) ≡ t.SelectLong (expr e) (chain (map case cs) (t.Otherwise (stmt s)))
select_long_is e cs s = ap stmt (sym (v_stmt.rolls-SelectLong e cs s)) ∙ rw fold-roll-TypedStmt refl

block_is : (p : Phrase) (ss : List TypedStmt) (es : List Exit) → stmt (v_stmt.Block p ss es)
    ≡ t.Block (phrase p) (stmts (map stmt ss)) (chain (map exit es) t.NoExits)
block_is p ss es = ap stmt (sym (v_stmt.rolls-Block p ss es)) ∙ rw fold-roll-TypedStmt refl

for_is : (g : Given) (down : Bool) (b : Base) (i : Interval) (l : Loop) → stmt (v_stmt.For g down b i l) ≡ t.For g down b (interval i) (loop l)
for_is g down b i l = ap stmt (sym (v_stmt.rolls-For g down b i l)) ∙ rw fold-roll-TypedStmt refl

return_is : (arms : ℕ) (first : ℕ) (places : List ℕ) (es : List TypedExpr) → stmt (v_stmt.ReturnWith arms first places es)
    ≡ t.ReturnWith arms first places (exprs (map expr es))
return_is arms first places es = ap stmt (sym (v_stmt.rolls-ReturnWith arms first places es)) ∙ rw fold-roll-TypedStmt refl

-- what is told of each, in the parts that the walk reads
told_selected : (e : TypedExpr) (cs : List Case) (s : TypedStmt) (read_cs : List Case) (read_s : TypedStmt) → read_cs ≡ cs → read_s ≡ s
    → told_expr (expr e) & told_cases (chain (map case cs) (t.Otherwise (stmt s)))
    ≡ told_expr (expr e) & (told_first_cases read_cs & told_stmt (stmt read_s))
told_selected e cs s read_cs read_s is_cs is_s =
    ap (λ f. told_expr (expr e) & f) (told_last cs (stmt s))
    ∙ ap (λ l. told_expr (expr e) & (told_first_cases l & told_stmt (stmt s))) (sym is_cs)
    ∙ ap (λ y. told_expr (expr e) & (told_first_cases read_cs & told_stmt (stmt y))) (sym is_s)

pub of_select : (x : TypedStmt) (e : TypedExpr) (cs : List Case) (s : TypedStmt) (read_cs : List Case) (read_s : TypedStmt)
    → (x ≡ v_stmt.Select e cs s) ⊎ (x ≡ v_stmt.SelectLong e cs s) → read_cs ≡ cs → read_s ≡ s
    → told_stmt (stmt x) ≡ told_expr (expr e) & (told_first_cases read_cs & told_stmt (stmt read_s))
unfolding told_stmt
of_select x e cs s read_cs read_s (inl is) is_cs is_s =
    ap (λ y. told_stmt (stmt y)) is
    ∙ ap told_stmt (select_is e cs s)
    ∙ told_selected e cs s read_cs read_s is_cs is_s
of_select x e cs s read_cs read_s (inr is) is_cs is_s =
    ap (λ y. told_stmt (stmt y)) is
    ∙ ap told_stmt (select_long_is e cs s)
    ∙ told_selected e cs s read_cs read_s is_cs is_s

pub of_block : (x : TypedStmt) (p : Phrase) (ss : List TypedStmt) (es : List Exit) (read_p : Phrase) (read_ss : List TypedStmt) (read_es : List Exit)
    → x ≡ v_stmt.Block p ss es → read_p ≡ p → read_ss ≡ ss → read_es ≡ es
    → told_stmt (stmt x) ≡ told_phrase (phrase read_p) & (told_stmts (stmts (map stmt read_ss)) & told_exits (chain (map exit read_es) t.NoExits))
unfolding told_stmt
of_block x p ss es read_p read_ss read_es is is_p is_ss is_es =
    ap (λ y. told_stmt (stmt y)) is
    ∙ ap told_stmt (block_is p ss es)
    ∙ ap (λ q. told_phrase (phrase q) & (told_stmts (stmts (map stmt ss)) & told_exits (chain (map exit es) t.NoExits))) (sym is_p)
    ∙ ap (λ l. told_phrase (phrase read_p) & (told_stmts (stmts (map stmt l)) & told_exits (chain (map exit es) t.NoExits))) (sym is_ss)
    ∙ ap (λ l. told_phrase (phrase read_p) & (told_stmts (stmts (map stmt read_ss)) & told_exits (chain (map exit l) t.NoExits))) (sym is_es)

-- the phrase of a block puts no jump before those of its statements
pub of_block_jumps : (x : TypedStmt) (p : Phrase) (ss : List TypedStmt) (es : List Exit) (read_ss : List TypedStmt) (read_es : List Exit)
    → x ≡ v_stmt.Block p ss es → read_ss ≡ ss → read_es ≡ es
    → (told_stmt (stmt x)).jumps ≡ (told_stmts (stmts (map stmt read_ss))).jumps ++ (told_exits (chain (map exit read_es) t.NoExits)).jumps
of_block_jumps x p ss es read_ss read_es is is_ss is_es =
    same_jumps _ _ (of_block x p ss es p read_ss read_es is refl is_ss is_es)
    ∙ ap (λ l. l ++ ((told_stmts (stmts (map stmt read_ss))).jumps ++ (told_exits (chain (map exit read_es) t.NoExits)).jumps)) (told_phrase_jumps (phrase p))

pub of_for : (x : TypedStmt) (g : Given) (down : Bool) (b : Base) (i : Interval) (l : Loop) (read_i : Interval) (read_l : Loop)
    → x ≡ v_stmt.For g down b i l → read_i ≡ i → read_l ≡ l → told_stmt (stmt x) ≡ told_interval (interval read_i) & told_loop (loop read_l)
unfolding told_stmt
of_for x g down b i l read_i read_l is is_i is_l =
    ap (λ y. told_stmt (stmt y)) is
    ∙ ap told_stmt (for_is g down b i l)
    ∙ ap (λ y. told_interval (interval y) & told_loop (loop l)) (sym is_i)
    ∙ ap (λ y. told_interval (interval read_i) & told_loop (loop y)) (sym is_l)

pub of_return : (x : TypedStmt) (arms first : ℕ) (places : List ℕ) (es read : List TypedExpr)
    → x ≡ v_stmt.ReturnWith arms first places es → read ≡ es → told_stmt (stmt x) ≡ told_exprs (exprs (map expr read)) & a_told_jump arms t.Leave
unfolding told_stmt
of_return x arms first places es read is is_read =
    ap (λ y. told_stmt (stmt y)) is
    ∙ ap told_stmt (return_is arms first places es)
    ∙ ap (λ l. told_exprs (exprs (map expr l)) & a_told_jump arms t.Leave) (sym is_read)

-- what was put behind the list part by part is what is told of the whole
pub found_in_two : {X T E : Type 0} (r : Result T E) (end first old a b whole : List X)
    → first ≡ old ++ a → IfOk r (λ _. end ≡ first ++ b) → whole ≡ a ++ b → IfOk r (λ _. end ≡ old ++ whole)
found_in_two r end first old a b whole is_first is_end is =
    IfOk-equal r end (first ++ b) (old ++ whole) is_end (ap (λ l. l ++ b) is_first ∙ append_assoc old a b ∙ ap (λ l. old ++ l) (sym is))

pub found_in_three : {X T E : Type 0} (r : Result T E) (end second first old a b c whole : List X)
    → first ≡ old ++ a → second ≡ first ++ b → IfOk r (λ _. end ≡ second ++ c) → whole ≡ a ++ (b ++ c) → IfOk r (λ _. end ≡ old ++ whole)
found_in_three r end second first old a b c whole is_first is_second is_end is =
    found_in_two r end second old (a ++ b) c whole
    (is_second ∙ ap (λ l. l ++ b) is_first ∙ append_assoc old a b) is_end (is ∙ sym (append_assoc a b c))
