-- The rules of lists, as one part after the other.
use Rattle.std.proofs.Common.{◌≡◌, ℕ, List, [], ◌∷◌, ◌++◌, append_assoc, drop, map, Option, Some, None, Ok, refl, sym, ap, ◌∙◌}
use Rattle.std.specs.Prelude.{option_map}
use Rattle.std.proofs.lemmas.List.{map-append}
use Rattle.mesa_base.specs.declared.identifier.Identifier.{Identifier}
use Rattle.mesa_base.specs.declared.place.Place.{Place}
use Rattle.mesa_types.specs.Plain as tree
use Rattle.syntax_trees.specs.PlainSyntax as plain
use Rattle.syntax_trees.specs.declared.syntax.Case.{Case, out-Case}
use Rattle.syntax_trees.specs.declared.syntax.Labeled.{Labeled}
use Rattle.syntax_trees.specs.declared.syntax.PlainItem.{PlainItem}
use Rattle.mesa_types.specs.declared.typed_tree.Case.{Case as CaseHere}
use Rattle.mesa_types.specs.declared.typed_tree.TypedStmt.{TypedStmt}
use Rattle.syntax_trees.proofs.PlainForms.{parts_of_case}
use Rattle.check_rules.specs.Typed as t
use Rattle.check_rules.specs.Around.{Around}
use Rattle.check_rules.specs.Checking as spec
use Rattle.check_rules.specs.Parts.{join_stmts}
use Rattle.check_rules.specs.Ranges.{Typed}
use Rattle.check_rules.specs.Statements.{Headed}
use Rattle.check_rules.specs.Steps.{Check, State, and_then, ◌>>=◌, pure}
use Rattle.check_locals.specs.Views.{headed}
use Rattle.check_locals.specs.declared.headed.Headed.{Headed as HeadedHere}
use Rattle.check_statement_lists.specs.Views.{or_finish}
use Rattle.check_statement_lists.proofs.Chaining.{before_rest, behind, chained, made_of, then_two, then_three}
use Rattle.check_statement_lists.proofs.ListLaws.{always, chain_onto, stays}
use Rattle.check_statements.specs.Turns.{initial_behind, one_case}
use Rattle.check_statements.specs.Views as views
use Rattle.check_statements.specs.declared.locals.Heads.{Heads}

-- ---- arms of a SELECT

-- an arm before those that come, before the ELSE
abbrev pub case_put : (t.Cases → t.Cases) → (t.Cases → t.Cases) → t.Cases → t.Cases
case_put put more cs = put (more cs)

unfoldable pub case_before : Around → Place → Typed → Unit {0} → Case → Check ((t.Cases → t.Cases) → t.Cases → t.Cases)
case_before a l sel u x = one_case a l sel x >>= (λ put. pure (case_put put))

pub cases_are : (a : Around) (l : Place) (sel : Typed) (xs : List Case) (σ : State)
    → spec.cases a l sel (plain.cases xs) σ ≡ chained (case_before a l sel) stays (λ cs. cs) tt xs σ
unfolding spec.check chained one_case case_before
cases_are a l sel [] σ = refl
cases_are a l sel (x ∷ xs) σ =
    ap (λ f. spec.cases a l sel (f (plain.cases xs)) σ) (parts_of_case x)
    ∙ then_three (spec.tests a l sel (plain.tests (out-Case x).tests) σ) (λ ts. spec.statement a (plain.statement (out-Case x).body) ts.1)
    (λ ts b. Ok (t.AndCase ts.0 b.0, b.1))
    (λ put. and_then (spec.cases a l sel (plain.cases xs) put.1) (λ more. Ok (case_put put.0 more.0, more.1)))
    ∙ then_two (one_case a l sel x σ) (λ put. Ok (case_put put.0, put.1)) (before_rest (spec.cases a l sel (plain.cases xs)))
    ∙ ap (λ rest. and_then (case_before a l sel tt x σ) (before_rest rest)) (λ i τ. cases_are a l sel xs τ i)

pub case_given : (a : Around) (l : Place) (sel : Typed) (x : Case) (put : t.Cases → t.Cases) (σ τ : State) → one_case a l sel x σ ≡ Ok (put, τ) → case_before a l sel tt x σ ≡ Ok (case_put put, τ)
unfolding case_before
case_given a l sel x put σ τ given = ap (λ m. and_then m (λ r. Ok (case_put r.0, r.1))) given

-- ---- heads of declarations

unfoldable pub one_head : Around → Labeled (List Identifier) PlainItem → Check (List Headed → List Headed)
one_head a x = spec.head a x.labels (plain.plain_item x.item) >>= (λ h. pure (λ hs. h ∷ hs))

pub heads_are : (a : Around) (xs : List (Labeled (List Identifier) PlainItem)) (σ : State)
    → spec.heads a (plain.locals xs) σ ≡ chained (always (one_head a)) stays [] tt xs σ
unfolding spec.check chained one_head
heads_are a [] σ = refl
heads_are a (x ∷ xs) σ =
    then_two (spec.head a x.labels (plain.plain_item x.item) σ) (λ h. Ok ((λ hs. h.0 ∷ hs), h.1)) (before_rest (spec.heads a (plain.locals xs)))
    ∙ ap (λ rest. and_then (one_head a x σ) (before_rest rest)) (λ i τ. heads_are a xs τ i)

pub heads_more : (done more : Heads) (h : HeadedHere) → more.items.items ≡ done.items.items ++ h ∷ [] → views.heads more ≡ views.heads done ++ headed h ∷ []
unfolding views.heads
heads_more done more h is = ap (map headed) is ∙ map-append headed done.items.items (h ∷ [])

-- ---- what declarations do when they are reached, by their heads

unfoldable pub one_initial : Around → List Headed → Labeled (List Identifier) PlainItem → Check (t.Stmts → t.Stmts)
one_initial a [] x = pure (λ ss. t.NoStmts)
one_initial a (h ∷ hs) x = spec.initial a x.labels (plain.plain_item x.item) h

abbrev pub other_heads : List Headed → Labeled (List Identifier) PlainItem → List Headed
other_heads [] x = []
other_heads (h ∷ hs) x = hs

pub no_initials : (a : Around) (xs : List (Labeled (List Identifier) PlainItem)) (σ : State) → chained (one_initial a) other_heads t.NoStmts [] xs σ ≡ Ok (t.NoStmts, σ)
unfolding chained one_initial
no_initials a [] σ = refl
no_initials a (x ∷ xs) σ = ap (λ m. and_then m (λ q. Ok (t.NoStmts, q.1))) (no_initials a xs σ)

pub initials_are : (a : Around) (xs : List (Labeled (List Identifier) PlainItem)) (hs : List Headed) (σ : State)
    → spec.initials a (plain.locals xs) hs σ ≡ chained (one_initial a) other_heads t.NoStmts hs xs σ
unfolding spec.check chained one_initial
initials_are a [] [] σ = refl
initials_are a [] (h ∷ hs) σ = refl
initials_are a (x ∷ xs) [] σ = sym (no_initials a (x ∷ xs) σ)
initials_are a (x ∷ xs) (h ∷ hs) σ =
    ap (λ rest. and_then (spec.initial a x.labels (plain.plain_item x.item) h σ) (before_rest rest)) (λ i τ. initials_are a xs hs τ i)

-- the arms so far, before those that come
abbrev pub cases_before : List CaseHere → (t.Cases → t.Cases) → t.Cases → t.Cases
cases_before done rest cs = views.cases done (rest cs)

pub cases_onto : (done more : List CaseHere) (x : CaseHere) → more ≡ done ++ x ∷ [] → cases_before more ≡ (λ rest. cases_before done (case_put (tree.case x) rest))
unfolding views.cases
cases_onto done more x is = λ i rest cs. chain_onto tree.case done more x is i (rest cs)

pub head_given : (a : Around) (x : Labeled (List Identifier) PlainItem) (h : Headed) (σ τ : State) → spec.head a x.labels (plain.plain_item x.item) σ ≡ Ok (h, τ)
    → one_head a x σ ≡ Ok ((λ hs. h ∷ hs), τ)
unfolding one_head
head_given a x h σ τ given = ap (λ m. and_then m (λ r. Ok ((λ hs. r.0 ∷ hs), r.1))) given

-- the heads so far, before those that come
abbrev pub heads_before : List Headed → List Headed → List Headed
heads_before done rest = done ++ rest

pub heads_onto : (done more : List Headed) (h : Headed) → more ≡ done ++ h ∷ [] → heads_before more ≡ (λ rest. heads_before done (h ∷ rest))
heads_onto done more h is = λ i rest. (ap (λ hs. hs ++ rest) is ∙ append_assoc done (h ∷ []) rest) i

pub initial_made : (a : Around) (before : t.Stmts) (x : Labeled (List Identifier) PlainItem) (h : Headed) (hs : List Headed) (σ : State)
    → initial_behind a before x h σ ≡ made_of (one_initial a) other_heads t.NoStmts (join_stmts before) (one_initial a (h ∷ hs) x σ)
unfolding initial_behind one_initial
initial_made a before x h hs σ = refl

-- where the heads are used up
pub initials_out : (a : Around) (all : List (Labeled (List Identifier) PlainItem)) (i : ℕ) (done : t.Stmts) (σ : State)
    → behind (join_stmts done) (chained (one_initial a) other_heads t.NoStmts [] (drop i all) σ) ≡ Ok (join_stmts done t.NoStmts, σ)
initials_out a all i done σ = ap (behind (join_stmts done)) (no_initials a (drop i all) σ)

-- ---- what is left of a REPEAT

pub finish_is : (o : Option TypedStmt) → tree.finish (option_map tree.stmt o) ≡ or_finish o t.NoFinish
finish_is None = refl
finish_is (Some x) = refl
