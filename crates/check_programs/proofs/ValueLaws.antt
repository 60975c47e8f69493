-- What declarations leave, one after the other.
use Rattle.std.proofs.Common.{◌≡◌, List, [], ◌∷◌, ◌++◌, map, Ok, Err, refl, sym, ap, ◌∙◌, append_assoc}
use Rattle.std.proofs.lemmas.List.{map-append}
use Rattle.mesa_types.specs.Plain as tree
use Rattle.syntax_trees.specs.Syntax as s
use Rattle.mesa_types.specs.declared.typed_tree.TypedProcedure.{TypedProcedure}
use Rattle.mesa_types.specs.declared.typed_tree.TypedStmt.{TypedStmt}
use Rattle.check_rules.specs.Typed as t
use Rattle.check_rules.specs.Around.{Around}
use Rattle.check_rules.specs.Parts.{join_stmts}
use Rattle.check_rules.specs.Programs.{Declared, Stated, Values, value_of, values_of}
use Rattle.check_rules.specs.Steps.{State, Checked, Fault, and_then}
use Rattle.check_programs.specs.Turns.{behind, no_values, values_by}
use Rattle.check_programs.specs.Views.{value}
use Rattle.check_programs.specs.declared.values.Value.{Value}
use Rattle.check_programs.specs.declared.values.Value.TheVariants.{Nothing, OfStatement, OfProcedure}
use Rattle.check_programs.proofs.FoundLaws.{append_nil}
use Rattle.check_statement_lists.specs.Views.{stmts}

values_like : (ps qs : List t.Procedure) (xs ys : t.Stmts) → ps ≡ qs → xs ≡ ys
    → (let v : Values = record { procedures = ps; statements = xs } in v) ≡ record { procedures = qs; statements = ys }
values_like ps qs xs ys e h = λ i. record { procedures = e i; statements = h i }

join_none : (xs : t.Stmts) → join_stmts xs t.NoStmts ≡ xs
unfolding join_stmts
join_none t.NoStmts = refl
join_none (t.AndStmt x xs) = ap (t.AndStmt x) (join_none xs)

join_more : (xs ys zs : t.Stmts) → join_stmts (join_stmts xs ys) zs ≡ join_stmts xs (join_stmts ys zs)
unfolding join_stmts
join_more t.NoStmts ys zs = refl
join_more (t.AndStmt x xs) ys zs = ap (t.AndStmt x) (join_more xs ys zs)

pub stmts_more : (xs : List TypedStmt) (x : TypedStmt) → stmts (xs ++ x ∷ []) ≡ join_stmts (stmts xs) (t.AndStmt (tree.stmt x) t.NoStmts)
unfolding stmts join_stmts
stmts_more [] x = refl
stmts_more (y ∷ xs) x = ap (t.AndStmt (tree.stmt y)) (stmts_more xs x)

pub nothing_more : (v : Values) → behind v no_values ≡ v
nothing_more v = values_like _ _ _ _ (append_nil v.procedures) (join_none v.statements)

abbrev pub after : Values → Checked (Values × State) → Checked (Values × State)
after done p = and_then p (λ r. Ok (behind done r.0, r.1))

abbrev pub put_in : (Values → Values) → Checked (Values × State) → Checked (Values × State)
put_in put p = and_then p (λ q. Ok (put q.0, q.1))

pub statement_more : (ps qs : List TypedProcedure) (xs ys : List TypedStmt) (x : TypedStmt) → qs ≡ ps → ys ≡ xs ++ x ∷ []
    → (let v : Values = record { procedures = map tree.plain_procedure qs; statements = stmts ys } in v)
    ≡ behind (record { procedures = map tree.plain_procedure ps; statements = stmts xs }) (value (OfStatement x) no_values)
statement_more ps qs xs ys x e h =
    values_like _ _ _ _ (ap (map tree.plain_procedure) e ∙ sym (append_nil (map tree.plain_procedure ps))) (ap stmts h ∙ stmts_more xs x)

pub procedure_more : (ps qs : List TypedProcedure) (xs ys : List TypedStmt) (p : TypedProcedure) → qs ≡ ps ++ p ∷ [] → ys ≡ xs
    → (let v : Values = record { procedures = map tree.plain_procedure qs; statements = stmts ys } in v)
    ≡ behind (record { procedures = map tree.plain_procedure ps; statements = stmts xs }) (value (OfProcedure p) no_values)
procedure_more ps qs xs ys p e h =
    values_like _ _ _ _ (ap (map tree.plain_procedure) e ∙ map-append tree.plain_procedure ps (p ∷ [])) (ap stmts h ∙ sym (join_none (stmts xs)))

-- what is still to come, behind what is done
unfoldable pub rest : Values → Around → List s.Declaration → List Stated → State → Checked (Values × State)
rest done a ds hs σ = after done (values_by a ds hs σ)

from_none : (p : Checked (Values × State)) → p ≡ after no_values p
unfolding join_stmts
from_none (Ok r) = refl
from_none (Err e) = refl

pub rest_begin : (a : Around) (ds : List s.Declaration) (hs : List Stated) (σ : State) → values_by a ds hs σ ≡ rest no_values a ds hs σ
unfolding rest
rest_begin a ds hs σ = from_none (values_by a ds hs σ)

done_as : (done done' : Values) (σ : State) → done ≡ done' → (let r : Checked (Values × State) = Ok (done, σ) in r) ≡ Ok (done', σ)
done_as done done' σ e = λ i. Ok (e i, σ)

pub rest_end : (done : Values) (a : Around) (hs : List Stated) (σ : State) → rest done a [] hs σ ≡ Ok (done, σ)
unfolding rest values_by
rest_end done a hs σ = done_as _ _ σ (nothing_more done)

pub rest_short : (done : Values) (a : Around) (ds : List s.Declaration) (σ : State) → rest done a ds [] σ ≡ Ok (done, σ)
unfolding rest values_by
rest_short done a [] σ = done_as _ _ σ (nothing_more done)
rest_short done a (d ∷ ds) σ = done_as _ _ σ (nothing_more done)

one_more : (done : Values) (x : Value) (v : Values) → behind done (value x v) ≡ behind (behind done (value x no_values)) v
unfolding join_stmts
one_more done Nothing v = values_like _ _ _ _ (ap (λ ps. ps ++ v.procedures) (sym (append_nil done.procedures))) (ap (λ xs. join_stmts xs v.statements) (sym (join_none done.statements)))
one_more done (OfStatement x) v = values_like _ _ _ _ (ap (λ ps. ps ++ v.procedures) (sym (append_nil done.procedures)))
    (sym (join_more done.statements (t.AndStmt (tree.stmt x) t.NoStmts) v.statements))
one_more done (OfProcedure p) v = values_like _ _ _ _ (sym (append_assoc done.procedures (tree.plain_procedure p ∷ []) v.procedures))
    (ap (λ xs. join_stmts xs v.statements) (sym (join_none done.statements)))

behind_one : (done : Values) (x : Value) (p : Checked (Values × State)) → after done (put_in (value x) p) ≡ after (behind done (value x no_values)) p
behind_one done x (Ok q) = done_as _ _ q.1 (one_more done x q.0)
behind_one done x (Err e) = refl

module _ (a : Around) (ds : List s.Declaration) (hs : List Stated) where
  abbrev pub onward : Checked ((Values → Values) × State) → Checked (Values × State)
  onward p = and_then p (λ r. put_in r.0 (values_by a ds hs r.1))

  pub turn : (done : Values) (d : s.Declaration) (h : Stated) (σ τ : State) (x : Value)
      → value_of a d.names d.declared h σ ≡ Ok (value x, τ) → rest done a (d ∷ ds) (h ∷ hs) σ ≡ rest (behind done (value x no_values)) a ds hs τ
  unfolding rest values_by
  turn done d h σ τ x e = ap (λ p. after done (onward p)) e ∙ behind_one done x (values_by a ds hs τ)

  pub one_step : (done : Values) (d : s.Declaration) (h : Stated) (σ : State)
      → rest done a (d ∷ ds) (h ∷ hs) σ ≡ after done (onward (value_of a d.names d.declared h σ))
  unfolding rest values_by
  one_step done d h σ = refl

  pub fault_here : (done : Values) (d : s.Declaration) (h : Stated) (σ : State) (e : Fault)
      → value_of a d.names d.declared h σ ≡ Err e → rest done a (d ∷ ds) (h ∷ hs) σ ≡ Err e
  unfolding rest values_by
  fault_here done d h σ e f = ap (λ p. after done (onward p)) f

pub values_by_heads : (a : Around) (ds : List s.Declaration) (xs : List Declared) (σ : State)
    → values_by a ds (map (λ (x : Declared). x.head) xs) σ ≡ values_of a ds xs σ
unfolding values_by values_of
values_by_heads a [] xs σ = refl
values_by_heads a (d ∷ ds) [] σ = refl
values_by_heads a (d ∷ ds) (x ∷ xs) σ = by_first (λ τ. values_by_heads a ds xs τ) (value_of a d.names d.declared x.head σ)
  where
    by_first : ((τ : State) → values_by a ds (map (λ (y : Declared). y.head) xs) τ ≡ values_of a ds xs τ) → (p : Checked ((Values → Values) × State))
        → and_then p (λ r. put_in r.0 (values_by a ds (map (λ (y : Declared). y.head) xs) r.1)) ≡ and_then p (λ r. put_in r.0 (values_of a ds xs r.1))
    by_first same (Ok r) = ap (put_in r.0) (same r.1)
    by_first same (Err e) = refl
