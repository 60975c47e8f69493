-- The bodies of a lawful program are sound.
use Rattle.std.specs.Prelude.{◌≡◌, ℕ, zero, suc, ◌<◌, ◌≤◌, ◌⊎◌, List, [], length, All, Some, None, get_or, slice_get}
use Rattle.std.proofs.lemmas.Option.{slice_get_cases}
use Rattle.std.proofs.lemmas.List.Elements.{All-get_or}
use Rattle.std.proofs.Common.{inl, inr, arith}
use mathlib.Core.Path.{sym, subst}
use Rattle.mesa_types.specs.Typed.{Stmt, Leave, Point, Body, Procedure, Module}
use Rattle.mesa_types.specs.Sound.{Scope, IsForRaises, StmtIn, scope_of, ProcedureIn, Sound}
use Rattle.mesa_types.specs.declared.types.FieldType.{FieldType}
use Rattle.source_meaning.specs.Program.{Instance, Program, or_else, no_body, no_module, no_procedure, no_instance, instance_of, module_of, main_of, procedure_in, procedure_of}
use Rattle.source_meaning.specs.Lawful.{Lawful}
use Rattle.source_meaning.proofs.Points.{Among}

-- a sound statement that stands in no arm, and where nothing but the return is visible
pub record IsBody (s : Stmt) : Type 0 where
  pub scope : Scope
  pub does : StmtIn scope s
  pub only_return : (p : Point) → Among p scope.points → p ≡ Leave
  pub no_arm : IsForRaises scope.arm → ⊥
  pub outermost : 0 < scope.depth → ⊥

the_return : (p : Point) → (p ≡ Leave) ⊎ ⊥ → p ≡ Leave
the_return p (inl e) = e
the_return p (inr e) = absurd e

body_at : (m : Module) (takes gives : List FieldType) (body : Body) → StmtIn (scope_of m takes gives body) body.does → IsBody body.does
unfolding scope_of IsForRaises
body_at m takes gives body h = record {
  scope = scope_of m takes gives body;
  does = h;
  only_return = λ p a. the_return p a;
  no_arm = λ x. x;
  outermost = λ lt. omega (arith, lt);
}

-- what all of a list have, and what stands for the rest has
any_has : {A : Type 0} (Q : A → Type 0) (d : A) → Q d → (xs : List A) → All Q xs → (j : ℕ) →
    ((x : A) × (j < length xs) × (slice_get xs j ≡ Some x) × (get_or xs j x ≡ x)) ⊎ ((length xs ≤ j) × (slice_get xs j ≡ None)) →
    Q (or_else d (slice_get xs j))
unfolding or_else
any_has Q d q xs all j (inl h) = subst (λ o. Q (or_else d o)) (sym h.2) (subst Q h.3 (All-get_or Q xs j h.0 h.1 all))
any_has Q d q xs all j (inr h) = subst (λ o. Q (or_else d o)) (sym h.1) q

pub each_has : {A : Type 0} (Q : A → Type 0) (d : A) → Q d → (xs : List A) → All Q xs → (j : ℕ) → Q (or_else d (slice_get xs j))
each_has Q d q xs all j = any_has Q d q xs all j (slice_get_cases xs j).1

no_procedure_body : IsBody no_procedure.body.does
unfolding no_procedure no_body StmtIn
no_procedure_body = body_at no_module [] [] no_body tt

sound_procedures : (m : Module) → Sound m → (q : ℕ) → IsBody (procedure_in m q).body.does
unfolding procedure_in main_of ProcedureIn
sound_procedures m s zero = body_at m [] [] m.body s.body.does
sound_procedures m s (suc k) =
    each_has (λ (p : Procedure). IsBody p.body.does) no_procedure no_procedure_body m.procedures
    (λ i d lt. let h = s.procedures i d lt in body_at m _ _ _ (h.2).does) k

no_module_body : (q : ℕ) → IsBody (procedure_in no_instance.code q).body.does
unfolding no_instance no_module procedure_in main_of or_else no_procedure no_body StmtIn
no_module_body zero = body_at no_module [] [] no_body tt
no_module_body (suc k) = body_at no_module [] [] no_body tt

-- whatever the numbers
pub bodies : (P : Program) → Lawful P → (j q : ℕ) → IsBody (procedure_of P j q).body.does
unfolding procedure_of module_of instance_of
bodies P lawful j q =
    each_has (λ (i : Instance). IsBody (procedure_in i.code q).body.does) no_instance (no_module_body q) P.instances
    (λ i d lt. sound_procedures _ (lawful.instances i d lt).sound q) j
