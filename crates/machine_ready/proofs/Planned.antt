-- Procedures of valid code can be planned.
use Rattle.std.proofs.Common.{◌≡◌, ℕ, zero, suc, List, [], ◌∷◌, get_or, Some, subst, arith}
use Rattle.std.specs.Prelude.{slice_get, All, IsSomeAnd}
use Rattle.std.specs.List.{AllZip}
use Rattle.std.proofs.Math.Logic.{∥∥₁_elim}
use Rattle.std.proofs.Props.{props}
use Rattle.std.proofs.lemmas.Option.{MatchOption-at_some, none-some, same_Some, slice_get-get_or}
use Rattle.std.proofs.lemmas.Slice.Zip.{AllZip-left}
use Rattle.code_forms.specs.declared.module_code.CodeEntry.{CodeEntry}
use Rattle.code_forms.specs.declared.module_code.CodeProcedure.{CodeProcedure}
use Rattle.code_forms.specs.declared.module_code.ModuleCode.{ModuleCode}
use Rattle.code_forms.specs.Ranges.{InOrder}
use Rattle.code_forms.specs.Routine.{routine, spot_of}
use Rattle.code_forms.specs.Valid.{Valid, HasDepths, RoutineIsValid}
use Rattle.code_forms.proofs.Ordered.{spot_at, spots_length}
use Rattle.object_files.specs.declared.object.Object.{Object}
use Rattle.signaller.proofs.Lying.{tables_of_valid}
use Rattle.machine_ready.specs.declared.plan.Plan.{Plan}
use Rattle.machine_ready.specs.Laws.{PlansAreThere}
use Rattle.machine_ready.specs.Ready.{IsPlan, IsPlanned, CanBePlanned}
use Rattle.machine_ready.specs.Targets.{JumpsToStarts}
use Rattle.machine_ready.proofs.Each.{some_and}
use Rattle.machine_ready.proofs.Jumping.{jump_starts}

order_once : (code : List CodeEntry) → IsProp (InOrder code)
order_once code = hlevel props

starts_of : (m : ModuleCode) (p : CodeProcedure) → RoutineIsValid (routine m p) → JumpsToStarts p.code
starts_of m p v i d l offset jumps =
    let e = get_or p.code i d in
    let s = v.spots i (spot_of e) (let n = spots_length p.code in omega (arith, n)) (spot_at p.code i d l) in
    jump_starts (routine m p) e.at offset e.instruction jumps s.jump

pub can_be_planned : (m : ModuleCode) → Valid m → All CanBePlanned m.procedures
can_be_planned m v n d l =
    let p = get_or m.procedures n d in
    let is = slice_get-get_or m.procedures n d l in
    record {
      order = ∥∥₁_elim m.ranges (order_once p.code) (λ r. (r.each_procedure n d l).code);
      starts = starts_of m p (v n p l is);
      table = tables_of_valid m v n p is;
    }

-- the code of a module that is planned is valid
pub planned_valid : (modules : List Object) (plans : List (List Plan)) → AllZip IsPlanned modules plans → (n : ℕ) (o : Object) → slice_get modules n ≡ Some o → Valid o.code
planned_valid [] plans h n o e = absurd (none-some o e)
planned_valid (x ∷ modules) [] h n o e = absurd h
planned_valid (x ∷ modules) (y ∷ plans) h zero o e = subst (λ (z : Object). Valid z.code) (same_Some x o e) h.0.valid
planned_valid (x ∷ modules) (y ∷ plans) h (suc n) o e = planned_valid modules plans h.1 n o e

pub planned_depths : (modules : List Object) (plans : List (List Plan)) → AllZip IsPlanned modules plans → (n : ℕ) (o : Object) → slice_get modules n ≡ Some o → HasDepths o.code
planned_depths [] plans h n o e = absurd (none-some o e)
planned_depths (x ∷ modules) [] h n o e = absurd h
planned_depths (x ∷ modules) (y ∷ plans) h zero o e = subst (λ (z : Object). HasDepths z.code) (same_Some x o e) h.0.depths
planned_depths (x ∷ modules) (y ∷ plans) h (suc n) o e = planned_depths modules plans h.1 n o e

pub plans_there : PlansAreThere
plans_there image p r n k o q is there =
    let h = MatchOption-at_some (Unit {0}) (λ x. IsSomeAnd (slice_get p.tables.plans n) (IsPlanned x)) o is (AllZip-left IsPlanned image.modules p.tables.plans r.plans n) in
    let s = some_and (slice_get p.tables.plans n) (IsPlanned o) h in
    rw s.1 (MatchOption-at_some (Unit {0}) (λ x. IsSomeAnd (slice_get s.0 k) (IsPlan x)) q there (AllZip-left IsPlan o.code.procedures s.0 s.2.plans k))
