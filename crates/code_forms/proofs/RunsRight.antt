-- What a machine finds at each instruction of valid code.
use Rattle.std.proofs.Common.{◌≡◌, ℕ, ◌+◌, ◌<◌, inl, inr, length, get_or, refl, sym, ap, subst, arith}
use Rattle.std.specs.Prelude.{slice_get, Some}
use Rattle.std.proofs.lemmas.Option.{slice_get-get_or, slice_get_within}
use Rattle.code_forms.specs.declared.module_code.CodeEntry.{CodeEntry}
use Rattle.code_forms.specs.declared.module_code.CodeProcedure.{CodeProcedure}
use Rattle.code_forms.specs.Depths.{DepthsAreSettled, StackIsRight}
use Rattle.code_forms.specs.Routine.{Routine, routine, spots, spot_of}
use Rattle.code_forms.specs.Running.{EntryRuns, RunsInRange}
use Rattle.code_forms.specs.Valid.{SpotIsRight, RoutineIsValid}
use Rattle.code_forms.proofs.Depths.{settled_once}
use Rattle.code_forms.proofs.Leading.{spot_there}
use Rattle.code_forms.proofs.Ordered.{spots_length}

entry_runs : (r : Routine) (p : CodeProcedure) → r.code ≡ spots p.code → RoutineIsValid r → DepthsAreSettled r p.code → (i : ℕ) (e : CodeEntry) → slice_get r.code i ≡ Some (spot_of e) → slice_get p.code i ≡ Some e → EntryRuns r p i e
entry_runs r p rc v h i e is at =
    let s : SpotIsRight r i (spot_of e) = v.spots i (spot_of e) (slice_get_within r.code i (spot_of e) is) is in
    let d : s.depth ≡ e.depth = settled_once r i s.depth e.depth s.settled (h i e at) in
    let k : StackIsRight r i (spot_of e) e.depth = subst (λ n. StackIsRight r i (spot_of e) n) d s.stack in
    record {
      enough = k.fits.enough;
      room = k.fits.room;
      next = λ g. (
          let st = k.stays g in
          let l : i + 1 < length p.code = (let a = st.0 in let b = ap length rc in let n = spots_length p.code in omega (arith, a, b, n)) in
          let f : CodeEntry = get_or p.code (i + 1) e in
          let here : slice_get p.code (i + 1) ≡ Some f = slice_get-get_or p.code (i + 1) e l in
          (f, here, sym (k.onward (i + 1) f.depth (record { spot = spot_of e; is = is; later = omega arith; way = inl (refl, g) }) (h (i + 1) f here))));
      forward = λ j f l t here. sym (k.onward j f.depth (record { spot = spot_of e; is = is; later = omega arith; way = inr t }) (h j f here));
      backward = λ j f t here. sym (k.backward j f.depth t (h j f here));
      outward = λ j f t here. sym (k.outward j f.depth t (h j f here));
      returns = k.returns;
      jump = s.jump;
      operands = s.operands;
    }

pub runs_in_range : RunsInRange
runs_in_range m v h n p is i e at =
    let l = slice_get_within m.procedures n p is in
    entry_runs (routine m p) p refl (v n p l is) (h n p l is) i e (spot_there p.code i e at) at
