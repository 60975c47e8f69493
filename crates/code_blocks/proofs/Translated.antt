-- The code of each sound module stands for it, is valid, and keeps all limits.
use Rattle.std.proofs.Common.{◌≡◌, refl, subst, ℕ, zero, suc, List, [], ◌∷◌, Some}
use Rattle.std.specs.Prelude.{slice_get}
use Rattle.mesa_types.specs.Sound.{Sound}
use Rattle.mesa_types.specs.Typed.{Module}
use Rattle.code_forms.specs.declared.module_code.CodeEntry.{CodeEntry}
use Rattle.code_forms.specs.declared.module_code.CodeProcedure.{CodeProcedure}
use Rattle.code_forms.specs.Phrases.{PhrasesFill}
use Rattle.code_forms.specs.Routine.{Spot, spot_of, spots}
use Rattle.code_forms.specs.Valid.{SpotIsRight}
use Rattle.code_blocks.specs.Laws.{routine_in, JumpsRight, OperandsRight, StackStands, ModulesAreTranslated}
use Rattle.code_blocks.specs.Modules.{module_code}
use Rattle.code_blocks.proofs.Coding.{modules_are_coded}
use Rattle.code_blocks.proofs.Lists.{all_get}
use Rattle.code_blocks.proofs.ModuleWeights.{modules_are_short}
use Rattle.code_blocks.proofs.PhraseRules.{phrases_stand}
use Rattle.code_blocks.proofs.RangeRules.{ranges_are_kept}
use Rattle.code_blocks.proofs.SpotRules.{jumps_are_right, operands_are_in_range}
use Rattle.code_blocks.proofs.StackRules.{stacks_stand}

-- each spot is that of an entry
entry_of : (es : List CodeEntry) (i : ℕ) (spot : Spot) → slice_get (spots es) i ≡ Some spot → (e : CodeEntry) × (slice_get es i ≡ Some e) × (spot_of e ≡ spot)
entry_of [] i spot e = cc
entry_of (x ∷ es) zero spot e = (x, refl, cc e)
entry_of (x ∷ es) (suc i) spot e = entry_of es i spot e

module _ (m : Module) (s : Sound m) (n : ℕ) (p : CodeProcedure) (is : slice_get (module_code m).procedures n ≡ Some p) where
  stack : StackStands (routine_in (module_code m) p) p.code
  stack = all_get (λ q. StackStands (routine_in (module_code m) q) q.code) (module_code m).procedures n p is (stacks_stand m s)

  spot_right : (i : ℕ) (spot : Spot) → slice_get (spots p.code) i ≡ Some spot → SpotIsRight (routine_in (module_code m) p) i spot
  spot_right i spot there =
      let r = routine_in (module_code m) p in
      let x = entry_of p.code i spot there in
      let e = x.0 in
      let right : SpotIsRight r i (spot_of e) = record {
        jump = all_get (λ q. JumpsRight (routine_in (module_code m) q) q.code) (module_code m).procedures n p is (jumps_are_right m s) i e x.1;
        depth = e.depth;
        settled = stack.settled i e x.1;
        stack = stack.right i e x.1;
        operands = all_get (λ q. OperandsRight (routine_in (module_code m) q) q.code) (module_code m).procedures n p is (operands_are_in_range m s) i e x.1;
      } in
      subst (SpotIsRight r i) x.2 right

pub modules_are_translated : ModulesAreTranslated
modules_are_translated m s few = record {
  code_for = modules_are_coded m s;
  ranges = ranges_are_kept m s few;
  valid = λ n p lt is. record {
    phrases = all_get (λ q. PhrasesFill (spots q.code) q.phrases) (module_code m).procedures n p is (phrases_stand m);
    spots = λ i spot less there. spot_right m s n p is i spot there;
  };
  depths = λ n p lt is. (stack m s n p is).settled;
  small = modules_are_short m s;
}
