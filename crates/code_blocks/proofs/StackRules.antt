-- The depths beside the instructions of each procedure of a sound module are settled, and the rules on the operand stack hold with them.
use Rattle.std.proofs.Common.{refl, sym, ◌∙◌, ℕ, zero, suc, ◌+◌, List, [], ◌∷◌, length, map, All, Option, Some, None, arith}
use Rattle.std.specs.Prelude.{slice_get}
use Rattle.mesa_types.specs.Sound.{Scope, Sound, scope_of}
use Rattle.mesa_types.specs.Typed.{Procedure, Module}
use Rattle.code_forms.specs.declared.module_code.CodeEntry.{CodeEntry}
use Rattle.code_forms.specs.declared.module_code.CodeProcedure.{CodeProcedure}
use Rattle.code_forms.specs.Routine.{Routine, routine_with}
use Rattle.code_rules.specs.Modules.{procedures_of}
use Rattle.code_rules.specs.Reading.{scratch}
use Rattle.code_blocks.specs.Laws.{StackStands, StacksStand}
use Rattle.code_blocks.specs.Modules.{Parts, uncoded, body_block, procedure_code, module_code}
use Rattle.code_blocks.specs.Regions.{Written, returning, first_region, with_arms, next_written, all_written, written}
use Rattle.code_blocks.specs.Sizes.{size, phrase_count}
use Rattle.code_blocks.specs.Writing.{Pending, in_arms, arms_code}
use Rattle.code_blocks.proofs.Coding.{BodyFine, main_fine, AllFine, all_fine}
use Rattle.code_blocks.proofs.Counting.{all_finished}
use Rattle.code_blocks.proofs.FlowSteps.{body_begins, flown_first, flown_all}
use Rattle.code_blocks.proofs.Flowing.{AllIn, in_left, Once, flow_get}
use Rattle.code_blocks.proofs.Naming.{module_named}
use Rattle.code_blocks.proofs.Settling.{run_once, stack_stands}
use Rattle.code_blocks.proofs.SteadyRows.{Named}
use Rattle.code_blocks.proofs.SteadyTree.{rests}
use Rattle.code_blocks.proofs.Telling.{all_from, arms_end, phrases_up, arm_told, body_told}

-- what is written first is there at the end

in_with : (code : List CodeEntry) (w : Written) (o : Option Pending) → AllIn code (with_arms w o).code → AllIn code w.code
in_with code w None h = h
in_with code w (Some q) h = in_left code w.code (arms_code q.arms (in_arms q.env) w.end) h

in_written : (code : List CodeEntry) (n : ℕ) (w : Written) → AllIn code (all_written n w).code → AllIn code w.code
in_written code zero w h = h
in_written code (suc n) w h = in_with code w (slice_get w.found (length w.done)) (in_written code n (next_written w) h)

module _ (m : Module) (s : Sound m) where
  abbrev c : Parts
  c = module_code m

  abbrev R : CodeProcedure → Routine
  R = routine_with c.globals (length c.strings) c.signals c.links c.procedures

  named : (p : Procedure) (r : Routine) → Named r m.imports (map (λ (q : Procedure). q.head) m.procedures) m.signals m.imports
      → let Γ : Scope = scope_of m p.head.takes p.head.gives p.body in Named r (uncoded m p).imports Γ.procedures Γ.signals Γ.imports
  unfolding scope_of
  named p r h = h

  procedure_stands : (p : Procedure) → BodyFine m p → StackStands (R (procedure_code m p)) (procedure_code m p).code
  procedure_stands p fine =
      let r = R (procedure_code m p) in
      let U = uncoded m p in
      let Γ = scope_of m p.head.takes p.head.gives p.body in
      let b = body_block m p in
      let w = written b in
      let n = size (returning b) in
      let run = ((all_finished b).kept).run in
      let once : Once w.code = run_once 0 w.end w.code run in
      let x = rests U r Γ (named p r (module_named m s r refl refl refl)) fine.words p.body.does (fine.sound).does (scratch U + 16) [] in
      let all : AllIn w.code w.code = λ k e q. (k, q) in
      let zeroth = body_begins r w.code once b x.0 (in_written w.code (phrase_count b) (first_region (returning b)) all) in
      let from = all_from b in
      let flown = flown_all r w.code once w.end zeroth (phrase_count b) n (first_region (returning b))
      (flown_first r w.code once w.end zeroth b (phrases_up w.done n w.end from) x.0 x.1) in
      let flow = flown.flows all
      (λ y z le1 lt1 le2 lt2. body_told w.done n w.end y from lt1 ∙ sym (body_told w.done n w.end z from lt2))
      (λ k j q a g h. (
        arms_end w.done n w.end k j q a from g h,
        λ y z le1 lt1 le2 lt2. arm_told w.done n w.end y k j q a from g h le1 lt1 ∙ sym (arm_told w.done n w.end z k j q a from g h le2 lt2),
      )) in
      stack_stands r w.code w.end refl refl run (λ k e q. flow_get r w.code w.end w.code flow k e q)

  all_stand : (ps : List Procedure) → AllFine m ps → All (λ (q : CodeProcedure). StackStands (R q) q.code) (map (procedure_code m) ps)
  all_stand [] h k d lt = absurd (omega (arith, lt))
  all_stand (p ∷ ps) h zero d lt = procedure_stands p h.0
  all_stand (p ∷ ps) h (suc k) d lt = all_stand ps h.1 k d (omega (arith, lt))

pub stacks_stand : StacksStand
stacks_stand m s = all_stand m s (procedures_of m) (main_fine m s, all_fine m s m.procedures s.procedures)
