-- Valid code has no fault.
use Rattle.std.proofs.Common.{ℕ, subst}
use Rattle.std.proofs.lemmas.Option.{slice_get_within}
use Rattle.code_forms.specs.declared.bad_code.CodeFault.{CodeFault}
use Rattle.code_forms.specs.Depths.{StackIsRight}
use Rattle.code_forms.specs.Exact.{NoFaultOfValid}
use Rattle.code_forms.specs.Phrases.{PhrasesFill}
use Rattle.code_forms.specs.Routine.{Routine, Spot}
use Rattle.code_forms.specs.Valid.{SpotIsRight, RoutineIsValid, FirstBadPhrase, at_phrase, at_last, FaultAt, bad_jump, stack_differs, bad_operand, FirstFault, in_phrases, in_code}
use Rattle.code_forms.proofs.Depths.{settled_once}

pub no_bad_phrase : (r : Routine) (from : ℕ) → PhrasesFill r.code r.phrases → FirstBadPhrase r.code r.phrases from → ⊥
no_bad_phrase r _ f (at_phrase n p is before bad) = bad (f.right n p (slice_get_within r.phrases n p is) is)
no_bad_phrase r _ f (at_last n p last is right ends) = ends f.filled

pub no_fault_at : (r : Routine) (i : ℕ) (spot : Spot) (fault : CodeFault) → SpotIsRight r i spot → FaultAt r i spot fault → ⊥
no_fault_at r i spot _ s (bad_jump h) = h s.jump
no_fault_at r i spot _ s (stack_differs depth jump settled h) =
    h (subst (λ d. StackIsRight r i spot d) (settled_once r i s.depth depth s.settled settled) s.stack)
no_fault_at r i spot _ s (bad_operand depth jump settled stack h) = h s.operands

pub no_fault : (r : Routine) (fault : CodeFault) → RoutineIsValid r → FirstFault r fault → ⊥
no_fault r _ v (in_phrases from bad) = no_bad_phrase r from v.phrases bad
no_fault r _ v (in_code i spot fault fill is right bad) = no_fault_at r i spot fault (v.spots i spot (slice_get_within r.code i spot is) is) bad

pub valid_has_no_fault : NoFaultOfValid
valid_has_no_fault m bad v f = no_fault _ bad.fault (v bad.procedure f.procedure (slice_get_within m.procedures bad.procedure f.procedure f.is) f.is) f.fault
