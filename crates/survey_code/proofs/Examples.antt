-- Events, sites and endings of small procedures, by the rules.
use Rattle.std.proofs.Common.{◌≡◌, inl, ℕ, zero, suc, [], ◌∷◌, Bool, true, false, Some, None, refl, subst, arith}
use Rattle.std.specs.Prelude.{if◌then◌else◌, slice_get}
use Rattle.std.proofs.lemmas.Option.{none-some, same_Some}
use Rattle.code_forms.specs.declared.instruction.Instruction.{Instruction}
use Rattle.code_forms.specs.declared.instruction.Instruction.TheVariants.{Add, Index, ModC, Call, Return, Raise, ArmEnd, Resume, AddD, ModDC, NarrowC}
use Rattle.code_forms.specs.declared.module_code.Arm.{Arm}
use Rattle.code_forms.specs.declared.module_code.CodeProcedure.{CodeProcedure}
use Rattle.code_forms.specs.declared.module_code.Label.TheVariants as l
use Rattle.code_forms.specs.declared.module_code.ModuleCode.{ModuleCode}
use Rattle.signaller.specs.Search.{around_at, around}
use Rattle.machine_rules.specs.LookUps.{instruction_at}
use Rattle.machine_rules.proofs.Written.{arm, phrase, procedure}
use Rattle.survey_rules.specs.Reached.{first, in_arm, StandsIn}
use Rattle.survey_code.specs.declared.event.Event.TheVariants as e
use Rattle.survey_code.specs.declared.surveyed.Ending.{Ending}
use Rattle.survey_code.specs.declared.surveyed.Ending.TheVariants.{Resumes, Passes}
use Rattle.survey_code.specs.Events.{event_of}
use Rattle.survey_code.specs.Sites.{IsSite, IsEnding, IsPassing}

raise_has_one : event_of (Raise 3) ≡ Some (e.Raise 3)
raise_has_one = refl

index_has_one : event_of (Index 10 1) ≡ Some e.PassBounds
index_has_one = refl

divisor_has_one : event_of ModC ≡ Some e.Divide
divisor_has_one = refl

sum_has_none : event_of Add ≡ None
sum_has_none = refl

narrowed_has_one : event_of NarrowC ≡ Some e.PassBounds
narrowed_has_one = refl

long_divisor_has_one : event_of ModDC ≡ Some e.Divide
long_divisor_has_one = refl

long_sum_has_none : event_of AddD ≡ None
long_sum_has_none = refl

-- An arm whose end is reached: P[! S => NULL];

abbrev end_arm : Arm
end_arm = arm ((l.Own 0) ∷ []) 0 0 6 7

abbrev ending : CodeProcedure
ending = procedure 0 0 0 0 (Call 1 ∷ Return ∷ ArmEnd ∷ []) (phrase 0 5 (end_arm ∷ []) ∷ [])

call_is_site : (m : ModuleCode) → IsSite m ending (record { position = Some 0; event = e.Call 1 })
unfolding instruction_at around_at around
call_is_site m = record { at = 0; instruction = Call 1; stands = record { reached = first; is = refl }; event = refl; position = refl }

end_passes : (m : ModuleCode) → IsEnding m ending end_arm Passes
unfolding instruction_at
end_passes m = inl (record {
  at = 6;
  stands = record { reached = in_arm 0 0 0 (Call 1) (phrase 0 5 (end_arm ∷ [])) end_arm first refl refl refl refl; is = refl };
  behind = omega arith;
  before = omega arith;
})

-- One that resumes: P[! S => RESUME];

abbrev resume_arm : Arm
resume_arm = arm ((l.Own 0) ∷ []) 0 0 6 9

abbrev resuming : CodeProcedure
resuming = procedure 0 0 0 0 (Call 1 ∷ Return ∷ Resume 0 ∷ []) (phrase 0 5 (resume_arm ∷ []) ∷ [])

abbrev IsOneOfThem : Instruction → Type 0
IsOneOfThem (Call k) = Unit {0}
IsOneOfThem Return = Unit {0}
IsOneOfThem (Resume words) = words ≡ 0
IsOneOfThem _ = ⊥

one_of : (a b c : Bool) (i : Instruction) → (if a then Some (Call 1) else (if b then Some Return else (if c then Some (Resume 0) else None))) ≡ Some i → IsOneOfThem i
one_of true b c i is = subst IsOneOfThem (same_Some (Call 1) i is) tt
one_of false true c i is = subst IsOneOfThem (same_Some Return i is) tt
one_of false false true i is = subst IsOneOfThem (same_Some (Resume 0) i is) refl
one_of false false false i is = absurd (none-some i is)

is_one : (at : ℕ) (i : Instruction) → instruction_at resuming.code at ≡ Some i → IsOneOfThem i
unfolding instruction_at
is_one at i is = one_of _ _ _ i is

resumes : (m : ModuleCode) → StandsIn m resuming resume_arm (Resume 0)
unfolding instruction_at
resumes m = record {
  at = 6;
  stands = record { reached = in_arm 0 0 0 (Call 1) (phrase 0 5 (resume_arm ∷ [])) resume_arm first refl refl refl refl; is = refl };
  behind = omega arith;
  before = omega arith;
}

resume_gives_none : (m : ModuleCode) → IsEnding m resuming resume_arm (Resumes 0)
resume_gives_none m = ((λ s. is_one s.at ArmEnd s.stands.is), resumes m, (λ words s. is_one s.at (Resume words) s.stands.is))

-- no phrase is beyond that one
nothing_beyond : (m : ModuleCode) → IsPassing m ending 0 (phrase 0 5 (end_arm ∷ [])) (record { beyond = None; endings = Passes ∷ [] })
unfolding around_at around
nothing_beyond m = record { beyond = refl; count = refl; endings = λ k. only_one m k }
  where
    only_one : (m : ModuleCode) (k : ℕ) (a : Arm) (how : Ending) → slice_get (end_arm ∷ []) k ≡ Some a → slice_get (Passes ∷ []) k ≡ Some how → IsEnding m ending a how
    only_one m zero a how is so = subst (λ x. IsEnding m ending x how) (same_Some end_arm a is) (subst (λ x. IsEnding m ending end_arm x) (same_Some Passes how so) (end_passes m))
    only_one m (suc k) a how is so = absurd (none-some a is)
