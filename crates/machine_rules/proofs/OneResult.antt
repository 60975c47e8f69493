-- The machine has one result: at most one for any image, and one where the code is valid.
use Rattle.std.proofs.Common.{◌≡◌, ℕ, zero, suc, ◌-◌, ◌<◌, List, [], ◌∷◌, length, Bool, true, false, Option, Some, None, refl, sym, ap, subst, ◌∙◌, arith}
use Rattle.std.specs.Prelude.{nat_eq, slice_get, option_map, option_and_then, if◌then◌else◌}
use Rattle.std.proofs.lemmas.Bool.{eqb-true}
use Rattle.std.proofs.lemmas.Option.{none-some, same_Some}
use Rattle.code_forms.specs.declared.instruction.Instruction.{Instruction}
use Rattle.code_forms.specs.declared.instruction.Instruction.TheVariants.{Jump, JumpIf, JumpIfNot}
use Rattle.code_forms.specs.declared.module_code.CodeEntry.{CodeEntry}
use Rattle.code_forms.specs.declared.module_code.CodeProcedure.{CodeProcedure}
use Rattle.code_forms.specs.declared.module_code.ModuleCode.{ModuleCode}
use Rattle.code_forms.specs.Depths.{forward_target}
use Rattle.code_forms.specs.Jumps.{JumpsRightly}
use Rattle.code_forms.specs.Routine.{Routine, routine, spot_of}
use Rattle.code_forms.specs.Valid.{Valid, RoutineIsValid, SpotIsRight}
use Rattle.code_forms.proofs.Leading.{spot_there}
use Rattle.std.proofs.lemmas.Option.{slice_get_within}
use Rattle.object_files.specs.declared.image.Image.{Image}
use Rattle.object_files.specs.declared.object.Object.{Object}
use Rattle.machine_rules.specs.State.{Store, State, Runs, Ending, Stepped, Goes, Stops}
use Rattle.machine_rules.specs.LookUps.{module_number, code_in, code_of, procedure_of, instruction_at}
use Rattle.machine_rules.specs.Steps.{step, Ends, stops, goes, fresh, begins, Steps}
use Rattle.machine_rules.specs.Laws.{HasValidCode, EndsAtMostOnce, HasOneResult}
use Rattle.machine_rules.proofs.Measure.{Owned, weight}
use Rattle.machine_rules.proofs.Below.{turns_of, acts_of, fewer, lighter}
use Rattle.machine_rules.proofs.Nearer.{ahead_of, Nearer, lower, further, After, GoesForward, after_step}

-- At most one.

pub ends_at_most_once : EndsAtMostOnce
ends_at_most_once image _ _ _ _ _ (stops end m) (stops _ _) = (refl, refl)
ends_at_most_once image _ _ _ _ _ (goes s end m e) (goes _ end' m' e') = ends_at_most_once image (step image s) end end' m m' e e'

pub results_alike : (image : Image) (input : List ℕ) (faulty : Bool) (turns : ℕ) (o o' : List ℕ) (e e' : Ending) (l l' t t' c c' : ℕ)
    → Steps image input faulty turns o e l t c → Steps image input faulty turns o' e' l' t' c'
    → (o' ≡ o) × (e' ≡ e) × (l' ≡ l) × (t' ≡ t) × (c' ≡ c)
results_alike image input faulty turns o o' e e' l l' t t' c c' r r' =
    let same = ends_at_most_once image (begins image input faulty turns) e e' r.last r'.last r.ends r'.ends in (
      sym r'.its_output ∙ ap (λ m. m.output) same.1 ∙ r.its_output,
      same.0,
      sym r'.its_turns ∙ ap (λ m. m.turns) same.1 ∙ r.its_turns,
      sym r'.its_input ∙ ap (λ m. length input - length m.input) same.1 ∙ r.its_input,
      sym r'.its_count ∙ ap (λ m. m.begun) same.1 ∙ r.its_count,
    )

-- At least one.

pub record Finishes (image : Image) (x : Stepped) : Type 0 where
  pub end : Ending
  pub last : Store
  pub ends : Ends image x end last

abbrev Finish : Image → State → Type 0
Finish image s = Owned (acts_of s) → Finishes image (Goes s)

-- one step, and the rest of the run
step_finishes : (image : Image) (s : State) (x : Stepped) → step image s ≡ x → After image s x
    → ((t : State) → Nearer image s t → Finish image t) → Finishes image (Goes s)
step_finishes image s (Stops end m) e after h = record { end = end; last = m; ends = goes s end m (subst (λ x. Ends image x end m) (sym e) (stops end m)) }
step_finishes image s (Goes t) e after h =
    let r = h t after.1 after.0 in record { end = r.end; last = r.last; ends = goes s r.end r.last (subst (λ x. Ends image x r.end r.last) (sym e) r.ends) }

-- a state from which each nearer one finishes, in each of three ways
nearer_finishes : (image : Image) (s t : State)
    → ((u : State) → turns_of u < turns_of s → Finish image u)
    → ((u : State) → turns_of u ≡ turns_of s → weight (acts_of u) < weight (acts_of s) → Finish image u)
    → ((u : State) → turns_of u ≡ turns_of s → weight (acts_of u) ≡ weight (acts_of s) → ahead_of image u < ahead_of image s → Finish image u)
    → Nearer image s t → Finish image t
nearer_finishes image s t one two three (lower (fewer l)) = one t l
nearer_finishes image s t one two three (lower (lighter e l)) = two t e l
nearer_finishes image s t one two three (further e w l) = three t e w l

-- by what lies ahead
finish_ahead : (image : Image) → GoesForward image → (T W : ℕ)
    → ((u : State) → turns_of u < T → Finish image u)
    → ((u : State) → turns_of u ≡ T → weight (acts_of u) < W → Finish image u)
    → (n : ℕ) (s : State) → turns_of s ≡ T → weight (acts_of s) ≡ W → ahead_of image s < n → Finish image s
finish_ahead image f T W one two zero s e w l o = absurd (omega (arith, l))
finish_ahead image f T W one two (suc n) s e w l o = step_finishes image s (step image s) refl (after_step image f s o) (λ t near.
    nearer_finishes image s t
    (λ u less. one u (omega (arith, e, less)))
    (λ u same less. two u (same ∙ e) (omega (arith, w, less)))
    (λ u same alike less. finish_ahead image f T W one two n u (same ∙ e) (alike ∙ w) (omega (arith, l, less)))
    near)

-- by what the activations weigh
finish_weight : (image : Image) → GoesForward image → (T : ℕ) → ((u : State) → turns_of u < T → Finish image u)
    → (n : ℕ) (s : State) → turns_of s ≡ T → weight (acts_of s) < n → Finish image s
finish_weight image f T one zero s e l o = absurd (omega (arith, l))
finish_weight image f T one (suc n) s e l o =
    finish_ahead image f T (weight (acts_of s)) one (λ u same less. finish_weight image f T one n u same (omega (arith, l, less)))
    (suc (ahead_of image s)) s e refl (omega arith) o

-- by the turns that are left
finish_turns : (image : Image) → GoesForward image → (n : ℕ) (s : State) → turns_of s < n → Finish image s
finish_turns image f zero s l o = absurd (omega (arith, l))
finish_turns image f (suc n) s l o =
    finish_weight image f (turns_of s) (λ u less. finish_turns image f n u (omega (arith, l, less)))
    (suc (weight (acts_of s))) s refl (omega arith) o

pub finishes : (image : Image) → GoesForward image → (s : State) → Owned (acts_of s) → Finishes image (Goes s)
finishes image f s o = finish_turns image f (suc (turns_of s)) s (omega arith) o

-- Valid code goes forward.

-- an instruction that is found stands among the entries
pub record Found (code : List CodeEntry) (offset : ℕ) (i : Instruction) : Type 0 where
  pub number : ℕ
  pub entry : CodeEntry
  pub is : slice_get code number ≡ Some entry
  pub begins : entry.at ≡ offset
  pub instruction : entry.instruction ≡ i

found_if : (e : CodeEntry) (code : List CodeEntry) (offset : ℕ) (i : Instruction) → (instruction_at code offset ≡ Some i → Found code offset i)
    → (b : Bool) → nat_eq e.at offset ≡ b → (if b then Some e.instruction else instruction_at code offset) ≡ Some i → Found (e ∷ code) offset i
found_if e code offset i next true b is =
    record { number = 0; entry = e; is = refl; begins = eqb-true e.at offset b; instruction = same_Some e.instruction i is }
found_if e code offset i next false b is =
    let r = next is in record { number = suc r.number; entry = r.entry; is = r.is; begins = r.begins; instruction = r.instruction }

pub found : (code : List CodeEntry) (offset : ℕ) (i : Instruction) → instruction_at code offset ≡ Some i → Found code offset i
unfolding instruction_at
found [] offset i is = absurd (none-some i is)
found (e ∷ code) offset i is = found_if e code offset i (found code offset i) (nat_eq e.at offset) refl is

target_after : (r : Routine) (at target : ℕ) (i : Instruction) → JumpsRightly r at i → forward_target i ≡ Some target → at < target
target_after r at target (Jump t) j e = let l = j.after in let s = same_Some t target e in omega (arith, l, s)
target_after r at target (JumpIf t) j e = let l = j.after in let s = same_Some t target e in omega (arith, l, s)
target_after r at target (JumpIfNot t) j e = let l = j.after in let s = same_Some t target e in omega (arith, l, s)
target_after r at target _ j e = absurd (none-some target e)

-- a procedure that is found is one of valid code
pub record OfCode (image : Image) (procedure : CodeProcedure) : Type 0 where
  pub code : ModuleCode
  pub valid : Valid code
  pub number : ℕ
  pub is : slice_get code.procedures number ≡ Some procedure

of_objects : (image : Image) (p : ℕ) (procedure : CodeProcedure) (o : Option Object) → ((object : Object) → o ≡ Some object → Valid object.code)
    → option_and_then (λ (m : ModuleCode). slice_get m.procedures p) (option_map (λ (object : Object). object.code) o) ≡ Some procedure → OfCode image procedure
of_objects image p procedure None v e = absurd (none-some procedure e)
of_objects image p procedure (Some object) v e = record { code = object.code; valid = v object refl; number = p; is = e }

of_module : (image : Image) (p : ℕ) (procedure : CodeProcedure) (n : Option ℕ) → HasValidCode image
    → option_and_then (λ (m : ModuleCode). slice_get m.procedures p) (option_and_then (code_in image) n) ≡ Some procedure → OfCode image procedure
unfolding code_in
of_module image p procedure None v e = absurd (none-some procedure e)
of_module image p procedure (Some n) v e = of_objects image p procedure (slice_get image.modules n) (v n) e

pub of_code : (image : Image) (j p : ℕ) (procedure : CodeProcedure) → HasValidCode image → procedure_of image j p ≡ Some procedure → OfCode image procedure
unfolding procedure_of code_of
of_code image j p procedure v e = of_module image p procedure (module_number image j) v e

pub goes_forward : (image : Image) → HasValidCode image → GoesForward image
goes_forward image v j p procedure e offset target i there t =
    let c = of_code image j p procedure v e in
    let f = found procedure.code offset i there in
    let right : RoutineIsValid (routine c.code procedure) = c.valid c.number procedure (slice_get_within c.code.procedures c.number procedure c.is) c.is in
    let at = spot_there procedure.code f.number f.entry f.is in
    let spot : SpotIsRight (routine c.code procedure) f.number (spot_of f.entry) =
    right.spots f.number (spot_of f.entry) (slice_get_within (routine c.code procedure).code f.number (spot_of f.entry) at) at in
    let l = target_after (routine c.code procedure) f.entry.at target f.entry.instruction spot.jump (ap forward_target f.instruction ∙ t) in
    let b = f.begins in omega (arith, l, b)

-- One result.

pub has_one_result : HasOneResult
unfolding begins
has_one_result image v input faulty turns =
    let r = finishes image (goes_forward image v) (Runs [] (fresh image input faulty turns)) tt in
    let run : Steps image input faulty turns r.last.output r.end r.last.turns (length input - length r.last.input) r.last.begun =
    record { last = r.last; ends = r.ends; its_output = refl; its_turns = refl; its_input = refl; its_count = refl } in
    record {
      output = r.last.output;
      end = r.end;
      left = r.last.turns;
      taken = length input - length r.last.input;
      count = r.last.begun;
      is_run = run;
      no_other = λ o e l t c other. results_alike image input faulty turns _ o _ e _ l _ t _ c run other;
    }
