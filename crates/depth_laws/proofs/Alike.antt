-- Images that differ in depths alone run alike.
use Rattle.std.proofs.Common.{◌≡◌, ℕ, List, [], Bool, Option, Some, None, refl, sym, ◌∙◌, ap, subst}
use Rattle.std.specs.Prelude.{option_map}
use Rattle.code_forms.specs.declared.module_code.ModuleCode.{ModuleCode}
use Rattle.object_files.specs.declared.image.Image.{Image}
use Rattle.object_rules.specs.Exact.{IsSameImage}
use Rattle.machine_rules.specs.LookUps.{code_of}
use Rattle.machine_rules.specs.Words.{zeros}
use Rattle.machine_rules.specs.State.{Store, Runs, Ending, Stepped, Goes}
use Rattle.machine_rules.specs.Steps.{step, Ends, stops, goes, globals_in, fresh, begins, Steps}
use Rattle.depth_laws.specs.Laws.{DepthsDoNotMatter}
use Rattle.depth_laws.proofs.Views.{View, view, code_alike, signal_alike}
use Rattle.depth_laws.proofs.Stepping.{step_same}

globals_of_view : Option View → ℕ
globals_of_view None = 0
globals_of_view (Some v) = v.global_words

globals_viewed : (o : Option ModuleCode) → globals_of_view (option_map view o) ≡ globals_in o
unfolding globals_in globals_of_view
globals_viewed None = refl
globals_viewed (Some m) = refl

module _ (a b : Image) (same : IsSameImage a b) where
  globals_same : (j : ℕ) → globals_in (code_of a j) ≡ globals_in (code_of b j)
  globals_same j = sym (globals_viewed (code_of a j)) ∙ ap globals_of_view (code_alike a b same j) ∙ globals_viewed (code_of b j)

  begins_same : (input : List ℕ) (faulty : Bool) (turns : ℕ) → begins a input faulty turns ≡ begins b input faulty turns
  unfolding begins fresh
  begins_same input faulty turns = λ i. Goes (Runs [] (record (fresh a input faulty turns) { control = same.control i; globals = λ j. zeros (globals_same j i) }))

  ends_so : (x : Stepped) (end : Ending) (m : Store) → Ends a x end m → Ends b x end m
  ends_so _ _ _ (stops end m) = stops end m
  ends_so _ _ _ (goes s end m e) = goes s end m (subst (λ x. Ends b x end m) (step_same a b same s) (ends_so (step a s) end m e))

  steps_so : (input : List ℕ) (faulty : Bool) (turns : ℕ) (output : List ℕ) (end : Ending) (left taken count : ℕ)
      → Steps a input faulty turns output end left taken count → Steps b input faulty turns output end left taken count
  steps_so input faulty turns output end left taken count r = record {
    last = r.last;
    ends = subst (λ x. Ends b x end r.last) (begins_same input faulty turns) (ends_so (begins a input faulty turns) end r.last r.ends);
    its_output = r.its_output;
    its_turns = r.its_turns;
    its_input = r.its_input;
    its_count = r.its_count;
  }

pub run_alike : DepthsDoNotMatter
run_alike a b same = record { steps = steps_so a b same; signals = signal_alike a b same }
