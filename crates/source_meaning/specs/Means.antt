-- What a whole program means: its output, its end, the turns left and the bytes of the input taken.
use Rattle.std.specs.Prelude.{◌≡◌, ℕ, suc, ◌-◌, List, [], ◌∷◌, false, length}
use Rattle.source_meaning.specs.Value.{NoValues, zeros}
use Rattle.source_meaning.specs.Program.{Program, module_of}
use Rattle.source_meaning.specs.State.{State, Ending, Answer, Normal, Result, Run, give, look, branch, on_normal}
use Rattle.source_meaning.specs.Signals.{Next}
use Rattle.source_meaning.specs.Calls.{start}
use Rattle.source_meaning.specs.Meaning.{meaning}

-- the instances to start, in order; a started one is passed over
unfoldable pub control : Program → Next → List ℕ → Run
control P next [] = give Normal
control P next (j ∷ js) =
    look λ s. branch (s.started j) (control P next js) (on_normal (start P next j []) (control P next js))

-- zero globals, nothing started, an empty output
unfoldable pub first_state : Program → List ℕ → Ending → ℕ → State
first_state P input ending turns = record {
  store = record {
    globals = λ i. zeros (module_of P i).globals;
    started = λ i. false;
    procedures = λ f. record { instance = 0; number = 0 };
    variables = λ f. NoValues;
    fresh = 0;
  };
  input = input;
  ending = ending;
  output = [];
  turns = turns;
  standing = 0;
}

-- the answer is Normal where the end is Done
unfoldable pub outcome : Program → List ℕ → Ending → ℕ → Result
outcome P input ending turns = control P (meaning P (suc turns)) P.control (first_state P input ending turns)

pub record Means (P : Program) (input : List ℕ) (ending : Ending) (turns : ℕ) (output : List ℕ) (end : Answer) (left taken : ℕ) : Type 0 where
  pub its_output : (outcome P input ending turns).state.output ≡ output
  pub its_end : (outcome P input ending turns).answer ≡ end
  pub its_turns : (outcome P input ending turns).state.turns ≡ left
  pub its_input : length input - length (outcome P input ending turns).state.input ≡ taken
