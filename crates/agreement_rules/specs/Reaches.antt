-- The machine where code of a procedure stands, and where it comes to.
use Rattle.std.specs.Prelude.{◌≡◌, ℕ, ◌≤◌, List, [], ◌∷◌, Some}
use Rattle.mesa_types.specs.Operators.{WordFault}
use Rattle.code_forms.specs.declared.instruction.Instruction.{Instruction}
use Rattle.code_forms.specs.declared.module_code.CodeProcedure.{CodeProcedure}
use Rattle.object_files.specs.declared.image.Image.{Image}
use Rattle.machine_rules.specs.State.{Frame, Active, Activations, Store, Runs, Ending, Stuck, Stepped, Goes, Stops}
use Rattle.machine_rules.specs.Words.{push}
use Rattle.machine_rules.specs.LookUps.{module_number, procedure_under}
use Rattle.machine_rules.specs.Activations.{activation_at, own_frame, variables, set_variables}
use Rattle.machine_rules.specs.Signals.{raise}
use Rattle.machine_rules.specs.Steps.{fault_signal, Ends}
use Rattle.code_rules.specs.Reading.{Coded, Place, Own, phrases_around, scratch}
use Rattle.agreement_rules.specs.Own.{Outcome, Given, Raised, Kept}

-- wherever the machine ends from t, it ends alike from s: with the same output, turns, input and count of instructions
pub record Reaches (image : Image) (s t : Stepped) : Type 0 where
  pub by : (end : Ending) (last : Store) → Ends image t end last → Ends image s end last

-- the topmost activation belongs to a frame that stands, and the code of its procedure, in a module of this number, is P's
pub record Holds (image : Image) (P : Coded) (number : ℕ) (a : Active) (S : Activations) : Type 0 where
  pub procedure : CodeProcedure
  pub is_under : procedure_under image a ≡ Some procedure
  pub its_code : procedure.code ≡ P.entries
  pub its_phrases : procedure.phrases ≡ P.routine.phrases
  pub number_of : module_number image a.instance ≡ Some number
  pub frame : Active
  pub stands : activation_at (a ∷ S) (own_frame a S) ≡ Some frame
  pub is_frame : frame.role ≡ Frame (variables a S)

abbrev pub placed : Active → (offset : ℕ) → List ℕ → Active
placed a offset operands = record a { offset = offset; operands = operands }

-- What an expression's code touches: the offset and the operands of the topmost activation, the variables of its frame, and how many
-- instructions were begun. Not the turns, the globals, what was started, the input, the output, nor any other activation.
pub record Touched : Type 0 where
  pub offset : ℕ
  pub operands : List ℕ
  pub variables : List ℕ
  pub begun : ℕ

abbrev pub stack_of : Touched → Active → Activations → Activations
stack_of c a S = set_variables (placed a c.offset c.operands ∷ S) (own_frame a S) c.variables

abbrev pub store_of : Touched → Store → Store
store_of c m = record m { begun = c.begun }

abbrev pub running : Touched → Active → Activations → Store → Stepped
running c a S m = Goes (Runs (stack_of c a S) (store_of c m))

-- the topmost activation raises a fault
abbrev pub raising : Image → WordFault → Activations → Store → Stepped
raising image fault [] m = Stops Stuck m
raising image fault (a ∷ S) m = raise image (fault_signal fault) [] a S m

-- from s the machine comes to offset b, with the words of the outcome on the rest of the operands; or it comes to raise that fault at an
-- offset of this code, where the phrases around are w's. No turn is spent up to there, and but for P's scratch words no variable is changed
pub record Gives (image : Image) (P : Coded) (a : Active) (S : Activations) (m : Store) (b : ℕ) (rest ws : List ℕ) (s : Stepped) : Type 0 where
  pub now : Touched
  pub offset : now.offset ≡ b
  pub operands : now.operands ≡ push ws rest
  pub kept : Kept (scratch P) (variables a S) now.variables
  pub reaches : Reaches image s (running now a S m)

pub record Raises (image : Image) (P : Coded) (w : Place) (from to : ℕ) (a : Active) (S : Activations) (m : Store) (fault : WordFault) (s : Stepped) : Type 0 where
  pub now : Touched
  pub inside : (from ≤ now.offset) × (now.offset ≤ to)
  pub around : phrases_around P.routine.phrases now.offset ≡ w.around
  pub kept : Kept (scratch P) (variables a S) now.variables
  pub reaches : Reaches image s (raising image fault (stack_of now a S) (store_of now m))

abbrev pub ComesTo : Image → Coded → Place → (from to : ℕ) → Active → Activations → Store → (rest : List ℕ) → Outcome → Stepped → Type 0
ComesTo image P w from to a S m rest (Given ws) s = Gives image P a S m to rest ws s
ComesTo image P w from to a S m rest (Raised fault) s = Raises image P w from to a S m fault s

-- where these instructions stand in P's code by themselves, and these are the frame's variables and the instance's globals, the machine
-- takes the words that were pushed to the outcome
abbrev pub Takes : Image → Coded → (number : ℕ) → (variables globals : List ℕ) → List Instruction → List ℕ → Outcome → Type 0
Takes image P number vars globals code ins out =
    (w : Place) (from to : ℕ) (a : Active) (S : Activations) (m : Store) (rest : List ℕ) → Own P w code from to → Holds image P number a S
    → variables a S ≡ vars → m.globals a.instance ≡ globals
    → ComesTo image P w from to a S m rest out (Goes (Runs (placed a from (push ins rest) ∷ S) m))
