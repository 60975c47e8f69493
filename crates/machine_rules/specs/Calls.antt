-- Calls, starts and returns (Mesa Language Manual, chapters 4 and 7; when an instance is started is a rule of this project), and the
-- procedures of the host.
use Rattle.std.specs.Prelude.{ℕ, zero, suc, ◌-◌, ◌%◌, List, [], ◌∷◌, ◌++◌, length, true, false, ◌||◌, nat_eq, if◌then◌else◌}
use Rattle.code_forms.specs.mesa_base.specs.Decimal.{signed_word}
use Rattle.object_files.specs.mesa_types.specs.Operators.{truth}
use Rattle.code_forms.specs.declared.instruction.Instruction.{Instruction}
use Rattle.code_forms.specs.declared.instruction.Instruction.TheVariants.{CallLink}
use Rattle.code_forms.specs.declared.module_code.CodeProcedure.{CodeProcedure}
use Rattle.object_files.specs.declared.image.Image.{Image}
use Rattle.object_files.specs.declared.image.Link.{Link}
use Rattle.object_files.specs.declared.image.Link.TheVariants.{Wanted, To}
use Rattle.signaller.specs.declared.signal_id.SignalId.TheVariants.{NoInput}
use Rattle.machine_rules.specs.declared.end.End.TheVariants.{Done}
use Rattle.machine_rules.specs.State.{Role, Frame, InArm, Active, Activations, Store, Runs, Ended, Broken, Stuck, Stepped, Goes, Stops}
use Rattle.machine_rules.specs.Words.{zeros, words_at, popped, under, on_top, on_two}
use Rattle.machine_rules.specs.LookUps.{procedure_of, called, bound_to, text_of, Host, WriteChar, WriteString, WriteDecimal, ReadChar, EndOfInput, host_of, procedure_under, instruction_under}
use Rattle.machine_rules.specs.Moves.{with, spend, enter, give}
use Rattle.machine_rules.specs.Signals.{raise}

-- what an instance has is set
unfoldable pub set_of : {A : Type 0} → (ℕ → A) → ℕ → A → ℕ → A
set_of f j x i = if nat_eq i j then x else f i

-- Frames.

-- a frame of a procedure: its arguments, and zeros
unfoldable pub enter_frame : (instance number : ℕ) → CodeProcedure → List ℕ → Activations → Store → Stepped
enter_frame j number p args S m = enter (record {
  instance = j;
  procedure = number;
  offset = 0;
  operands = [];
  role = Frame (args ++ zeros (p.frame - length args));
}) S m

-- the body of an instance is run, which counts as started from here on
unfoldable pub start : Image → (instance : ℕ) → Activations → Store → Stepped
start image j S m =
    with (procedure_of image j 0) m λ body.
    spend (record m { started = set_of m.started j true }) λ m1. enter_frame j 0 body [] S m1

-- a procedure is called, which takes its arguments off the operands
unfoldable pub call : (instance number : ℕ) → CodeProcedure → Active → Activations → Store → Stepped
call j number p a S m = enter_frame j number p (popped p.args a.operands) (record a { operands = under p.args a.operands } ∷ S) m

-- The host.

unfoldable pub host_write : Image → ℕ → List ℕ → Activations → Store → Stepped
host_write image n text S m = give image n [] S (record m { output = m.output ++ text })

unfoldable pub read_char : Image → List ℕ → Active → Activations → Store → Stepped
read_char image (byte ∷ rest) a S m = give image 0 (byte ∷ []) (a ∷ S) (record m { input = rest })
read_char image [] a S m = if m.faulty then Stops Broken m else raise image NoInput [] a S m

unfoldable pub end_of_input : Image → List ℕ → Active → Activations → Store → Stepped
end_of_input image (byte ∷ rest) a S m = give image 0 (truth false ∷ []) (a ∷ S) m
end_of_input image [] a S m = if m.faulty then Stops Broken m else give image 0 (truth true ∷ []) (a ∷ S) m

unfoldable pub host : Image → Host → Active → Activations → Store → Stepped
host image WriteChar a S m = on_top a.operands λ c rest. host_write image 1 (c % 256 ∷ []) (a ∷ S) m
host image WriteString a S m = on_two a.operands λ n k rest. host_write image 2 (text_of image n k) (a ∷ S) m
host image WriteDecimal a S m = on_top a.operands λ n rest. host_write image 1 (signed_word n) (a ∷ S) m
host image ReadChar a S m = read_char image m.input a S m
host image EndOfInput a S m = end_of_input image m.input a S m

-- Links.

-- a first call of another instance starts it; the caller stands as it is until that is done
unfoldable pub call_in : Image → (instance number : ℕ) → CodeProcedure → Active → Activations → Store → Stepped
call_in image j number p a S m =
    if nat_eq a.instance j || m.started j then call j number p a S m else start image j (a ∷ S) m

unfoldable pub call_bound : Image → Link → Active → Activations → Store → Stepped
call_bound image (Wanted n) a S m = with (host_of image n) m λ h. host image h a S m
call_bound image (To j number) a S m = with (called image j number) m λ p. call_in image j number p a S m

-- Returns.

-- a caller whose call had to start an instance first calls now; no turn is spent for that
unfoldable pub pending : Image → Instruction → Active → Activations → Store → Stepped
pending image (CallLink k) a S m = with (bound_to image a.instance k) m λ l. call_bound image l a S m
pending image _ a S m = Stops Stuck m

-- a frame of the procedure of this number has come to its end: the results are given to the caller; after a body, whose frame a start
-- made, comes the call that waited for it; under the lowest frame there is none
unfoldable pub returned : Image → (number : ℕ) → List ℕ → Activations → Store → Stepped
returned image number results [] m = Goes (Runs [] m)
returned image zero results (a ∷ S) m = with (instruction_under image a) m λ i. pending image i a S m
returned image (suc number) results (a ∷ S) m = give image 0 results (a ∷ S) m

-- results stand behind the arguments
unfoldable pub return_of : Image → CodeProcedure → Active → Role (List ℕ) → Activations → Store → Stepped
return_of image p a (Frame variables) S m = returned image a.procedure (words_at variables p.args p.results) S m
return_of image p a (InArm own arm why) S m = Stops Stuck m

unfoldable pub return_from : Image → Active → Activations → Store → Stepped
return_from image a S m = with (procedure_under image a) m λ p. return_of image p a a.role S m

-- The CONTROL instances are started in order; one that was started is passed over.
unfoldable pub start_next : Image → List ℕ → Store → Stepped
start_next image [] m = Stops (Ended Done) m
start_next image (j ∷ rest) m =
    if m.started j then Goes (Runs [] (record m { control = rest })) else start image j [] (record m { control = rest })
