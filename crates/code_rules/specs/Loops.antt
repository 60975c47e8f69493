-- The instructions that count the rounds of a FOR or THROUGH, in its three hidden words (rule of this project): the first number of
-- the interval, its last number, and whether a round is left. Going up the first is the number of the next round, going down the last
-- is; the loop has had its last round when the two are one. So all of CARDINAL can be counted.
use Rattle.std.specs.Prelude.{ℕ, ◌+◌, List, [], ◌∷◌, ◌++◌, Bool, true, false}
use Rattle.mesa_types.specs.declared.typed_parts.Base.{Base}
use Rattle.mesa_types.specs.declared.typed_parts.Given.{Given}
use Rattle.mesa_types.specs.declared.typed_parts.Given.TheVariants.{NoVariable, GivenTo}
use Rattle.code_forms.specs.declared.instruction.Instruction.{Instruction}
use Rattle.code_forms.specs.declared.instruction.Instruction.TheVariants.{Lit, LoadL, StoreL, Add, Sub, Mul, Eq, Not, JumpIfNot}
use Rattle.code_rules.specs.Reading.{Coded}
use Rattle.code_rules.specs.Slots.{store}
use Rattle.code_rules.specs.OwnCode.{check_code, less}

-- how a loop's rounds are counted: not at all, or in three hidden words from a slot on
pub data Counter : Type 0 where
  NoCounter : Counter
  CountedIn : (slot : ℕ) → Given → (down : Bool) → Counter

-- whether an interval takes a number, by its bounds in slots z and z + 1: where both are open, they are not next to each other either
abbrev pub some_code : (z : ℕ) → Base → (open_first open_last : Bool) → List Instruction
some_code z b false false = LoadL (z + 1) 1 ∷ LoadL z 1 ∷ less b ∷ Not ∷ []
some_code z b false true = LoadL z 2 ∷ less b ∷ []
some_code z b true false = LoadL z 2 ∷ less b ∷ []
some_code z b true true = LoadL z 2 ∷ less b ∷ LoadL (z + 1) 1 ∷ LoadL z 1 ∷ Sub ∷ Lit 1 ∷ Eq ∷ Not ∷ Mul ∷ []

-- the word in a slot becomes the next one, or the one before
abbrev pub up_code : (slot : ℕ) → List Instruction
up_code slot = LoadL slot 1 ∷ Lit 1 ∷ Add ∷ StoreL slot 1 ∷ []

abbrev pub down_code : (slot : ℕ) → List Instruction
down_code slot = LoadL slot 1 ∷ Lit 1 ∷ Sub ∷ StoreL slot 1 ∷ []

abbrev pub when : Bool → List Instruction → List Instruction
when true code = code
when false code = []

-- before the first round: the bounds are on the operand stack
abbrev pub start_code : (z : ℕ) → Base → (open_first open_last : Bool) → List Instruction
start_code z b open_first open_last =
    StoreL z 2 ∷ (some_code z b open_first open_last
    ++ StoreL (z + 2) 1 ∷ (when open_first (up_code z) ++ when open_last (down_code (z + 1))))

-- the slot of the number of the next round
abbrev pub next_slot : (z : ℕ) → (down : Bool) → ℕ
next_slot z false = z
next_slot z true = z + 1

-- the number is checked and given to the variable
abbrev pub give_code : Coded → Given → (slot : ℕ) → List Instruction
give_code P NoVariable slot = []
give_code P (GivenTo h r) slot = LoadL slot 1 ∷ (check_code r ++ store P h 0 1 ∷ [])

-- at the head of a round: where none is left, the loop is done
abbrev pub count_code : Coded → Counter → (done : ℕ) → List Instruction
count_code P NoCounter done = []
count_code P (CountedIn z g down) done = LoadL (z + 2) 1 ∷ JumpIfNot done ∷ give_code P g (next_slot z down)

-- at the end of a round: one is left unless this was the last number's
abbrev pub step_code : Counter → List Instruction
step_code NoCounter = []
step_code (CountedIn z g false) = LoadL z 2 ∷ Eq ∷ Not ∷ StoreL (z + 2) 1 ∷ up_code z
step_code (CountedIn z g true) = LoadL z 2 ∷ Eq ∷ Not ∷ StoreL (z + 2) 1 ∷ down_code (z + 1)
