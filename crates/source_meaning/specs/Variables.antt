-- Where a construct is run, and the variables that it reads and changes there (Language Manual, chapters 2 and 4).
use Rattle.std.specs.Prelude.{ℕ, suc, List, [], ◌∷◌, Bool, true, false, nat_eq}
use Rattle.mesa_types.specs.Typed.{Phrase}
use Rattle.mesa_types.specs.declared.typed_parts.Home.{Home}
use Rattle.mesa_types.specs.declared.typed_parts.Home.TheVariants.{Global, Local}
use Rattle.source_meaning.specs.Value.{Value, Values, nth, with_nth, with_from, with_part}
use Rattle.source_meaning.specs.State.{ProcedureId, Store, Run, look, change}

-- an enabled phrase, with the frame and the instance to which it belongs
pub record Enabled : Type 0 where
  pub owner : ℕ
  pub instance : ℕ
  pub phrase : Phrase

-- the frame, the instance, and the enabled phrases, the innermost first
pub record Where : Type 0 where
  pub frame : ℕ
  pub instance : ℕ
  pub chain : List Enabled

-- a function that is changed at one number
unfoldable pub at_if : {A : Type 0} → Bool → A → (ℕ → A) → ℕ → A
at_if true a f k = a
at_if false a f k = f k

unfoldable pub put_at : {A : Type 0} → (ℕ → A) → ℕ → A → ℕ → A
put_at f n a k = at_if (nat_eq k n) a f k

unfoldable pub set_globals : ℕ → Values → Store → Store
set_globals i vs s = record s { globals = put_at s.globals i vs }

unfoldable pub set_variables : ℕ → Values → Store → Store
set_variables f vs s = record s { variables = put_at s.variables f vs }

unfoldable pub fetch : Where → Home → Store → Value
fetch w (Global n) s = nth (s.globals w.instance) n
fetch w (Local n) s = nth (s.variables w.frame) n

unfoldable pub store : Where → Home → Value → Store → Store
store w (Global n) v s = set_globals w.instance (with_nth (s.globals w.instance) n v) s
store w (Local n) v s = set_variables w.frame (with_nth (s.variables w.frame) n v) s

-- to the part of the variable that lies along the path
unfoldable pub store_part : Where → Home → List ℕ → Value → Store → Store
store_part w h path v s = store w h (with_part path (fetch w h s) v) s

-- the same value to each of these, in order
unfoldable pub store_all : Where → List Home → Value → Store → Store
store_all w [] v s = s
store_all w (h ∷ hs) v s = store_all w hs v (store w h v s)

-- values to the frame's variables, from this one on
unfoldable pub store_from : Where → ℕ → Values → Store → Store
store_from w n vs s = set_variables w.frame (with_from (s.variables w.frame) n vs) s

-- a frame of this procedure, with these variables, under the next number
unfoldable pub add_frame : ProcedureId → Values → Store → Store
add_frame p vs s = record s { procedures = put_at s.procedures s.fresh p; variables = put_at s.variables s.fresh vs; fresh = suc s.fresh }

-- in a new frame
unfoldable pub in_frame : ProcedureId → Values → (ℕ → Run) → Run
in_frame p vs k = look λ s. change (add_frame p vs) (k s.fresh)
