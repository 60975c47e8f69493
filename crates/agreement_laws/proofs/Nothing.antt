-- Statements without code do nothing. In a sound tree each expression has an instruction, and so has each statement that has some of its own;
-- what is left is NULL, and the numbers and blocks around such statements.
use Rattle.std.proofs.Common.{◌≡◌, ◌≢◌, ℕ, zero, suc, ◌<◌, ◌≤◌, List, [], ◌∷◌, ◌++◌, Bool, true, false, refl, sym, ap, ◌∙◌, subst, arith}
use Rattle.mesa_types.specs.declared.typed_parts.Home.{Home}
use Rattle.mesa_types.specs.Typed.{Kind, Ordinal, Longs, Texts, Array, Record, Kinds, NoKinds, AndKind, Expr, Exprs, Stmt, Stmts, Loop, Marked}
use Rattle.mesa_types.specs.Shapes.{HasWords, copies, one}
use Rattle.mesa_types.specs.Sound.{Scope, a_word, a_long, Constructs, Placed, Arranged, ExprIn, ExprsIn, WordsIn, StmtIn, StmtsIn, in_marked, in_labelled}
use Rattle.mesa_types.specs.Nodes.{count_of}
use Rattle.code_forms.specs.declared.instruction.Instruction.{Instruction}
use Rattle.code_forms.specs.declared.instruction.Instruction.TheVariants as i
use Rattle.code_forms.proofs.Ordered.{some_bytes}
use Rattle.source_meaning.specs.Program.{Program}
use Rattle.source_meaning.specs.State.{State, Normal, carry, after, give, marked, marked_of, labelled, labelled_of, on_normal, normal_then}
use Rattle.source_meaning.specs.Signals.{Next, catching, through, through_of}
use Rattle.source_meaning.specs.Variables.{Where}
use Rattle.source_meaning.specs.Meaning.{does, sequence, exits}
use Rattle.code_rules.specs.CodeFor as row
use Rattle.code_rules.specs.CodeFor.{ExprCode, ExprsCode, BranchCode, OperandsCode, StmtCode, StmtsCode, LoopCode}
use Rattle.code_rules.specs.Loops.{Counter, step_code}
use Rattle.code_rules.specs.OwnCode.{arrange_code}
use Rattle.code_rules.specs.Reading.{Coded, Place, Own, one_more}
use Rattle.code_rules.specs.Slots.{zero_code, sizes}
use Rattle.code_rules.proofs.Whole.{expr_run, exprs_run, bounds_run, operations_run, long_operations_run, path_run, operands_run, stmts_run, targets_run, cases_run, condition_run, stmt_run, finish_run, exits_run}
use Rattle.agreement_rules.proofs.Lifted.{in_order}
use Rattle.agreement_laws.proofs.Moving.{run_order, onward_run}

-- Own code.

own_bytes : {P : Coded} {w : Place} {j : Instruction} {js : List Instruction} {a b : ℕ} → Own P w (j ∷ js) a b → a < b
own_bytes (one_more {i = j} r rest) = let s = some_bytes j in let o = in_order rest in omega (arith, s, o)

own_last : {P : Coded} {a b : ℕ} (w : Place) (is : List Instruction) (j : Instruction) (js : List Instruction) → Own P w (is ++ j ∷ js) a b → a < b
own_last w [] j js own = own_bytes own
own_last w (x ∷ is) j js own = own_bytes own

zero_bytes : {P : Coded} {w : Place} {a b : ℕ} (words : ℕ) (hs : List Home) → hs ≢ [] → Own P w (zero_code P hs words) a b → a < b
zero_bytes words [] some own = absurd (some refl)
zero_bytes words (h ∷ hs) some own = own_bytes own

-- What is constructed has parts.

abbrev SomeKind : Kinds → Type 0
SomeKind NoKinds = ⊥
SomeKind (AndKind k ks) = Unit {0}

some_parts : (k : Kind) (places : List ℕ) (all : Kinds) → HasWords k → Constructs k places all → SomeKind all
unfolding HasWords Constructs copies
some_parts Ordinal places all words parts = absurd parts
some_parts Longs places all words parts = absurd parts
some_parts Texts places all words parts = absurd parts
some_parts (Array zero k) places all words parts = absurd (let lt = words.0 in omega (arith, lt))
some_parts (Array (suc n) k) places all words parts = subst (λ ks. SomeKind ks) (sym parts.1) tt
some_parts (Record NoKinds) places all words parts = absurd words
some_parts (Record (AndKind k ks)) places all words parts = subst (λ ks. SomeKind ks) (sym parts) tt

some_values : (places : List ℕ) (js all : Kinds) → Arranged places js all → SomeKind all → SomeKind js
unfolding Arranged Placed
some_values [] js all placed some = subst (λ ks. SomeKind ks) (sym placed) some
some_values (p ∷ ps) NoKinds all placed some = absurd placed.0
some_values (p ∷ ps) (AndKind j js) all placed some = tt

-- Expressions.

mutual
  unfolding ExprIn ExprsIn WordsIn count_of

  expr_bytes : {P : Coded} {w : Place} {e : Expr} {a b : ℕ} (Γ : Scope) (ks : Kinds) → ExprCode P w e a b → ExprIn Γ e ks → a < b
  expr_bytes Γ ks (row.number own) sound = own_bytes own
  expr_bytes Γ ks (row.long_number own) sound = own_bytes own
  expr_bytes Γ ks (row.literal own) sound = own_bytes own
  expr_bytes Γ ks (row.variable static own) sound = own_bytes own
  expr_bytes Γ ks (row.element c d dynamic own code load) sound =
      let x = own_bytes own in let y = run_order (path_run code) in let z = in_order load in omega (arith, x, y, z)
  expr_bytes Γ ks (row.field_of c behind code size own) sound =
      let x = expr_bytes Γ (one sound.1) code sound.3 in let y = in_order own in omega (arith, x, y)
  expr_bytes Γ ks (row.length_of c code own) sound = let x = run_order (expr_run code) in let y = own_bytes own in omega (arith, x, y)
  expr_bytes Γ ks (row.byte_of c d code second own) sound =
      let x = run_order (expr_run code) in let y = run_order (expr_run second) in let z = own_bytes own in omega (arith, x, y, z)
  expr_bytes Γ ks (row.checked c code own) sound = let x = expr_bytes Γ a_word code sound.1 in let y = in_order own in omega (arith, x, y)
  expr_bytes Γ ks (row.converted c code own) sound = let x = expr_bytes Γ (one sound.1) code sound.4 in let y = in_order own in omega (arith, x, y)
  expr_bytes Γ ks (row.operate c code ops) sound =
      let x = expr_bytes Γ a_word code sound.0 in let y = run_order (operations_run ops) in omega (arith, x, y)
  expr_bytes Γ ks (row.operate_long c code ops) sound =
      let x = expr_bytes Γ a_long code sound.0 in let y = run_order (long_operations_run ops) in omega (arith, x, y)
  expr_bytes Γ ks (row.negate c code own) sound = let x = run_order (expr_run code) in let y = own_bytes own in omega (arith, x, y)
  expr_bytes Γ ks (row.negate_long c code own) sound = let x = run_order (expr_run code) in let y = own_bytes own in omega (arith, x, y)
  expr_bytes Γ ks (row.relate c f first second own) sound =
      let x = expr_bytes Γ a_word first sound.0 in let y = run_order (expr_run second) in let z = in_order own in omega (arith, x, y, z)
  expr_bytes Γ ks (row.relate_long c f first second own) sound =
      let x = expr_bytes Γ a_long first sound.0 in let y = run_order (expr_run second) in let z = in_order own in omega (arith, x, y, z)
  expr_bytes Γ ks (row.within c d code bounds own) sound =
      let x = expr_bytes Γ a_word code sound.0 in let y = run_order (bounds_run bounds) in let z = in_order own in omega (arith, x, y, z)
  expr_bytes Γ ks (row.within_long c d code bounds own) sound =
      let x = expr_bytes Γ a_long code sound.0 in let y = run_order (bounds_run bounds) in let z = in_order own in omega (arith, x, y, z)
  expr_bytes Γ ks (row.negation c code own) sound = let x = run_order (expr_run code) in let y = own_bytes own in omega (arith, x, y)
  expr_bytes Γ ks (row.all_of c off code yes_own no_own) sound =
      let x = run_order (operands_run code) in let y = own_bytes yes_own in let z = in_order no_own in omega (arith, x, y, z)
  expr_bytes Γ ks (row.some_of c on code no_own yes_own) sound =
      let x = run_order (operands_run code) in let y = own_bytes no_own in let z = in_order yes_own in omega (arith, x, y, z)
  expr_bytes Γ ks (row.construct {places = places} c code own) sound =
      let some = some_values places sound.1 sound.2 sound.6 (some_parts sound.0 places sound.2 sound.3 sound.4) in
      let x = exprs_bytes Γ sound.1 code sound.5 some in let y = in_order own in omega (arith, x, y)
  expr_bytes Γ ks (row.call c d code own in_phrase own_call) sound =
      let x = run_order (exprs_run code) in let y = in_order own in let z = own_bytes own_call in omega (arith, x, y, z)
  expr_bytes Γ ks (row.raise c d code own in_phrase own_raise) sound =
      let x = run_order (exprs_run code) in let y = in_order own in let z = own_bytes own_raise in omega (arith, x, y, z)

  exprs_bytes : {P : Coded} {w : Place} {es : Exprs} {a b : ℕ} (Γ : Scope) (ks : Kinds) → ExprsCode P w es a b → ExprsIn Γ es ks → SomeKind ks → a < b
  exprs_bytes Γ ks row.no_values sound some = absurd (subst (λ ks. SomeKind ks) sound some)
  exprs_bytes Γ ks (row.and_value c code codes) sound some =
      let x = expr_bytes Γ (one sound.0) code sound.2 in let y = run_order (exprs_run codes) in omega (arith, x, y)

  branch_bytes : {P : Coded} {w : Place} {e : Expr} {sense : Bool} {target a b : ℕ} (Γ : Scope) (ks : Kinds) → BranchCode P w e sense target a b → ExprIn Γ e ks → a < b
  branch_bytes Γ ks (row.on_value c code own) sound = let x = run_order (expr_run code) in let y = own_bytes own in omega (arith, x, y)
  branch_bytes Γ ks (row.on_negation code) sound = branch_bytes Γ a_word code sound.0
  branch_bytes Γ ks (row.on_relation c f first second own) sound =
      let x = expr_bytes Γ a_word first sound.0 in let y = run_order (expr_run second) in let z = in_order own in omega (arith, x, y, z)
  branch_bytes Γ ks (row.on_long_relation c f first second own) sound =
      let x = expr_bytes Γ a_long first sound.0 in let y = run_order (expr_run second) in let z = in_order own in omega (arith, x, y, z)
  branch_bytes Γ ks (row.unless_all code) sound = operands_bytes Γ code sound.1 (let le = sound.0 in omega (arith, le))
  branch_bytes Γ ks (row.if_all c code own) sound = let x = run_order (operands_run code) in let y = own_bytes own in omega (arith, x, y)
  branch_bytes Γ ks (row.if_some code) sound = operands_bytes Γ code sound.1 (let le = sound.0 in omega (arith, le))
  branch_bytes Γ ks (row.unless_some c code own) sound = let x = run_order (operands_run code) in let y = own_bytes own in omega (arith, x, y)

  operands_bytes : {P : Coded} {w : Place} {es : Exprs} {sense : Bool} {target a b : ℕ} (Γ : Scope) → OperandsCode P w es sense target a b → WordsIn Γ es
      → 1 ≤ count_of es → a < b
  operands_bytes Γ row.no_operands sound some = absurd (omega (arith, some))
  operands_bytes Γ (row.and_operand c code codes) sound some =
      let x = branch_bytes Γ a_word code sound.0 in let y = run_order (operands_run codes) in omega (arith, x, y)

-- Statements.

-- a loop has its jump back
loop_bytes : {P : Coded} {w : Place} {k : Counter} {l : Loop} {a b : ℕ} → LoopCode P w k l a b → a < b
loop_bytes {k = k} (row.rounds {a = a} offsets c d f done g own cond body back fin exits) =
    let o1 = in_order own in let o2 = run_order (condition_run cond) in let o3 = run_order (stmt_run body) in let o4 = own_last _ (step_code k) (i.JumpBack a) [] back in
    let o5 = run_order (finish_run fin) in let o6 = run_order (exits_run exits) in omega (arith, o1, o2, o3, o4, o5, o6)

-- nothing is between them
no_room : {A : Type 0} {a b : ℕ} → a < b → b ≤ a → A
no_room lt le = absurd (omega (arith, lt, le))

module _ (Q : Program) (again : Next) where
  mutual
    unfolding does sequence marked marked_of labelled labelled_of through through_of on_normal normal_then after carry give StmtIn StmtsIn

    pub statement_nothing : {P : Coded} {v : Place} {s : Stmt} {a b : ℕ} (Γ : Scope) → StmtCode P v s a b → StmtIn Γ s → b ≤ a → (w : Where) (σ : State)
        → does Q again s w σ ≡ record { answer = Normal; state = σ }
    statement_nothing Γ row.null sound le w σ = refl
    statement_nothing Γ (row.marked {n = n} {s = s} code) sound le w σ =
        ap (λ r. carry r (marked_of w.frame n (λ τ. again (Marked n s) w τ))) (statement_nothing (in_marked n Γ) code sound.1 le w σ)
    statement_nothing Γ (row.declare {hs = hs} own) sound le w σ = no_room (zero_bytes _ hs sound.0 own) le
    statement_nothing Γ (row.declare_as {hs = hs} {k = k} c d own code spread) sound le w σ =
        let x = zero_bytes _ hs sound.1 own in let y = run_order (expr_run code) in let z = in_order spread in no_room (omega (arith, x, y, z)) le
    statement_nothing Γ (row.assign c static code own) sound le w σ = let x = run_order (expr_run code) in let y = own_bytes own in no_room (omega (arith, x, y)) le
    statement_nothing Γ (row.assign_element c d f dynamic own path code store) sound le w σ =
        let x = own_bytes own in let y = run_order (path_run path) in let z = run_order (expr_run code) in let o = in_order store in no_room (omega (arith, x, y, z, o)) le
    statement_nothing Γ (row.extract {of_record = true} c code targets) sound le w σ =
        let x = expr_bytes Γ (one (Record sound.2)) code sound.3 in let y = run_order (targets_run targets) in no_room (omega (arith, x, y)) le
    statement_nothing Γ (row.extract {of_record = false} c code targets) sound le w σ =
        let x = expr_bytes Γ sound.3 code sound.4 in let y = run_order (targets_run targets) in no_room (omega (arith, x, y)) le
    statement_nothing Γ (row.perform c code own) sound le w σ = let x = expr_bytes Γ sound.2 code sound.3 in let y = in_order own in no_room (omega (arith, x, y)) le
    statement_nothing Γ (row.if_else c d away code first onward last) sound le w σ =
        let x = branch_bytes Γ a_word code sound.1 in let y = run_order (stmt_run first) in let z = run_order (onward_run onward) in let o = run_order (stmt_run last) in
        no_room (omega (arith, x, y, z, o)) le
    statement_nothing Γ (row.select c d code store cases) sound le w σ =
        let x = run_order (expr_run code) in let y = own_bytes store in let z = run_order (cases_run cases) in no_room (omega (arith, x, y, z)) le
    statement_nothing Γ (row.select_none c d code drop last) sound le w σ =
        let x = expr_bytes Γ (one sound.0) code sound.2 in let y = in_order drop in let z = run_order (stmt_run last) in no_room (omega (arith, x, y, z)) le
    statement_nothing Γ (row.select_long c d code store cases) sound le w σ =
        let x = run_order (expr_run code) in let y = own_bytes store in let z = run_order (cases_run cases) in no_room (omega (arith, x, y, z)) le
    statement_nothing Γ (row.select_long_none c d code drop last) sound le w σ =
        let x = expr_bytes Γ a_long code sound.1 in let y = in_order drop in let z = run_order (stmt_run last) in no_room (omega (arith, x, y, z)) le
    statement_nothing Γ (row.block {ph = ph} {ss = ss} {es = es} offsets c d phrase stmts onward last) sound le w σ =
        let x = run_order (onward_run onward) in let y = run_order (exits_run last) in
        ap (λ r. carry (carry r (through_of again w ph)) (labelled_of w.frame (λ l. exits Q again es w l)))
        (statements_nothing (in_labelled sound.0 es Γ) stmts sound.3 (omega (arith, x, y, le)) (catching ph w) σ)
    statement_nothing Γ (row.loop code) sound le w σ = no_room (loop_bytes code) le
    statement_nothing Γ (row.count c d bounds start code) sound le w σ =
        let x = run_order (bounds_run bounds) in let y = in_order start in let z = loop_bytes code in no_room (omega (arith, x, y, z)) le
    statement_nothing Γ (row.jump to is own) sound le w σ = no_room (own_bytes own) le
    statement_nothing Γ (row.return_with {places = places} {es = es} c to code leads own) sound le w σ =
        let x = run_order (exprs_run code) in let y = own_last _ (arrange_code places (sizes es)) _ _ own in no_room (omega (arith, x, y)) le
    statement_nothing Γ (row.resume {places = places} {es = es} c code own) sound le w σ =
        let x = run_order (exprs_run code) in let y = own_last _ (arrange_code places (sizes es)) _ _ own in no_room (omega (arith, x, y)) le
    statement_nothing Γ (row.reject own) sound le w σ = no_room (own_bytes own) le
    statement_nothing Γ (row.retry to is own) sound le w σ = no_room (own_bytes own) le
    statement_nothing Γ (row.continue to is own) sound le w σ = no_room (own_bytes own) le

    pub statements_nothing : {P : Coded} {v : Place} {ss : Stmts} {a b : ℕ} (Γ : Scope) → StmtsCode P v ss a b → StmtsIn Γ ss → b ≤ a → (w : Where) (σ : State)
        → sequence Q again ss w σ ≡ record { answer = Normal; state = σ }
    statements_nothing Γ row.no_statements sound le w σ = refl
    statements_nothing Γ (row.and_statement {s = s} {ss = ss} c code codes) sound le w σ =
        let x = run_order (stmt_run code) in let y = run_order (stmts_run codes) in
        ap (λ r. carry r (normal_then (sequence Q again ss w))) (statement_nothing Γ code sound.0 (omega (arith, y, le)) w σ)
        ∙ statements_nothing Γ codes sound.1 (omega (arith, x, le)) w σ
