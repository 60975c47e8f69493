-- The laws of the relation.
use Rattle.std.specs.Prelude.{◌≡◌, ℕ, ◌+◌, ◌<◌, ◌≤◌, List, [], ◌∷◌, ◌++◌, Some, Bool}
use Rattle.mesa_types.specs.declared.typed_parts.Base.{Base}
use Rattle.mesa_types.specs.declared.typed_parts.Bases.{Bases}
use Rattle.mesa_types.specs.declared.typed_parts.Conversion.{Conversion}
use Rattle.mesa_types.specs.declared.typed_parts.Home.{Home}
use Rattle.mesa_types.specs.declared.typed_parts.Operator.{Operator}
use Rattle.mesa_types.specs.declared.typed_parts.Range.{Range}
use Rattle.mesa_base.specs.declared.relation.Relation.{Relation}
use Rattle.mesa_types.specs.declared.types.FieldType.{FieldType}
use Rattle.mesa_types.specs.Counts.{words_before, words_after}
use Rattle.mesa_types.specs.Shapes.{count_in}
use Rattle.mesa_types.specs.Sound.{BodyIn}
use Rattle.mesa_types.specs.Typed.{Arms, Expr, Stmt, Body, Module}
use Rattle.code_forms.specs.declared.instruction.Instruction.{Instruction}
use Rattle.code_forms.specs.declared.module_code.Arm.{Arm}
use Rattle.code_forms.specs.Instructions.{bytes_of}
use Rattle.code_forms.specs.Depths.{depth_after}
use Rattle.code_rules.specs.Loops.{Counter, start_code, count_code, step_code}
use Rattle.code_rules.specs.OwnCode.{field_code, long_code, check_code, conversion_code, index_code, relation_code, relation_jump, long_relation_code, long_relation_jump, operator_code, long_operator_code, within_code, long_within_code, arrange_code, total}
use Rattle.code_rules.specs.Scopes.{scopes}
use Rattle.code_rules.specs.Told.{told_scopes}
use Rattle.code_rules.specs.Modules.{BodyCode, body_end}
use Rattle.code_rules.specs.Slots.{local_slot, global_slot, words_at, zero_code, spread_code}
use Rattle.code_rules.specs.CodeFor.{ArmsCode, ExprCode, StmtCode}
use Rattle.code_rules.specs.Agreement.{WaysAgree}
use Rattle.code_rules.specs.Reading.{Coded, Destination, Place, Own, Read, read, behind, scratch}

-- whole instructions from one offset to another; at each of them these phrases are enabled, and maybe others inside of them
pub data Run (P : Coded) (around : List ℕ) : ℕ → ℕ → Type 0 where
  ends : {a : ℕ} → Run P around a a
  goes : {a b : ℕ} (r : Read) (inner : List ℕ) → read P a ≡ Some r → r.around ≡ inner ++ around → Run P around (a + bytes_of r.instruction) b
      → Run P around a b

-- so each of these regions is
abbrev pub RegionsRun : Coded → List ℕ → List Arm → Type 0
RegionsRun P around [] = Unit {0}
RegionsRun P around (r ∷ rs) = Run P around r.start r.end × RegionsRun P around rs

-- code that stands for a construct begins and ends where an instruction of the procedure does, and what is enabled around the construct
-- is enabled at each of its instructions
pub record CodeIsWhole : Type 0 where
  pub of_expression : (P : Coded) (w : Place) (e : Expr) (a b : ℕ) → ExprCode P w e a b → Run P w.around a b
  pub of_statement : (P : Coded) (w : Place) (s : Stmt) (a b : ℕ) → StmtCode P w s a b → Run P w.around a b
  pub of_arms : (P : Coded) (w : Place) (arms : Arms) (regions : List Arm) → ArmsCode P w arms regions → RegionsRun P w.around regions
  pub of_body : (P : Coded) (s : Stmt) → BodyCode P s → Run P [] 0 (body_end P.routine)

-- and so it ends no earlier than it begins
pub record CodeLiesInOrder : Type 0 where
  pub of_expression : (P : Coded) (w : Place) (e : Expr) (a b : ℕ) → ExprCode P w e a b → a ≤ b
  pub of_statement : (P : Coded) (w : Place) (s : Stmt) (a b : ℕ) → StmtCode P w s a b → a ≤ b

-- the words on the operand stack behind some instructions
abbrev pub left_by : Coded → List Instruction → ℕ → ℕ
left_by P [] depth = depth
left_by P (i ∷ is) depth = left_by P is (depth_after P.routine i depth)

-- own code joins and splits
abbrev pub behind_all : Coded → List Instruction → Place → Place
behind_all P [] w = w
behind_all P (i ∷ is) w = behind_all P is (behind P i w)

pub record OwnCodeJoins : Type 0 where
  pub joins : (P : Coded) (w : Place) (is js : List Instruction) (a b c : ℕ) → Own P w is a b → Own P (behind_all P is w) js b c
      → Own P w (is ++ js) a c
  pub splits : (P : Coded) (w : Place) (is js : List Instruction) (a c : ℕ) → Own P w (is ++ js) a c
      → (b : ℕ) × Own P w is a b × Own P (behind_all P is w) js b c

-- own code takes and puts as many words as its row says, by the table of the instructions
pub record OwnCodeKeepsWords : Type 0 where
  pub field : (P : Coded) (before words after d : ℕ) → left_by P (field_code before words after) (d + before + words + after) ≡ d + words
  pub check : (P : Coded) (r : Range) (d : ℕ) → left_by P (check_code r) (d + 1) ≡ d + 1
  pub long : (P : Coded) (n d : ℕ) → left_by P (long_code n) d ≡ d + 2
  pub conversion : (P : Coded) (c : Conversion) (d : ℕ) → left_by P (conversion_code c) (d + words_before c) ≡ d + words_after c
  pub index : (P : Coded) (r : Range) (first n words d : ℕ) → left_by P (index_code r first n words) (d + 2) ≡ d + 1
  pub relation : (P : Coded) (b : Base) (o : Relation) (d : ℕ) → left_by P (relation_code b o) (d + 2) ≡ d + 1
  pub relation_jump : (P : Coded) (b : Base) (o : Relation) (sense : Bool) (target d : ℕ) → left_by P (relation_jump b o sense target) (d + 2) ≡ d
  pub long_relation : (P : Coded) (b : Base) (o : Relation) (d : ℕ) → left_by P (long_relation_code b o) (d + 4) ≡ d + 1
  pub long_relation_jump : (P : Coded) (b : Base) (o : Relation) (sense : Bool) (target d : ℕ)
      → left_by P (long_relation_jump b o sense target) (d + 4) ≡ d
  pub long_operator : (P : Coded) (o : Operator) (d : ℕ) → left_by P (long_operator_code o) (d + 4) ≡ d + 2
  pub operator : (P : Coded) (t : ℕ) (o : Operator) (d : ℕ) → left_by P (operator_code t o) (d + 2) ≡ d + 1
  pub within : (P : Coded) (t : ℕ) (bases : Bases) (p q : Bool) (d : ℕ) → left_by P (within_code t bases p q) (d + 3) ≡ d + 1
  pub long_within : (P : Coded) (t : ℕ) (bases : Bases) (p q : Bool) (d : ℕ) → left_by P (long_within_code t bases p q) (d + 6) ≡ d + 1
  pub arranged : (P : Coded) (places sizes : List ℕ) (d : ℕ) → left_by P (arrange_code places sizes) (d + total sizes) ≡ d + total sizes
  pub cleared : (P : Coded) (hs : List Home) (words d : ℕ) → left_by P (zero_code P hs words) d ≡ d
  pub spread : (P : Coded) (hs : List Home) (words d : ℕ) → left_by P (spread_code P hs words) (d + words) ≡ d
  pub started : (P : Coded) (z : ℕ) (b : Base) (p q : Bool) (d : ℕ) → left_by P (start_code z b p q) (d + 2) ≡ d
  pub counted : (P : Coded) (k : Counter) (target d : ℕ) → left_by P (count_code P k target) d ≡ d
  pub stepped : (P : Coded) (k : Counter) (d : ℕ) → left_by P (step_code k) d ≡ d

-- the ways to the points of a sound body, where they are offsets of the code and where nothing is said of them, are out of the arms that
-- a jump says
pub record JumpsLeaveTheirArms : Type 0 where
  pub in_code : WaysAgree Destination
  pub in_scopes : WaysAgree (Unit {0})

-- in a sound body the arms that jumps leave are those that the tree says
abbrev pub ScopesAreTold : Type 0
ScopesAreTold = (m : Module) (takes gives : List FieldType) (body : Body) → BodyIn m takes gives body → scopes body ≡ told_scopes body

-- each variable has slots of its own, one before the other, and those of a procedure before its scratch words
pub record SlotsAreApart : Type 0 where
  pub locals : (P : Coded) (n m : ℕ) → n < m → m < count_in P.locals → local_slot P n + words_at P.locals n ≤ local_slot P m
  pub globals : (P : Coded) (n m : ℕ) → n < m → m < count_in P.globals → global_slot P n + words_at P.globals n ≤ global_slot P m
  pub scratch_words : (P : Coded) (n : ℕ) → n < count_in P.locals → local_slot P n + words_at P.locals n ≤ scratch P
