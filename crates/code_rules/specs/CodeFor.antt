-- The code from a to b stands for a construct: one row for each construct of the typed tree, and several where there is a choice (rule
-- of this project). P is the procedure with its code, w what stands around the construct, and the numbers before the parts are the
-- offsets between them. A statement begins and ends with no words on the operand stack; an expression adds its words. Code lies
-- without gaps, and each instruction has its words and its phrases by `Own`. So what can raise stands only for a check, a conversion, an
-- index, a divisor, a byte of a string, a character plus or minus a number, or a call or raise of the text; and a turn is spent only by the end
-- of a loop's round, a call and a raise.
use Rattle.std.specs.Prelude.{◌≡◌, ℕ, suc, ◌+◌, ◌-◌, List, [], ◌∷◌, ◌++◌, Bool, true, false, not, map, Option, Some, None, nat_lt, slice_get, if◌then◌else◌}
use Rattle.mesa_types.specs.declared.typed_parts.Base.{Base}
use Rattle.mesa_types.specs.declared.typed_parts.Bases.{Bases}
use Rattle.mesa_types.specs.declared.typed_parts.Callee.{Callee}
use Rattle.mesa_types.specs.declared.typed_parts.Conversion.{Conversion}
use Rattle.mesa_types.specs.declared.typed_parts.Given.{Given}
use Rattle.mesa_types.specs.declared.typed_parts.Goal.{Goal}
use Rattle.mesa_types.specs.declared.typed_parts.Home.{Home}
use Rattle.mesa_types.specs.declared.typed_parts.Label.{Label}
use Rattle.mesa_types.specs.declared.typed_parts.Operator.{Operator}
use Rattle.mesa_types.specs.declared.typed_parts.Part.{Part}
use Rattle.mesa_types.specs.declared.typed_parts.Raised.{Raised}
use Rattle.mesa_types.specs.declared.typed_parts.Range.{Range}
use Rattle.mesa_base.specs.declared.relation.Relation.{Relation}
use Rattle.mesa_types.specs.Typed.{Kind, Start, After, Leave, point_of, Expr, Number, LongNumber, Literal, Variable, FieldOf, LengthOf, ByteOf, Checked, Converted, Operate, OperateLong, Negate, NegateLong, Relate, RelateLong, Within, WithinLong, Not, AllOf, SomeOf, Construct, Call, Raise, Exprs, NoExprs, AndExpr, Suffixes, NoSuffix, Field, Index, Operations, NoOperation, Then, Interval, Between, Phrase, NoPhrase, Catch, Arms, NoArms, AndArm, Stmt, Null, Marked, Declare, DeclareAs, Assign, Extract, Perform, If, Select, SelectLong, Block, Repeat, Endless, For, Jump, ReturnWith, Resume, Reject, Retry, Continue, Stmts, NoStmts, AndStmt, Targets, NoTargets, AndTarget, AndConverted, Cases, Otherwise, AndCase, Tests, NoTests, IfRelated, IfWithin, IfRelatedLong, IfWithinLong, Exits, NoExits, AndExit, Loop, LoopOf, Finish, NoFinish, Finished, Condition, Always, While, Until}
use Rattle.mesa_types.specs.Operators.{differ}
use Rattle.mesa_types.specs.Shapes.{words_in}
use Rattle.mesa_types.specs.Counts.{hidden, hidden_expr, hidden_suffixes, hidden_interval, hidden_phrase, hidden_stmts, hidden_targets, hidden_tests, hidden_exits, hidden_condition, words_of, words_given, last_words, words_before, words_after}
use Rattle.code_forms.specs.declared.instruction.Instruction.TheVariants as i
use Rattle.code_forms.specs.declared.module_code.Arm.{Arm}
use Rattle.code_rules.specs.Links.{call_code, raise_code, label_code}
use Rattle.code_rules.specs.Loops.{Counter, NoCounter, CountedIn, start_code, count_code, step_code}
use Rattle.code_rules.specs.OwnCode.{pop_code, lift_code, field_code, long_code, check_code, conversion_code, index_code, relation_code, relation_jump, long_relation_code, long_relation_jump, jump_where, operator_code, long_operator_code, within_code, long_within_code, arrange_code}
use Rattle.code_rules.specs.Points.{OutOf, in_marked, in_labelled, is_among}
use Rattle.code_rules.specs.Reading.{Coded, Destination, Offset, Place, Own, deeper, beyond, past, past_all, in_region, scratch, jump_to}
use Rattle.code_rules.specs.Slots.{words_from, local_slot, load, store, load_within, store_within, fields_of, HasIndex, HasNoIndex, zero_code, spread_code, sizes}

-- the words before the last of some fields, each a field of the one before
abbrev pub words_before_last : List Part → ℕ
words_before_last [] = 0
words_before_last (p ∷ ps) = p.offset + words_before_last ps

-- Of an extractor's value, the words of the parts that were taken; those of them that lay behind a part; and the words over a part.

abbrev pub words_taken : List Part → ℕ
words_taken [] = 0
words_taken (p ∷ ps) = p.words + words_taken ps

abbrev pub taken_behind : Part → List Part → ℕ
taken_behind p [] = 0
taken_behind p (q ∷ qs) = (if nat_lt p.offset q.offset then q.words else 0) + taken_behind p qs

abbrev pub words_over : (all : ℕ) → (taken : List Part) → Part → ℕ
words_over all taken p = all - (p.offset + p.words) - taken_behind p taken

-- what is left of the value is on the operand stack
abbrev pub leaving : (all : ℕ) → (taken : List Part) → Place → Place
leaving all taken w = deeper (all - words_taken taken) w

-- the statements of labels begin at these offsets
abbrev pub label_at : Exits → List ℕ → ℕ → Option Destination
label_at (AndExit ls s es) (offset ∷ offsets) l = if is_among l ls then Some (Offset offset) else label_at es offsets l
label_at _ _ l = None

abbrev pub with_labels : Exits → List ℕ → Place → Place
with_labels es offsets w = record w { points = in_labelled (label_at es offsets) w.points }

-- in a numbered statement from one offset to another
abbrev pub with_mark : ℕ → (a b : ℕ) → Place → Place
with_mark n a b w = record w { points = in_marked n (Offset a) (Offset b) w.points }

-- in the range of a phrase
abbrev pub in_range : ℕ → Place → Place
in_range phrase w = record w { around = phrase ∷ w.around }

-- an arm whose region is from one offset to another, with the slots of its parameters
abbrev pub arm_from : Coded → List Label → (first count : ℕ) → (start end : ℕ) → Arm
arm_from P labels first count start end = record {
  labels = map (label_code P.imports) labels;
  slot = local_slot P first;
  words = words_from P.locals first count;
  start = start;
  end = end;
}

-- control comes from a to a further offset, where the code goes on at b: it falls there, or jumps
pub data Onward (P : Coded) : Place → (target a b : ℕ) → Type 0 where
  falls : {w : Place} {a : ℕ} → Onward P w a a a
  jumps : {w : Place} {target a b : ℕ} → Own P w (i.Jump target ∷ []) a b → Onward P w target a b

mutual
  -- the words of the value come to the operand stack
  pub data ExprCode (P : Coded) : Place → Expr → ℕ → ℕ → Type 0 where
    number : {w : Place} {n a b : ℕ} → Own P w (i.Lit n ∷ []) a b → ExprCode P w (Number n) a b
    long_number : {w : Place} {n a b : ℕ} → Own P w (long_code n) a b → ExprCode P w (LongNumber n) a b
    literal : {w : Place} {k a b : ℕ} → Own P w (i.Str (suc k) ∷ []) a b → ExprCode P w (Literal k) a b
    variable : {w : Place} {h : Home} {s : Suffixes} {words a b : ℕ} → HasNoIndex s → Own P w (load P h (fields_of s) words ∷ []) a b
        → ExprCode P w (Variable h s words) a b
    element : {w : Place} {h : Home} {s : Suffixes} {words a b : ℕ} (c d : ℕ) → HasIndex s → Own P w (i.Lit (fields_of s) ∷ []) a c
        → PathCode P (deeper 1 w) s c d → Own P (deeper 1 w) (load_within P h words ∷ []) d b → ExprCode P w (Variable h s words) a b
    field_of : {w : Place} {e : Expr} {parts : List Part} {a b : ℕ} (c after : ℕ) → ExprCode P w e a c
        → words_before_last parts + last_words parts + after ≡ words_of e
        → Own P (past e w) (field_code (words_before_last parts) (last_words parts) after) c b → ExprCode P w (FieldOf e parts) a b
    length_of : {w : Place} {e : Expr} {a b : ℕ} (c : ℕ) → ExprCode P w e a c → Own P (past e w) (i.StrLen ∷ []) c b
        → ExprCode P w (LengthOf e) a b
    byte_of : {w : Place} {e index : Expr} {a b : ℕ} (c d : ℕ) → ExprCode P w e a c → ExprCode P (past e w) index c d
        → Own P (past index (past e w)) (i.StrAt ∷ []) d b → ExprCode P w (ByteOf e index) a b
    checked : {w : Place} {r : Range} {e : Expr} {a b : ℕ} (c : ℕ) → ExprCode P w e a c → Own P (past e w) (check_code r) c b
        → ExprCode P w (Checked r e) a b
    converted : {w : Place} {conversion : Conversion} {e : Expr} {a b : ℕ} (c : ℕ) → ExprCode P w e a c
        → Own P (past e w) (conversion_code conversion) c b → ExprCode P w (Converted conversion e) a b
    operate : {w : Place} {e : Expr} {os : Operations} {a b : ℕ} (c : ℕ) → ExprCode P w e a c → OperationsCode P (past e w) os c b
        → ExprCode P w (Operate e os) a b
    operate_long : {w : Place} {e : Expr} {os : Operations} {a b : ℕ} (c : ℕ) → ExprCode P w e a c → LongOperationsCode P (past e w) os c b
        → ExprCode P w (OperateLong e os) a b
    negate : {w : Place} {e : Expr} {a b : ℕ} (c : ℕ) → ExprCode P w e a c → Own P (past e w) (i.Neg ∷ []) c b → ExprCode P w (Negate e) a b
    negate_long : {w : Place} {e : Expr} {a b : ℕ} (c : ℕ) → ExprCode P w e a c → Own P (past e w) (i.NegD ∷ []) c b
        → ExprCode P w (NegateLong e) a b
    relate : {w : Place} {base : Base} {o : Relation} {d e : Expr} {a b : ℕ} (c f : ℕ) → ExprCode P w d a c → ExprCode P (past d w) e c f
        → Own P (past e (past d w)) (relation_code base o) f b → ExprCode P w (Relate base o d e) a b
    relate_long : {w : Place} {base : Base} {o : Relation} {d e : Expr} {a b : ℕ} (c f : ℕ) → ExprCode P w d a c → ExprCode P (past d w) e c f
        → Own P (past e (past d w)) (long_relation_code base o) f b → ExprCode P w (RelateLong base o d e) a b
    within : {w : Place} {bases : Bases} {e x y : Expr} {p q : Bool} {a b : ℕ} (c d : ℕ) → ExprCode P w e a c
        → BoundsCode P (past e w) x y c d → Own P (past y (past x (past e w))) (within_code (scratch P) bases p q) d b
        → ExprCode P w (Within bases e (Between x p y q)) a b
    within_long : {w : Place} {bases : Bases} {e x y : Expr} {p q : Bool} {a b : ℕ} (c d : ℕ) → ExprCode P w e a c
        → BoundsCode P (past e w) x y c d → Own P (past y (past x (past e w))) (long_within_code (scratch P) bases p q) d b
        → ExprCode P w (WithinLong bases e (Between x p y q)) a b
    negation : {w : Place} {e : Expr} {a b : ℕ} (c : ℕ) → ExprCode P w e a c → Own P (past e w) (i.Not ∷ []) c b → ExprCode P w (Not e) a b
    -- once the answer is known, no further operand is evaluated
    all_of : {w : Place} {es : Exprs} {a b : ℕ} (c no : ℕ) → OperandsCode P w es false no a c → Own P w (i.Lit 1 ∷ i.Jump b ∷ []) c no
        → Own P w (i.Lit 0 ∷ []) no b → ExprCode P w (AllOf es) a b
    some_of : {w : Place} {es : Exprs} {a b : ℕ} (c yes : ℕ) → OperandsCode P w es true yes a c → Own P w (i.Lit 0 ∷ i.Jump b ∷ []) c yes
        → Own P w (i.Lit 1 ∷ []) yes b → ExprCode P w (SomeOf es) a b
    construct : {w : Place} {places : List ℕ} {es : Exprs} {a b : ℕ} (c : ℕ) → ExprsCode P w es a c
        → Own P (past_all es w) (arrange_code places (sizes es)) c b → ExprCode P w (Construct places es) a b
    call : {w v : Place} {callee : Callee} {places : List ℕ} {es : Exprs} {words : ℕ} {ph : Phrase} {a b : ℕ} (c d : ℕ) → ExprsCode P w es a c
        → Own P (past_all es w) (arrange_code places (sizes es)) c d → PhraseCode P (past_all es w) ph d b v
        → Own P v (call_code P.imports callee ∷ []) d b → ExprCode P w (Call callee places es words ph) a b
    raise : {w v : Place} {raised : Raised} {places : List ℕ} {es : Exprs} {words : ℕ} {ph : Phrase} {a b : ℕ} (c d : ℕ) → ExprsCode P w es a c
        → Own P (past_all es w) (arrange_code places (sizes es)) c d → PhraseCode P (past_all es w) ph d b v
        → Own P v (raise_code P.imports raised ∷ []) d b → ExprCode P w (Raise raised places es words ph) a b

  -- the values one after the other
  pub data ExprsCode (P : Coded) : Place → Exprs → ℕ → ℕ → Type 0 where
    no_values : {w : Place} {a : ℕ} → ExprsCode P w NoExprs a a
    and_value : {w : Place} {e : Expr} {es : Exprs} {a b : ℕ} (c : ℕ) → ExprCode P w e a c → ExprsCode P (past e w) es c b
        → ExprsCode P w (AndExpr e es) a b

  -- two bounds, the first and the last
  pub data BoundsCode (P : Coded) : Place → (first last : Expr) → ℕ → ℕ → Type 0 where
    bounds : {w : Place} {x y : Expr} {a b : ℕ} (c : ℕ) → ExprCode P w x a c → ExprCode P (past x w) y c b → BoundsCode P w x y a b

  -- what stands to the left is on the operand stack
  pub data OperationsCode (P : Coded) : Place → Operations → ℕ → ℕ → Type 0 where
    no_operation : {w : Place} {a : ℕ} → OperationsCode P w NoOperation a a
    operation : {w : Place} {r : Range} {o : Operator} {e : Expr} {os : Operations} {a b : ℕ} (c d f : ℕ) → Own P w (check_code r) a c
        → ExprCode P w e c d → Own P (past e w) (operator_code (scratch P) o) d f → OperationsCode P (beyond (hidden_expr e) w) os f b
        → OperationsCode P w (Then r o e os) a b

  -- over LONG numbers, in which nothing is checked
  pub data LongOperationsCode (P : Coded) : Place → Operations → ℕ → ℕ → Type 0 where
    no_long_operation : {w : Place} {a : ℕ} → LongOperationsCode P w NoOperation a a
    long_operation : {w : Place} {r : Range} {o : Operator} {e : Expr} {os : Operations} {a b : ℕ} (c d : ℕ) → ExprCode P w e a c
        → Own P (past e w) (long_operator_code o) c d → LongOperationsCode P (beyond (hidden_expr e) w) os d b
        → LongOperationsCode P w (Then r o e os) a b

  -- the offset of what the suffixes so far name is on the operand stack, all fields counted already
  pub data PathCode (P : Coded) : Place → Suffixes → ℕ → ℕ → Type 0 where
    here : {w : Place} {a : ℕ} → PathCode P w NoSuffix a a
    field : {w : Place} {n offset : ℕ} {s : Suffixes} {a b : ℕ} → PathCode P w s a b → PathCode P w (Field n offset s) a b
    index : {w : Place} {r : Range} {first n words : ℕ} {e : Expr} {s : Suffixes} {a b : ℕ} (c d : ℕ) → ExprCode P w e a c
        → Own P (past e w) (index_code r first n words) c d → PathCode P (beyond (hidden_expr e) w) s d b
        → PathCode P w (Index r first n words e s) a b

  -- control comes to the target where the value is true, or where it is not, as is said; else to b
  pub data BranchCode (P : Coded) : Place → Expr → Bool → (target : ℕ) → ℕ → ℕ → Type 0 where
    on_value : {w : Place} {e : Expr} {sense : Bool} {target a b : ℕ} (c : ℕ) → ExprCode P w e a c
        → Own P (past e w) (jump_where sense target ∷ []) c b → BranchCode P w e sense target a b
    on_negation : {w : Place} {e : Expr} {sense : Bool} {target a b : ℕ} → BranchCode P w e (not sense) target a b
        → BranchCode P w (Not e) sense target a b
    on_relation : {w : Place} {base : Base} {o : Relation} {d e : Expr} {sense : Bool} {target a b : ℕ} (c f : ℕ) → ExprCode P w d a c
        → ExprCode P (past d w) e c f → Own P (past e (past d w)) (relation_jump base o sense target) f b
        → BranchCode P w (Relate base o d e) sense target a b
    on_long_relation : {w : Place} {base : Base} {o : Relation} {d e : Expr} {sense : Bool} {target a b : ℕ} (c f : ℕ) → ExprCode P w d a c
        → ExprCode P (past d w) e c f → Own P (past e (past d w)) (long_relation_jump base o sense target) f b
        → BranchCode P w (RelateLong base o d e) sense target a b
    unless_all : {w : Place} {es : Exprs} {target a b : ℕ} → OperandsCode P w es false target a b → BranchCode P w (AllOf es) false target a b
    if_all : {w : Place} {es : Exprs} {target a b : ℕ} (c : ℕ) → OperandsCode P w es false b a c → Own P w (i.Jump target ∷ []) c b
        → BranchCode P w (AllOf es) true target a b
    if_some : {w : Place} {es : Exprs} {target a b : ℕ} → OperandsCode P w es true target a b → BranchCode P w (SomeOf es) true target a b
    unless_some : {w : Place} {es : Exprs} {target a b : ℕ} (c : ℕ) → OperandsCode P w es true b a c → Own P w (i.Jump target ∷ []) c b
        → BranchCode P w (SomeOf es) false target a b

  -- control comes to the target from the first operand that is true, or that is not, as is said; else to b
  pub data OperandsCode (P : Coded) : Place → Exprs → Bool → (target : ℕ) → ℕ → ℕ → Type 0 where
    no_operands : {w : Place} {sense : Bool} {target a : ℕ} → OperandsCode P w NoExprs sense target a a
    and_operand : {w : Place} {e : Expr} {es : Exprs} {sense : Bool} {target a b : ℕ} (c : ℕ) → BranchCode P w e sense target a c
        → OperandsCode P (beyond (hidden_expr e) w) es sense target c b → OperandsCode P w (AndExpr e es) sense target a b

  -- what a phrase is enabled for, from a to b, has v around it; over no instruction a phrase has no range
  pub data PhraseCode (P : Coded) : Place → Phrase → (a b : ℕ) → (v : Place) → Type 0 where
    no_phrase : {w : Place} {a b : ℕ} → PhraseCode P w NoPhrase a b w
    no_range : {w : Place} {statement : ℕ} {arms : Arms} {a : ℕ} → PhraseCode P w (Catch statement arms) a a w
    catch : {w : Place} {statement : ℕ} {arms : Arms} {a b : ℕ} (phrase : ℕ) (regions : List Arm) → nat_lt a b ≡ true
        → slice_get P.routine.phrases phrase ≡ Some (record { from = a; to = b; arms = regions }) → ArmsCode P (in_region w) arms regions
        → PhraseCode P w (Catch statement arms) a b (in_range phrase w)

  -- each arm has a region, which stands for its statement and ends in a reject
  pub data ArmsCode (P : Coded) : Place → Arms → List Arm → Type 0 where
    no_arms : {w : Place} → ArmsCode P w NoArms []
    and_arm : {w : Place} {labels : List Label} {first count : ℕ} {s : Stmt} {arms : Arms} {regions : List Arm} (a c b : ℕ)
        → StmtCode P w s a c → Own P w (i.ArmEnd ∷ []) c b → ArmsCode P (beyond (hidden s) w) arms regions
        → ArmsCode P w (AndArm labels first count s arms) (arm_from P labels first count a b ∷ regions)

  pub data StmtCode (P : Coded) : Place → Stmt → ℕ → ℕ → Type 0 where
    null : {w : Place} {a : ℕ} → StmtCode P w Null a a
    marked : {w : Place} {n : ℕ} {s : Stmt} {a b : ℕ} → StmtCode P (with_mark n a b w) s a b → StmtCode P w (Marked n s) a b
    declare : {w : Place} {hs : List Home} {k : Kind} {a b : ℕ} → Own P w (zero_code P hs (words_in k)) a b → StmtCode P w (Declare hs k) a b
    declare_as : {w : Place} {hs : List Home} {k : Kind} {e : Expr} {a b : ℕ} (c d : ℕ) → Own P w (zero_code P hs (words_in k)) a c
        → ExprCode P w e c d → Own P (past e w) (spread_code P hs (words_in k)) d b → StmtCode P w (DeclareAs hs k e) a b
    assign : {w : Place} {h : Home} {s : Suffixes} {e : Expr} {a b : ℕ} (c : ℕ) → HasNoIndex s → ExprCode P w e a c
        → Own P (past e w) (store P h (fields_of s) (words_of e) ∷ []) c b → StmtCode P w (Assign h s e) a b
    assign_element : {w : Place} {h : Home} {s : Suffixes} {e : Expr} {a b : ℕ} (c d f : ℕ) → HasIndex s
        → Own P w (i.Lit (fields_of s) ∷ []) a c → PathCode P (deeper 1 w) s c d → ExprCode P (deeper 1 (beyond (hidden_suffixes s) w)) e d f
        → Own P (past e (deeper 1 w)) (store_within P h (words_of e) ∷ []) f b → StmtCode P w (Assign h s e) a b
    extract : {w : Place} {of_record : Bool} {ts : Targets} {e : Expr} {a b : ℕ} (c : ℕ) → ExprCode P (beyond (hidden_targets ts) w) e a c
        → TargetsCode P w (words_of e) [] ts c b → StmtCode P w (Extract of_record ts e) a b
    perform : {w : Place} {e : Expr} {a b : ℕ} (c : ℕ) → ExprCode P w e a c → Own P (past e w) (pop_code (words_of e)) c b
        → StmtCode P w (Perform e) a b
    if_else : {w : Place} {e : Expr} {s t : Stmt} {a b : ℕ} (c d no : ℕ) → BranchCode P w e false no a c
        → StmtCode P (beyond (hidden_expr e) w) s c d → Onward P w b d no → StmtCode P (beyond (hidden_expr e + hidden s) w) t no b
        → StmtCode P w (If e s t) a b
    -- a selector that is tested is held in a hidden word
    select : {w : Place} {e : Expr} {ts : Tests} {s : Stmt} {cs : Cases} {a b : ℕ} (c d : ℕ) → ExprCode P (beyond 1 w) e a c
        → Own P (past e w) (i.StoreL w.slot 1 ∷ []) c d → CasesCode P (beyond (1 + hidden_expr e) w) w.slot (AndCase ts s cs) d b
        → StmtCode P w (Select e (AndCase ts s cs)) a b
    -- a LONG one in two
    select_long : {w : Place} {e : Expr} {ts : Tests} {s : Stmt} {cs : Cases} {a b : ℕ} (c d : ℕ) → ExprCode P (beyond 2 w) e a c
        → Own P (past e w) (i.StoreL w.slot 2 ∷ []) c d → CasesCode P (beyond (2 + hidden_expr e) w) w.slot (AndCase ts s cs) d b
        → StmtCode P w (SelectLong e (AndCase ts s cs)) a b
    select_long_none : {w : Place} {e : Expr} {s : Stmt} {a b : ℕ} (c d : ℕ) → ExprCode P (beyond 2 w) e a c
        → Own P (past e w) (pop_code (words_of e)) c d → StmtCode P (beyond (2 + hidden_expr e) w) s d b
        → StmtCode P w (SelectLong e (Otherwise s)) a b
    select_none : {w : Place} {e : Expr} {s : Stmt} {a b : ℕ} (c d : ℕ) → ExprCode P (beyond 1 w) e a c
        → Own P (past e w) (pop_code (words_of e)) c d → StmtCode P (beyond (1 + hidden_expr e) w) s d b
        → StmtCode P w (Select e (Otherwise s)) a b
    -- the range of an ENABLE is the code of what it holds, without the statements of its EXITS
    block : {w v : Place} {ph : Phrase} {ss : Stmts} {es : Exits} {a b : ℕ} (offsets : List ℕ) (c d : ℕ)
        → PhraseCode P (with_labels es offsets w) ph a c v → StmtsCode P (beyond (hidden_phrase ph) v) ss a c → Onward P w b c d
        → ExitsCode P (beyond (hidden_phrase ph + hidden_stmts ss) w) es offsets b d b → StmtCode P w (Block ph ss es) a b
    loop : {w : Place} {l : Loop} {a b : ℕ} → LoopCode P w NoCounter l a b → StmtCode P w (Repeat Endless l) a b
    count : {w : Place} {g : Given} {down : Bool} {base : Base} {x y : Expr} {p q : Bool} {l : Loop} {a b : ℕ} (c d : ℕ)
        → BoundsCode P (beyond 3 w) x y a c → Own P (past y (past x w)) (start_code w.slot base p q) c d
        → LoopCode P (beyond (3 + hidden_interval (Between x p y q)) w) (CountedIn w.slot g down) l d b
        → StmtCode P w (For g down base (Between x p y q) l) a b
    jump : {w : Place} {arms : ℕ} {goal : Goal} {a b : ℕ} (to : Destination) → w.points (point_of goal) ≡ OutOf arms to
        → Own P w (jump_to arms to ∷ []) a b → StmtCode P w (Jump arms goal) a b
    -- the results are stored in their slots
    return_with : {w : Place} {arms first : ℕ} {places : List ℕ} {es : Exprs} {a b : ℕ} (c : ℕ) (to : Destination) → ExprsCode P w es a c
        → w.points Leave ≡ OutOf arms to
        → Own P (past_all es w) (arrange_code places (sizes es) ++ i.StoreL (local_slot P first) (words_given es) ∷ jump_to arms to ∷ []) c b
        → StmtCode P w (ReturnWith arms first places es) a b
    resume : {w : Place} {places : List ℕ} {es : Exprs} {a b : ℕ} (c : ℕ) → ExprsCode P w es a c
        → Own P (past_all es w) (arrange_code places (sizes es) ++ i.Resume (words_given es) ∷ []) c b → StmtCode P w (Resume places es) a b
    reject : {w : Place} {a b : ℕ} → Own P w (i.ArmEnd ∷ []) a b → StmtCode P w Reject a b
    -- out of the arm, to the statement of its phrase
    retry : {w : Place} {n a b : ℕ} (to : Destination) → w.points (Start n) ≡ OutOf 1 to → Own P w (jump_to 1 to ∷ []) a b
        → StmtCode P w (Retry n) a b
    continue : {w : Place} {n a b : ℕ} (to : Destination) → w.points (After n) ≡ OutOf 1 to → Own P w (jump_to 1 to ∷ []) a b
        → StmtCode P w (Continue n) a b

  pub data StmtsCode (P : Coded) : Place → Stmts → ℕ → ℕ → Type 0 where
    no_statements : {w : Place} {a : ℕ} → StmtsCode P w NoStmts a a
    and_statement : {w : Place} {s : Stmt} {ss : Stmts} {a b : ℕ} (c : ℕ) → StmtCode P w s a c → StmtsCode P (beyond (hidden s) w) ss c b
        → StmtsCode P w (AndStmt s ss) a b

  -- each part is brought to the top, checked and stored; what is not taken is dropped at the end
  pub data TargetsCode (P : Coded) : Place → (all : ℕ) → (taken : List Part) → Targets → ℕ → ℕ → Type 0 where
    no_targets : {w : Place} {all : ℕ} {taken : List Part} {a b : ℕ} → Own P (leaving all taken w) (pop_code (all - words_taken taken)) a b
        → TargetsCode P w all taken NoTargets a b
    and_target : {w : Place} {all : ℕ} {taken : List Part} {p : Part} {h : Home} {s : Suffixes} {r : Range} {ts : Targets} {a b : ℕ} (c : ℕ)
        → HasNoIndex s
        → Own P (leaving all taken w)
        (lift_code p.words (words_over all taken p) ++ (check_code r ++ store P h (fields_of s) p.words ∷ [])) a c
        → TargetsCode P w all (p ∷ taken) ts c b → TargetsCode P w all taken (AndTarget p h s r ts) a b
    and_element : {w : Place} {all : ℕ} {taken : List Part} {p : Part} {h : Home} {s : Suffixes} {r : Range} {ts : Targets} {a b : ℕ}
        (c d f : ℕ) → HasIndex s → Own P (leaving all taken w) (i.Lit (fields_of s) ∷ []) a c
        → PathCode P (deeper 1 (leaving all taken w)) s c d
        → Own P (deeper 1 (leaving all taken w))
        (lift_code p.words (suc (words_over all taken p)) ++ (check_code r ++ store_within P h p.words ∷ [])) d f
        → TargetsCode P (beyond (hidden_suffixes s) w) all (p ∷ taken) ts f b → TargetsCode P w all taken (AndTarget p h s r ts) a b
    and_converted : {w : Place} {all : ℕ} {taken : List Part} {p : Part} {h : Home} {s : Suffixes} {conversion : Conversion} {ts : Targets}
        {a b : ℕ} (c : ℕ) → HasNoIndex s
        → Own P (leaving all taken w)
        (lift_code p.words (words_over all taken p) ++ (conversion_code conversion ++ store P h (fields_of s) (words_after conversion) ∷ [])) a c
        → TargetsCode P w all (p ∷ taken) ts c b → TargetsCode P w all taken (AndConverted p h s conversion ts) a b
    and_converted_element : {w : Place} {all : ℕ} {taken : List Part} {p : Part} {h : Home} {s : Suffixes} {conversion : Conversion}
        {ts : Targets} {a b : ℕ} (c d f : ℕ) → HasIndex s → Own P (leaving all taken w) (i.Lit (fields_of s) ∷ []) a c
        → PathCode P (deeper 1 (leaving all taken w)) s c d
        → Own P (deeper 1 (leaving all taken w))
        (lift_code p.words (suc (words_over all taken p)) ++ (conversion_code conversion ++ store_within P h (words_after conversion) ∷ [])) d f
        → TargetsCode P (beyond (hidden_suffixes s) w) all (p ∷ taken) ts f b
        → TargetsCode P w all taken (AndConverted p h s conversion ts) a b

  -- the selector is in slot z, or in z and the next; control comes to the statement of the first case with a test that fits
  pub data CasesCode (P : Coded) : Place → (z : ℕ) → Cases → ℕ → ℕ → Type 0 where
    otherwise : {w : Place} {z : ℕ} {s : Stmt} {a b : ℕ} → StmtCode P w s a b → CasesCode P w z (Otherwise s) a b
    and_case : {w : Place} {z : ℕ} {ts : Tests} {s : Stmt} {cs : Cases} {a b : ℕ} (c d no : ℕ) → TestsCode P w z ts c no a c
        → StmtCode P (beyond (hidden_tests ts) w) s c d → Onward P w b d no → CasesCode P (beyond (hidden_tests ts + hidden s) w) z cs no b
        → CasesCode P w z (AndCase ts s cs) a b

  -- control comes to `yes` where a test fits, else to `no`
  pub data TestsCode (P : Coded) : Place → (z : ℕ) → Tests → (yes no : ℕ) → ℕ → ℕ → Type 0 where
    no_test : {w : Place} {z yes no a b : ℕ} → Own P w (i.Jump no ∷ []) a b → TestsCode P w z NoTests yes no a b
    related : {w : Place} {z : ℕ} {r : Range} {base : Base} {o : Relation} {e : Expr} {ts : Tests} {yes no a b : ℕ} (c : ℕ)
        → RelatedCode P w z r base o e true yes a c → TestsCode P (beyond (hidden_expr e) w) z ts yes no c b
        → TestsCode P w z (IfRelated r base o e ts) yes no a b
    related_last : {w : Place} {z : ℕ} {r : Range} {base : Base} {o : Relation} {e : Expr} {no a b : ℕ}
        → RelatedCode P w z r base o e false no a b → TestsCode P w z (IfRelated r base o e NoTests) b no a b
    lies : {w : Place} {z : ℕ} {negated : Bool} {bases : Bases} {range : Interval} {ts : Tests} {yes no a b : ℕ} (c : ℕ)
        → LiesCode P w z negated bases range true yes a c → TestsCode P (beyond (hidden_interval range) w) z ts yes no c b
        → TestsCode P w z (IfWithin negated bases range ts) yes no a b
    lies_last : {w : Place} {z : ℕ} {negated : Bool} {bases : Bases} {range : Interval} {no a b : ℕ}
        → LiesCode P w z negated bases range false no a b → TestsCode P w z (IfWithin negated bases range NoTests) b no a b
    long_related : {w : Place} {z : ℕ} {conversion : Conversion} {base : Base} {o : Relation} {e : Expr} {ts : Tests} {yes no a b : ℕ} (c : ℕ)
        → LongRelatedCode P w z conversion base o e true yes a c → TestsCode P (beyond (hidden_expr e) w) z ts yes no c b
        → TestsCode P w z (IfRelatedLong conversion base o e ts) yes no a b
    long_related_last : {w : Place} {z : ℕ} {conversion : Conversion} {base : Base} {o : Relation} {e : Expr} {no a b : ℕ}
        → LongRelatedCode P w z conversion base o e false no a b → TestsCode P w z (IfRelatedLong conversion base o e NoTests) b no a b
    long_lies : {w : Place} {z : ℕ} {negated : Bool} {conversion : Conversion} {bases : Bases} {range : Interval} {ts : Tests} {yes no a b : ℕ}
        (c : ℕ) → LongLiesCode P w z negated conversion bases range true yes a c
        → TestsCode P (beyond (hidden_interval range) w) z ts yes no c b
        → TestsCode P w z (IfWithinLong negated conversion bases range ts) yes no a b
    long_lies_last : {w : Place} {z : ℕ} {negated : Bool} {conversion : Conversion} {bases : Bases} {range : Interval} {no a b : ℕ}
        → LongLiesCode P w z negated conversion bases range false no a b
        → TestsCode P w z (IfWithinLong negated conversion bases range NoTests) b no a b

  -- control comes to the target where the selector fits a test, or where it does not, as is said; else to b
  pub data RelatedCode (P : Coded) : Place → (z : ℕ) → Range → Base → Relation → Expr → Bool → (target : ℕ) → ℕ → ℕ → Type 0 where
    relates : {w : Place} {z : ℕ} {r : Range} {base : Base} {o : Relation} {e : Expr} {sense : Bool} {target a b : ℕ} (c d : ℕ)
        → Own P w (i.LoadL z 1 ∷ check_code r) a c → ExprCode P (deeper 1 w) e c d
        → Own P (past e (deeper 1 w)) (relation_jump base o sense target) d b → RelatedCode P w z r base o e sense target a b

  pub data LiesCode (P : Coded) : Place → (z : ℕ) → Bool → Bases → Interval → Bool → (target : ℕ) → ℕ → ℕ → Type 0 where
    lies_within : {w : Place} {z : ℕ} {negated : Bool} {bases : Bases} {x y : Expr} {p q sense : Bool} {target a b : ℕ} (c d : ℕ)
        → Own P w (i.LoadL z 1 ∷ []) a c → BoundsCode P (deeper 1 w) x y c d
        → Own P (past y (past x (deeper 1 w))) (within_code (scratch P) bases p q ++ jump_where (differ negated sense) target ∷ []) d b
        → LiesCode P w z negated bases (Between x p y q) sense target a b

  -- the words of the selector that the conversion takes are loaded, and made LONG
  pub data LongRelatedCode (P : Coded) : Place → (z : ℕ) → Conversion → Base → Relation → Expr → Bool → (target : ℕ) → ℕ → ℕ → Type 0 where
    long_relates : {w : Place} {z : ℕ} {conversion : Conversion} {base : Base} {o : Relation} {e : Expr} {sense : Bool} {target a b : ℕ}
        (c d : ℕ) → Own P w (i.LoadL z (words_before conversion) ∷ conversion_code conversion) a c → ExprCode P (deeper 2 w) e c d
        → Own P (past e (deeper 2 w)) (long_relation_jump base o sense target) d b
        → LongRelatedCode P w z conversion base o e sense target a b

  pub data LongLiesCode (P : Coded) : Place → (z : ℕ) → Bool → Conversion → Bases → Interval → Bool → (target : ℕ) → ℕ → ℕ → Type 0 where
    lies_within_long : {w : Place} {z : ℕ} {negated : Bool} {conversion : Conversion} {bases : Bases} {x y : Expr} {p q sense : Bool}
        {target a b : ℕ} (c d : ℕ) → Own P w (i.LoadL z (words_before conversion) ∷ conversion_code conversion) a c
        → BoundsCode P (deeper 2 w) x y c d
        → Own P (past y (past x (deeper 2 w))) (long_within_code (scratch P) bases p q ++ jump_where (differ negated sense) target ∷ []) d b
        → LongLiesCode P w z negated conversion bases (Between x p y q) sense target a b

  -- the statements of labels begin at these offsets, and lead to `end`
  pub data ExitsCode (P : Coded) : Place → Exits → (offsets : List ℕ) → (end : ℕ) → ℕ → ℕ → Type 0 where
    no_exits : {w : Place} {end a : ℕ} → ExitsCode P w NoExits [] end a a
    and_exit : {w : Place} {labels : List ℕ} {s : Stmt} {es : Exits} {offsets : List ℕ} {end a b : ℕ} (c d : ℕ) → StmtCode P w s a c
        → Onward P w end c d → ExitsCode P (beyond (hidden s) w) es offsets end d b
        → ExitsCode P w (AndExit labels s es) (a ∷ offsets) end a b

  -- a round begins at a: the count, the condition, the body; it ends in the jump back to a
  pub data LoopCode (P : Coded) : Place → Counter → Loop → ℕ → ℕ → Type 0 where
    rounds : {w : Place} {k : Counter} {cond : Condition} {s : Stmt} {es : Exits} {fin : Finish} {a b : ℕ} (offsets : List ℕ)
        (c d f done g : ℕ) → Own P w (count_code P k done) a c → ConditionCode P w cond done c d
        → StmtCode P (with_labels es offsets (beyond (hidden_condition cond) w)) s d f → Own P w (step_code k ++ i.JumpBack a ∷ []) f done
        → FinishCode P (beyond (hidden_condition cond + hidden s + hidden_exits es) w) k cond fin b done g
        → ExitsCode P (beyond (hidden_condition cond + hidden s) w) es offsets b g b → LoopCode P w k (LoopOf cond s es fin) a b

  pub data ConditionCode (P : Coded) : Place → Condition → (done : ℕ) → ℕ → ℕ → Type 0 where
    always : {w : Place} {done a : ℕ} → ConditionCode P w Always done a a
    while : {w : Place} {e : Expr} {done a b : ℕ} → BranchCode P w e false done a b → ConditionCode P w (While e) done a b
    until : {w : Place} {e : Expr} {done a b : ℕ} → BranchCode P w e true done a b → ConditionCode P w (Until e) done a b

  -- what is done where the control has ended the loop leads to `end`; what the control never ends needs no code for it
  pub data FinishCode (P : Coded) : Place → Counter → Condition → Finish → (end : ℕ) → ℕ → ℕ → Type 0 where
    no_finish : {w : Place} {k : Counter} {cond : Condition} {end a b : ℕ} → Onward P w end a b → FinishCode P w k cond NoFinish end a b
    finished : {w : Place} {k : Counter} {cond : Condition} {s : Stmt} {end a b : ℕ} (c : ℕ) → StmtCode P w s a c → Onward P w end c b
        → FinishCode P w k cond (Finished s) end a b
    never : {w : Place} {fin : Finish} {end a : ℕ} → FinishCode P w NoCounter Always fin end a a
