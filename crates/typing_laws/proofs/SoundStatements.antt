-- Statements: from what checking promises of their parts, what it promises of them.
use Rattle.std.proofs.Common.{◌≡◌, ℕ, ◌+◌, List, [], ◌∷◌, length, refl, sym, ◌∙◌, ap, subst, arith, inl, inr, ◌⊎◌}
use Rattle.std.specs.Prelude.{◌≤◌, ◌≢◌, ◌-◌, Bool, true, false, ◌||◌, Option, Some, None, Ok, IfOk, nat_eq, nat_lt, All, map, if◌then◌else◌}
use Rattle.std.proofs.lemmas.Bool.{eqb-true, ltb-false}
use Rattle.std.proofs.lemmas.List.Elements.{All-cons}
use Rattle.mesa_base.specs.declared.place.Place.{Place}
use Rattle.mesa_base.specs.declared.identifier.Identifier.{Identifier}
use Rattle.mesa_base.specs.declared.limits.TheConstants.{OPERAND_WORDS}
use Rattle.mesa_types.specs.declared.faces.ItemKind.{ItemKind}
use Rattle.mesa_types.specs.declared.faces.ItemKind.TheVariants as item
use Rattle.syntax_trees.specs.Syntax as s
use Rattle.mesa_types.specs.Sound as sound
use Rattle.mesa_types.specs.Typed as points
use Rattle.mesa_types.specs.Counts as counts
use Rattle.mesa_types.specs.Counts.{operands_of_stmt, hidden, hidden_stmts}
use Rattle.mesa_types.specs.Shapes.{one, words_in_all}
use Rattle.mesa_types.proofs.WordSizes.{sizes_agree}
use Rattle.check_rules.specs.Typed as t
use Rattle.interface_records.specs.PlainTypes as v
use Rattle.interface_records.specs.PlainTypes.{PlainType, PlainField, PlainItem, kind_of, kinds_of, words_of, item_of}
use Rattle.check_rules.specs.declared.fault.Cause.{Cause}
use Rattle.check_rules.specs.Meanings as m
use Rattle.check_rules.specs.Steps.{Check, Checked, and_then, lift, only, refuse}
use Rattle.check_rules.specs.Around.{Around, Seen, ArmHere, NoArm, InArm, ArmLabel, ForAny, ForUnwind, ForSignal, in_statement, is_unwinding, jump, leave_loop, exit_loop, next_round, go_to_seen, go_to, return, arm_for_raises, retry, continue, reject, is_signal, all_resumable, all_give, results_of, resumed, label_for, label_of}
use Rattle.check_rules.specs.Parts.{first}
use Rattle.check_rules.specs.Ranges.{Typed, Into, Arguments}
use Rattle.check_rules.specs.Reached.{Store, Perform, reached, Target}
use Rattle.check_rules.specs.Statements.{whole, numbered, returned_by, returned}
use Rattle.check_rules.specs.Values.{in_order}
use Rattle.check_rules.specs.Phrases.{holds, in_left, in_raise, in_items}
use Rattle.check_rules.specs.Checking.{statement, otherwise, statements, target}
use Rattle.check_rules.specs.Written.{LeftWritten, ValuesWritten, StatementWritten, OtherWritten, StatementsWritten}
use Rattle.check_rules.proofs.SoundTypes.{TypeIn, FieldsIn, no_truth, both_left, both_right, or_left, or_right, words_agree}
use Rattle.typing_laws.proofs.SoundOperators.{plain_words}
use Rattle.check_rules.proofs.SoundSame.{same_kinds}
use Rattle.typing_laws.proofs.SoundTrees.{tree_kinds}
use Rattle.typing_laws.proofs.SoundSteps.{World, Spot, at, MeaningIn, Rule, bind, so, under, given, ended, plainly, tested, weaker, limited, if_ok}
use Rattle.typing_laws.proofs.SoundnessStatements.{sees, SeenIn, UsedIn, LabelIn, EachSignal, EachLabelIn, LabelsIn, ArmIn, GoalIn, AroundIn, Ready, ValueIn, CheckedIn, AimIn, TargetIn, PerformedIn, ArgumentsIn, Checks}
use Rattle.typing_laws.proofs.SoundExpressions.{part}
use Rattle.typing_laws.proofs.SoundLists.{ChecksSuffixes, ChecksItems, ChecksRaise}
use Rattle.typing_laws.proofs.SoundNames.{name_is_seen}
use Rattle.typing_laws.proofs.SoundReached as reaches
use Rattle.typing_laws.proofs.SoundCalls as calls
use Rattle.typing_laws.proofs.SoundAround.{marked_spot, is_marked_spot, in_statement_around, phrase_here}
use Rattle.typing_laws.proofs.SoundValues as rules
use Rattle.typing_laws.proofs.SoundScopes.{done}

-- ---- judgements

pub record StatementIn (W : World) (p : Spot) (x : t.Stmt) (spent hid : ℕ) : Type 0 where
  pub statement : sound.StmtIn (at W p) x
  pub hidden_are : hidden x ≤ hid

-- a statement whose operands are not yet looked at
pub record BodyOf (W : World) (p : Spot) (x : t.Stmt) (spent hid : ℕ) : Type 0 where
  pub statement : operands_of_stmt x ≤ OPERAND_WORDS → sound.StmtIn (at W p) x
  pub operands_are : operands_of_stmt x ≤ spent
  pub hidden_are : hidden x ≤ hid

pub record StatementsIn (W : World) (p : Spot) (xs : t.Stmts) (spent hid : ℕ) : Type 0 where
  pub statements : sound.StmtsIn (at W p) xs
  pub hidden_are : hidden_stmts xs ≤ hid

pub record ChecksStatement (W : World) (x : s.Statement) : Type 0 where
  pub by : (p : Spot) (a : Around) → Rule W false (AroundIn W false p a × StatementWritten x) (StatementIn W p) (statement a x)

pub record ChecksOther (W : World) (x : s.MaybeStatement) : Type 0 where
  pub by : (p : Spot) (a : Around) → Rule W false (AroundIn W false p a × OtherWritten x) (StatementIn W p) (otherwise a x)

pub record ChecksStatements (W : World) (xs : s.Statements) : Type 0 where
  pub by : (p : Spot) (a : Around) → Rule W false (AroundIn W false p a × StatementsWritten xs) (StatementsIn W p) (statements a xs)

pub record ChecksLeft (W : World) (l : s.Left) : Type 0 where
  pub by : (p : Spot) (a : Around) → Rule W false (Ready W false p a (in_left l) (LeftWritten l)) (TargetIn W p) (target a l)

not_less : (n m : ℕ) → nat_lt n m ≡ false → m ≤ n
not_less n m e = ltb-false n m e

error_signal : item.Error ≡ item.Signal → ⊥
error_signal e = cc

module _ (W : World) where
  -- ---- a statement with a number, and with its operands counted
  pub marks_body : (p : Spot) (n : ℕ) (x : t.Stmt) (c h : ℕ) → p.statements ≤ n → BodyOf W (marked_spot n p) x c h → BodyOf W p (t.Marked n x) c h
  unfolding sound.StmtIn operands_of_stmt hidden
  marks_body p n x c h small b = record {
    statement = λ fits. (small, subst (λ Γ. sound.StmtIn Γ x) (sym (is_marked_spot W n p)) (b.statement fits));
    operands_are = b.operands_are;
    hidden_are = b.hidden_are;
  }

  pub numbered_body : (flat b : Bool) (p : Spot) (a : Around) {X : Type 0} (rule : Around → Check t.Stmt)
      → ((q : Spot) (c : Around) → (b ≡ true → c.marked ≡ c.statement + 1) → Rule W flat (Ready W flat q c b X) (BodyOf W q) (rule c))
      → Rule W flat (AroundIn W flat p a × X) (BodyOf W p) (numbered a b rule)
  numbered_body flat true p a rule h =
      bind W flat (under W flat (λ pre. record { around = in_statement_around W flat p a pre.0; phrase = λ e. phrase_here W p a; written = pre.1 })
      (h (marked_spot a.marked p) (in_statement a) (λ e. refl))) (λ x c g.
      given W flat (t.Marked a.marked x) (λ pre. marks_body p a.marked x (c + 0) (g + 0) (pre.0.0).statements
      (record { statement = (pre.1).statement; operands_are = omega (arith, (pre.1).operands_are); hidden_are = omega (arith, (pre.1).hidden_are) })))
  numbered_body flat false p a rule h = under W flat (λ pre. record { around = pre.0; phrase = λ e. no_truth e; written = pre.1 }) (h p a (λ e. no_truth e))

  pub whole_statement : (b : Bool) (p : Spot) (a : Around) (q : Place) {X : Type 0} (rule : Around → Check t.Stmt)
      → ((q : Spot) (c : Around) → (b ≡ true → c.marked ≡ c.statement + 1) → Rule W false (Ready W false q c b X) (BodyOf W q) (rule c))
      → Rule W false (AroundIn W false p a × X) (StatementIn W p) (whole a q b rule)
  whole_statement b p a q rule h = so W false (λ x c g pre l. record {
    statement = (l.2).statement (omega (arith, l.1, (l.2).operands_are));
    hidden_are = (l.2).hidden_are;
  }) (limited W false 0 q (numbered_body false b p a rule h))

  -- ---- plain ones
  pub statement_null : (q : Place) → ChecksStatement W (s.Null q)
  unfolding statement sound.StmtIn hidden
  statement_null q = record { by = λ p a. given W false t.Null (λ pre. record { statement = tt; hidden_are = omega arith }) }

  pub other_none : ChecksOther W s.NoStatement
  unfolding otherwise sound.StmtIn hidden
  other_none = record { by = λ p a. given W false t.Null (λ pre. record { statement = tt; hidden_are = omega arith }) }

  pub other_one : (x : s.Statement) → ChecksStatement W x → ChecksOther W (s.OneStatement x)
  unfolding otherwise OtherWritten
  other_one x k = record { by = λ p a. k.by p a }

  pub statements_none : ChecksStatements W s.NoStatements
  unfolding statements sound.StmtsIn hidden_stmts
  statements_none = record { by = λ p a. given W false t.NoStmts (λ pre. record { statements = tt; hidden_are = omega arith }) }

  pub statements_more : (x : s.Statement) (xs : s.Statements) → ChecksStatement W x → ChecksStatements W xs → ChecksStatements W (s.AndStatement x xs)
  unfolding statements StatementsWritten sound.StmtsIn hidden_stmts
  statements_more x xs k l = record {
    by = λ p a.
        bind W false (under W false (λ pre. (pre.0, pre.1.0)) (k.by p a)) (λ y c g.
        bind W false (under W false (λ pre. (pre.0.0, pre.0.1.1)) (l.by p a)) (λ ys m n.
        given W false (t.AndStmt y ys) (λ pre. record {
          statements = ((pre.0.1).statement, (pre.1).statements);
          hidden_are = omega (arith, (pre.0.1).hidden_are, (pre.1).hidden_are);
        })));
  }

  -- ---- assignment, calls, raises
  pub left_target : (x : Identifier) (ss : s.Suffixes) → ChecksSuffixes W ss → ChecksLeft W (s.LeftOf x ss)
  unfolding target in_left LeftWritten
  left_target x ss k = record {
    by = λ p a.
        bind W false (name_is_seen W false a x (λ pre. pre.around)) (λ y c g.
        bind W false (under W false (λ pre. (part (λ h. h) (λ w. w) pre.0, reaches.name_reached W p false y 0 0 pre.1))
        (k.by false p a Store x.place (reached y) 0 0)) (λ r i j.
        so W false (λ z m n pre h. record {
          whole = h.whole;
          home = h.home;
          part = h.part;
          kind = h.kind;
          operands_are = omega (arith, h.operands_are);
          hidden_are = omega (arith, h.hidden_are);
        })
        (under W false (λ pre. pre.1) (reaches.stored_in W p false r.0 r.1 (0 + i) (0 + j)))));
  }

  value_words : (p : Spot) (e : t.Expr) (k : PlainType) → sound.ExprIn (at W p) e (one (kind_of k)) → counts.words_of e ≡ words_of k
  unfolding one words_in_all
  value_words p e k h = omega (arith, sizes_agree.of_expression (at W p) e (one (kind_of k)) h, words_agree k)

  same_target : (p : Spot) (k : PlainType) (y : Typed) (c g : ℕ) → ValueIn W p y c g → y.kind ≡ k → sound.ExprIn (at W p) y.value (one (kind_of k))
  same_target p k y c g h e = subst (λ j. sound.ExprIn (at W p) y.value (one (kind_of j))) e h.value

  assign_body : (p : Spot) (x : Target) (y : Typed) (c g m n : ℕ) → TargetIn W p x c g → ValueIn W p y m n → y.kind ≡ x.kind
      → BodyOf W p (t.Assign x.home x.suffixes y.value) (c + (m + 0)) (g + (n + 0))
  unfolding sound.StmtIn sound.Fits operands_of_stmt hidden
  assign_body p x y c g m n a b e = let z = same_target p x.kind y m n b e in record {
    statement = λ fits. (fits, a.whole, kind_of x.kind, a.home, a.part, z);
    operands_are = omega (arith, value_words p y.value x.kind z, a.operands_are, b.operands_are);
    hidden_are = omega (arith, a.hidden_are, b.hidden_are);
  }

  pub statement_assign : (l : s.Left) (e : s.Expr) → ChecksLeft W l → Checks W e → ChecksStatement W (s.Assign l e)
  unfolding statement StatementWritten CheckedIn AimIn
  statement_assign l e k c = record {
    by = λ p a. whole_statement (in_left l || holds e) p a (s.left_place l) _ (λ q b mark.
        bind W false (under W false (λ pre. part (or_left (in_left l) (holds e)) (λ w. w.0) pre) (k.by q b)) (λ x i j.
        bind W false (under W false (λ pre. (part (or_right (in_left l) (holds e)) (λ w. w.1) pre.0, (pre.1).kind)) (c.by false q b (Into x.kind (first e))))
        (λ y m n.
        given W false (t.Assign x.home x.suffixes y.value) (λ pre. assign_body q x y i j m n pre.0.1 pre.1.0 pre.1.1))));
  }

  perform_body : (p : Spot) (e : t.Expr) (c g c' g' : ℕ) → c ≤ c' → g ≤ g' → PerformedIn W p e c g → BodyOf W p (t.Perform e) c' g'
  unfolding sound.StmtIn sound.Fits operands_of_stmt hidden
  perform_body p e c g c' g' a b h = record {
    statement = λ fits. (fits, h.call, h.gives, h.value);
    operands_are = omega (arith, a, h.operands_are);
    hidden_are = omega (arith, b, h.hidden_are);
  }

  pub statement_call : (x : Identifier) (ss : s.Suffixes) → ChecksSuffixes W ss → ChecksStatement W (s.Call (s.LeftOf x ss))
  unfolding statement StatementWritten in_left LeftWritten
  statement_call x ss k = record {
    by = λ p a. whole_statement (in_left (s.LeftOf x ss)) p a x.place _ (λ q b mark.
        bind W false (name_is_seen W false b x (λ pre. pre.around)) (λ y c g.
        bind W false (under W false (λ pre. (part (λ h. h) (λ w. w) pre.0, reaches.name_reached W q false y 0 0 pre.1))
        (k.by false q b Perform x.place (reached y) 0 0)) (λ r i j.
        bind W false (under W false (λ pre. pre.1) (calls.performed_in W q false x.place r.0 r.1 (0 + i) (0 + j))) (λ e m n.
        given W false (t.Perform e) (λ pre. perform_body q e (0 + i + m) (0 + j + n) (c + (i + (m + 0))) (g + (j + (n + 0))) (omega arith) (omega arith)
        pre.1)))));
  }

  pub statement_raise : (r : s.Raise) → ChecksRaise W r → ChecksStatement W (s.RaiseStatement r)
  unfolding statement StatementWritten
  statement_raise r k = record {
    by = λ p a. whole_statement (in_raise r) p a (s.raise_place r) _ (λ q b mark.
        bind W false (k.by false q b) (λ x i j.
        bind W false (under W false (λ pre. pre.1) (calls.performed_in W q false x.0 x.0 x.1 i j)) (λ e m n.
        given W false (t.Perform e) (λ pre. perform_body q e (i + m) (j + n) (i + (m + 0)) (j + (n + 0)) (omega arith) (omega arith) pre.1))));
  }

  -- ---- IF
  pub word_into : (p : Spot) (y : Typed) (c g : ℕ) → ValueIn W p y c g → y.kind ≡ v.Boolean → sound.ExprIn (at W p) y.value sound.a_word
  word_into p y c g h e = rules.as_word W p y.value v.Boolean plain_words.2 (same_target p v.Boolean y c g h e)

  pub statement_if : (q : Place) (e : s.Expr) (x : s.Statement) (y : s.MaybeStatement) → Checks W e → ChecksStatement W x → ChecksOther W y
      → ChecksStatement W (s.If q e x y)
  unfolding statement StatementWritten CheckedIn AimIn TypeIn sound.StmtIn sound.Fits operands_of_stmt hidden
  statement_if q e x y c k l = record {
    by = λ p a. whole_statement (holds e) p a q _ (λ o b mark.
        bind W false (under W false (λ pre. (part (λ h. h) (λ w. w.0) pre, tt)) (c.by false o b (Into v.Boolean (first e)))) (λ z i j.
        bind W false (under W false (λ pre. ((pre.0).around, (pre.0).written.1)) (k.by o b)) (λ xx m n.
        bind W false (under W false (λ pre. ((pre.0.0).around, (pre.0.0).written.2)) (l.by o b)) (λ yy d f.
        given W false (t.If z.value xx yy) (λ pre. record {
          statement = λ fits. (fits, word_into o z i j (pre.0.0.1).0 (pre.0.0.1).1, (pre.0.1).statement, (pre.1).statement);
          operands_are = omega (arith, ((pre.0.0.1).0).operands_are);
          hidden_are = omega
              (arith, ((pre.0.0.1).0).hidden_are, (pre.0.1).hidden_are, (pre.1).hidden_are);
        })))));
  }

  -- ---- jumps
  reaches_goal : (p : Spot) (a : Around) (x : points.Point) (n : ℕ) → AroundIn W false p a → sees p x n → n ≤ a.arms → sound.Reaches (at W p) (a.arms - n) x
  unfolding sound.Reaches
  reaches_goal p a x n h c small = (n, c, omega (arith, h.depth, small))

  jump_in : (p : Spot) (a : Around) (q : Place) (goal : t.Goal) (n : ℕ) → AroundIn W false p a → (a.unwinding ≤ n → GoalIn p a (points.point_of goal) n)
      → IfOk (jump a q goal n) (λ x. StatementIn W p x 0 0)
  unfolding jump sound.StmtIn hidden
  jump_in p a q goal n h g = by (nat_lt n a.unwinding) refl _
    where
      by : (b : Bool) → nat_lt n a.unwinding ≡ b → (cause : Cause) → IfOk (and_then (if b then refuse cause q else Ok done)
          (λ u. Ok (t.Jump (a.arms - n) goal))) (λ x. StatementIn W p x 0 0)
      by true e cause = tt
      by false e cause = let o = g (not_less n a.unwinding e) in record {
        statement = reaches_goal p a (points.point_of goal) n h o.seen o.outside;
        hidden_are = omega arith;
      }

  leave_in : (p : Spot) (a : Around) (q : Place) (goal : ℕ → t.Goal) (o : Option Seen) → AroundIn W false p a
      → ((l : Seen) → o ≡ Some l → a.unwinding ≤ l.arms → GoalIn p a (points.point_of (goal l.number)) l.arms)
      → IfOk (leave_loop a q goal o) (λ x. StatementIn W p x 0 0)
  leave_in p a q goal None h g = tt
  leave_in p a q goal (Some l) h g = jump_in p a q (goal l.number) l.arms h (g l refl)

  goto_in : (p : Spot) (a : Around) (q : Place) (x : Identifier) (o : Option Seen) → AroundIn W false p a
      → ((l : Seen) → o ≡ Some l → a.unwinding ≤ l.arms → GoalIn p a (points.At l.number) l.arms)
      → IfOk (go_to_seen a q x o) (λ x. StatementIn W p x 0 0)
  unfolding points.point_of
  goto_in p a q x None h g = tt
  goto_in p a q x (Some l) h g = jump_in p a q (t.ToLabel l.number) l.arms h (g l refl)

  exit_in : (p : Spot) (a : Around) (q : Place) → AroundIn W false p a → IfOk (exit_loop a q) (λ x. StatementIn W p x 0 0)
  unfolding points.point_of
  exit_in p a q h = leave_in p a q t.PastStatement a.loop h h.exit

  next_in : (p : Spot) (a : Around) (q : Place) → AroundIn W false p a → IfOk (next_round a q) (λ x. StatementIn W p x 0 0)
  unfolding points.point_of
  next_in p a q h = leave_in p a q (λ n. t.PastStatement (n + 1)) a.loop h h.next

  return_in : (p : Spot) (a : Around) (q : Place) → AroundIn W false p a → IfOk (return a q)
      (λ x. (StatementIn W p x 0 0 × sees p points.Leave 0) × (operands_of_stmt x ≡ 0))
  unfolding points.point_of sound.StmtIn hidden jump operands_of_stmt
  return_in p a q h = by (nat_lt 0 a.unwinding) refl _
    where
      by : (b : Bool) → nat_lt 0 a.unwinding ≡ b → (cause : Cause) → IfOk (and_then (if b then refuse cause q else Ok done)
          (λ u. Ok (t.Jump (a.arms - 0) t.ToReturn))) (λ x. (StatementIn W p x 0 0 × sees p points.Leave 0) × (operands_of_stmt x ≡ 0))
      by true e cause = tt
      by false e cause = let c = h.leave (not_less 0 a.unwinding e) in (
        (
          record {
            statement = reaches_goal p a points.Leave 0 h c (omega arith);
            hidden_are = omega arith;
          },
          c,
        ),
        refl,
      )

  zero_more : (p : Spot) (x : t.Stmt) (c g : ℕ) → StatementIn W p x 0 0 → StatementIn W p x c g
  zero_more p x c g h = record { statement = h.statement; hidden_are = omega (arith, h.hidden_are) }

  plain_rule : (p : Spot) (a : Around) {X : Type 0} (r : Checked t.Stmt) → (AroundIn W false p a → IfOk r (λ x. StatementIn W p x 0 0))
      → Rule W false (AroundIn W false p a × X) (StatementIn W p) (lift r)
  plain_rule p a r h = ended W false r (λ pre. h pre.0)

  pub statement_exit : (q : Place) → ChecksStatement W (s.ExitLoop q)
  unfolding statement
  statement_exit q = record { by = λ p a. plain_rule p a (exit_loop a q) (exit_in p a q) }

  pub statement_next : (q : Place) → ChecksStatement W (s.NextTurn q)
  unfolding statement
  statement_next q = record { by = λ p a. plain_rule p a (next_round a q) (next_in p a q) }

  pub statement_goto : (q : Place) (x : Identifier) → ChecksStatement W (s.Goto q x)
  unfolding statement
  statement_goto q x = record { by = λ p a. plain_rule p a (go_to a q x) (λ h. goto_in p a q x (a.labels x.name) h (h.labelled x.name)) }

  pub statement_return : (q : Place) → ChecksStatement W (s.Return q s.NoItems)
  unfolding statement
  statement_return q = record {
    by = λ p a. plain_rule p a (return a q) (λ h. weaker (return a q)
        (λ x. (StatementIn W p x 0 0 × sees p points.Leave 0) × (operands_of_stmt x ≡ 0)) (λ x. StatementIn W p x 0 0) (λ x h. h.0.0) (return_in p a q h));
  }

  -- ---- RETURN with values
  return_with : (p : Spot) (a : Around) (x : Arguments) (c g : ℕ) → AroundIn W false p a → sees p points.Leave 0 → a.gives ≢ [] → ArgumentsIn W p a.gives x c g
      → BodyOf W p (t.ReturnWith a.arms (length a.takes) x.places x.values) c g
  unfolding sound.StmtIn sound.Fits operands_of_stmt hidden sound.Reaches
  return_with p a x c g h leave some v = record {
    statement = λ fits. (
      fits,
      v.some some,
      v.kinds,
      (0, leave, omega (arith, h.depth)),
      ap length h.takes,
      v.values,
      subst
          (λ fs. sound.Arranged x.places v.kinds (kinds_of fs)) h.gives v.arranged,
    );
    operands_are = v.operands_are;
    hidden_are = v.hidden_are;
  }

  returned_body : (p : Spot) (a : Around) (j : t.Stmt) (x : Arguments) (fs : List PlainField) (c g : ℕ) → a.gives ≡ fs → AroundIn W false p a
      → StatementIn W p j 0 0 × sees p points.Leave 0 → operands_of_stmt j ≡ 0 → ArgumentsIn W p a.gives x c g
      → BodyOf W p (returned_by fs a j x) c g
  returned_body p a j x [] c g e h r z v = record {
    statement = λ fits. (r.0).statement;
    operands_are = omega (arith, z);
    hidden_are = omega (arith, (r.0).hidden_are);
  }
  returned_body p a j x (f ∷ fs) c g e h r z v = return_with p a x c g h r.1 (λ d. let no : length (f ∷ fs) ≡ 0 = ap length (sym e ∙ d) in omega (arith, no)) v

  pub statement_returns : (q r : Place) (items : s.Items) → ChecksItems W items → ChecksStatement W (s.Return q (s.WithItems r items))
  unfolding statement StatementWritten ValuesWritten
  statement_returns q r items k = record {
    by = λ p a. whole_statement (in_items items) p a q _ (λ o b mark.
        bind W false (plainly W false {P = λ x. (StatementIn W o x 0 0 × sees o points.Leave 0) × (operands_of_stmt x ≡ 0)} (return b q)
        (λ pre. return_in o b q pre.around)) (λ j i g.
        bind W false (under W false (λ pre. (part (λ h. h) (λ w. w) pre.0, gives_types b (pre.0).around)) (k.arguments false o b b.gives r)) (λ x m n.
        given W false (returned b j x) (λ pre. more_body o (returned b j x) m n (i + (m + 0)) (g + (n + 0)) (omega arith) (omega arith)
        (returned_body o b j x b.gives m n refl (pre.0.0).around pre.0.1.0 pre.0.1.1 pre.1)))));
  }
    where
      gives_types : (b : Around) {o : Spot} → AroundIn W false o b → FieldsIn b.gives
      gives_types b h = subst FieldsIn (sym h.gives) h.gives_types

      more_body : (p : Spot) (x : t.Stmt) (c g c' g' : ℕ) → c ≤ c' → g ≤ g' → BodyOf W p x c g → BodyOf W p x c' g'
      more_body p x c g c' g' i j b = record {
        statement = b.statement;
        operands_are = omega (arith, i, b.operands_are);
        hidden_are = omega (arith, j, b.hidden_are);
      }

  -- ---- arms: RESUME, REJECT, RETRY, CONTINUE
  raises_label : (ls : List ArmLabel) → LabelsIn W ls → is_unwinding ls ≡ false → sound.IsForRaises (map label_of ls)
  unfolding sound.IsForRaises
  raises_label ls h e = by ls h.form e
    where
      signal : (r : t.Raised) (ls : List t.Label) → sound.IsForRaises (label_for r ∷ ls)
      signal (t.OwnSignal n) ls = tt
      signal (t.LinkedSignal k n) ls = tt
      signal t.TheBoundsFault ls = tt
      signal t.TheZeroDivisor ls = tt
      signal t.TheUnnamed ls = tt

      by : (ls : List ArmLabel) → (ls ≡ ForAny ∷ []) ⊎ (ls ≡ ForUnwind ∷ []) ⊎ ((ls ≢ []) × EachSignal ls) → is_unwinding ls ≡ false
          → sound.IsForRaises (map label_of ls)
      by [] (inl e) u = let no : 0 ≡ 1 = ap length e in omega (arith, no)
      by [] (inr (inl e)) u = let no : 0 ≡ 1 = ap length e in omega (arith, no)
      by [] (inr (inr e)) u = absurd (e.0 refl)
      by (ForAny ∷ ls) f u = tt
      by (ForUnwind ∷ ls) f u = no_truth (sym u)
      by (ForSignal r i ∷ ls) f u = signal r (map label_of ls)

  record RaisesHere (p : Spot) (r : ℕ × List ArmLabel) : Type 0 where
    labels : LabelsIn W r.1
    arm : p.arm ≡ map label_of r.1
    statement : r.0 ≡ p.statement
    raises : sound.IsForRaises p.arm

  for_raises : (p : Spot) (q : Place) (a : ArmHere) → ArmIn W p a → IfOk (arm_for_raises q a) (RaisesHere p)
  unfolding ArmIn
  for_raises p q NoArm h = tt
  for_raises p q (InArm n ls) h = by (is_unwinding ls) refl _
    where
      by : (b : Bool) → is_unwinding ls ≡ b → (cause : Cause) → IfOk (if b then refuse cause q else Ok (n, ls)) (RaisesHere p)
      by true e cause = tt
      by false e cause = record {
        labels = h.labels;
        arm = h.arm;
        statement = sym h.statement;
        raises = subst sound.IsForRaises (sym h.arm) (raises_label ls h.labels e);
      }

  retry_in : (p : Spot) (a : Around) (q : Place) → AroundIn W false p a → IfOk (retry a q) (λ x. StatementIn W p x 0 0)
  unfolding sound.StmtIn hidden
  retry_in p a q h = if_ok (arm_for_raises q a.arm) _ (RaisesHere p) (λ x. StatementIn W p x 0 0) (for_raises p q a.arm h.arm)
      (λ r g. record { statement = (g.raises, g.statement); hidden_are = omega arith })

  continue_in : (p : Spot) (a : Around) (q : Place) → AroundIn W false p a → IfOk (continue a q) (λ x. StatementIn W p x 0 0)
  unfolding sound.StmtIn hidden
  continue_in p a q h = if_ok (arm_for_raises q a.arm) _ (RaisesHere p) (λ x. StatementIn W p x 0 0) (for_raises p q a.arm h.arm)
      (λ r g. record { statement = (g.raises, g.statement); hidden_are = omega arith })

  pub statement_retry : (q : Place) → ChecksStatement W (s.Retry q)
  unfolding statement
  statement_retry q = record { by = λ p a. plain_rule p a (retry a q) (retry_in p a q) }

  pub statement_continue : (q : Place) → ChecksStatement W (s.Continue q)
  unfolding statement
  statement_continue q = record { by = λ p a. plain_rule p a (continue a q) (continue_in p a q) }

  -- results of RESUME
  signal_gives : (p : Spot) (r : t.Raised) (i : PlainItem) → SeenIn W false (m.Signal r i) → i.kind ≡ item.Signal
      → sound.LabelGives (at W p) (kinds_of i.gives) (label_for r)
  unfolding sound.LabelGives MeaningIn UsedIn sound.UsedItem
  signal_gives p (t.OwnSignal n) i h e = (item_of i, (h.there).2, e, sym (tree_kinds i.gives))
  signal_gives p (t.LinkedSignal k n) i h e = (item_of i, ((h.there).2, h.used), e, sym (tree_kinds i.gives))
  signal_gives p t.TheBoundsFault i h e = absurd (error_signal (sym (h.there).kind ∙ e))
  signal_gives p t.TheZeroDivisor i h e = absurd (error_signal (sym (h.there).kind ∙ e))
  signal_gives p t.TheUnnamed i h e = absurd h.there

  give_labels : (p : Spot) (fs : List PlainField) (ls : List ArmLabel) → EachLabelIn W ls → all_resumable ls ≡ true → all_give fs ls ≡ true
      → All (sound.LabelGives (at W p) (kinds_of fs)) (map label_of ls)
  unfolding EachLabelIn LabelIn all_resumable all_give
  give_labels p fs [] h e d = λ k x small. absurd (omega (arith, small))
  give_labels p fs (ForAny ∷ ls) h e d = no_truth e
  give_labels p fs (ForUnwind ∷ ls) h e d = no_truth e
  give_labels p fs (ForSignal r i ∷ ls) h e d =
      All-cons (sound.LabelGives (at W p) (kinds_of fs)) (label_for r) (map label_of ls)
      (subst (λ ks. sound.LabelGives (at W p) ks (label_for r)) (same_kinds i.gives fs (both_left _ _ d)) (one_gives p r i h.0 (both_left _ _ e)))
      (give_labels p fs ls h.1 (both_right _ _ e) (both_right _ _ d))
    where
      signal : (k : ItemKind) → is_signal k ≡ true → k ≡ item.Signal
      signal item.Signal e = refl
      signal item.Error e = no_truth e
      signal item.Procedure e = no_truth e

      one_gives : (p : Spot) (r : t.Raised) (i : PlainItem) → SeenIn W false (m.Signal r i) → is_signal i.kind ≡ true
          → sound.LabelGives (at W p) (kinds_of i.gives) (label_for r)
      one_gives p r i h e = signal_gives p r i h (signal i.kind e)

  result_types : (ls : List ArmLabel) → EachLabelIn W ls → FieldsIn (results_of ls)
  unfolding EachLabelIn LabelIn FieldsIn
  result_types [] h = tt
  result_types (ForAny ∷ ls) h = tt
  result_types (ForUnwind ∷ ls) h = tt
  result_types (ForSignal r i ∷ ls) h = ((calls.raised_of W (record { points = []; statements = 0; labels = 0; depth = 0; arm = []; statement = 0 }) false r i
      h.0).item).gives

  record ResumesIn (p : Spot) (fs : List PlainField) : Type 0 where
    raises : sound.IsForRaises p.arm
    gives : All (sound.LabelGives (at W p) (kinds_of fs)) p.arm
    types : FieldsIn fs

  resumed_in : (p : Spot) (a : Around) (q : Place) → AroundIn W false p a → IfOk (resumed a q) (ResumesIn p)
  unfolding resumed
  resumed_in p a q h = if_ok (arm_for_raises q a.arm) _ (RaisesHere p) (ResumesIn p) (for_raises p q a.arm h.arm)
      (λ r g. by r g (all_resumable r.1) refl (all_give (results_of r.1) r.1) refl _ _)
    where
      by : (r : ℕ × List ArmLabel) → RaisesHere p r → (b : Bool) → all_resumable r.1 ≡ b → (c : Bool) → all_give (results_of r.1) r.1 ≡ c
          → (cause other : Cause)
          → IfOk (and_then (only b cause q) (λ u. and_then (only c other q) (λ w. Ok (results_of r.1)))) (ResumesIn p)
      by r g true e true d cause other = record {
        raises = g.raises;
        gives = subst (All (sound.LabelGives (at W p) (kinds_of (results_of r.1)))) (sym g.arm)
            (give_labels p (results_of r.1) r.1 (g.labels).each e d);
        types = result_types r.1 (g.labels).each;
      }
      by r g true e false d cause other = tt
      by r g false e c d cause other = tt

  resume_body : (p : Spot) (x : Arguments) (fs : List PlainField) (c g : ℕ) → ResumesIn p fs → ArgumentsIn W p fs x c g
      → BodyOf W p (t.Resume x.places x.values) c g
  unfolding sound.StmtIn sound.Fits operands_of_stmt hidden
  resume_body p x fs c g r v = record {
    statement = λ fits. (fits, v.kinds, kinds_of fs, r.raises, r.gives, v.values, v.arranged);
    operands_are = v.operands_are;
    hidden_are = v.hidden_are;
  }

  pub statement_resume : (q : Place) → ChecksStatement W (s.Resume q s.NoItems)
  unfolding statement
  statement_resume q = record {
    by = λ p a.
        bind W false (plainly W false {P = ResumesIn p} (resumed a q) (λ pre. resumed_in p a q pre.0)) (λ fs c g.
        bind W false (tested W false (nat_eq 0 (length fs)) _ q) (λ u i j.
        given W false (t.Resume [] t.NoExprs) (λ pre. let b = resume_body p (in_order t.NoExprs) fs 0 0 pre.0.1
        (calls.no_arguments W p fs (eqb-true 0 (length fs) pre.1)) in
        record { statement = b.statement (omega (arith, b.operands_are)); hidden_are = omega (arith, b.hidden_are) })));
  }

  pub statement_resumes : (q r : Place) (items : s.Items) → ChecksItems W items → ChecksStatement W (s.Resume q (s.WithItems r items))
  unfolding statement StatementWritten ValuesWritten
  statement_resumes q r items k = record {
    by = λ p a. whole_statement (in_items items) p a q _ (λ o b mark.
        bind W false (plainly W false {P = ResumesIn o} (resumed b q) (λ pre. resumed_in o b q pre.around)) (λ fs i g.
        bind W false (under W false (λ pre. (part (λ h. h) (λ w. w) pre.0, (pre.1).types)) (k.arguments false o b fs r)) (λ x m n.
        given W false (t.Resume x.places x.values) (λ pre. let b = resume_body o x fs m n pre.0.1 pre.1 in
        record { statement = b.statement; operands_are = omega (arith, b.operands_are); hidden_are = omega (arith, b.hidden_are) }))));
  }

  pub statement_reject : (q : Place) → ChecksStatement W (s.Reject q)
  unfolding statement ArmIn sound.StmtIn hidden
  statement_reject q = record { by = λ p a. plain_rule p a (reject a q) (λ h. by p a a.arm h.arm) }
    where
      by : (p : Spot) (a : Around) (x : ArmHere) → ArmIn W p x → IfOk (reject (record a { arm = x }) q) (λ x. StatementIn W p x 0 0)
      by p a NoArm h = tt
      by p a (InArm n ls) h = record { statement = h.inside; hidden_are = omega arith }
