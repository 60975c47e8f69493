-- Expressions without names: from what checking promises of their parts, what it promises of them.
use Rattle.std.proofs.Common.{◌≡◌, ℕ, ◌+◌, List, refl, arith}
use Rattle.std.specs.Prelude.{◌<◌, Bool, true, false, Some, IfOk}
use Rattle.mesa_base.specs.declared.place.Place.{Place}
use Rattle.syntax_trees.specs.Syntax as s
use Rattle.mesa_types.specs.Sound as sound
use Rattle.mesa_types.specs.Operators as words
use Rattle.mesa_types.specs.Counts.{operands, operands_of, hidden_expr, hidden_exprs}
use Rattle.mesa_types.specs.Nodes.{count_of}
use Rattle.syntax_trees.specs.declared.syntax.Operator.{Operator}
use Rattle.syntax_trees.specs.declared.syntax.Operator.TheVariants.{Or, And, Add, Subtract, Multiply, Divide, Modulo}
use Rattle.syntax_trees.specs.declared.syntax.Sign.{Sign}
use Rattle.mesa_base.specs.declared.relation.Relation.{Relation}
use Rattle.check_rules.specs.Typed as t
use Rattle.interface_records.specs.PlainTypes as v
use Rattle.interface_records.specs.PlainTypes.{PlainType, words_of}
use Rattle.check_rules.specs.Steps.{Check, lift}
use Rattle.check_rules.specs.Around.{Around}
use Rattle.check_rules.specs.Parts.{first}
use Rattle.check_rules.specs.Operators.{sort_of, longer}
use Rattle.check_rules.specs.Statements.{longer_number, longer_bounds}
use Rattle.check_rules.specs.Ranges.{Typed, typed, Aim, Free, finish}
use Rattle.check_rules.specs.Phrases.{holds, in_steps, in_interval}
use Rattle.check_rules.specs.Values.{number, letter, truth, number_in, string, is_truth, not_of, signed, compared, within, Sum, Begun, closed, Done, step, by_level, level_of, summed, truth_operand}
use Rattle.check_rules.specs.Checking.{check, sums, truths, interval}
use Rattle.check_rules.specs.Written.{ExprWritten, StepsWritten, IntervalWritten}
use Rattle.check_rules.proofs.SoundTypes.{no_truth, or_left, or_right}
use Rattle.typing_laws.proofs.SoundOperators.{plain_words, plain_types}
use Rattle.typing_laws.proofs.SoundSteps.{World, Spot, Rule, bind, under, so, given, plainly, ended, spent_words}
use Rattle.typing_laws.proofs.SoundnessStatements.{Ready, ValueIn, CheckedIn, AimIn, GaveIn, SumIn, SumsIn, TruthsIn, Stepped, Checks, ChecksSums, ChecksTruths, ChecksInterval}
use Rattle.typing_laws.proofs.SoundValues as values
use Rattle.typing_laws.proofs.SoundValues.{StepIn, TruthIn}

-- the premise of a part
pub part : {W : World} {flat : Bool} {p : Spot} {a : Around} {b c : Bool} {X Y : Type 0} → (c ≡ true → b ≡ true) → (X → Y) → Ready W flat p a b X
    → Ready W flat p a c Y
part f g r = record { around = r.around; phrase = λ e. r.phrase (f e); written = g r.written }

module _ (W : World) where
  -- the end of most clauses
  pub into : (flat : Bool) (p : Spot) {Pre : Type 0} (aim : Aim) (r : Typed) (s h m n : ℕ) → (Pre → AimIn aim) → (Pre → ValueIn W p r s h)
      → Rule W flat Pre (λ y i j. CheckedIn W p aim y (s + (m + i)) (h + (n + j))) (lift (finish aim r))
  into flat p aim r s h m n f g = ended W flat (finish aim r) (λ pre.
      values.finished W p aim r (s + (m + 0)) (h + (n + 0)) (f pre) (values.more W p r s h (s + (m + 0)) (h + (n + 0)) (omega arith) (omega arith)
      (g pre)))

  pub check_not : (q : Place) (e : s.Expr) → Checks W e → Checks W (s.Not q e)
  unfolding check holds ExprWritten CheckedIn AimIn
  check_not q e c = record {
    by = λ flat p a aim.
        bind W flat (under W flat (λ pre. (part (λ h. h) (λ w. w) pre.0, tt)) (c.by flat p a (Free (first e)))) (λ x s h.
        bind W flat (plainly W flat {P = λ r. ValueIn W p r s h} (not_of q x) (λ pre. values.not_in W p q x s h pre.1)) (λ r m n.
        into flat p aim r s h m n (λ pre. pre.0.0.1) (λ pre. pre.1)));
  }

  pub check_signed : (sign : Sign) (q : Place) (e : s.Expr) → Checks W e → Checks W (s.Signed sign q e)
  unfolding check holds ExprWritten CheckedIn AimIn
  check_signed sign q e c = record {
    by = λ flat p a aim.
        bind W flat (under W flat (λ pre. (part (λ h. h) (λ w. w) pre.0, tt)) (c.by flat p a (Free (first e)))) (λ x s h.
        bind W flat (plainly W flat {P = λ r. ValueIn W p r s h} (signed sign q x) (λ pre. values.signed_in W p sign q x s h pre.1)) (λ r m n.
        into flat p aim r s h m n (λ pre. pre.0.0.1) (λ pre. pre.1)));
  }

  pub check_parenthesis : (q : Place) (e : s.Expr) → Checks W e → Checks W (s.Parenthesis q e)
  unfolding check holds ExprWritten
  check_parenthesis q e c = record { by = λ flat p a aim. c.by flat p a aim }

  pub check_compare : (d : s.Expr) (b : Bool) (o : Relation) (q : Place) (e : s.Expr) → Checks W d → Checks W e → Checks W (s.Compare d b o q e)
  unfolding check holds ExprWritten CheckedIn AimIn
  check_compare d b o q e c k = record {
    by = λ flat p a aim.
        bind W flat (under W flat (λ pre. (part (or_left (holds d) (holds e)) (λ w. w.0) pre.0, tt)) (c.by flat p a (Free (first d)))) (λ x s h.
        bind W flat (under W flat (λ pre. (part (or_right (holds d) (holds e)) (λ w. w.1) pre.0.0, tt)) (k.by flat p a (Free (first e)))) (λ y m n.
        let more = longer (sort_of x.kind) x.literal (sort_of y.kind) y.literal in
        bind W flat (plainly W flat {P = λ r. ValueIn W p r (s + m + more) (h + n)} (compared b o q (first d) x (first e) y)
        (λ pre. values.compared_in W p b o q (first d) x (first e) y s h m n pre.0.1 pre.1)) (λ r i j.
        bind W flat (spent_words W flat more) (λ u i' j'.
        ended W flat (finish aim r) (λ pre. values.finished W p aim r (s + (m + (i + (i' + 0)))) (h + (n + (j + (j' + 0)))) pre.0.0.0.0.1
        (values.more W p r (s + m + more) (h + n) (s + (m + (i + (i' + 0)))) (h + (n + (j + (j' + 0)))) (omega (arith, pre.1)) (omega arith) pre.0.1))))));
  }

  pub check_within : (e : s.Expr) (b : Bool) (q : Place) (i : s.Interval) → Checks W e → ChecksInterval W i → Checks W (s.Within e b q i)
  unfolding check holds ExprWritten CheckedIn AimIn
  check_within e b q i c k = record {
    by = λ flat p a aim.
        bind W flat (under W flat (λ pre. (part (or_left (holds e) (in_interval i)) (λ w. w.0) pre.0, tt)) (c.by flat p a (Free (first e)))) (λ x s h.
        bind W flat (under W flat (λ pre. part (or_right (holds e) (in_interval i)) (λ w. w.1) pre.0.0) (k.by flat p a)) (λ ends m n.
        let more = longer_number x ends + longer_bounds x ends in
        bind W flat (plainly W flat {P = λ r. ValueIn W p r (s + m + more) (h + n)} (within b q (first e) x ends)
        (λ pre. values.within_in W p b q (first e) x ends s h m n pre.0.1 pre.1)) (λ r i j.
        bind W flat (spent_words W flat more) (λ u i' j'.
        ended W flat (finish aim r) (λ pre. values.finished W p aim r (s + (m + (i + (i' + 0)))) (h + (n + (j + (j' + 0)))) pre.0.0.0.0.1
        (values.more W p r (s + m + more) (h + n) (s + (m + (i + (i' + 0)))) (h + (n + (j + (j' + 0)))) (omega (arith, pre.1)) (omega arith) pre.0.1))))));
  }

  pub check_interval : (q : Place) (open_low : Bool) (low high : s.Expr) (open_high : Bool) → Checks W low → Checks W high
      → ChecksInterval W (s.Between q open_low low high open_high)
  unfolding interval in_interval IntervalWritten CheckedIn AimIn
  check_interval q open_low low high open_high c k = record {
    by = λ flat p a.
        bind W flat (under W flat (λ pre. (part (or_left (holds low) (holds high)) (λ w. w.0) pre, tt)) (c.by flat p a (Free (first low)))) (λ x s h.
        bind W flat (under W flat (λ pre. (part (or_right (holds low) (holds high)) (λ w. w.1) pre.0, tt)) (k.by flat p a (Free (first high)))) (λ y m n.
        given W flat (record { open_low = open_low; low_place = first low; low = x; high_place = first high; high = y; open_high = open_high }) (λ pre. record {
          low = (pre.0.1).value;
          low_kind = (pre.0.1).kind;
          high = (pre.1).value;
          high_kind = (pre.1).kind;
          operands_are = omega (arith, (pre.0.1).operands_are, (pre.1).operands_are);
          hidden_are = omega (arith, (pre.0.1).hidden_are, (pre.1).hidden_are);
          low_literal = (pre.0.1).literal;
          high_literal = (pre.1).literal;
        })));
  }

  -- literals
  pub check_number : (q : Place) (n : ℕ) → Checks W (s.NumberLiteral q n)
  unfolding check
  check_number q n = record {
    by = λ flat p a aim.
        bind W flat (spent_words W flat (words_of (number n).kind)) (λ u s h.
        ended W flat (finish aim (number n)) (λ pre. values.finished W p aim (number n) (s + 0) (h + 0) pre.0.1
        (values.number_value W p n (s + 0) (h + 0) (omega (arith, pre.1)))));
  }

  pub check_letter : (q : Place) (n : ℕ) → Checks W (s.CharacterLiteral q n)
  unfolding check
  check_letter q n = record {
    by = λ flat p a aim.
        bind W flat (spent_words W flat 1) (λ u s h.
        ended W flat (finish aim (letter n)) (λ pre. values.finished W p aim (letter n) (s + 0) (h + 0) pre.0.1
        (values.letter_value W p n (s + 0) (h + 0) (omega (arith, pre.1)))));
  }

  pub check_truth : (q : Place) (b : Bool) → Checks W (s.Truth q b)
  unfolding check
  check_truth q b = record {
    by = λ flat p a aim.
        bind W flat (spent_words W flat 1) (λ u s h.
        ended W flat (finish aim (truth (t.Number (words.truth b)))) (λ pre. values.finished W p aim (truth (t.Number (words.truth b))) (s + 0) (h + 0)
        pre.0.1
        (values.truth_value W p b (s + 0) (h + 0) (omega (arith, pre.1)))));
  }

  pub string_in : (p : Spot) (literals : List (List ℕ)) (q : Place) (bytes : List ℕ) → ((n : ℕ) → number_in bytes 0 literals ≡ Some n → n < W.strings)
      → IfOk (string literals q bytes) (λ x. ValueIn W p x 2 0)
  unfolding string
  string_in p literals q bytes h = values.where_some (number_in bytes 0 literals) _ q (λ n. typed v.String (t.Literal n)) (λ x. ValueIn W p x 2 0)
      (λ n e. values.text_value W p n 2 0 (h n e) (omega arith))

  pub check_string : (q : Place) (bytes : List ℕ) → Checks W (s.StringLiteral q bytes)
  unfolding check
  check_string q bytes = record {
    by = λ flat p a aim.
        bind W flat (plainly W flat {P = λ x. ValueIn W p x 2 0} (string a.known.strings q bytes)
        (λ pre. string_in p a.known.strings q bytes ((pre.0).around.strings bytes))) (λ x s h.
        bind W flat (spent_words W flat 2) (λ u m n.
        ended W flat (finish aim x) (λ pre. values.finished W p aim x (s + (m + 0)) (h + (n + 0)) pre.0.0.1
        (values.more W p x 2 0 (s + (m + 0)) (h + (n + 0)) (omega (arith, pre.1)) (omega arith) pre.0.1))));
  }

  -- runs
  pub sums_none : ChecksSums W s.NoOperation
  unfolding sums
  sums_none = record {
    by = λ flat p a l done kind literal. given W flat (closed done, kind) (λ pre. record {
      value = (pre.1).value;
      kind_in = (pre.1).kind_in;
      operands_are = omega arith;
      hidden_are = omega arith;
    });
  }

  pub run_more : (flat : Bool) (p : Spot) (a : Around) (l : Place) (done : Sum) (o : Operator) (q : Place) (e : s.Expr) (ss : s.Operations) (x : Done)
      (w c h m n i j : ℕ) {Y : Type 0}
      → ChecksSums W ss
      → Rule W flat (((Ready W flat p a (in_steps (s.AndOperation o q e ss)) (StepsWritten (s.AndOperation o q e ss)) × Y) × StepIn W p (closed done) x (c + w) h)
      × (i ≡ w))
      (λ y m' n'. SumsIn W p done y (c + (m + (i + m'))) (h + (n + (j + n'))))
      (sums a l x.done x.kind false ss)
  unfolding in_steps StepsWritten
  run_more flat p a l done o q e ss x w c h m n i j k =
      so W flat (λ y m' n' pre u. record {
        value = u.value;
        kind_in = u.kind_in;
        operands_are = omega (arith, u.operands_are, (pre.0.1).operands_are, pre.1);
        hidden_are = omega (arith, u.hidden_are, (pre.0.1).hidden_are);
      })
      (under W flat (λ pre. (part (or_right (holds e) (in_steps ss)) (λ w. w.1) pre.0.0.0, (pre.0.1).sum)) (k.by flat p a l x.done x.kind false))

  pub sums_more : (o : Operator) (q : Place) (e : s.Expr) (ss : s.Operations) → Checks W e → ChecksSums W ss → ChecksSums W (s.AndOperation o q e ss)
  unfolding sums in_steps StepsWritten CheckedIn AimIn
  sums_more o q e ss c k = record {
    by = λ flat p a l done kind literal.
        bind W flat (under W flat (λ pre. (part (or_left (holds e) (in_steps ss)) (λ w. w.0) pre.0, tt)) (c.by flat p a (Free (first e)))) (λ r s h.
        let more = longer (sort_of kind) literal (sort_of r.kind) r.literal in
        bind W flat (plainly W flat {P = λ x. StepIn W p (closed done) x (s + more) h} (step o q l done kind literal (first e) r)
        (λ pre. values.step_in W p o q l done kind literal (first e) r s h pre.0.1 pre.1)) (λ x m n.
        bind W flat (spent_words W flat more) (λ u i j.
        under W flat (λ pre. (((pre.0.0.0.0, pre.0.0.1), pre.0.1), pre.1)) (run_more flat p a l done o q e ss x more s h m n i j k))));
  }

  pub truths_none : ChecksTruths W s.NoOperation
  unfolding truths Stepped sound.WordsIn operands_of hidden_exprs
  truths_none = record {
    by = λ flat p a fits. given W flat t.NoExprs (λ pre. record {
      fit = λ x. absurd x;
      some = λ x. absurd x;
      words = tt;
      operands_are = omega arith;
      hidden_are = omega arith;
    });
  }

  pub truths_more : (o : Operator) (q : Place) (e : s.Expr) (ss : s.Operations) → Checks W e → ChecksTruths W ss
      → ChecksTruths W (s.AndOperation o q e ss)
  unfolding truths in_steps StepsWritten CheckedIn AimIn sound.WordsIn operands_of hidden_exprs count_of
  truths_more o q e ss c k = record {
    by = λ flat p a fits.
        bind W flat (under W flat (λ pre. (part (or_left (holds e) (in_steps ss)) (λ w. w.0) pre, tt)) (c.by flat p a (Free (first e)))) (λ r s h.
        bind W flat (plainly W flat {P = λ x. TruthIn W p fits x s h} (truth_operand fits q r) (λ pre. values.truth_in W p fits q r s h pre.1))
        (λ x m n.
        bind W flat (under W flat (λ pre. part (or_right (holds e) (in_steps ss)) (λ w. w.1) pre.0.0) (k.by flat p a true)) (λ es i j.
        given W flat (t.AndExpr x es) (λ pre. record {
          fit = λ w. (pre.0.1).fit;
          some = λ w. omega arith;
          words = ((pre.0.1).word, (pre.1).words);
          operands_are = omega (arith, (pre.0.1).operands_are, (pre.1).operands_are);
          hidden_are = omega (arith, (pre.0.1).hidden_are, (pre.1).hidden_are);
        }))));
  }

  -- the level of a run with a step
  pub by_steps : {A : Type 0} {flat : Bool} {Pre : Type 0} {Q : A → ℕ → ℕ → Type 0} (ss : s.Operations) (w x y z : Check A) → Rule W flat Pre Q w
      → (Stepped ss → Rule W flat Pre Q x) → (Stepped ss → Rule W flat Pre Q y) → (Stepped ss → Rule W flat Pre Q z)
      → Rule W flat Pre Q (by_level (level_of ss) w x y z)
  unfolding Stepped
  by_steps s.NoOperation w x y z h i j k = h
  by_steps (s.AndOperation Or q e ss) w x y z h i j k = k tt
  by_steps (s.AndOperation And q e ss) w x y z h i j k = j tt
  by_steps (s.AndOperation Add q e ss) w x y z h i j k = i tt
  by_steps (s.AndOperation Subtract q e ss) w x y z h i j k = i tt
  by_steps (s.AndOperation Multiply q e ss) w x y z h i j k = i tt
  by_steps (s.AndOperation Divide q e ss) w x y z h i j k = i tt
  by_steps (s.AndOperation Modulo q e ss) w x y z h i j k = i tt

  pub sum_value : (p : Spot) (x : Typed) (r : t.Expr × PlainType) (c h m n : ℕ) → ValueIn W p x c h → SumsIn W p (Begun x.value) r m n
      → ValueIn W p (summed r) (c + (m + 0)) (h + (n + 0))
  unfolding GaveIn
  sum_value p x r c h m n g u = record {
    value = u.value;
    kind = u.kind_in;
    operands_are = omega (arith, g.operands_are, u.operands_are);
    hidden_are = omega (arith, g.hidden_are, u.hidden_are);
    gave = tt;
    literal = λ l. no_truth l;
  }

  pub all_value : (p : Spot) (x : Typed) (ss : s.Operations) (es : t.Exprs) (c h m n : ℕ) → Stepped ss → ValueIn W p x c h
      → TruthsIn W p (is_truth x.kind) ss es m n
      → ValueIn W p (truth (t.AllOf (t.AndExpr x.value es))) (c + (m + 0)) (h + (n + 0))
  unfolding sound.ExprIn sound.WordsIn operands hidden_expr operands_of hidden_exprs count_of
  all_value p x ss es c h m n stepped g u = values.word_value W p v.Boolean (t.AllOf (t.AndExpr x.value es)) (c + (m + 0)) (h + (n + 0)) plain_words.2
      plain_types.2
      (omega (arith, u.some stepped), (values.as_word W p x.value x.kind (values.truth_word W p x.kind (u.fit stepped)) g.value, u.words), refl)
      (omega (arith, g.operands_are, u.operands_are)) (omega (arith, g.hidden_are, u.hidden_are))

  pub some_value : (p : Spot) (x : Typed) (ss : s.Operations) (es : t.Exprs) (c h m n : ℕ) → Stepped ss → ValueIn W p x c h
      → TruthsIn W p (is_truth x.kind) ss es m n
      → ValueIn W p (truth (t.SomeOf (t.AndExpr x.value es))) (c + (m + 0)) (h + (n + 0))
  unfolding sound.ExprIn sound.WordsIn operands hidden_expr operands_of hidden_exprs count_of
  some_value p x ss es c h m n stepped g u = values.word_value W p v.Boolean (t.SomeOf (t.AndExpr x.value es)) (c + (m + 0)) (h + (n + 0)) plain_words.2
      plain_types.2
      (omega (arith, u.some stepped), (values.as_word W p x.value x.kind (values.truth_word W p x.kind (u.fit stepped)) g.value, u.words), refl)
      (omega (arith, g.operands_are, u.operands_are)) (omega (arith, g.hidden_are, u.hidden_are))

  begun : (p : Spot) (x : Typed) (s h : ℕ) → ValueIn W p x s h → SumIn W p (Begun x.value) x.kind x.literal
  begun p x s h g = record { value = g.value; kind_in = g.kind; literal_is = g.literal }

  pub check_run : (e : s.Expr) (ss : s.Operations) → Checks W e → ChecksSums W ss → ChecksTruths W ss → Checks W (s.Run e ss)
  unfolding check holds ExprWritten CheckedIn AimIn
  check_run e ss c k l = record {
    by = λ flat p a aim.
        bind W flat (under W flat (λ pre. (part (or_left (holds e) (in_steps ss)) (λ w. w.0) pre.0, tt)) (c.by flat p a (Free (first e)))) (λ x s h.
        bind W flat {P = λ r m n. ValueIn W p r (s + m) (h + n)} (by_steps ss _ _ _ _
        (given W flat x (λ pre. values.more W p x s h (s + 0) (h + 0) (omega arith) (omega arith) pre.1))
        (λ stepped. bind W flat (under W flat (λ pre. (part (or_right (holds e) (in_steps ss)) (λ w. w.1) pre.0.0, begun p x s h pre.1))
        (k.by flat p a (first e) (Begun x.value) x.kind x.literal)) (λ r m n.
        given W flat (summed r) (λ pre. sum_value p x r s h m n pre.0.1 pre.1)))
        (λ stepped. bind W flat (under W flat (λ pre. part (or_right (holds e) (in_steps ss)) (λ w. w.1) pre.0.0) (l.by flat p a (is_truth x.kind)))
        (λ r m n.
        given W flat (truth (t.AllOf (t.AndExpr x.value r))) (λ pre. all_value p x ss r s h m n stepped pre.0.1 pre.1)))
        (λ stepped. bind W flat (under W flat (λ pre. part (or_right (holds e) (in_steps ss)) (λ w. w.1) pre.0.0) (l.by flat p a (is_truth x.kind)))
        (λ r m n.
        given W flat (truth (t.SomeOf (t.AndExpr x.value r))) (λ pre. some_value p x ss r s h m n stepped pre.0.1 pre.1))))
        (λ r m n. ended W flat (finish aim r) (λ pre. values.finished W p aim r (s + (m + 0)) (h + (n + 0)) pre.0.0.1
        (values.more W p r (s + m) (h + n) (s + (m + 0)) (h + (n + 0)) (omega arith) (omega arith) pre.1))));
  }
