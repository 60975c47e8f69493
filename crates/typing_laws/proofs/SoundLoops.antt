-- SELECT and loops: from what checking promises of their parts, what it promises of them.
use Rattle.std.proofs.Common.{◌≡◌, ℕ, suc, ◌+◌, List, [], ◌∷◌, ◌++◌, length, refl, sym, ◌∙◌, ap, subst, arith}
use Rattle.std.specs.Prelude.{◌≤◌, ◌<◌, ◌≢◌, Bool, true, false, not, ◌||◌, Ok, Err, IfOk, if◌then◌else◌, All, Contains}
use Rattle.std.proofs.lemmas.List.Elements.{All-cons}
use Rattle.mesa_base.specs.declared.place.Place.{Place}
use Rattle.mesa_base.specs.declared.identifier.Identifier.{Identifier}
use Rattle.syntax_trees.specs.Syntax as s
use Rattle.mesa_types.specs.Sound as sound
use Rattle.mesa_base.specs.declared.relation.Relation.{Relation}
use Rattle.syntax_trees.specs.declared.syntax.RepeatLabels.{RepeatLabels}
use Rattle.syntax_trees.specs.declared.syntax.RepeatLabels.TheVariants as repeat
use Rattle.mesa_types.specs.Counts.{operands_of_stmt, operands_of_tests, operands_of_cases, operands_of_interval, operands_of_condition, operands_of_loop, hidden, hidden_tests, hidden_cases, hidden_interval, hidden_condition, hidden_loop, hidden_exits, hidden_finish, hidden_stmts, hidden_phrase}
use Rattle.check_rules.specs.Typed as t
use Rattle.interface_records.specs.PlainTypes as v
use Rattle.interface_records.specs.PlainTypes.{PlainType, kind_of, is_long, is_ordinal, conforms}
use Rattle.check_rules.specs.Meanings as m
use Rattle.check_rules.specs.Meanings.{Meaning}
use Rattle.check_rules.specs.Steps.{Checked, ◌>>=◌, pure}
use Rattle.check_rules.specs.Around.{Around, in_loop, in_round}
use Rattle.check_rules.specs.Operators.{Relating, Longs, Words, sort_of, related, relating, longer, selecting, selecting_itself, beside, turned}
use Rattle.check_rules.specs.Parts.{first, first_of_interval, names_of}
use Rattle.check_rules.specs.Ranges.{Typed, Free, Into, range_for}
use Rattle.check_rules.specs.Statements.{Ends, are_related, meets_bounds, is_long_interval, longer_bounds, not_long, test_by, tested, test_inside_by, tested_inside, selected_by, selected, held_words, Rounds, rounds_by, rounds, Counter, counter, given, Counted, NotCounted, By, Controlled, looped, labels_of, labels_of_repeats, numbers_from, Left, also_left, new_labels, is_finished}
use Rattle.check_rules.specs.Phrases.{holds, in_interval, in_tests, in_cases}
use Rattle.check_rules.specs.Checking.{statement, statements, phrase, tests, cases, control, counted, condition, repeats}
use Rattle.check_rules.specs.Written.{StatementWritten, StatementsWritten, TestsWritten, CasesWritten, ControlWritten, CountWritten, ConditionWritten, RepeatsWritten, RepeatWritten, PhraseWritten}
use Rattle.check_rules.specs.Written as written
use Rattle.check_rules.proofs.SoundTypes.{TypeIn, or_left, or_right, ordinal_kind, long_kind}
use Rattle.typing_laws.proofs.SoundOperators.{number_kind, RelatesFor, relating_in, related_in, left_word, numbers_word, selecting_in, selecting_itself_in, given_range}
use Rattle.typing_laws.proofs.SoundOperators as operators
use Rattle.typing_laws.proofs.SoundSteps.{World, Spot, at, MeaningIn, Rule, bind, under, given as put_given, plainly, spent_words, hidden_words}
use Rattle.typing_laws.proofs.SoundnessStatements.{PhraseHere, SeenIn, AroundIn, Ready, ValueIn, EndsIn, CheckedIn, AimIn, Checks, ChecksInterval}
use Rattle.typing_laws.proofs.SoundExpressions.{part}
use Rattle.typing_laws.proofs.SoundLists.{ChecksPhrase, CaughtIn}
use Rattle.typing_laws.proofs.SoundNames.{name_is_seen}
use Rattle.typing_laws.proofs.SoundAround.{marked_spot, labelled_spot, is_labelled_spot, round_around, phrase_here}
use Rattle.typing_laws.proofs.SoundStatements.{StatementIn, BodyOf, StatementsIn, ChecksStatement, ChecksOther, ChecksStatements, whole_statement, word_into}
use Rattle.typing_laws.proofs.SoundValues as rules

-- ---- judgements

-- x is the selector
pub record PutIn (W : World) (p : Spot) (x : Typed) (f : t.Tests → t.Tests) (spent hid : ℕ) : Type 0 where
  pub word : is_long x.kind ≡ false → kind_of x.kind ≡ t.Ordinal
  pub takes : (ts : t.Tests) → sound.TestsTake (kind_of x.kind) ts → sound.TestsTake (kind_of x.kind) (f ts)
  pub some : (ts : t.Tests) → sound.HasTest (f ts)
  pub tests : (ts : t.Tests) → sound.TestsIn (at W p) ts → sound.TestsIn (at W p) (f ts)
  pub operands_are : (ts : t.Tests) → operands_of_tests (f ts) ≤ operands_of_tests ts + spent
  pub hidden_are : (ts : t.Tests) → hidden_tests (f ts) ≤ hidden_tests ts + hid

pub record TestsOf (W : World) (p : Spot) (x : Typed) (xs : s.Tests) (ts : t.Tests) (spent hid : ℕ) : Type 0 where
  pub word : written.HasTest xs → is_long x.kind ≡ false → kind_of x.kind ≡ t.Ordinal
  pub takes : sound.TestsTake (kind_of x.kind) ts
  pub some : written.HasTest xs → sound.HasTest ts
  pub tests : sound.TestsIn (at W p) ts
  pub operands_are : operands_of_tests ts ≤ spent
  pub hidden_are : hidden_tests ts ≤ hid

pub record ChecksTests (W : World) (ts : s.Tests) : Type 0 where
  pub by : (p : Spot) (a : Around) (l : Place) (x : Typed)
      → Rule W false (Ready W false p a (in_tests ts) (TestsWritten ts) × TypeIn x.kind) (TestsOf W p x ts) (tests a l x ts)

pub record CasesOf (W : World) (p : Spot) (x : Typed) (f : t.Cases → t.Cases) (spent hid : ℕ) : Type 0 where
  pub cases : (cs : t.Cases) → sound.CasesIn (at W p) cs → sound.CasesIn (at W p) (f cs)
  pub takes : (cs : t.Cases) → sound.CasesTake (kind_of x.kind) cs → sound.CasesTake (kind_of x.kind) (f cs)
  pub selects : (cs : t.Cases) → is_long x.kind ≡ false → sound.Selects (kind_of x.kind) cs → sound.CasesTake (kind_of x.kind) cs
      → sound.Selects (kind_of x.kind) (f cs)
  pub operands_are : (cs : t.Cases) → operands_of_cases (f cs) ≤ operands_of_cases cs + spent
  pub hidden_are : (cs : t.Cases) → hidden_cases (f cs) ≤ hidden_cases cs + hid

pub record ChecksCases (W : World) (cs : s.Cases) : Type 0 where
  pub by : (p : Spot) (a : Around) (l : Place) (x : Typed)
      → Rule W false (Ready W false p a (in_cases cs) (CasesWritten cs) × TypeIn x.kind) (CasesOf W p x) (cases a l x cs)

module _ (W : World) where
  -- ---- tests
  made_long : (x : Typed) (c : t.Conversion) → TypeIn x.kind → operators.IsNumber (sort_of x.kind) → sound.Converts c (operators.kind_by (sort_of x.kind)) t.Longs
      → sound.Converts c (kind_of x.kind) t.Longs
  made_long x c i n h = subst (λ k. sound.Converts c k t.Longs) (sym (number_kind x.kind i n)) h

  tested_in : (p : Spot) (negated : Bool) (o : Relation) (q l : Place) (x : Typed) (place : Place) (y : Typed) (c g : ℕ) → TypeIn x.kind → ValueIn W p y c g
      → IfOk (tested negated o q l x place y) (λ f. PutIn W p x f (c + longer (sort_of x.kind) false (sort_of y.kind) y.literal) g)
  unfolding tested sound.HasTest sound.TestsIn sound.TestsTake operands_of_tests hidden_tests
  tested_in p negated o q l x place y c g i h =
      rules.where_some (relating x.kind x.literal y.kind y.literal) _ (beside q l (sort_of x.kind) place (sort_of y.kind)) (test_by (turned negated o) x y)
      (λ f. PutIn W p x f (c + longer (sort_of x.kind) false (sort_of y.kind) y.literal) g)
      (λ z e. by z (relating_in x.kind y.kind x.literal y.literal z e))
    where
      by : (z : Relating) → RelatesFor x.kind x.literal y.kind y.literal z
          → PutIn W p x (test_by (turned negated o) x y z) (c + longer (sort_of x.kind) false (sort_of y.kind) y.literal) g
      by (Words z) r = record {
        word = λ f. r.left;
        takes = λ ts k. (r.left, k);
        some = λ ts. tt;
        tests = λ ts k. ((r.met).left, rules.checked_word W p z.right y.value (r.met).right (rules.as_word W p y.value y.kind r.right h.value), k);
        operands_are = λ ts. omega (arith, rules.checked_operands W p z.right y.value, h.operands_are);
        hidden_are = λ ts. omega (arith, rules.checked_hidden W p z.right y.value, h.hidden_are);
      }
      by (Longs z) r = record {
        word = λ f. left_word x.kind y.kind x.literal y.literal (Longs z) r f;
        takes = λ ts k. (
          made_long x (selecting z.base (sort_of x.kind) x.literal) i r.left_number
              (selecting_in z.base (sort_of x.kind) x.literal r.left_number),
          k,
        );
        some = λ ts. tt;
        tests = λ ts k. (rules.long_operand W p z.right y.kind y.literal y.value h.kind r.right_number r.right h.literal h.value, k);
        operands_are = λ ts. omega (arith, (rules.fitted_counts W p z.right y.value).0, r.right_words, h.operands_are);
        hidden_are = λ ts. omega (arith, (rules.fitted_counts W p z.right y.value).1, h.hidden_are);
      }

  tested_interval : (p : Spot) (negated : Bool) (q l : Place) (x : Typed) (i : Ends) (c g : ℕ) → TypeIn x.kind → EndsIn W p i c g
      → IfOk (tested_inside negated q l x i) (λ f. PutIn W p x f (c + longer_bounds x i) g)
  unfolding tested_inside meets_bounds sound.HasTest sound.TestsIn sound.TestsTake operands_of_tests hidden_tests
  tested_interval p negated q l x i c g k h =
      rules.two_where (are_related x i.low) (are_related x i.high) _ _ _ (test_inside_by (is_long_interval x i) negated x i)
      (λ f. PutIn W p x f (c + longer_bounds x i) g) (λ e d. by (is_long_interval x i) refl e d)
    where
      by : (b : Bool) → is_long_interval x i ≡ b → are_related x i.low ≡ true → are_related x i.high ≡ true
          → PutIn W p x (test_inside_by b negated x i) (c + longer_bounds x i) g
      by false f e d =
          let r = rules.words_between W p x i c g f e d h in
          record {
            word = λ n. r.word;
            takes = λ ts j. (r.word, j);
            some = λ ts. tt;
            tests = λ ts j. (r.interval, j);
            operands_are = λ ts. omega (arith, r.operands_are);
            hidden_are = λ ts. omega (arith, r.hidden_are);
          }
      by true f e d =
          let r = rules.longs_between W p x i c g f e d h in
          record {
            word = λ n. numbers_word x.kind r.number n;
            takes = λ ts j. (made_long x (selecting_itself (sort_of x.kind)) k r.number (selecting_itself_in (sort_of x.kind) r.number), j);
            some = λ ts. tt;
            tests = λ ts j. (r.interval, j);
            operands_are = λ ts. omega (arith, r.operands_are);
            hidden_are = λ ts. omega (arith, r.hidden_are);
          }

  put_tests : (p : Spot) (x : Typed) (f : t.Tests → t.Tests) (xs ys : s.Tests) (ts : t.Tests) (c g m n c' g' : ℕ) → PutIn W p x f c g → TestsOf W p x xs ts m n
      → c + m ≤ c' → g + n ≤ g' → TestsOf W p x ys (f ts) c' g'
  put_tests p x f xs ys ts c g m n c' g' a b i j = record {
    word = λ h. a.word;
    takes = a.takes ts b.takes;
    some = λ h. a.some ts;
    tests = a.tests ts b.tests;
    operands_are = omega (arith, i, a.operands_are ts, b.operands_are);
    hidden_are = omega (arith, j, a.hidden_are ts, b.hidden_are);
  }

  pub tests_none : ChecksTests W s.NoTests
  unfolding tests written.HasTest sound.TestsIn sound.TestsTake operands_of_tests hidden_tests
  tests_none = record {
    by = λ p a l x. put_given W false t.NoTests (λ pre. record
        { word = λ h. absurd h; takes = tt; some = λ h. absurd h; tests = tt; operands_are = omega arith; hidden_are = omega arith });
  }

  pub tests_value : (e : s.Expr) (ts : s.Tests) → Checks W e → ChecksTests W ts → ChecksTests W (s.Value e ts)
  unfolding tests in_tests TestsWritten CheckedIn AimIn
  tests_value e ts k l = record {
    by = λ p a lx x.
        bind W false (under W false (λ pre. (part (or_left (holds e) (in_tests ts)) (λ w. w.0) pre.0, tt)) (k.by false p a (Free (first e)))) (λ y c g.
        let more = longer (sort_of x.kind) false (sort_of y.kind) y.literal in
        bind W false (plainly W false {P = λ f. PutIn W p x f (c + more) g} (tested false t.Equal (first e) lx x (first e) y)
        (λ pre. tested_in p false t.Equal (first e) lx x (first e) y c g pre.0.1 pre.1)) (λ f i j.
        bind W false (spent_words W false more) (λ u i' j'.
        bind W false (under W false (λ pre. (part (or_right (holds e) (in_tests ts)) (λ w. w.1) pre.0.0.0.0, pre.0.0.0.1)) (l.by p a lx x)) (λ us m n.
        put_given W false (f us) (λ pre. put_tests p x f ts (s.Value e ts) us (c + more) g m n (c + (i + (i' + (m + 0)))) (g + (j + (j' + (n + 0)))) pre.0.0.1
        pre.1 (omega (arith, pre.0.1)) (omega arith))))));
  }

  pub tests_compared : (b : Bool) (o : Relation) (q : Place) (e : s.Expr) (ts : s.Tests) → Checks W e → ChecksTests W ts → ChecksTests W (s.Compared b o q e ts)
  unfolding tests in_tests TestsWritten CheckedIn AimIn
  tests_compared b o q e ts k l = record {
    by = λ p a lx x.
        bind W false (under W false (λ pre. (part (or_left (holds e) (in_tests ts)) (λ w. w.0) pre.0, tt)) (k.by false p a (Free (first e)))) (λ y c g.
        let more = longer (sort_of x.kind) false (sort_of y.kind) y.literal in
        bind W false (plainly W false {P = λ f. PutIn W p x f (c + more) g} (tested b o q lx x (first e) y)
        (λ pre. tested_in p b o q lx x (first e) y c g pre.0.1 pre.1)) (λ f i j.
        bind W false (spent_words W false more) (λ u i' j'.
        bind W false (under W false (λ pre. (part (or_right (holds e) (in_tests ts)) (λ w. w.1) pre.0.0.0.0, pre.0.0.0.1)) (l.by p a lx x)) (λ us m n.
        put_given W false (f us) (λ pre. put_tests p x f ts (s.Compared b o q e ts) us (c + more) g m n (c + (i + (i' + (m + 0)))) (g + (j + (j' + (n + 0))))
        pre.0.0.1 pre.1 (omega (arith, pre.0.1)) (omega arith))))));
  }

  pub tests_inside : (b : Bool) (q : Place) (i : s.Interval) (ts : s.Tests) → ChecksInterval W i → ChecksTests W ts → ChecksTests W (s.Inside b q i ts)
  unfolding tests in_tests TestsWritten
  tests_inside b q i ts k l = record {
    by = λ p a lx x.
        bind W false (under W false (λ pre. part (or_left (in_interval i) (in_tests ts)) (λ w. w.0) pre.0) (k.by false p a)) (λ y c g.
        bind W false (plainly W false {P = λ f. PutIn W p x f (c + longer_bounds x y) g} (tested_inside b q lx x y)
        (λ pre. tested_interval p b q lx x y c g pre.0.1 pre.1)) (λ f d h.
        bind W false (spent_words W false (longer_bounds x y)) (λ u d' h'.
        bind W false (under W false (λ pre. (part (or_right (in_interval i) (in_tests ts)) (λ w. w.1) pre.0.0.0.0, pre.0.0.0.1)) (l.by p a lx x)) (λ us m n.
        put_given W false (f us) (λ pre. put_tests p x f ts (s.Inside b q i ts) us (c + longer_bounds x y) g m n (c + (d + (d' + (m + 0))))
        (g + (h + (h' + (n + 0)))) pre.0.0.1 pre.1 (omega (arith, pre.0.1)) (omega arith))))));
  }

  -- ---- cases
  pub cases_none : ChecksCases W s.NoCases
  unfolding cases
  cases_none = record {
    by = λ p a l x. put_given W false (λ cs. cs) (λ pre. record
        { cases = λ cs h. h; takes = λ cs h. h; selects = λ cs f h k. h; operands_are = λ cs. omega arith; hidden_are = λ cs. omega arith });
  }

  pub cases_more : (ts : s.Tests) (body : s.Statement) (rest : s.Cases) → ChecksTests W ts → ChecksStatement W body → ChecksCases W rest
      → ChecksCases W (s.AndCase ts body rest)
  unfolding cases in_cases CasesWritten sound.CasesIn sound.CasesTake sound.Selects operands_of_cases hidden_cases
  cases_more ts body rest k l n = record {
    by = λ p a lx x.
        bind W false (under W false (λ pre. (part (or_left (in_tests ts) (in_cases rest)) (λ w. w.1) pre.0, pre.1)) (k.by p a lx x)) (λ us c g.
        bind W false (under W false (λ pre. ((pre.0.0).around, (pre.0.0).written.2)) (l.by p a)) (λ b i j.
        bind W false (under W false (λ pre. (part (or_right (in_tests ts) (in_cases rest)) (λ w. w.3) pre.0.0.0, pre.0.0.1)) (n.by p a lx x)) (λ more d h.
        put_given W false (λ cs. t.AndCase us b (more cs)) (λ pre. record {
          cases = λ cs i. ((pre.0.0.1).some (pre.0.0.0.0).written.0, (pre.0.0.1).tests, (pre.0.1).statement, (pre.1).cases cs i);
          takes = λ cs i. ((pre.0.0.1).takes, (pre.1).takes cs i);
          selects = λ cs f i m. let d = (pre.0.0.1).word (pre.0.0.0.0).written.0 f in
              (d, subst (λ k. sound.TestsTake k us × sound.CasesTake k (more cs)) d ((pre.0.0.1).takes, (pre.1).takes cs m));
          operands_are = λ cs. omega (arith, (pre.0.0.1).operands_are, (pre.1).operands_are cs);
          hidden_are = λ cs. omega (arith, (pre.0.0.1).hidden_are, (pre.0.1).hidden_are, (pre.1).hidden_are cs);
        }))));
  }

  selected_body : (o : Spot) (x : Typed) (b : Bool) → is_long x.kind ≡ b → (cs : t.Cases) (c g d h j c' g' : ℕ) → ValueIn W o x c g
      → (is_long x.kind ≡ false → sound.Selects (kind_of x.kind) cs) → sound.CasesTake (kind_of x.kind) cs → sound.CasesIn (at W o) cs
      → operands_of_cases cs ≤ d → hidden_cases cs ≤ h → (if b then 2 else 1) ≤ j → c + d ≤ c' → g + h + j ≤ g'
      → BodyOf W o (selected_by b x.value cs) c' g'
  unfolding sound.StmtIn sound.Fits operands_of_stmt hidden
  selected_body o x true e cs c g d h j c' g' v s k i m n held p q = record {
    statement = λ fits. (
      fits,
      rules.as_long W o x.value x.kind (long_kind x.kind e) v.value,
      subst (λ k. sound.CasesTake k cs) (long_kind x.kind e) k,
      i,
    );
    operands_are = omega (arith, v.operands_are, m, p);
    hidden_are = omega (arith, v.hidden_are, n, held, q);
  }
  selected_body o x false e cs c g d h j c' g' v s k i m n held p q = record {
    statement = λ fits. (kind_of x.kind, fits, v.value, s e, i);
    operands_are = omega (arith, v.operands_are, m, p);
    hidden_are = omega (arith, v.hidden_are, n, held, q);
  }

  other_cases : (k : t.Kind) (y : t.Stmt) → sound.Selects k (t.Otherwise y) × sound.CasesTake k (t.Otherwise y)
  unfolding sound.Selects sound.CasesTake
  other_cases k y = (tt, tt)

  pub statement_select : (q : Place) (e : s.Expr) (cs : s.Cases) (other : s.MaybeStatement) → Checks W e → ChecksCases W cs → ChecksOther W other
      → ChecksStatement W (s.Select q e cs other)
  unfolding statement StatementWritten CheckedIn AimIn sound.CasesIn operands_of_cases hidden_cases selected
  statement_select q e cs other k l n = record {
    by = λ p a. whole_statement W (holds e || in_cases cs) p a q _ (λ o b mark.
        bind W false (under W false (λ pre. (part (or_left (holds e) (in_cases cs)) (λ w. w.0) pre, tt)) (k.by false o b (Free (first e)))) (λ x c g.
        bind W false (hidden_words W false (held_words x)) (λ u i j.
        bind W false (under W false (λ pre. (part (or_right (holds e) (in_cases cs)) (λ w. w.1) pre.0.0, (pre.0.1).kind)) (l.by o b (first e) x)) (λ f d h.
        bind W false (under W false (λ pre. ((pre.0.0.0).around, (pre.0.0.0).written.2)) (n.by o b)) (λ y e' h'.
        put_given W false (selected x (f (t.Otherwise y))) (λ pre.
        selected_body o x (is_long x.kind) refl (f (t.Otherwise y)) c g d (h + h') j (c + (i + (d + (e' + 0)))) (g + (j + (h + (h' + 0)))) pre.0.0.0.1
        (λ short. (pre.0.1).selects (t.Otherwise y) short (other_cases (kind_of x.kind) y).0 (other_cases (kind_of x.kind) y).1)
        ((pre.0.1).takes (t.Otherwise y) (other_cases (kind_of x.kind) y).1)
        ((pre.0.1).cases (t.Otherwise y) (pre.1).statement)
        (omega (arith, (pre.0.1).operands_are (t.Otherwise y)))
        (omega (arith, (pre.0.1).hidden_are (t.Otherwise y), (pre.1).hidden_are))
        (omega (arith, pre.0.0.1)) (omega arith) (omega arith)))))));
  }

-- ---- what stands before a DO

unfoldable pub CountedIn : World → Spot → Counted → ℕ → ℕ → Type 0
CountedIn W p NotCounted c g = Unit {0}
CountedIn W p (By x down r) c g =
    sound.GivenIn (at W p) x × sound.IntervalIn (at W p) r.interval × (operands_of_interval r.interval ≤ c) × (3 + hidden_interval r.interval ≤ g)

pub record ConditionOf (W : World) (p : Spot) (x : t.Condition) (spent hid : ℕ) : Type 0 where
  pub condition : sound.ConditionIn (at W p) x
  pub operands_are : operands_of_condition x ≤ spent
  pub hidden_are : hidden_condition x ≤ hid

pub record ControlOf (W : World) (p : Spot) (x : Controlled) (spent hid : ℕ) : Type 0 where
  pub first : ℕ
  pub hid_first : ℕ
  pub count : CountedIn W p x.count first hid_first
  pub condition : sound.ConditionIn (at W p) x.condition
  pub operands_are : first + operands_of_condition x.condition ≤ spent
  pub hidden_are : hid_first + hidden_condition x.condition ≤ hid

pub record ChecksCount (W : World) (n : s.Count) : Type 0 where
  pub by : (p : Spot) (a : Around) → Rule W false (AroundIn W false p a × CountWritten n × PhraseHere p a) (CountedIn W p) (counted a n)

pub record ChecksCondition (W : World) (c : s.Condition) : Type 0 where
  pub by : (p : Spot) (a : Around) → Rule W false (AroundIn W false p a × ConditionWritten c × PhraseHere p a) (ConditionOf W p) (condition a c)

pub record ChecksControl (W : World) (c : s.Control) : Type 0 where
  pub by : (p : Spot) (a : Around) → Rule W false (AroundIn W false p a × ControlWritten c × PhraseHere p a) (ControlOf W p) (control a c)

pub record LeftIn (W : World) (p : Spot) (n : ℕ) (rs : s.Repeats) (l : Left) (spent hid : ℕ) : Type 0 where
  pub exits : sound.ExitsIn (at W p) l.exits
  pub finished : sound.FinishIn (at W p) l.finished
  pub labels : sound.labels_in l.exits ≡ numbers_from n (labels_of_repeats rs)
  pub hidden_are : hidden_exits l.exits + hidden_finish l.finished ≤ hid

pub record ChecksRepeats (W : World) (rs : s.Repeats) : Type 0 where
  pub by : (p : Spot) (a : Around) (n : ℕ) (taken : List (List ℕ)) (f : Bool) → Rule W false (AroundIn W false p a × RepeatsWritten rs) (LeftIn W p n rs)
      (repeats a n taken f rs)

-- ---- labels

pub numbers_joined : (n : ℕ) (xs ys : List Identifier) → numbers_from n (xs ++ ys) ≡ numbers_from n xs ++ numbers_from (n + length xs) ys
unfolding numbers_from
numbers_joined n [] ys = let e : n ≡ n + 0 = omega arith in ap (λ k. numbers_from k ys) e
numbers_joined n (x ∷ xs) ys = let e : n + 1 + length xs ≡ n + suc (length xs) = omega arith in
    ap (λ ns. n ∷ ns) (numbers_joined (n + 1) xs ys ∙ ap (λ k. numbers_from (n + 1) xs ++ numbers_from k ys) e)

numbers_within : (low n high : ℕ) (xs : List Identifier) → low ≤ n → n + length xs ≤ high → All (λ l. (low ≤ l) × (l < high)) (numbers_from n xs)
unfolding numbers_from
numbers_within low n high [] a b = λ k d small. absurd (omega (arith, small))
numbers_within low n high (x ∷ xs) a b = All-cons (λ l. (low ≤ l) × (l < high)) n (numbers_from (n + 1) xs) (a, omega (arith, b))
    (numbers_within low (n + 1) high xs (omega (arith, a)) (omega (arith, b)))

not_among : (m n : ℕ) (xs : List Identifier) → m < n → Contains (numbers_from n xs) m → ⊥
not_among m n xs small c = let h = numbers_within n n (n + length xs) xs (omega arith) (omega arith) c.0 m c.1 in omega
    (arith, small, subst (λ l. n ≤ l) c.2 h.0)

numbers_differ : (n : ℕ) (xs : List Identifier) → sound.AllDiffer (numbers_from n xs)
unfolding sound.AllDiffer numbers_from
numbers_differ n [] = tt
numbers_differ n (x ∷ xs) = (not_among n (n + 1) xs (omega arith), numbers_differ (n + 1) xs)

pub labels_there : (W : World) (p : Spot) (n : ℕ) (xs : List Identifier) (es : t.Exits) → p.labels ≤ n → sound.labels_in es ≡ numbers_from n xs
    → sound.LabelsIn (at W p) (n + length xs) es
unfolding sound.LabelsIn
labels_there W p n xs es h e = (
  omega (arith, h),
  subst (All (λ l. (p.labels ≤ l) × (l < n + length xs))) (sym e)
      (numbers_within p.labels n (n + length xs) xs h (omega arith)),
  subst sound.AllDiffer (sym e) (numbers_differ n xs),
)

module _ (W : World) where
  -- ---- controls
  record CounterIn (p : Spot) (c : Counter) : Type 0 where
    home : sound.VariableIn (at W p) c.home t.Ordinal
    kind : TypeIn c.kind

  counter_in : (p : Spot) (q : Place) (x : Meaning) → SeenIn W false x → IfOk (counter q x) (CounterIn p)
  unfolding MeaningIn sound.VariableIn
  counter_in p q (m.Variable h k) i = rules.only_where (is_ordinal k) _ q (record { home = h; kind = k }) (CounterIn p)
      (λ e. by h k i.there (ordinal_kind k e))
    where
      by : (h : t.Home) (k : PlainType) → MeaningIn W false (m.Variable h k) → kind_of k ≡ t.Ordinal → CounterIn p (record { home = h; kind = k })
      by (t.Global n) k i e = record { home = subst (sound.VariableIn (at W p) (t.Global n)) e i.0; kind = i.1 }
      by (t.Local n) k i e = record { home = subst (sound.VariableIn (at W p) (t.Local n)) e i.1; kind = i.2 }
  counter_in p q (m.Constant k n) i = tt
  counter_in p q (m.TextConstant n) i = tt
  counter_in p q (m.TypeName k) i = tt
  counter_in p q (m.Procedure c i) h = tt
  counter_in p q (m.Signal r i) h = tt
  counter_in p q (m.Interface n) i = tt
  counter_in p q m.Later i = tt
  counter_in p q m.Headless i = tt
  counter_in p q m.NotImported i = tt

  record RoundsIn (p : Spot) (r : Rounds) (c g : ℕ) : Type 0 where
    interval : sound.IntervalIn (at W p) r.interval
    operands_are : operands_of_interval r.interval ≤ c
    hidden_are : hidden_interval r.interval ≤ g

  rounds_in : (p : Spot) (q : Place) (i : Ends) (c g : ℕ) → EndsIn W p i c g → IfOk (rounds q i) (λ r. RoundsIn p r c g)
  unfolding rounds not_long sound.IntervalIn operands_of_interval hidden_interval
  rounds_in p q i c g h =
      rules.behind_only (not (is_long (i.low).kind)) _ i.low_place _ (λ r. RoundsIn p r c g)
      (rules.behind_only (not (is_long (i.high).kind)) _ i.high_place _ (λ r. RoundsIn p r c g)
      (rules.where_some (related (i.low).kind (i.low).literal (i.high).kind (i.high).literal) _ q (rounds_by i) (λ r. RoundsIn p r c g)
      (λ z e.
      let r = related_in (i.low).kind (i.high).kind (i.low).literal (i.high).literal z e in
      record {
        interval = (
          rules.checked_word W p z.left (i.low).value (r.met).left (rules.as_word W p (i.low).value (i.low).kind r.left h.low),
          rules.checked_word W p z.right (i.high).value (r.met).right (rules.as_word W p (i.high).value (i.high).kind r.right h.high),
        );
        operands_are = omega (arith, rules.checked_operands W p z.left (i.low).value, rules.checked_operands W p z.right (i.high).value, h.operands_are);
        hidden_are = omega (arith, rules.checked_hidden W p z.left (i.low).value, rules.checked_hidden W p z.right (i.high).value, h.hidden_are);
      })))

  given_in : (p : Spot) (q : Place) (c : Counter) (r : Rounds) → CounterIn p c → IfOk (given q c r) (sound.GivenIn (at W p))
  unfolding given sound.GivenIn
  given_in p q c r h = rules.only_where (conforms r.kind c.kind) _ q (t.GivenTo c.home (range_for r.kind c.kind)) (sound.GivenIn (at W p))
      (λ e. (h.home, given_range r.kind c.kind h.kind))

  pub count_none : ChecksCount W s.NoCount
  unfolding counted CountedIn
  count_none = record { by = λ p a. put_given W false NotCounted (λ pre. tt) }

  pub count_for : (q : Place) (x : Identifier) (down : Bool) (i : s.Interval) → ChecksInterval W i → ChecksCount W (s.For q x down i)
  unfolding counted CountedIn CountWritten
  count_for q x down i k = record {
    by = λ p a.
        bind W false (name_is_seen W false a x (λ pre. pre.0)) (λ y c g.
        bind W false (plainly W false {P = CounterIn p} (counter x.place y) (λ pre. counter_in p x.place y pre.1)) (λ z c' g'.
        bind W false (under W false (λ pre. record { around = pre.0.0.0; phrase = λ e. pre.0.0.2; written = pre.0.0.1 }) (k.by false p a)) (λ ends d h.
        bind W false (plainly W false {P = λ r. RoundsIn p r d h} (rounds (first_of_interval i) ends) (λ pre. rounds_in p (first_of_interval i) ends d h pre.1))
        (λ r d' h'.
        bind W false (plainly W false {P = sound.GivenIn (at W p)} (given (first_of_interval i) z r) (λ pre. given_in p (first_of_interval i) z r pre.0.0.1))
        (λ w e f.
        bind W false (hidden_words W false 3) (λ u m n.
        put_given W false (By w down r) (λ pre. (
          pre.0.1,
          (pre.0.0.1).interval,
          omega (arith, (pre.0.0.1).operands_are),
          omega
              (arith, (pre.0.0.1).hidden_are, pre.1),
        ))))))));
  }

  pub count_through : (q : Place) (i : s.Interval) → ChecksInterval W i → ChecksCount W (s.Through q i)
  unfolding counted CountedIn CountWritten sound.GivenIn
  count_through q i k = record {
    by = λ p a.
        bind W false (under W false (λ pre. record { around = pre.0; phrase = λ e. pre.2; written = pre.1 }) (k.by false p a)) (λ ends d h.
        bind W false (plainly W false {P = λ r. RoundsIn p r d h} (rounds (first_of_interval i) ends) (λ pre. rounds_in p (first_of_interval i) ends d h pre.1))
        (λ r d' h'.
        bind W false (hidden_words W false 3) (λ u m n.
        put_given W false (By t.NoVariable false r) (λ pre. (
          tt,
          (pre.0.1).interval,
          omega (arith, (pre.0.1).operands_are),
          omega
              (arith, (pre.0.1).hidden_are, pre.1),
        )))));
  }

  pub condition_always : ChecksCondition W s.Always
  unfolding condition sound.ConditionIn operands_of_condition hidden_condition
  condition_always = record { by = λ p a. put_given W false t.Always (λ pre. record { condition = tt; operands_are = omega arith; hidden_are = omega arith }) }

  pub condition_while : (q : Place) (e : s.Expr) → Checks W e → ChecksCondition W (s.While q e)
  unfolding condition ConditionWritten CheckedIn AimIn TypeIn sound.ConditionIn operands_of_condition hidden_condition
  condition_while q e k = record {
    by = λ p a.
        bind W false (under W false (λ pre. (record { around = pre.0; phrase = λ e. pre.2; written = pre.1 }, tt)) (k.by false p a (Into v.Boolean (first e))))
        (λ x c g.
        put_given W false (t.While x.value) (λ pre. record {
          condition = word_into W p x c g (pre.1).0 (pre.1).1;
          operands_are = omega (arith, ((pre.1).0).operands_are);
          hidden_are = omega (arith, ((pre.1).0).hidden_are);
        }));
  }

  pub condition_until : (q : Place) (e : s.Expr) → Checks W e → ChecksCondition W (s.Until q e)
  unfolding condition ConditionWritten CheckedIn AimIn TypeIn sound.ConditionIn operands_of_condition hidden_condition
  condition_until q e k = record {
    by = λ p a.
        bind W false (under W false (λ pre. (record { around = pre.0; phrase = λ e. pre.2; written = pre.1 }, tt)) (k.by false p a (Into v.Boolean (first e))))
        (λ x c g.
        put_given W false (t.Until x.value) (λ pre. record {
          condition = word_into W p x c g (pre.1).0 (pre.1).1;
          operands_are = omega (arith, ((pre.1).0).operands_are);
          hidden_are = omega (arith, ((pre.1).0).hidden_are);
        }));
  }

  pub control_of : (n : s.Count) (c : s.Condition) → ChecksCount W n → ChecksCondition W c → ChecksControl W (s.ControlOf n c)
  unfolding control ControlWritten
  control_of n c k l = record {
    by = λ p a.
        bind W false (under W false (λ pre. (pre.0, pre.1.0, pre.2)) (k.by p a)) (λ x i g.
        bind W false (under W false (λ pre. (pre.0.0, pre.0.1.1, pre.0.2)) (l.by p a)) (λ y d h.
        put_given W false (record { count = x; condition = y }) (λ pre. record {
          first = i;
          hid_first = g;
          count = pre.0.1;
          condition = (pre.1).condition;
          operands_are = omega (arith, (pre.1).operands_are);
          hidden_are = omega (arith, (pre.1).hidden_are);
        })));
  }

  -- ---- REPEAT
  pub repeats_none : ChecksRepeats W s.NoRepeats
  unfolding repeats sound.ExitsIn sound.FinishIn sound.labels_in labels_of_repeats numbers_from hidden_exits hidden_finish
  repeats_none = record {
    by = λ p a n taken f. put_given W false (record { exits = t.NoExits; finished = t.NoFinish })
        (λ pre. record { exits = tt; finished = tt; labels = refl; hidden_are = omega arith });
  }

  any_ok : {A : Type 0} (r : Checked A) → IfOk r (λ x. Unit {0})
  any_ok (Ok a) = tt
  any_ok (Err e) = tt

  some_numbers : (n : ℕ) (xs : List Identifier) → xs ≢ [] → numbers_from n xs ≢ []
  unfolding numbers_from
  some_numbers n [] h e = h refl
  some_numbers n (x ∷ xs) h e = let no : suc (length (numbers_from (n + 1) xs)) ≡ 0 = ap length e in omega (arith, no)

  also_in : (p : Spot) (n : ℕ) (ls : RepeatLabels) (x : s.Statement) (rs : s.Repeats) (b : t.Stmt) (l : Left) (c g d h c' g' : ℕ) → RepeatWritten ls
      → StatementIn W p b c g → LeftIn W p (n + length (labels_of ls)) rs l d h → g + h ≤ g'
      → LeftIn W p n (s.AndRepeat ls x rs) (also_left ls n b l) c' g'
  unfolding sound.ExitsIn sound.FinishIn sound.labels_in labels_of_repeats hidden_exits hidden_finish RepeatWritten
  also_in p n (repeat.Named xs) x rs b l c g d h c' g' w i j k = record {
    exits = (some_numbers n xs w, i.statement, j.exits);
    finished = j.finished;
    labels = ap (λ ns. numbers_from n xs ++ ns) j.labels ∙ sym (numbers_joined n xs (labels_of_repeats rs));
    hidden_are = omega (arith, k, i.hidden_are, j.hidden_are);
  }
  also_in p n (repeat.Finished q) x rs b l c g d h c' g' w i j k = let e : n + 0 ≡ n = omega arith in record {
    exits = j.exits;
    finished = i.statement;
    labels = j.labels ∙ ap (λ n. numbers_from n (labels_of_repeats rs)) e;
    hidden_are = omega (arith, k, i.hidden_are, j.hidden_are);
  }

  pub repeats_more : (ls : RepeatLabels) (x : s.Statement) (rs : s.Repeats) → ChecksStatement W x → ChecksRepeats W rs → ChecksRepeats W (s.AndRepeat ls x rs)
  unfolding repeats RepeatsWritten
  repeats_more ls x rs k l = record {
    by = λ p a n taken f.
        bind W false (plainly W false {P = λ u. Unit {0}} (new_labels taken f ls) (λ pre. any_ok (new_labels taken f ls))) (λ u i j.
        bind W false (under W false (λ pre. (pre.0.0, pre.0.1.1)) (k.by p a)) (λ b c g.
        bind W false (under W false (λ pre. (pre.0.0.0, pre.0.0.1.2)) (l.by p a (n + length (labels_of ls)) (taken ++ names_of (labels_of ls))
        (f || is_finished ls))) (λ y d h.
        put_given W false (also_left ls n b y) (λ pre. also_in p n ls x rs b y c g d h (i + (c + (d + 0))) (j + (g + (h + 0))) pre.0.0.0.1.0 pre.0.1 pre.1
        (omega arith)))));
  }

  -- ---- the loop itself
  loop_block : (p : Spot) (n : ℕ) (w : t.Phrase) (bs : t.Stmts) → p.statements ≤ n → sound.PhraseIn (at W (marked_spot n p)) w
      → sound.StmtsIn (at W (marked_spot n p)) bs → sound.StmtIn (at W p) (t.Marked n (t.Block w bs t.NoExits))
  unfolding sound.StmtIn sound.LabelsIn sound.labels_in sound.in_labelled sound.AllDiffer sound.ExitsIn sound.in_marked marked_spot
  loop_block p n w bs small h i = (small, (p.labels, (omega arith, (λ k d small. absurd (omega (arith, small))), tt), h, i, tt))

  -- the labels of a loop and of a block are visible in it
  pub in_labels : (p : Spot) (past : ℕ) (ns : List ℕ) (es : t.Exits) (P : sound.Scope → Type 0) → sound.labels_in es ≡ ns → P (at W (labelled_spot past ns p))
      → P (sound.in_labelled past es (at W p))
  in_labels p past ns es P e h = subst P (sym (is_labelled_spot W past es p)) (subst (λ ns. P (at W (labelled_spot past ns p))) (sym e) h)

  loop_in : (p : Spot) (b : Around) (c : t.Condition) (w : t.Phrase) (bs : t.Stmts) (rs : s.Repeats) (l : Left) (d h e f i g : ℕ) → AroundIn W false p b
      → sound.ConditionIn (at W p) c
      → CaughtIn W (marked_spot b.marked (labelled_spot (b.labelled + length (labels_of_repeats rs)) (numbers_from b.labelled (labels_of_repeats rs)) p)) w d h
      → StatementsIn W (marked_spot b.marked (labelled_spot (b.labelled + length (labels_of_repeats rs)) (numbers_from b.labelled (labels_of_repeats rs)) p))
      bs e f
      → LeftIn W p b.labelled rs l i g → sound.LoopIn (at W p) (t.LoopOf c (t.Marked b.marked (t.Block w bs t.NoExits)) l.exits l.finished)
  unfolding sound.LoopIn labelled_spot
  loop_in p b c w bs rs l d h e f i g a k x y z =
      let past = b.labelled + length (labels_of_repeats rs) in
      let ns = numbers_from b.labelled (labels_of_repeats rs) in (
        past,
        labels_there W p b.labelled (labels_of_repeats rs) l.exits a.labels z.labels,
        k,
        in_labels p past ns l.exits (λ Γ. sound.StmtIn Γ (t.Marked b.marked (t.Block w bs t.NoExits))) z.labels
            (loop_block (labelled_spot past ns p) b.marked w bs (spot_small p past ns b.marked a.statements) x.phrase y.statements),
        z.exits,
        z.finished,
      )
    where
      spot_small : (p : Spot) (past : ℕ) (ns : List ℕ) (n : ℕ) → p.statements ≤ n → (labelled_spot past ns p).statements ≤ n
      spot_small p past ns n h = h

  looped_body : (p : Spot) (n : Counted) (c : t.Condition) (x : t.Stmt) (l : Left) (first hid_first d h c' g' : ℕ) → CountedIn W p n first hid_first
      → sound.LoopIn (at W p) (t.LoopOf c x l.exits l.finished)
      → first + operands_of_condition c ≤ c' → hid_first + hidden_condition c + hidden x + (hidden_exits l.exits + hidden_finish l.finished) ≤ g'
      → BodyOf W p (looped n (t.LoopOf c x l.exits l.finished)) c' g'
  unfolding CountedIn sound.StmtIn sound.Fits sound.CountIn operands_of_stmt operands_of_loop hidden hidden_loop
  looped_body p NotCounted c x l first hid_first d h c' g' i k a b = record {
    statement = λ fits. (fits, tt, k);
    operands_are = omega (arith, a);
    hidden_are = omega (arith, b);
  }
  looped_body p (By w down r) c x l first hid_first d h c' g' i k a b = record {
    statement = λ fits. (fits, i.0, i.1, k);
    operands_are = omega (arith, a, i.2);
    hidden_are = omega (arith, b, i.3);
  }

  marked_hidden : (n : ℕ) (w : t.Phrase) (bs : t.Stmts) → hidden (t.Marked n (t.Block w bs t.NoExits)) ≡ hidden_phrase w + hidden_stmts bs
  unfolding hidden hidden_exits
  marked_hidden n w bs = omega arith

  pub statement_loop : (c : s.Control) (q : Place) (ph : s.Phrase) (ss : s.Statements) (rs : s.Repeats) → ChecksControl W c → ChecksPhrase W ph
      → ChecksStatements W ss → ChecksRepeats W rs → ChecksStatement W (s.Loop c q ph ss rs)
  unfolding statement StatementWritten
  statement_loop c q ph ss rs k l m n = record { by = λ p a. whole_statement W true p a (s.control_place c q) _ (λ o b mark. by o b (mark refl)) }
    where
      by : (o : Spot) (b : Around) → b.marked ≡ b.statement + 1 → Rule W false (Ready W false o b true
          (ControlWritten c × PhraseWritten ph × StatementsWritten ss × RepeatsWritten rs)) (BodyOf W o) (control b c >>= (λ x.
          phrase (in_round (labels_of_repeats rs) b) ph >>= (λ w. statements (in_round (labels_of_repeats rs) b) ss >>=
          (λ bs. repeats b b.labelled [] false rs >>= (λ l.
          pure (looped x.count (t.LoopOf x.condition (t.Marked b.marked (t.Block w bs t.NoExits)) l.exits l.finished)))))))
      by o b mark =
          let xs = labels_of_repeats rs in
          let z = marked_spot b.marked (labelled_spot (b.labelled + length xs) (numbers_from b.labelled xs) o) in
          bind W false (controlled o b) (λ x i g.
          bind W false (under W false (λ pre. record {
            around = round_around W o b xs (pre.0).around ((pre.0).phrase refl).after mark;
            phrase = λ e. round_phrase o b xs;
            written = (pre.0).written.1;
          }) (l.by false z (in_round xs b))) (λ w d h.
          bind W false (under W false (λ pre. (round_around W o b xs (pre.0.0).around ((pre.0.0).phrase refl).after mark, (pre.0.0).written.2))
          (m.by z (in_round xs b))) (λ bs e f.
          bind W false (under W false (λ pre. ((pre.0.0.0).around, (pre.0.0.0).written.3)) (n.by o b b.labelled [] false)) (λ y i' g'.
          put_given W false (looped x.count (t.LoopOf x.condition (t.Marked b.marked (t.Block w bs t.NoExits)) y.exits y.finished)) (λ pre.
          looped_body o x.count x.condition (t.Marked b.marked (t.Block w bs t.NoExits)) y (pre.0.0.0.1).first (pre.0.0.0.1).hid_first 0 0
          (i + (d + (e + (i' + 0)))) (g + (h + (f + (g' + 0)))) (pre.0.0.0.1).count
          (loop_in o b x.condition w bs rs y d h e f i' g' (pre.0.0.0.0).around (pre.0.0.0.1).condition pre.0.0.1 pre.0.1 pre.1)
          (omega (arith, (pre.0.0.0.1).operands_are))
          (omega (arith, (pre.0.0.0.1).hidden_are, marked_hidden b.marked w bs, (pre.0.0.1).hidden_are, (pre.0.1).hidden_are, (pre.1).hidden_are)))))))
        where
          controlled : (o : Spot) (b : Around) → Rule W false (Ready W false o b true
              (ControlWritten c × PhraseWritten ph × StatementsWritten ss × RepeatsWritten rs)) (ControlOf W o) (control b c)
          controlled o b = under W false (λ pre. (pre.around, pre.written.0, pre.phrase refl)) (k.by o b)

          round_phrase : (o : Spot) (b : Around) (xs : List Identifier) → PhraseHere
              (marked_spot b.marked (labelled_spot (b.labelled + length xs) (numbers_from b.labelled xs) o)) (in_round xs b)
          round_phrase o b xs = phrase_here W (labelled_spot (b.labelled + length xs) (numbers_from b.labelled xs) o) (in_loop b.statement xs b)
