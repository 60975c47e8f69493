-- Rules of statements: how many nodes they give, and where their faults stand.
use Rattle.std.specs.Prelude.{ℕ, ◌≡◌, ◌+◌, ◌≤◌, Bool, true, false, not, ◌&&◌, Option, Some, None, List, [], ◌∷◌, length, map, if◌then◌else◌, nat_lt, nat_le}
use Rattle.std.proofs.Common.{refl, arith}
use Rattle.mesa_base.specs.declared.limits.TheConstants.{TYPE_WORDS, TYPE_DEPTH, ENUMERATION_ELEMENTS, GLOBAL_WORDS}
use Rattle.mesa_base.specs.declared.place.Place.{Place}
use Rattle.mesa_base.specs.declared.identifier.Identifier.{Identifier}
use Rattle.syntax_trees.specs.Syntax as s
use Rattle.mesa_types.specs.Nodes as tn
use Rattle.syntax_trees.specs.SyntaxNodes as sn
use Rattle.syntax_trees.specs.declared.syntax.RepeatLabels.{RepeatLabels}
use Rattle.syntax_trees.specs.declared.syntax.RepeatLabels.TheVariants as repeat
use Rattle.syntax_trees.specs.declared.syntax.TypeBase.{TypeBase}
use Rattle.syntax_trees.specs.declared.syntax.TypeBase.TheVariants.{Unsaid, OfInteger, OfCardinal, OfCharacter, OfName}
use Rattle.check_rules.specs.Typed as t
use Rattle.check_rules.specs.Typed.{Relation, Home, Given}
use Rattle.interface_records.specs.PlainTypes.{kind_of, PlainType, PlainField, base_of, conforms, is_long, is_ordinal, is_text, words_of, depth_of, sign_of}
use Rattle.check_rules.specs.Meanings.{Meaning, Variable}
use Rattle.check_rules.specs.Steps.{Check, ◌>>=◌, pure, or_refuse}
use Rattle.check_rules.specs.Around.{parameters_of, Around, ArmHere, NoArm, InArm, ArmLabel, Seen, in_statement, is_unwinding, jump, leave_loop, exit_loop, next_round, go_to_seen, go_to, return, arm_for_raises, retry, continue, reject, all_resumable, all_give, results_of, resumed}
use Rattle.check_rules.specs.Parts.{first, first_of_interval, first_of_base, first_of_type, first_name, Found, join_stmts}
use Rattle.check_rules.specs.Operators.{Relating, Longs, Words, sort_of, related, relating, by_itself, selecting, selecting_itself, beside, turned}
use Rattle.check_rules.specs.Ranges.{Typed, range_for, conversion_for, Arguments}
use Rattle.check_rules.specs.Reached.{Target}
use Rattle.mesa_types.specs.Shapes.{words_in_all, join, one}
use Rattle.check_rules.specs.Names.{settle}
use Rattle.mesa_types.specs.Constants.{constant}
use Rattle.mesa_types.specs.Operators.{shifted, truth}
use Rattle.check_rules.specs.TypeRules.{limited, few, bound, literal_word, subrange, subrange_if}
use Rattle.check_rules.specs.Statements.{with_variable, with_variables, numbered, whole, returned, returned_by, Ends, not_long, is_long_interval, by_itself_of, test_by, tested, test_inside_by, tested_inside, selected_by, selected, target_by, Rounds, rounds, Counter, counter, given, Source, source, source_by, record_fields, is_one, extracted, variables, local, global, few_globals, meaning_of, enter_arm, Headed, Nothing, Variables, declare, given_initial, is_text_literal, text_constant, constant_by, constant_meaning, numbers_from, Left, also_left, new_labels}
use Rattle.check_rules.specs.declared.fault.Cause.{Cause}
use Rattle.check_rules.specs.declared.fault.Cause.TheVariants.{TypeMismatch, NotResumable, TwiceDeclared, NotConstant, GlobalsTooLarge, TypeTooLarge}
use Rattle.check_rules.specs.Places as places
use Rattle.typing_laws.proofs.Keeping.{From, same_scopes, by_if, or_refused, Gives, Keeps, Anything, Have, bind, give, and_gives, all_right, refused, only_if, after_top, within, first_part, last_part}
use Rattle.typing_laws.proofs.KeptNames.{ConstantStands, names_are_new, has_settled}
use Rattle.typing_laws.proofs.KeptValues.{anything, Once, related_once, RelatingOnce, relating_once, a_check, a_conversion, with_check, fitted_size, beside_stands, bounds_kept}

-- a statement of so many nodes
abbrev pub Counts : ℕ → t.Stmt → Type 0
Counts n x = tn.stmt_nodes x ≤ n

-- the homes of a declaration's variables are no more than its names
abbrev pub HomesFit : List Identifier → Headed → Type 0
HomesFit xs Nothing = Unit {0}
HomesFit xs (Variables hs k seen words) = length hs ≤ length xs

module _ (Stands : Place → Type 0) where
  -- first tokens
  pub left_stands : (l : s.Left) → Have Stands (places.of_left l) → Stands (s.left_place l)
  unfolding places.of_left
  left_stands (s.LeftOf x ss) h = h.0

  pub raise_stands : (r : s.Raise) → Have Stands (places.of_raise r) → Stands (s.raise_place r)
  unfolding places.of_raise
  raise_stands (s.SignalRaise p q b) h = h.0
  raise_stands (s.ErrorRaise p q b) h = h.0
  raise_stands (s.UnnamedError p) h = h.0

  pub first_stands : (e : s.Expr) → Have Stands (places.of_expr e) → Stands (first e)
  unfolding first places.of_expr
  first_stands (s.Run e ss) h = first_stands e (first_part Stands (places.of_expr e) (places.of_steps ss) h)
  first_stands (s.Not p e) h = h.0
  first_stands (s.Compare d b o p e) h = first_stands d (first_part Stands (places.of_expr d) (p ∷ places.of_expr e) h)
  first_stands (s.Within e b p i) h = first_stands e (first_part Stands (places.of_expr e) (p ∷ places.of_interval i) h)
  first_stands (s.Signed x p e) h = h.0
  first_stands (s.NumberLiteral p n) h = h.0
  first_stands (s.CharacterLiteral p n) h = h.0
  first_stands (s.StringLiteral p bytes) h = h.0
  first_stands (s.Truth p b) h = h.0
  first_stands (s.Parenthesis p e) h = h.0
  first_stands (s.Reference l) h = left_stands l h
  first_stands (s.Constructor p items) h = h.0
  first_stands (s.Raised r) h = raise_stands r h

  pub interval_stands : (i : s.Interval) → Have Stands (places.of_interval i) → Stands (first_of_interval i)
  unfolding places.of_interval
  interval_stands (s.Between p x low high y) h = h.0

  base_stands : (b : TypeBase) (i : s.Interval) → Have Stands (places.of_base b) → Have Stands (places.of_interval i) → Stands (first_of_base b i)
  base_stands Unsaid i h k = interval_stands i k
  base_stands (OfInteger p) i h k = h.0
  base_stands (OfCardinal p) i h k = h.0
  base_stands (OfCharacter p) i h k = h.0
  base_stands (OfName q) i h k = h.0

  pub type_stands : (e : s.TypeExp) → Have Stands (places.of_type e) → Stands (first_of_type e)
  unfolding places.of_type
  type_stands (s.Integer p) h = h.0
  type_stands (s.Cardinal p) h = h.0
  type_stands (s.LongInteger p) h = h.0
  type_stands (s.LongCardinal p) h = h.0
  type_stands (s.Boolean p) h = h.0
  type_stands (s.Character p) h = h.0
  type_stands (s.String p) h = h.0
  type_stands (s.Called q) h = h.0
  type_stands (s.Enumeration p xs) h = h.0
  type_stands (s.Subrange b i) h = base_stands b i (first_part Stands (places.of_base b) (places.of_interval i) h)
      (last_part Stands (places.of_base b) (places.of_interval i) h)
  type_stands (s.Array p i e) h = h.0
  type_stands (s.Record p fs) h = h.0

  pub first_name_stands : (xs : List Identifier) → Have Stands (places.of_declared_names xs) → Stands (first_name xs)
  first_name_stands [] h = h.0
  first_name_stands (x ∷ xs) h = h.0

  pub names_stand : (xs : List Identifier) → Have Stands (places.of_declared_names xs) → Have Stands (places.of_identifiers xs)
  names_stand [] h = tt
  names_stand (x ∷ xs) h = h

  pub control_stands : (c : s.Control) (p : Place) → Have Stands (places.of_control c) → Stands p → Stands (s.control_place c p)
  unfolding places.of_control places.of_count places.of_condition
  control_stands (s.ControlOf s.NoCount s.Always) p h k = k
  control_stands (s.ControlOf s.NoCount (s.While q e)) p h k = h.0
  control_stands (s.ControlOf s.NoCount (s.Until q e)) p h k = h.0
  control_stands (s.ControlOf (s.For q x down i) c) p h k = h.0
  control_stands (s.ControlOf (s.Through q i) c) p h k = h.0

  -- types
  pub limited_kept : (p : Place) → Stands p → (k : PlainType) → Gives Stands Anything (limited p k)
  unfolding limited
  limited_kept p h k = and_gives (only_if (nat_le (words_of k) TYPE_WORDS && nat_le (depth_of k) TYPE_DEPTH) TypeTooLarge p h) (λ u w. all_right tt)

  pub few_kept : (p : Place) → Stands p → (xs : List Identifier) → Gives Stands Anything (few p xs)
  unfolding few
  few_kept p h xs = only_if (nat_le (length xs) ENUMERATION_ELEMENTS) TypeTooLarge p h

  pub some_or_refused : {A : Type 0} (o : Option A) (c : Cause) (p : Place) → Stands p → Gives Stands Anything (or_refuse o c p)
  some_or_refused o c p h = or_refused o c p h (anything o)

  pub bound_kept : (p : Place) → Stands p → (x : Typed) → Gives Stands Anything (bound p x)
  unfolding bound
  bound_kept p h x = some_or_refused (literal_word (is_text x.kind) x.value) NotConstant p h

  subrange_if_kept : (b : Bool) (p : Place) → Stands p → (k : PlainType) (l : Bool) (x y : ℕ) (r : Bool) → Gives Stands Anything (subrange_if b p k l x y r)
  subrange_if_kept true p h k l x y r = all_right tt
  subrange_if_kept false p h k l x y r = refused h

  pub subrange_kept : (p : Place) → Stands p → (k : PlainType) (l : Bool) (x y : ℕ) (r : Bool) → Gives Stands Anything (subrange p k l x y r)
  unfolding subrange
  subrange_kept p h k l x y r = subrange_if_kept (nat_le (shifted (sign_of k) x + truth l + truth r) (shifted (sign_of k) y)) p h k l x y r

  -- statements with a number
  pub numbered_kept : (a : Around) → ConstantStands Stands a.constant → (b : Bool) (n : ℕ) {rule : Around → Check t.Stmt}
      → ((a : Around) → ConstantStands Stands a.constant → Keeps Stands (Counts n) (rule a)) → Keeps Stands (Counts n) (numbered a b rule)
  unfolding tn.stmt_nodes
  numbered_kept a c true n h = bind (h (in_statement a) c) (λ x q. give q)
  numbered_kept a c false n h = h a c

  pub whole_kept : (a : Around) → ConstantStands Stands a.constant → (p : Place) → Stands p → (b : Bool) (n : ℕ) {rule : Around → Check t.Stmt}
      → ((a : Around) → ConstantStands Stands a.constant → Keeps Stands (Counts n) (rule a)) → Keeps Stands (Counts n) (whole a p b rule)
  whole_kept a c p h b n k = within 0 p h (numbered_kept a c b n k)

  pub initial_kept : (a : Around) → ConstantStands Stands a.constant → (xs : List Identifier) → Have Stands (places.of_declared_names xs)
      → (words : ℕ) (b : Bool) (n : ℕ) {rule : Around → Check t.Stmt}
      → ((a : Around) → ConstantStands Stands a.constant → Keeps Stands (Counts n) (rule a))
      → Keeps Stands (λ (put : t.Stmts → t.Stmts). (ss : t.Stmts) → tn.stmts_nodes (put ss) ≤ n + tn.stmts_nodes ss) (given_initial a xs words b rule)
  unfolding tn.stmts_nodes
  initial_kept a c xs h words b n k = bind (within words (first_name xs) (first_name_stands xs h) (numbered_kept a c b n k))
      (λ x q. give (λ ss. omega (arith, q)))

  -- jumps
  jump_kept : (a : Around) (p : Place) → Stands p → (g : t.Goal) (n : ℕ) → Gives Stands (Counts 1) (jump a p g n)
  unfolding jump tn.stmt_nodes
  jump_kept a p h g n = and_gives (by_if {P = Anything} (nat_lt n a.unwinding) (refused h) (all_right tt)) (λ u w. all_right (omega arith))

  leave_kept : (a : Around) (p : Place) → Stands p → (g : ℕ → t.Goal) (l : Option Seen) → Gives Stands (Counts 1) (leave_loop a p g l)
  leave_kept a p h g None = refused h
  leave_kept a p h g (Some l) = jump_kept a p h (g l.number) l.arms

  pub exit_kept : (a : Around) (p : Place) → Stands p → Gives Stands (Counts 1) (exit_loop a p)
  exit_kept a p h = leave_kept a p h t.PastStatement a.loop

  pub next_kept : (a : Around) (p : Place) → Stands p → Gives Stands (Counts 1) (next_round a p)
  next_kept a p h = leave_kept a p h (λ n. t.PastStatement (n + 1)) a.loop

  to_seen_kept : (a : Around) (p : Place) → Stands p → (x : Identifier) → Stands x.place → (l : Option Seen) → Gives Stands (Counts 1) (go_to_seen a p x l)
  to_seen_kept a p h x k None = refused k
  to_seen_kept a p h x k (Some l) = jump_kept a p h (t.ToLabel l.number) l.arms

  pub go_to_kept : (a : Around) (p : Place) → Stands p → (x : Identifier) → Stands x.place → Gives Stands (Counts 1) (go_to a p x)
  go_to_kept a p h x k = to_seen_kept a p h x k (a.labels x.name)

  pub return_kept : (a : Around) (p : Place) → Stands p → Gives Stands (Counts 1) (return a p)
  return_kept a p h = jump_kept a p h t.ToReturn 0

  raises_kept : (p : Place) → Stands p → (x : ArmHere) → Gives Stands Anything (arm_for_raises p x)
  raises_kept p h NoArm = refused h
  raises_kept p h (InArm n ls) = by_if (is_unwinding ls) (refused h) (all_right tt)

  pub retry_kept : (a : Around) (p : Place) → Stands p → Gives Stands (Counts 1) (retry a p)
  unfolding tn.stmt_nodes
  retry_kept a p h = and_gives (raises_kept p h a.arm) (λ r w. all_right (omega arith))

  pub continue_kept : (a : Around) (p : Place) → Stands p → Gives Stands (Counts 1) (continue a p)
  unfolding tn.stmt_nodes
  continue_kept a p h = and_gives (raises_kept p h a.arm) (λ r w. all_right (omega arith))

  reject_in_kept : (a : Around) (p : Place) → Stands p → (x : ArmHere) → Gives Stands (Counts 1) (reject (record a { arm = x }) p)
  unfolding tn.stmt_nodes
  reject_in_kept a p h NoArm = refused h
  reject_in_kept a p h (InArm n ls) = all_right (omega arith)

  pub reject_kept : (a : Around) (p : Place) → Stands p → Gives Stands (Counts 1) (reject a p)
  reject_kept a p h = reject_in_kept a p h a.arm

  pub resumed_kept : (a : Around) (p : Place) → Stands p → Gives Stands Anything (resumed a p)
  unfolding resumed
  resumed_kept a p h = and_gives (raises_kept p h a.arm)
      (λ r w. and_gives (only_if (all_resumable r.1) NotResumable p h)
      (λ u w. and_gives (only_if (all_give (results_of r.1) r.1) TypeMismatch p h) (λ u w. all_right tt)))

  returned_by_size : (fs : List PlainField) (a : Around) (j : t.Stmt) (x : Arguments) → tn.stmt_nodes j ≤ 1
      → tn.stmt_nodes (returned_by fs a j x) ≤ 1 + tn.exprs_nodes x.values
  unfolding tn.stmt_nodes
  returned_by_size [] a j x h = omega arith
  returned_by_size (f ∷ fs) a j x h = omega arith

  pub returned_size : (a : Around) (j : t.Stmt) (x : Arguments) → tn.stmt_nodes j ≤ 1 → tn.stmt_nodes (returned a j x) ≤ 1 + tn.exprs_nodes x.values
  returned_size a j x h = returned_by_size a.gives a j x h

  -- tests
  pub tested_kept : (b : Bool) (o : Relation) (p l q : Place) → Stands p → Stands l → Stands q → (x e : Typed)
      → Gives Stands (λ (put : t.Tests → t.Tests). (ts : t.Tests) → tn.tests_nodes (put ts) ≤ 3 + tn.expr_nodes e.value + tn.tests_nodes ts) (tested b o p l x q e)
  unfolding tested tn.tests_nodes
  tested_kept b o p l q h i j x e = and_gives (or_refused {P = RelatingOnce} (relating x.kind x.literal e.kind e.literal) TypeMismatch
      (beside p l (sort_of x.kind) q (sort_of e.kind)) (beside_stands Stands p l q (sort_of x.kind) (sort_of e.kind) h i j)
      (relating_once x.kind x.literal e.kind e.literal)) (λ m one. all_right (λ ts. by m one ts))
    where
      by : (m : Relating) → RelatingOnce m → (ts : t.Tests) → tn.tests_nodes (test_by (turned b o) x e m ts) ≤ 3 + tn.expr_nodes e.value + tn.tests_nodes ts
      by (Words m) one ts = omega (arith, one, with_check m.right e.value)
      by (Longs m) one ts = omega (arith, fitted_size m.right e.value, a_conversion (selecting m.base (sort_of x.kind) x.literal))

  pub inside_kept : (b : Bool) (p l : Place) → Stands p → Stands l → (x : Typed) (i : Ends) → Stands i.low_place → Stands i.high_place
      → Gives Stands (λ (put : t.Tests → t.Tests). (ts : t.Tests)
      → tn.tests_nodes (put ts) ≤ 5 + tn.expr_nodes i.low.value + tn.expr_nodes i.high.value + tn.tests_nodes ts) (tested_inside b p l x i)
  unfolding tested_inside tn.tests_nodes tn.interval_nodes by_itself_of
  inside_kept b p l h k x i m n = and_gives (bounds_kept Stands p l h k x i m n) (λ u w. all_right (λ ts. by (is_long_interval x i) ts))
    where
      by : (long : Bool) (ts : t.Tests) → tn.tests_nodes (test_inside_by long b x i ts) ≤ 5 + tn.expr_nodes i.low.value + tn.expr_nodes i.high.value + tn.tests_nodes ts
      by false ts = omega arith
      by true ts = omega (
        arith,
        a_conversion (selecting_itself (sort_of x.kind)),
        fitted_size (by_itself (sort_of i.low.kind) i.low.literal) i.low.value,
        fitted_size (by_itself (sort_of i.high.kind) i.high.literal) i.high.value,
      )

  pub selected_size : (x : Typed) (cs : t.Cases) → tn.stmt_nodes (selected x cs) ≡ 1 + tn.expr_nodes x.value + tn.cases_nodes cs
  unfolding selected tn.stmt_nodes
  selected_size x cs = by (is_long x.kind)
    where
      by : (l : Bool) → tn.stmt_nodes (selected_by l x.value cs) ≡ 1 + tn.expr_nodes x.value + tn.cases_nodes cs
      by true = refl
      by false = refl

  -- loops
  pub rounds_kept : (p : Place) → Stands p → (i : Ends) → Stands i.low_place → Stands i.high_place
      → Gives Stands (λ (r : Rounds). tn.interval_nodes r.interval ≤ 2 + tn.expr_nodes i.low.value + tn.expr_nodes i.high.value) (rounds p i)
  unfolding rounds not_long tn.interval_nodes
  rounds_kept p h i l k =
      and_gives (only_if (not (is_long i.low.kind)) TypeMismatch i.low_place l) (λ u w.
      and_gives (only_if (not (is_long i.high.kind)) TypeMismatch i.high_place k) (λ u w.
      and_gives (or_refused {P = Once} (related i.low.kind i.low.literal i.high.kind i.high.literal) TypeMismatch p h
      (related_once i.low.kind i.low.literal i.high.kind i.high.literal)) (λ q one.
      all_right (omega (arith, one, with_check q.left i.low.value, with_check q.right i.high.value)))))

  pub counter_kept : (p : Place) → Stands p → (x : Meaning) → Gives Stands Anything (counter p x)
  counter_kept p h (Variable y k) = and_gives (only_if (is_ordinal k) TypeMismatch p h) (λ u w. all_right tt)
  counter_kept p h _ = refused h

  pub given_kept : (p : Place) → Stands p → (c : Counter) (r : Rounds) → Gives Stands (λ (g : Given). tn.given_nodes g ≤ 2) (given p c r)
  unfolding given tn.given_nodes
  given_kept p h c r = and_gives (only_if (conforms r.kind c.kind) TypeMismatch p h) (λ u w. all_right (omega (arith, a_check (range_for r.kind c.kind))))

  -- extractors
  source_by_kept : (p : Place) → Stands p → (e : t.Expr) (fs gave : Option (List PlainField))
      → Gives Stands (λ (x : Source). x.value ≡ e) (source_by p e fs gave)
  source_by_kept p h e (Some fs) gave = all_right refl
  source_by_kept p h e None (Some fs) = all_right refl
  source_by_kept p h e None None = refused h

  pub source_kept : (p : Place) → Stands p → (x : Typed) → Gives Stands (λ (y : Source). y.value ≡ x.value) (source p x)
  unfolding source
  source_kept p h x = source_by_kept p h x.value (record_fields (is_one x.gave) x.kind) x.gave

  pub extracted_kept : (p : Place) → Stands p → (f : Found) (x : Target)
      → Gives Stands (λ (put : t.Targets → t.Targets). (ts : t.Targets) → tn.targets_nodes (put ts) ≤ 2 + tn.suffixes_nodes x.suffixes + tn.targets_nodes ts)
      (extracted p f x)
  unfolding extracted tn.targets_nodes
  extracted_kept p h f x = and_gives (only_if (conforms f.kind x.kind) TypeMismatch p h)
      (λ u w. all_right (λ ts. by (conversion_for f.kind x.kind) (range_for f.kind x.kind) ts))
    where
      by : (c : t.Conversion) (r : t.Range) (ts : t.Targets) → tn.targets_nodes (target_by c r f x ts) ≤ 2 + tn.suffixes_nodes x.suffixes + tn.targets_nodes ts
      by t.Kept r ts = omega (arith, a_check r)
      by (t.Widened from to) r ts = omega (arith, a_conversion (t.Widened from to))
      by (t.Narrowed from to q) r ts = omega (arith, a_conversion (t.Narrowed from to q))
      by t.InCommon r ts = omega (arith, a_conversion t.InCommon)

  -- variables and constants
  variable_kept : (a : Around) (b : Bool) (k : PlainType) → Keeps Stands Anything (if b then global k else local a k)
  variable_kept a true k = record { in_state = λ σ. (tt, same_scopes σ (record σ { globals = join σ.globals (one (kind_of k)) }) refl) }
  variable_kept a false k = record { in_state = λ σ. (tt, same_scopes σ (with_variable k σ) refl) }

  variables_kept : (a : Around) (k : PlainType) (xs : List Identifier) → Keeps Stands (λ (hs : List Home). length hs ≡ length xs) (variables a k xs)
  unfolding variables
  variables_kept a k [] = give refl
  variables_kept a k (x ∷ xs) = bind (variable_kept a a.is_outermost k) (λ h w. bind (variables_kept a k xs) (λ hs e. give (omega (arith, e))))

  few_globals_kept : (p : Place) → Stands p → Keeps Stands Anything (few_globals p)
  few_globals_kept p h = record {
    in_state = λ σ. (and_gives {P = Anything} {Q = From Anything σ} (only_if (nat_le (words_in_all σ.globals) GLOBAL_WORDS) GlobalsTooLarge p h)
        (λ u w. all_right (tt, same_scopes σ σ refl))).kept;
  }

  pub declared_kept : (a : Around) (xs : List Identifier) → Have Stands (places.of_declared_names xs) → (k : PlainType) (words : ℕ)
      → Keeps Stands (HomesFit xs) (declare a xs k words)
  declared_kept a xs h k words =
      after_top (λ seen. variables a k xs >>=
      (λ hs. few_globals (first_name xs) >>= (λ u. settle xs (map (meaning_of k) hs) >>= (λ u. pure (Variables hs k seen words))))) (λ seen.
      bind (variables_kept a k xs) (λ hs e.
      bind (few_globals_kept (first_name xs) (first_name_stands xs h)) (λ u w.
      bind (has_settled Stands xs (map (meaning_of k) hs)) (λ u w.
      give (omega (arith, e))))))

  text_kept : (b : Bool) (p : Place) → Stands p → (e : t.Expr) → Gives Stands Anything (text_constant b p e)
  text_kept true p h (t.Literal n) = all_right tt
  text_kept _ p h e = refused h

  constant_by_kept : (o : Option PlainType) (k : PlainType) (b : Bool) (p : Place) → Stands p → (e : t.Expr) → Gives Stands Anything (constant_by o k b p e)
  constant_by_kept (Some base) k b p h e = and_gives (some_or_refused (constant e) NotConstant p h) (λ n w. all_right tt)
  constant_by_kept None k b p h e = text_kept b p h e

  pub constant_kept : (a : Around) (k : PlainType) (e : s.Expr) (p : Place) → Stands p → (x : t.Expr) → Gives Stands Anything (constant_meaning a k e p x)
  unfolding constant_meaning
  constant_kept a k e p h x = constant_by_kept (base_of k) k (a.known.is_program && (is_text k && is_text_literal e)) p h x

  pub entered : (a : Around) (ls : List ArmLabel) → Keeps Stands Anything (enter_arm a ls)
  unfolding enter_arm
  entered a ls = record { in_state = λ σ. (tt, same_scopes σ (with_variables (parameters_of ls) σ) refl) }

  -- labels
  pub numbers_length : (n : ℕ) (xs : List Identifier) → length (numbers_from n xs) ≡ length xs
  unfolding numbers_from
  numbers_length n [] = refl
  numbers_length n (x ∷ xs) = let h : length (numbers_from (n + 1) xs) ≡ length xs = numbers_length (n + 1) xs in omega arith

  pub new_labels_kept : (taken : List (List ℕ)) (b : Bool) (ls : RepeatLabels) → Have Stands (places.of_repeat_labels ls)
      → Gives Stands Anything (new_labels taken b ls)
  new_labels_kept taken b (repeat.Named xs) h = names_are_new Stands taken xs h
  new_labels_kept taken b (repeat.Finished p) h = only_if (not b) TwiceDeclared p h.0

  pub left_size : (ls : RepeatLabels) (n : ℕ) (body : t.Stmt) (l : Left)
      → tn.exits_nodes (also_left ls n body l).exits + tn.finish_nodes (also_left ls n body l).finished
      ≤ sn.repeat_labels_nodes ls + tn.stmt_nodes body + (tn.exits_nodes l.exits + tn.finish_nodes l.finished)
  unfolding tn.exits_nodes tn.finish_nodes
  left_size (repeat.Named xs) n body l = omega (arith, numbers_length n xs)
  left_size (repeat.Finished p) n body l = omega arith

  pub join_size : (ds ss : t.Stmts) → tn.stmts_nodes (join_stmts ds ss) ≡ tn.stmts_nodes ds + tn.stmts_nodes ss
  unfolding join_stmts tn.stmts_nodes
  join_size t.NoStmts ss = omega arith
  join_size (t.AndStmt d ds) ss = let h : tn.stmts_nodes (join_stmts ds ss) ≡ tn.stmts_nodes ds + tn.stmts_nodes ss = join_size ds ss in omega arith
