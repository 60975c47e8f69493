-- Each rule of checking marks an item only at a name of its text, and names it in what it gives: one induction over the syntax tree.
use Rattle.std.specs.Prelude.{ℕ, ◌≡◌, ◌+◌, ◌≤◌, Bool, true, false, not, ◌&&◌, ◌||◌, Option, List, [], ◌∷◌, ◌++◌, length, map, nat_eq}
use Rattle.std.proofs.Common.{refl, arith, add-zero}
use Rattle.std.proofs.lemmas.Bool.{eqb-true}
use Rattle.mesa_base.specs.declared.place.Place.{Place}
use Rattle.mesa_base.specs.declared.identifier.Identifier.{Identifier}
use Rattle.syntax_trees.specs.Syntax as s
use Rattle.mesa_types.specs.declared.faces.ItemKind.TheVariants as item
use Rattle.mesa_types.specs.Operators as words
use Rattle.check_rules.specs.Typed as t
use Rattle.interface_records.specs.PlainTypes as v
use Rattle.interface_records.specs.PlainTypes.{PlainType, PlainField, words_of, words_of_fields}
use Rattle.check_rules.specs.Scopes.{nothing, has}
use Rattle.check_rules.specs.Meanings.{TypeName, Procedure}
use Rattle.check_rules.specs.Steps.{Check, ◌>>=◌, pure, lift}
use Rattle.check_rules.specs.Around.{Around, inside, in_constant, with_labels, in_round, in_arm}
use Rattle.check_rules.specs.Parts.{first, first_of_interval, first_of_type, first_name, last_of, names_of, field_named, kinds, kind_by, count, keys, count_lefts, keys_of_lefts, are_fields, complete, places_of}
use Rattle.check_rules.specs.Ranges.{Typed, Aim, Free, Into, Several, finish}
use Rattle.check_rules.specs.Operators.{longer, sort_of}
use Rattle.check_rules.specs.Values.{number, letter, truth, is_truth, Sum, Begun, closed, by_level, Level, Bare, Sums, Alls, Somes, level_of, in_order, by_aim, Raises, raised}
use Rattle.check_rules.specs.Reached.{Reached, Named, Value, Variable, Results, Use, Read, Store, Perform, reached, settled, shape_of, Target, may_apply}
use Rattle.check_rules.specs.TypeRules.{origin, interval_base, is_index}
use Rattle.check_rules.specs.Statements.{Ends, held_words, longer_bounds, longer_number, selected, Headed, Variables, Counted, NotCounted, By, Controlled, Left, looped, held, labels_of_exits, labels_of_repeats, labels_of, Held, is_finished}
use Rattle.check_rules.specs.Phrases.{holds, in_left, in_raise, in_targets, in_cases, in_items, is_catch}
use Rattle.check_rules.specs.Checking.{check, sums, truths, interval, walk, apply, one, construct, arguments, values, alike, keyed, raise, with_brackets, phrase, arms, type_exp, fields_of, named_fields, unnamed_fields, of_interval, statement, otherwise, statements, target, targets, targets_in_order, targets_by_key, cases, tests, control, counted, condition, repeats, exits, block, heads, head, initials, initial}
use Rattle.check_rules.specs.declared.fault.Cause.TheVariants.{TypeMismatch, WrongCount, TwiceDeclared}
use Rattle.check_rules.specs.Parts.{join_stmts}
use Rattle.checking_laws.specs.Weights as tree
use Rattle.checking_laws.specs.Weights.{one_each}
use Rattle.checking_laws.proofs.Uses as u
use Rattle.checking_laws.proofs.Using.{Uses, Unused, bind, give, refusing, lifting, after, weaker, only_if, only_holds, some_or_refused, after_spending, after_hiding, within, inside_scope, seen_from, measuring}
use Rattle.checking_laws.proofs.Names.{names_are_new, announced, has_settled, elements_used, named_used, qualified_used, type_named_used, word_base_used, arm_labels_used}
use Rattle.checking_laws.proofs.Values.{Of, OfValues, OfArguments, NoneFor, Behind, weight, finished, not_given, signed_given, compared_given, within_given, step_given, bound_of_given, operand_given, string_given, no_phrase_given, parts_given, value_used, field_used, indexed_given, text_given, at_index_given, shape_used, in_fields_used, by_keys_used, raises_given, stored_used, performed_used, reached_weight, settled_weight}
use Rattle.checking_laws.proofs.Statements.{OfStatement, Before, in_repeat, limited_given, few_given, bound_given, subrange_given, numbered_used, whole_used, initial_used, exit_given, next_given, go_to_given, return_given, retry_given, continue_given, reject_given, resumed_given, returned_names, tested_given, inside_given, selected_names, rounds_given, counter_given, given_given, source_given, extracted_given, declared_used, constant_meaning_given, entered, new_labels_given, NotAgain, left_names}

pub join_names : (ds ss : t.Stmts) → u.in_stmts (join_stmts ds ss) ≡ u.in_stmts ds + u.in_stmts ss
unfolding join_stmts u.in_stmts
join_names t.NoStmts ss = omega arith
join_names (t.AndStmt d ds) ss = omega (arith, join_names ds ss)

-- where there are no parameters, nothing is marked
none_for : (fs : List PlainField) → NoneFor fs 0
none_for [] = refl
none_for (f ∷ fs) = tt

none_so_far : (fs : List PlainField) (n : ℕ) → n ≤ 0 → NoneFor fs (n + 0)
none_so_far [] n h = omega arith
none_so_far (f ∷ fs) n h = tt

first_true : (b c : Bool) → (b && c) ≡ true → b ≡ true
first_true true c h = refl
first_true false c h = h

not_complete : (x : Identifier) (e : s.Expr) (es : s.KeyedExprs) → complete [] (keys (s.AndKeyedExpr x e es)) ≡ true → ⊥
unfolding keys
not_complete x e es h = let p : length (x ∷ keys es) ≡ 0 = eqb-true (length (x ∷ keys es)) 0 (first_true _ _ h) in omega arith

levels : {A : Type 0} {P : A → ℕ → Type 0} (l : Level) {w x y z : Check A} → Uses P w → Uses P x → Uses P y → Uses P z → Uses P (by_level l w x y z)
levels Bare h i j k = h
levels Sums h i j k = i
levels Alls h i j k = j
levels Somes h i j k = k

aims : {A : Type 0} {P : A → ℕ → Type 0} (aim : Aim) {x : Place → Check A} {y : PlainType → Place → Check A}
    → ((p : Place) → Uses P (x p)) → ((k : PlainType) (p : Place) → Uses P (y k p)) → Uses P (by_aim aim x y)
aims (Free p) h k = h p
aims (Several p) h k = h p
aims (Into j p) h k = k j p

-- the bounds of a loop
abbrev pub in_counted : Counted → ℕ
in_counted NotCounted = 0
in_counted (By g down r) = u.in_interval r.interval

looped_names : (n : Counted) (l : t.Loop) → u.in_stmt (looped n l) ≡ in_counted n + u.in_loop l
unfolding u.in_stmt
looped_names NotCounted l = omega arith
looped_names (By g down r) l = refl

abbrev pub OfEnds : ℕ → Ends → ℕ → Type 0
OfEnds names x n = (n ≤ names) × (n ≤ u.in_expr x.low.value + u.in_expr x.high.value)

mutual
  unfolding check tree.expr_weight u.in_expr letter

  pub check_used : (a : Around) (aim : Aim) (e : s.Expr) → Uses (Of (tree.expr_weight one_each e)) (check a aim e)
  check_used a aim (s.Run e ss) =
      bind (check_used a (Free (first e)) e) (λ x n q.
      bind {P = λ (r : Typed) m. (m ≤ tree.steps_weight one_each ss) × (u.in_expr x.value + m ≤ u.in_expr r.value)} (levels (level_of ss) (give (omega arith, omega arith))
      (bind (sums_used a (first e) (Begun x.value) x.kind x.literal ss) (λ r m w. give (omega arith, omega arith)))
      (bind (truths_used a (is_truth x.kind) ss) (λ es m w. give (omega arith, omega arith)))
      (bind (truths_used a (is_truth x.kind) ss) (λ es m w. give (omega arith, omega arith)))) (λ r m w.
      lifting (finished aim r) (λ y i. (omega arith, omega arith))))
  check_used a aim (s.Not p e) =
      bind (check_used a (Free (first e)) e) (λ x n q.
      after (not_given p x) (λ r w.
      lifting (finished aim r) (λ y i. (omega arith, omega arith))))
  check_used a aim (s.Compare d b o p e) =
      bind (check_used a (Free (first d)) d) (λ x n q.
      bind (check_used a (Free (first e)) e) (λ y m r.
      after (compared_given b o p (first d) x (first e) y) (λ z w.
      after_spending (longer (sort_of x.kind) x.literal (sort_of y.kind) y.literal) (λ v. lift (finish aim z))
      (lifting (finished aim z) (λ y i. (omega arith, omega arith))))))
  check_used a aim (s.Within e b p i) =
      bind (check_used a (Free (first e)) e) (λ x n q.
      bind (interval_used a i) (λ ends m r.
      after (within_given b p (first e) x ends) (λ z w.
      after_spending (longer_number x ends + longer_bounds x ends) (λ v. lift (finish aim z))
      (lifting (finished aim z) (λ y i. (omega arith, omega arith))))))
  check_used a aim (s.Signed sign p e) =
      bind (check_used a (Free (first e)) e) (λ x n q.
      after (signed_given sign p x) (λ r w.
      lifting (finished aim r) (λ y i. (omega arith, omega arith))))
  check_used a aim (s.NumberLiteral p n) =
      after_spending (words_of (number n).kind) (λ w. lift (finish aim (number n))) (lifting (finished aim (number n)) (λ y i. (omega arith, omega arith)))
  check_used a aim (s.CharacterLiteral p n) =
      after_spending 1 (λ w. lift (finish aim (letter n))) (lifting (finished aim (letter n)) (λ y i. (omega arith, omega arith)))
  check_used a aim (s.StringLiteral p bytes) =
      after (string_given a.known.strings p bytes) (λ x q.
      after_spending 2 (λ w. lift (finish aim x)) (lifting (finished aim x) (λ y i. (omega arith, omega arith))))
  check_used a aim (s.Truth p b) = after_spending 1 (λ w. lift (finish aim (truth (t.Number (words.truth b)))))
      (lifting (finished aim (truth (t.Number (words.truth b)))) (λ y i. (omega arith, omega arith)))
  check_used a aim (s.Parenthesis p e) = check_used a aim e
  check_used a aim (s.Reference (s.LeftOf x ss)) =
      bind (named_used a x) (λ m n w.
      bind (walk_used a Read x.place (reached m) ss) (λ r k q.
      bind (value_used aim r.0 r.1) (λ y l z.
      lifting (finished aim y) (λ y i. (omega arith, omega (arith, reached_weight m))))))
  check_used a aim (s.Constructor p items) = aims aim (λ q. refusing tt) (λ k q. construct_used a k q p items)
  check_used a aim (s.Raised r) =
      bind (raise_used a r) (λ x n q.
      bind (value_used aim x.0 x.1) (λ y m z.
      lifting (finished aim y) (λ y i. (omega arith, omega arith))))

  pub sums_used : (a : Around) (l : Place) (done : Sum) (kind : PlainType) (literal : Bool) (ss : s.Operations)
      → Uses (λ (r : t.Expr × PlainType) n. (n ≤ tree.steps_weight one_each ss) × (u.in_expr (closed done) + n ≤ u.in_expr r.0)) (sums a l done kind literal ss)
  sums_used a l done kind literal s.NoOperation = give (omega arith, omega arith)
  sums_used a l done kind literal (s.AndOperation o p e ss) =
      bind (check_used a (Free (first e)) e) (λ r n q.
      after (step_given o p l done kind literal (first e) r) (λ x w.
      after_spending (longer (sort_of kind) literal (sort_of r.kind) r.literal) (λ v. sums a l x.done x.kind false ss)
      (weaker (sums_used a l x.done x.kind false ss) (λ z m y. (omega arith, omega arith)))))

  pub truths_used : (a : Around) (fits : Bool) (ss : s.Operations) → Uses (OfValues (tree.steps_weight one_each ss)) (truths a fits ss)
  truths_used a fits s.NoOperation = give (omega arith, omega arith)
  truths_used a fits (s.AndOperation o p e ss) =
      bind (check_used a (Free (first e)) e) (λ r n q.
      after (operand_given fits p r) (λ x w.
      bind (truths_used a true ss) (λ es m z.
      give (omega arith, omega arith))))

  pub interval_used : (a : Around) (i : s.Interval) → Uses (OfEnds (tree.interval_weight one_each i)) (interval a i)
  interval_used a (s.Between p open_low low high open_high) =
      bind (check_used a (Free (first low)) low) (λ x n q.
      bind (check_used a (Free (first high)) high) (λ y m r.
      give (omega arith, omega arith)))

  pub walk_used : (a : Around) (way : Use) (last : Place) (r : Reached) (ss : s.Suffixes)
      → Uses (λ (y : Place × Reached) n. Behind (tree.suffixes_weight one_each ss) (weight r) y.1 n) (walk a way last r ss)
  walk_used a way last r s.NoSuffix = give (omega arith, omega arith)
  walk_used a way last r (s.Field x ss) =
      bind (field_used a last (settled r) x) (λ next n q.
      weaker (walk_used a way x.place next ss) (λ y m z. (omega arith, omega (arith, settled_weight r))))
  walk_used a way last r (s.Applied b ss) =
      after (only_if (may_apply way r) TypeMismatch last tt) (λ w i.
      bind (apply_used a last (settled r) b) (λ next n q.
      weaker (walk_used a way last next ss) (λ y m z. (omega arith, omega (arith, settled_weight r)))))

  pub apply_used : (a : Around) (last : Place) (r : Reached) (b : s.Brackets) → Uses (Behind (tree.brackets_weight one_each b) (weight r)) (apply a last r b)
  apply_used a last (Variable home ss k) (s.BracketsOf p items ph) =
      after (indexed_given last home ss k) (λ x q.
      after (no_phrase_given ph) (λ w i.
      bind (one_used a p items) (λ i n z.
      lifting (at_index_given x i.0 i.1) (λ y d. (omega arith, omega arith)))))
  apply_used a last (Value n e k) (s.BracketsOf p items ph) =
      after (text_given last k n e) (λ x q.
      after (no_phrase_given ph) (λ w i.
      bind (one_used a p items) (λ i n z.
      lifting (at_index_given x i.0 i.1) (λ y d. (omega arith, omega arith)))))
  apply_used a last (Named (Procedure callee i)) (s.BracketsOf p items ph) =
      after_spending (words_of_fields i.gives)
      (λ w. arguments a i.takes p items >>= (λ x. phrase a ph >>=
      (λ w. pure (Results (t.Call callee x.places x.values (words_of_fields i.gives) w) i.gives)))) (
      bind (arguments_used a i.takes p items) (λ x n q.
      bind (phrase_used a ph) (λ y m z.
      give (omega arith, omega arith))))
  apply_used a last (Named (TypeName k)) (s.BracketsOf p items ph) =
      after (parts_given k last) (λ w i.
      after (no_phrase_given ph) (λ w i.
      bind (construct_used a k last p items) (λ x n q.
      give (omega arith, omega arith))))
  apply_used a last _ (s.BracketsOf p items ph) = refusing tt

  pub one_used : (a : Around) (p : Place) (items : s.Items) → Uses (λ (y : Place × Typed) n. Of (tree.items_weight one_each items) y.1 n) (one a p items)
  one_used a p (s.InOrder (s.AndExpr e s.NoExprs)) = bind (check_used a (Free (first e)) e) (λ x n q. give (omega arith, omega arith))
  one_used a p _ = refusing tt

  pub construct_used : (a : Around) (k : PlainType) (q p : Place) (items : s.Items) → Uses (Of (tree.items_weight one_each items)) (construct a k q p items)
  construct_used a k q p s.Nothing = shape_used (shape_of k) (λ fs. refusing tt) (λ n j. refusing tt) (refusing tt)
  construct_used a k q p (s.InOrder es) = shape_used (shape_of k)
      (λ fs. in_fields_used k p (count es) (length fs) (tree.exprs_weight one_each es) (weaker (values_used a (kinds fs) es) (λ vs n q. (q.0, q.1))))
      (λ n j. in_fields_used k p (count es) n (tree.exprs_weight one_each es) (alike_used a j es))
      (refusing tt)
  construct_used a k q p (s.ByKey es) = shape_used (shape_of k)
      (λ fs. by_keys_used k p fs (keys es) (tree.keyed_weight one_each es) (keyed_used a fs es))
      (λ n j. refusing tt)
      (refusing tt)

  pub arguments_used : (a : Around) (fs : List PlainField) (p : Place) (items : s.Items) → Uses (OfArguments fs (tree.items_weight one_each items)) (arguments a fs p items)
  arguments_used a fs p s.Nothing = after (only_if (nat_eq 0 (length fs)) WrongCount p tt) (λ w i. give {a = in_order t.NoExprs} (omega arith, omega arith, none_for fs))
  arguments_used a [] p (s.InOrder es) =
      after (only_if (nat_eq (count es) 0) WrongCount p tt) (λ w i. bind (values_used a [] es) (λ vs n q. give {a = in_order vs} (omega arith, omega arith, omega arith)))
  arguments_used a (f ∷ fs) p (s.InOrder es) =
      after (only_if (nat_eq (count es) (length (f ∷ fs))) WrongCount p tt) (λ w i.
      bind (values_used a (kinds (f ∷ fs)) es) (λ vs n q. give {a = in_order vs} (omega arith, omega arith, tt)))
  arguments_used a fs p (s.ByKey s.NoKeyedExprs) =
      after (only_if (complete fs (keys s.NoKeyedExprs)) WrongCount p tt) (λ w i.
      bind (keyed_used a fs s.NoKeyedExprs) (λ vs n q.
      give {a = record { places = places_of fs (keys s.NoKeyedExprs); values = vs }} (omega arith, omega arith, none_so_far fs n q.0)))
  arguments_used a [] p (s.ByKey (s.AndKeyedExpr x e es)) =
      after (only_holds (complete [] (keys (s.AndKeyedExpr x e es))) WrongCount p tt) (λ w h. absurd (not_complete x e es h))
  arguments_used a (f ∷ fs) p (s.ByKey (s.AndKeyedExpr x e es)) =
      after (only_if (complete (f ∷ fs) (keys (s.AndKeyedExpr x e es))) WrongCount p tt) (λ w i.
      bind (keyed_used a (f ∷ fs) (s.AndKeyedExpr x e es)) (λ vs n q.
      give {a = record { places = places_of (f ∷ fs) (keys (s.AndKeyedExpr x e es)); values = vs }} (omega arith, omega arith, tt)))

  pub values_used : (a : Around) (ks : List PlainType) (es : s.Exprs)
      → Uses (λ (vs : t.Exprs) n. (n ≤ tree.exprs_weight one_each es) × (n ≤ u.in_exprs vs) × NoneFor ks n) (values a ks es)
  values_used a (k ∷ ks) (s.AndExpr e es) =
      bind (check_used a (Into k (first e)) e) (λ x n q.
      bind (values_used a ks es) (λ vs m w.
      give (omega arith, omega arith, tt)))
  values_used a [] (s.AndExpr e es) = give (omega arith, omega arith, refl)
  values_used a [] s.NoExprs = give (omega arith, omega arith, refl)
  values_used a (k ∷ ks) s.NoExprs = give (omega arith, omega arith, tt)

  pub alike_used : (a : Around) (k : PlainType) (es : s.Exprs) → Uses (OfValues (tree.exprs_weight one_each es)) (alike a k es)
  alike_used a k s.NoExprs = give (omega arith, omega arith)
  alike_used a k (s.AndExpr e es) =
      bind (check_used a (Into k (first e)) e) (λ x n q.
      bind (alike_used a k es) (λ vs m w.
      give (omega arith, omega arith)))

  pub keyed_used : (a : Around) (fs : List PlainField) (es : s.KeyedExprs) → Uses (OfValues (tree.keyed_weight one_each es)) (keyed a fs es)
  keyed_used a fs s.NoKeyedExprs = give (omega arith, omega arith)
  keyed_used a fs (s.AndKeyedExpr x e es) =
      bind (check_used a (Into (kind_by (field_named fs x)) (first e)) e) (λ y n q.
      bind (keyed_used a fs es) (λ vs m w.
      give (omega arith, omega arith)))

  pub raise_used : (a : Around) (r : s.Raise)
      → Uses (λ (y : Place × Reached) n. (n ≤ tree.raise_weight one_each r) × (n ≤ weight y.1)) (raise a r)
  raise_used a (s.SignalRaise p q b) =
      bind (qualified_used a q) (λ m n w.
      after (raises_given item.Signal (last_of q).place m) (λ r z.
      bind (with_brackets_used a p r b) (λ x k y.
      give (omega arith, omega arith))))
  raise_used a (s.ErrorRaise p q b) =
      bind (qualified_used a q) (λ m n w.
      after (raises_given item.Error (last_of q).place m) (λ r z.
      bind (with_brackets_used a p r b) (λ x k y.
      give (omega arith, omega arith))))
  raise_used a (s.UnnamedError p) = give (omega arith, omega arith)

  pub with_brackets_used : (a : Around) (p : Place) (r : Raises) (b : s.MaybeBrackets)
      → Uses (Behind (tree.maybe_brackets_weight one_each b) (u.in_raised r.raised)) (with_brackets a p r b)
  with_brackets_used a p r s.NoBrackets =
      after (only_if (nat_eq 0 (length r.head.takes)) WrongCount p tt) (λ w i.
      after_spending (words_of_fields r.head.gives) (λ w. pure (raised r (in_order t.NoExprs) t.NoPhrase)) (give (omega arith, omega arith)))
  with_brackets_used a p r (s.WithBrackets (s.BracketsOf q items ph)) =
      after_spending (words_of_fields r.head.gives) (λ w. arguments a r.head.takes q items >>= (λ x. phrase a ph >>= (λ w. pure (raised r x w)))) (
      bind (arguments_used a r.head.takes q items) (λ x n y.
      bind (phrase_used a ph) (λ z m d.
      give (omega arith, omega arith))))

  pub phrase_used : (a : Around) (ph : s.Phrase) → Uses (λ (x : t.Phrase) n. (n ≤ tree.phrase_weight one_each ph) × (n ≤ u.in_phrase x)) (phrase a ph)
  phrase_used a s.NoPhrase = give (omega arith, omega arith)
  phrase_used a (s.Catch p xs) = bind (arms_used a xs) (λ ys n q. give (omega arith, omega arith))

  pub arms_used : (a : Around) (xs : s.Arms) → Uses (λ (ys : t.Arms) n. (n ≤ tree.arms_weight one_each xs) × (n ≤ u.in_arms ys)) (arms a xs)
  arms_used a s.NoArms = give (omega arith, omega arith)
  arms_used a (s.AndArm labels body rest) =
      bind (arm_labels_used a labels) (λ ls n e.
      bind (entered a ls) (λ x m w.
      bind (inside_scope x.scope (statement_used (in_arm ls a) body)) (λ b k q.
      bind (arms_used a rest) (λ more l z.
      give (omega arith, omega arith)))))

  -- types
  pub type_exp_used : (a : Around) (e : s.TypeExp) → Uses Unused (type_exp a e)
  type_exp_used a (s.Integer p) = give refl
  type_exp_used a (s.Cardinal p) = give refl
  type_exp_used a (s.LongInteger p) = give refl
  type_exp_used a (s.LongCardinal p) = give refl
  type_exp_used a (s.Boolean p) = give refl
  type_exp_used a (s.Character p) = give refl
  type_exp_used a (s.String p) = give refl
  type_exp_used a (s.Called q) = type_named_used a q
  type_exp_used a (s.Enumeration p xs) =
      bind (elements_used a (v.Enumeration (origin a.known p) (names_of xs)) 0 xs) (λ w n q.
      after (few_given p xs) (λ w i.
      give (omega arith)))
  type_exp_used a (s.Subrange b i) =
      bind (word_base_used a b) (λ base n w.
      weaker (of_interval_used a base i) (λ k m z. omega arith))
  type_exp_used a (s.Array p i e) =
      bind (type_exp_used a i) (λ j n w.
      after (only_if (is_index j) TypeMismatch (first_of_type i) tt) (λ z d.
      bind (type_exp_used a e) (λ k m y.
      lifting (limited_given p (v.Array j k)) (λ x z. omega arith))))
  type_exp_used a (s.Record p fs) =
      bind (fields_of_used a fs) (λ x n w.
      lifting (limited_given p (v.Record (origin a.known p) (v.parts_of x))) (λ x z. omega arith))

  pub fields_of_used : (a : Around) (fs : s.FieldList) → Uses Unused (fields_of a fs)
  fields_of_used a (s.WithNames fs) = named_fields_used a [] fs
  fields_of_used a (s.Unnamed ts) = unnamed_fields_used a ts

  pub named_fields_used : (a : Around) (taken : List (List ℕ)) (fs : s.NamedFields) → Uses Unused (named_fields a taken fs)
  named_fields_used a taken s.NoFields = give refl
  named_fields_used a taken (s.AndFields xs e rest) =
      after (names_are_new taken xs) (λ w i.
      bind (type_exp_used a e) (λ k n w.
      bind (named_fields_used a (taken ++ names_of xs) rest) (λ fs m z.
      give (omega arith))))

  pub unnamed_fields_used : (a : Around) (ts : s.TypeExps) → Uses Unused (unnamed_fields a ts)
  unnamed_fields_used a s.NoTypes = give refl
  unnamed_fields_used a (s.AndType e es) =
      bind (type_exp_used a e) (λ k n w.
      bind (unnamed_fields_used a es) (λ fs m z.
      give (omega arith)))

  pub of_interval_used : (a : Around) (base : Option PlainType) (i : s.Interval) → Uses Unused (of_interval a base i)
  of_interval_used a base (s.Between p open_low low high open_high) =
      bind (check_used (in_constant (first low) a) (Free (first low)) low) (λ i n q.
      after (bound_of_given base (first low) i) (λ x v.
      after (bound_given (first low) x) (λ m w.
      bind (check_used (in_constant (first high) a) (Free (first high)) high) (λ j k r.
      after (bound_of_given base (first high) j) (λ y c.
      after (bound_given (first high) y) (λ l z.
      after (some_or_refused (interval_base base x.kind m y.kind l) TypeMismatch p tt) (λ b d.
      lifting (subrange_given p b open_low m l open_high) (λ k i. omega arith))))))))

  -- statements
  pub statement_used : (a : Around) (x : s.Statement) → Uses (OfStatement (tree.statement_weight one_each x)) (statement a x)
  statement_used a (s.Null p) = give (omega arith, omega arith)
  statement_used a (s.Nested b) = block_used a b
  statement_used a (s.Assign l e) = whole_used a (s.left_place l) (in_left l || holds e) _ (λ a.
      bind (target_used a l) (λ x n q.
      bind (check_used a (Into x.kind (first e)) e) (λ y m w.
      give (omega arith, omega arith))))
  statement_used a (s.Extract p ts e) = whole_used a p (in_targets ts || holds e) _ (λ a.
      bind (check_used a (Several (first e)) e) (λ x n q.
      after (source_given (first e) x) (λ from w.
      bind (targets_used a p (first e) from.fields ts) (λ xs m z.
      give (omega arith, omega arith)))))
  statement_used a (s.Call (s.LeftOf x ss)) = whole_used a x.place (in_left (s.LeftOf x ss)) _ (λ a.
      bind (named_used a x) (λ m n w.
      bind (walk_used a Perform x.place (reached m) ss) (λ r k q.
      bind (performed_used x.place r.0 r.1) (λ e l z.
      give (omega arith, omega (arith, reached_weight m))))))
  statement_used a (s.RaiseStatement r) = whole_used a (s.raise_place r) (in_raise r) _ (λ a.
      bind (raise_used a r) (λ x n q.
      bind (performed_used x.0 x.0 x.1) (λ e m z.
      give (omega arith, omega arith))))
  statement_used a (s.If p e body other) = whole_used a p (holds e) _ (λ a.
      bind (check_used a (Into v.Boolean (first e)) e) (λ x n q.
      bind (statement_used a body) (λ b m w.
      bind (otherwise_used a other) (λ o k z.
      give (omega arith, omega arith)))))
  statement_used a (s.Select p e cs other) = whole_used a p (holds e || in_cases cs) _ (λ a.
      bind (check_used a (Free (first e)) e) (λ x n q.
      after_hiding (held_words x) (λ w. cases a (first e) x cs >>= (λ f. otherwise a other >>= (λ o. pure (selected x (f (t.Otherwise o)))))) (
      bind (cases_used a (first e) x cs) (λ f m w.
      bind (otherwise_used a other) (λ o k z.
      give (omega arith, omega (arith, w.1 (t.Otherwise o), selected_names x (f (t.Otherwise o)))))))))
  statement_used a (s.Loop n p ph ss rs) =
      whole_used a (s.control_place n p) true _ {rule = λ a. control a n >>= (λ x.
      phrase (in_round (labels_of_repeats rs) a) ph >>= (λ w.
      statements (in_round (labels_of_repeats rs) a) ss >>= (λ bs.
      repeats a a.labelled [] false rs >>= (λ l.
      pure (looped x.count (t.LoopOf x.condition (t.Marked a.marked (t.Block w bs t.NoExits)) l.exits l.finished))))))} (λ a.
      bind (control_used a n) (λ x i q.
      bind (phrase_used (in_round (labels_of_repeats rs) a) ph) (λ w j y.
      bind (statements_used (in_round (labels_of_repeats rs) a) ss) (λ bs k z.
      bind (repeats_used a a.labelled [] false rs) (λ l m d.
      give (
        omega arith,
        omega (arith, looped_names x.count (t.LoopOf x.condition (t.Marked a.marked (t.Block w bs t.NoExits)) l.exits l.finished)),
      ))))))
  statement_used a (s.ExitLoop p) = lifting (exit_given a p) (λ x q. (omega arith, omega arith))
  statement_used a (s.NextTurn p) = lifting (next_given a p) (λ x q. (omega arith, omega arith))
  statement_used a (s.Goto p x) = lifting (go_to_given a p x) (λ x q. (omega arith, omega arith))
  statement_used a (s.Return p s.NoItems) = lifting (return_given a p) (λ x q. (omega arith, omega arith))
  statement_used a (s.Return p (s.WithItems q items)) = whole_used a p (in_items items) _ (λ a.
      after (return_given a p) (λ j w.
      bind (arguments_used a a.gives q items) (λ x n z.
      give (omega arith, rw add-zero (returned_names a j x n z.1 z.2)))))
  statement_used a (s.Resume p s.NoItems) =
      after (resumed_given a p) (λ fs w.
      after (only_if (nat_eq 0 (length fs)) WrongCount p tt) (λ w i.
      give (omega arith, omega arith)))
  statement_used a (s.Resume p (s.WithItems q items)) = whole_used a p (in_items items) _ (λ a.
      after (resumed_given a p) (λ fs w.
      bind (arguments_used a fs q items) (λ x n z.
      give (omega arith, omega arith))))
  statement_used a (s.Reject p) = lifting (reject_given a p) (λ x q. (omega arith, omega arith))
  statement_used a (s.Retry p) = lifting (retry_given a p) (λ x q. (omega arith, omega arith))
  statement_used a (s.Continue p) = lifting (continue_given a p) (λ x q. (omega arith, omega arith))

  pub otherwise_used : (a : Around) (x : s.MaybeStatement) → Uses (OfStatement (tree.other_weight one_each x)) (otherwise a x)
  otherwise_used a s.NoStatement = give (omega arith, omega arith)
  otherwise_used a (s.OneStatement body) = statement_used a body

  pub statements_used : (a : Around) (xs : s.Statements) → Uses (λ (bs : t.Stmts) n. (n ≤ tree.statements_weight one_each xs) × (n ≤ u.in_stmts bs)) (statements a xs)
  statements_used a s.NoStatements = give (omega arith, omega arith)
  statements_used a (s.AndStatement body rest) =
      bind (statement_used a body) (λ b n q.
      bind (statements_used a rest) (λ bs m w.
      give (omega arith, omega arith)))

  pub target_used : (a : Around) (l : s.Left) → Uses (λ (x : Target) n. (n ≤ tree.left_weight one_each l) × (n ≤ u.in_suffixes x.suffixes)) (target a l)
  target_used a (s.LeftOf x ss) =
      bind (named_used a x) (λ m n w.
      bind (walk_used a Store x.place (reached m) ss) (λ r k q.
      weaker (stored_used r.0 r.1) (λ y l z. (omega arith, omega (arith, reached_weight m)))))

  pub targets_used : (a : Around) (p q : Place) (fs : List PlainField) (ts : s.Targets)
      → Uses (λ (xs : t.Targets) n. (n ≤ tree.targets_weight one_each ts) × (n ≤ u.in_targets xs)) (targets a p q fs ts)
  targets_used a p q fs s.NoTarget = give (omega arith, omega arith)
  targets_used a p q fs (s.TargetsInOrder ls) =
      after (only_if (nat_eq (count_lefts ls) (length fs)) WrongCount p tt) (λ w i. targets_in_order_used a q 0 0 fs ls)
  targets_used a p q fs (s.TargetsByKey ls) =
      after (only_if (are_fields fs (keys_of_lefts ls)) WrongCount p tt) (λ w i. targets_by_key_used a q fs [] ls)

  pub targets_in_order_used : (a : Around) (q : Place) (n offset : ℕ) (fs : List PlainField) (ls : s.Lefts)
      → Uses (λ (xs : t.Targets) m. (m ≤ tree.lefts_weight one_each ls) × (m ≤ u.in_targets xs)) (targets_in_order a q n offset fs ls)
  targets_in_order_used a q n offset (f ∷ fs) (s.AndLeft l ls) =
      bind (target_used a l) (λ x k w.
      after (extracted_given q (record { number = n; offset = offset; kind = f.kind }) x) (λ put y.
      bind (targets_in_order_used a q (n + 1) (offset + words_of f.kind) fs ls) (λ ts m z.
      give (omega arith, omega (arith, y ts)))))
  targets_in_order_used a q n offset [] (s.AndLeft l ls) = give (omega arith, omega arith)
  targets_in_order_used a q n offset [] s.NoLefts = give (omega arith, omega arith)
  targets_in_order_used a q n offset (f ∷ fs) s.NoLefts = give (omega arith, omega arith)

  pub targets_by_key_used : (a : Around) (q : Place) (fs : List PlainField) (taken : List (List ℕ)) (ls : s.KeyedLefts)
      → Uses (λ (xs : t.Targets) n. (n ≤ tree.keyed_lefts_weight one_each ls) × (n ≤ u.in_targets xs)) (targets_by_key a q fs taken ls)
  targets_by_key_used a q fs taken s.NoKeyedLefts = give (omega arith, omega arith)
  targets_by_key_used a q fs taken (s.AndKeyedLeft key l ls) =
      after (only_if (not (has key.name taken)) TwiceDeclared key.place tt) (λ w i.
      after (some_or_refused (field_named fs key) WrongCount key.place tt) (λ f w.
      bind (target_used a l) (λ x n w.
      after (extracted_given q f x) (λ put y.
      bind (targets_by_key_used a q fs (key.name ∷ taken) ls) (λ ts m z.
      give (omega arith, omega (arith, y ts)))))))

  pub cases_used : (a : Around) (l : Place) (x : Typed) (xs : s.Cases)
      → Uses (λ (f : t.Cases → t.Cases) n. (n ≤ tree.cases_weight one_each xs) × ((cs : t.Cases) → n + u.in_cases cs ≤ u.in_cases (f cs))) (cases a l x xs)
  cases_used a l x s.NoCases = give (omega arith, λ cs. omega arith)
  cases_used a l x (s.AndCase ts body rest) =
      bind (tests_used a l x ts) (λ us n q.
      bind (statement_used a body) (λ b m w.
      bind (cases_used a l x rest) (λ more k z.
      give (omega arith, λ cs. omega (arith, z.1 cs)))))

  pub tests_used : (a : Around) (l : Place) (x : Typed) (xs : s.Tests) → Uses (λ (ts : t.Tests) n. (n ≤ tree.tests_weight one_each xs) × (n ≤ u.in_tests ts)) (tests a l x xs)
  tests_used a l x s.NoTests = give (omega arith, omega arith)
  tests_used a l x (s.Value e ts) =
      bind (check_used a (Free (first e)) e) (λ y n q.
      after (tested_given false t.Equal (first e) l x (first e) y) (λ put w.
      after_spending (longer (sort_of x.kind) false (sort_of y.kind) y.literal) (λ v. tests a l x ts >>= (λ us. pure (put us))) (
      bind (tests_used a l x ts) (λ us m z.
      give (omega arith, omega (arith, w us))))))
  tests_used a l x (s.Compared b o p e ts) =
      bind (check_used a (Free (first e)) e) (λ y n q.
      after (tested_given b o p l x (first e) y) (λ put w.
      after_spending (longer (sort_of x.kind) false (sort_of y.kind) y.literal) (λ v. tests a l x ts >>= (λ us. pure (put us))) (
      bind (tests_used a l x ts) (λ us m z.
      give (omega arith, omega (arith, w us))))))
  tests_used a l x (s.Inside b p i ts) =
      bind (interval_used a i) (λ ends n q.
      after (inside_given b p l x ends) (λ put w.
      after_spending (longer_bounds x ends) (λ v. tests a l x ts >>= (λ us. pure (put us))) (
      bind (tests_used a l x ts) (λ us m z.
      give (omega arith, omega (arith, w us))))))

  -- loops
  pub control_used : (a : Around) (x : s.Control)
      → Uses (λ (y : Controlled) n. (n ≤ tree.control_weight one_each x) × (n ≤ in_counted y.count + u.in_condition y.condition)) (control a x)
  control_used a (s.ControlOf n d) =
      bind (counted_used a n) (λ x m q.
      bind (condition_used a d) (λ y k w.
      give (omega arith, omega arith)))

  pub counted_used : (a : Around) (n : s.Count) → Uses (λ (y : Counted) m. (m ≤ tree.count_weight one_each n) × (m ≤ in_counted y)) (counted a n)
  counted_used a s.NoCount = give (omega arith, omega arith)
  counted_used a (s.For p x down i) =
      bind (named_used a x) (λ m n w.
      after (counter_given x.place m) (λ c d.
      bind (interval_used a i) (λ ends k q.
      after (rounds_given (first_of_interval i) ends) (λ r y.
      after (given_given (first_of_interval i) c r) (λ g z.
      after_hiding 3 (λ w. pure (By g down r)) (give (omega arith, omega arith)))))))
  counted_used a (s.Through p i) =
      bind (interval_used a i) (λ ends n q.
      after (rounds_given (first_of_interval i) ends) (λ r y.
      after_hiding 3 (λ w. pure (By t.NoVariable false r)) (give (omega arith, omega arith))))

  pub condition_used : (a : Around) (x : s.Condition) → Uses (λ (y : t.Condition) n. (n ≤ tree.condition_weight one_each x) × (n ≤ u.in_condition y)) (condition a x)
  condition_used a s.Always = give (omega arith, omega arith)
  condition_used a (s.While p e) = bind (check_used a (Into v.Boolean (first e)) e) (λ x n q. give (omega arith, omega arith))
  condition_used a (s.Until p e) = bind (check_used a (Into v.Boolean (first e)) e) (λ x n q. give (omega arith, omega arith))

  pub repeats_used : (a : Around) (n : ℕ) (taken : List (List ℕ)) (done : Bool) (rs : s.Repeats)
      → Uses (λ (l : Left) m. (m ≤ tree.repeats_weight one_each rs) × (m ≤ in_repeat l) × NotAgain done l) (repeats a n taken done rs)
  repeats_used a n taken true s.NoRepeats = give (omega arith, omega arith, refl)
  repeats_used a n taken false s.NoRepeats = give (omega arith, omega arith, tt)
  repeats_used a n taken done (s.AndRepeat ls body rs) =
      after (new_labels_given taken done ls) (λ w i.
      bind (statement_used a body) (λ b m q.
      bind (repeats_used a (n + length (labels_of ls)) (taken ++ names_of (labels_of ls)) (done || is_finished ls) rs) (λ l k z.
      give (omega arith, omega (arith, (left_names done ls n b l i z.2).0), (left_names done ls n b l i z.2).1))))

  pub exits_used : (a : Around) (n : ℕ) (taken : List (List ℕ)) (xs : s.Exits)
      → Uses (λ (ys : t.Exits) m. (m ≤ tree.exits_weight one_each xs) × (m ≤ u.in_exits ys)) (exits a n taken xs)
  exits_used a n taken s.NoExits = give (omega arith, omega arith)
  exits_used a n taken (s.AndExit xs body es) =
      after (names_are_new taken xs) (λ w i.
      bind (statement_used a body) (λ b m q.
      bind (exits_used a (n + length xs) (taken ++ names_of xs) es) (λ es k z.
      give (omega arith, omega arith))))

  -- blocks
  pub block_used : (a : Around) (b : s.Block) → Uses (OfStatement (tree.block_weight one_each b)) (block a b)
  block_used a (s.BlockOf p ph locals ss es) =
      numbered_used a (is_catch ph) _ (λ a.
      bind {P = λ (x : Held) n. (n ≤ tree.phrase_weight one_each ph + tree.locals_weight one_each locals + tree.statements_weight one_each ss)
      × (n ≤ u.in_phrase x.phrase + u.in_stmts x.statements)}
      (inside_scope nothing {c = heads (with_labels (labels_of_exits es) (inside a)) locals >>= (λ hs.
      phrase (with_labels (labels_of_exits es) (inside a)) ph >>= (λ w.
      initials (with_labels (labels_of_exits es) (inside a)) locals hs >>= (λ ds.
      statements (with_labels (labels_of_exits es) (inside a)) ss >>= (λ bs. pure (held w ds bs)))))} (
      bind (heads_used (with_labels (labels_of_exits es) (inside a)) locals) (λ hs n q.
      bind (phrase_used (with_labels (labels_of_exits es) (inside a)) ph) (λ w m y.
      bind (initials_used (with_labels (labels_of_exits es) (inside a)) locals hs) (λ ds k z.
      bind (statements_used (with_labels (labels_of_exits es) (inside a)) ss) (λ bs l d.
      give (omega arith, omega (arith, join_names ds bs)))))))) (λ x n q.
      bind (exits_used a a.labelled [] es) (λ es m z.
      give (omega arith, omega arith))))

  pub heads_used : (a : Around) (xs : s.Locals) → Uses Unused (heads a xs)
  heads_used a s.NoLocals = give refl
  heads_used a (s.AndLocal xs d rest) =
      bind (head_used a xs d) (λ x n q.
      bind (heads_used a rest) (λ hs m w.
      give (omega arith)))

  pub head_used : (a : Around) (xs : List Identifier) (d : s.PlainItem) → Uses Unused (head a xs d)
  head_used a xs (s.TypeIs e) = within 0 (first_name xs) (
      bind (announced xs) (λ w n i.
      bind (type_exp_used a e) (λ j m w.
      bind (has_settled xs (map (λ x. TypeName j) xs)) (λ v k q.
      give (omega arith)))))
  head_used a xs (s.Variable e) = within 0 (first_name xs) (
      bind (announced xs) (λ w n i.
      bind (type_exp_used a e) (λ j m w.
      weaker (declared_used a xs j 0) (λ x k q. omega arith))))
  head_used a xs (s.Initial e x) =
      bind (announced xs) (λ w n i.
      bind (measuring (type_exp_used a e)) (λ j m w.
      weaker (declared_used a xs j.0 j.1) (λ x k q. omega arith)))
  head_used a xs (s.Constant e x) = within 0 (first_name xs) (
      bind (announced xs) (λ w n i.
      bind (type_exp_used a e) (λ j m w.
      bind (check_used (in_constant (first x) a) (Into j (first x)) x) (λ y k q.
      after (constant_meaning_given a j x (first x) y.value) (λ c z.
      bind (has_settled xs (map (λ x. c) xs)) (λ v l d.
      give (omega arith)))))))

  pub initials_used : (a : Around) (xs : s.Locals) (hs : List Headed)
      → Uses (λ (ss : t.Stmts) n. (n ≤ tree.locals_weight one_each xs) × (n ≤ u.in_stmts ss)) (initials a xs hs)
  initials_used a (s.AndLocal xs d rest) (x ∷ hs) =
      bind (initial_value_used a xs d x) (λ put n q.
      bind (initials_used a rest hs) (λ ss m w.
      give (omega arith, omega (arith, q.1 ss))))
  initials_used a (s.AndLocal xs d rest) [] = give (omega arith, omega arith)
  initials_used a s.NoLocals hs = give (omega arith, omega arith)

  pub initial_value_used : (a : Around) (xs : List Identifier) (d : s.PlainItem) (x : Headed) → Uses (Before (tree.plain_item_weight one_each d)) (initial a xs d x)
  initial_value_used a xs (s.Variable e) (Variables homes j seen words) = give (omega arith, λ ss. omega arith)
  initial_value_used a xs (s.Initial e x) (Variables homes j seen words) =
      seen_from seen (initial_used a xs words (holds x) _ (λ a.
      bind (check_used a (Into j (first x)) x) (λ y n q.
      give (omega arith, omega arith))))
  initial_value_used a xs _ _ = give (omega arith, λ ss. omega arith)
