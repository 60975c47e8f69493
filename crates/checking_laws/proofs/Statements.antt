-- Rules of statements, types and declarations: what they give names the items that their parts name, and a constant none.
use Rattle.std.specs.Prelude.{ℕ, ◌≡◌, ◌+◌, ◌≤◌, Bool, true, false, ◌&&◌, ◌||◌, Option, Some, None, Ok, List, [], ◌∷◌, length, map, if◌then◌else◌, nat_lt, nat_le}
use Rattle.std.proofs.Common.{refl, arith}
use Rattle.mesa_base.specs.declared.limits.TheConstants.{TYPE_WORDS, TYPE_DEPTH, ENUMERATION_ELEMENTS, GLOBAL_WORDS}
use Rattle.mesa_base.specs.declared.place.Place.{Place}
use Rattle.mesa_base.specs.declared.identifier.Identifier.{Identifier}
use Rattle.syntax_trees.specs.Syntax as s
use Rattle.syntax_trees.specs.declared.syntax.RepeatLabels.{RepeatLabels}
use Rattle.syntax_trees.specs.declared.syntax.RepeatLabels.TheVariants as repeat
use Rattle.check_rules.specs.Typed as t
use Rattle.check_rules.specs.Typed.{Relation}
use Rattle.interface_records.specs.PlainTypes.{PlainType, PlainField, base_of, conforms, is_long, is_ordinal, is_text, words_of, depth_of, sign_of}
use Rattle.mesa_types.specs.Shapes.{words_in_all}
use Rattle.mesa_types.specs.Constants.{constant}
use Rattle.mesa_types.specs.Operators.{shifted, truth}
use Rattle.check_rules.specs.Meanings.{Meaning, Variable}
use Rattle.check_rules.specs.Steps.{Check, ◌>>=◌, pure, only, or_refuse}
use Rattle.check_rules.specs.Around.{Around, ArmHere, NoArm, InArm, ArmLabel, Seen, in_statement, is_unwinding, jump, leave_loop, exit_loop, next_round, go_to_seen, go_to, return, arm_for_raises, retry, continue, reject, all_resumable, all_give, results_of, resumed}
use Rattle.check_rules.specs.Parts.{first_name, Found}
use Rattle.check_rules.specs.Operators.{Relating, Words, Longs, beside, related, relating, sort_of, turned}
use Rattle.check_rules.specs.Ranges.{Typed, Arguments, conversion_for, range_for}
use Rattle.check_rules.specs.Reached.{Target}
use Rattle.check_rules.specs.Names.{settle}
use Rattle.check_rules.specs.TypeRules.{limited, few, bound, literal_word, subrange, subrange_if}
use Rattle.check_rules.specs.Statements.{numbered, whole, returned, returned_by, Ends, is_long_interval, selected, selected_by, test_by, test_inside_by, tested, tested_inside, Rounds, rounds, Counter, counter, given, Source, source, source_by, record_fields, is_one, extracted, target_by, variables, local, global, few_globals, meaning_of, enter_arm, Variables, declare, given_initial, is_text_literal, text_constant, constant_by, constant_meaning, Left, also_left, new_labels, is_finished}
use Rattle.check_rules.specs.declared.fault.Cause.TheVariants.{TypeMismatch, NotResumable, NotConstant, GlobalsTooLarge, TypeTooLarge}
use Rattle.checking_laws.proofs.Uses as u
use Rattle.checking_laws.proofs.Marks.{marks}
use Rattle.checking_laws.proofs.Constants.{constant_unused}
use Rattle.checking_laws.proofs.Names.{linked, names_are_new, has_settled, passed}
use Rattle.checking_laws.proofs.Values.{NoneFor, long_ends, meets_given, not_long_given, with_check, with_fit}
use Rattle.checking_laws.proofs.Using.{by_if, some_or_refused, Gives, Uses, Unused, Anything, bind, give, and_gives, all_right, refused, only_if, after_top, within}

-- a statement whose marks are at so many names, and named in it
abbrev pub OfStatement : ℕ → t.Stmt → ℕ → Type 0
OfStatement names x n = (n ≤ names) × (n ≤ u.in_stmt x)

-- types
pub limited_given : (p : Place) (k : PlainType) → Gives Anything (limited p k)
unfolding limited
limited_given p k = and_gives (only_if (nat_le (words_of k) TYPE_WORDS && nat_le (depth_of k) TYPE_DEPTH) TypeTooLarge p tt) (λ x w. all_right tt)

pub few_given : (p : Place) (xs : List Identifier) → Gives Anything (few p xs)
unfolding few
few_given p xs = only_if (nat_le (length xs) ENUMERATION_ELEMENTS) TypeTooLarge p tt

-- a constant's expression, a bound's too, names nothing
word_given : (e : t.Expr) (p : Place) (o : Option ℕ) → ((n : ℕ) → o ≡ Some n → u.in_expr e ≡ 0)
    → Gives (λ (n : ℕ). u.in_expr e ≡ 0) (or_refuse o NotConstant p)
word_given e p (Some n) h = all_right (h n refl)
word_given e p None h = refused tt

constant_given : (p : Place) (e : t.Expr) → Gives (λ (n : ℕ). u.in_expr e ≡ 0) (or_refuse (constant e) NotConstant p)
constant_given p e = word_given e p (constant e) (λ n h. constant_unused e n h)

literal_unused : (b : Bool) (e : t.Expr) (n : ℕ) → literal_word b e ≡ Some n → u.in_expr e ≡ 0
unfolding u.in_expr
literal_unused true (t.Literal k) n h = refl
literal_unused _ e n h = constant_unused e n h

pub bound_given : (p : Place) (x : Typed) → Gives (λ (n : ℕ). u.in_expr x.value ≡ 0) (bound p x)
unfolding bound
bound_given p x = word_given x.value p (literal_word (is_text x.kind) x.value) (λ n h. literal_unused (is_text x.kind) x.value n h)

subrange_if_given : (b : Bool) (p : Place) (k : PlainType) (l : Bool) (x y : ℕ) (r : Bool) → Gives Anything (subrange_if b p k l x y r)
subrange_if_given true p k l x y r = all_right tt
subrange_if_given false p k l x y r = refused tt

pub subrange_given : (p : Place) (k : PlainType) (l : Bool) (x y : ℕ) (r : Bool) → Gives Anything (subrange p k l x y r)
unfolding subrange
subrange_given p k l x y r = subrange_if_given (nat_le (shifted (sign_of k) x + truth l + truth r) (shifted (sign_of k) y)) p k l x y r

-- statements with a number
pub numbered_used : (a : Around) (b : Bool) (names : ℕ) {rule : Around → Check t.Stmt} → ((a : Around) → Uses (OfStatement names) (rule a))
    → Uses (OfStatement names) (numbered a b rule)
unfolding u.in_stmt
numbered_used a true names h = bind (h (in_statement a)) (λ x n q. give (omega arith, omega arith))
numbered_used a false names h = h a

pub whole_used : (a : Around) (p : Place) (b : Bool) (names : ℕ) {rule : Around → Check t.Stmt} → ((a : Around) → Uses (OfStatement names) (rule a))
    → Uses (OfStatement names) (whole a p b rule)
whole_used a p b names h = within 0 p (numbered_used a b names h)

-- what puts statements before others
abbrev pub Before : ℕ → (t.Stmts → t.Stmts) → ℕ → Type 0
Before names put n = (n ≤ names) × ((xs : t.Stmts) → n + u.in_stmts xs ≤ u.in_stmts (put xs))

pub initial_used : (a : Around) (xs : List Identifier) (words : ℕ) (b : Bool) (names : ℕ) {rule : Around → Check t.Stmt}
    → ((a : Around) → Uses (OfStatement names) (rule a)) → Uses (Before names) (given_initial a xs words b rule)
unfolding u.in_stmts
initial_used a xs words b names h = bind (within words (first_name xs) (numbered_used a b names h))
    (λ x n q. give (omega arith, λ ss. omega (arith, q.1)))

-- jumps
jump_given : (a : Around) (p : Place) (g : t.Goal) (n : ℕ) → Gives Anything (jump a p g n)
unfolding jump
jump_given a p g n = and_gives (by_if {P = Anything} (nat_lt n a.unwinding) (refused tt) (all_right tt)) (λ x w. all_right tt)

leave_given : (a : Around) (p : Place) (g : ℕ → t.Goal) (l : Option Seen) → Gives Anything (leave_loop a p g l)
leave_given a p g None = refused tt
leave_given a p g (Some l) = jump_given a p (g l.number) l.arms

pub exit_given : (a : Around) (p : Place) → Gives Anything (exit_loop a p)
exit_given a p = leave_given a p t.PastStatement a.loop

pub next_given : (a : Around) (p : Place) → Gives Anything (next_round a p)
next_given a p = leave_given a p (λ n. t.PastStatement (n + 1)) a.loop

to_seen_given : (a : Around) (p : Place) (x : Identifier) (l : Option Seen) → Gives Anything (go_to_seen a p x l)
to_seen_given a p x None = refused tt
to_seen_given a p x (Some l) = jump_given a p (t.ToLabel l.number) l.arms

pub go_to_given : (a : Around) (p : Place) (x : Identifier) → Gives Anything (go_to a p x)
go_to_given a p x = to_seen_given a p x (a.labels x.name)

pub return_given : (a : Around) (p : Place) → Gives Anything (return a p)
return_given a p = jump_given a p t.ToReturn 0

raises_given : (p : Place) (x : ArmHere) → Gives Anything (arm_for_raises p x)
raises_given p NoArm = refused tt
raises_given p (InArm n ls) = by_if (is_unwinding ls) (refused tt) (all_right tt)

pub retry_given : (a : Around) (p : Place) → Gives Anything (retry a p)
retry_given a p = and_gives (raises_given p a.arm) (λ r w. all_right tt)

pub continue_given : (a : Around) (p : Place) → Gives Anything (continue a p)
continue_given a p = and_gives (raises_given p a.arm) (λ r w. all_right tt)

reject_in_given : (a : Around) (p : Place) (x : ArmHere) → Gives Anything (reject (record a { arm = x }) p)
reject_in_given a p NoArm = refused tt
reject_in_given a p (InArm n ls) = all_right tt

pub reject_given : (a : Around) (p : Place) → Gives Anything (reject a p)
reject_given a p = reject_in_given a p a.arm

pub resumed_given : (a : Around) (p : Place) → Gives Anything (resumed a p)
unfolding resumed
resumed_given a p = and_gives (raises_given p a.arm)
    (λ r w. and_gives (only_if (all_resumable r.1) NotResumable p tt)
    (λ x w. and_gives (only_if (all_give (results_of r.1) r.1) TypeMismatch p tt) (λ x w. all_right tt)))

-- RETURN with values is a jump in a body without results, where nothing is given
returned_by_names : (fs : List PlainField) (a : Around) (j : t.Stmt) (x : Arguments) (n : ℕ) → n ≤ u.in_exprs x.values → NoneFor fs n
    → n ≤ u.in_stmt (returned_by fs a j x)
unfolding u.in_stmt
returned_by_names [] a j x n h k = omega arith
returned_by_names (f ∷ fs) a j x n h k = h

pub returned_names : (a : Around) (j : t.Stmt) (x : Arguments) (n : ℕ) → n ≤ u.in_exprs x.values → NoneFor a.gives n → n ≤ u.in_stmt (returned a j x)
returned_names a j x n h k = returned_by_names a.gives a j x n h k

-- tests
test_names : (o : Relation) (x e : Typed) (m : Relating) (ts : t.Tests) → u.in_tests (test_by o x e m ts) ≡ u.in_expr e.value + u.in_tests ts
unfolding u.in_tests
test_names o x e (Words m) ts = omega (arith, with_check m.right e.value)
test_names o x e (Longs m) ts = omega (arith, with_fit m.right e.value)

pub tested_given : (b : Bool) (o : Relation) (p l : Place) (x : Typed) (q : Place) (e : Typed)
    → Gives (λ (put : t.Tests → t.Tests). (ts : t.Tests) → u.in_tests (put ts) ≡ u.in_expr e.value + u.in_tests ts) (tested b o p l x q e)
unfolding tested
tested_given b o p l x q e =
    and_gives (some_or_refused (relating x.kind x.literal e.kind e.literal) TypeMismatch (beside p l (sort_of x.kind) q (sort_of e.kind)) tt) (λ m w.
    all_right (λ ts. test_names (turned b o) x e m ts))

inside_names : (long b : Bool) (x : Typed) (i : Ends) (ts : t.Tests)
    → u.in_tests (test_inside_by long b x i ts) ≡ u.in_expr i.low.value + u.in_expr i.high.value + u.in_tests ts
unfolding u.in_tests u.in_interval
inside_names false b x i ts = omega arith
inside_names true b x i ts = omega (arith, long_ends i)

pub inside_given : (b : Bool) (p l : Place) (x : Typed) (i : Ends)
    → Gives (λ (put : t.Tests → t.Tests). (ts : t.Tests) → u.in_tests (put ts) ≡ u.in_expr i.low.value + u.in_expr i.high.value + u.in_tests ts)
    (tested_inside b p l x i)
unfolding tested_inside
inside_given b p l x i = and_gives (meets_given p l x i) (λ k w. all_right (λ ts. inside_names (is_long_interval x i) b x i ts))

-- a SELECT, of a LONG number or another one
select_names : (b : Bool) (e : t.Expr) (cs : t.Cases) → u.in_stmt (selected_by b e cs) ≡ u.in_expr e + u.in_cases cs
unfolding u.in_stmt
select_names true e cs = refl
select_names false e cs = refl

pub selected_names : (x : Typed) (cs : t.Cases) → u.in_stmt (selected x cs) ≡ u.in_expr x.value + u.in_cases cs
unfolding selected
selected_names x cs = select_names (is_long x.kind) x.value cs

-- loops
pub rounds_given : (p : Place) (i : Ends)
    → Gives (λ (r : Rounds). u.in_interval r.interval ≡ u.in_expr i.low.value + u.in_expr i.high.value) (rounds p i)
unfolding rounds u.in_interval
rounds_given p i = and_gives (not_long_given i.low_place i.low) (λ k d. and_gives (not_long_given i.high_place i.high) (λ k d.
    and_gives (some_or_refused (related i.low.kind i.low.literal i.high.kind i.high.literal) TypeMismatch p tt) (λ q w.
    all_right (omega (arith, with_check q.left i.low.value, with_check q.right i.high.value)))))

pub counter_given : (p : Place) (x : Meaning) → Gives (λ (c : Counter). linked x ≡ 0) (counter p x)
counter_given p (Variable y k) = and_gives (only_if (is_ordinal k) TypeMismatch p tt) (λ x w. all_right refl)
counter_given p _ = refused tt

pub given_given : (p : Place) (c : Counter) (r : Rounds) → Gives Anything (given p c r)
unfolding given
given_given p c r = and_gives (only_if (conforms r.kind c.kind) TypeMismatch p tt) (λ x w. all_right tt)

-- extractors
source_by_given : (p : Place) (e : t.Expr) (fs gave : Option (List PlainField)) → Gives (λ (x : Source). u.in_expr x.value ≡ u.in_expr e) (source_by p e fs gave)
source_by_given p e (Some fs) gave = all_right refl
source_by_given p e None (Some fs) = all_right refl
source_by_given p e None None = refused tt

pub source_given : (p : Place) (x : Typed) → Gives (λ (y : Source). u.in_expr y.value ≡ u.in_expr x.value) (source p x)
unfolding source
source_given p x = source_by_given p x.value (record_fields (is_one x.gave) x.kind) x.gave

target_names : (c : t.Conversion) (r : t.Range) (f : Found) (x : Target) (ts : t.Targets) → u.in_targets (target_by c r f x ts) ≡ u.in_suffixes x.suffixes + u.in_targets ts
unfolding u.in_targets
target_names t.Kept r f x ts = refl
target_names (t.Widened a b) r f x ts = refl
target_names (t.Narrowed a b c) r f x ts = refl
target_names t.InCommon r f x ts = refl

pub extracted_given : (p : Place) (f : Found) (x : Target)
    → Gives (λ (put : t.Targets → t.Targets). (ts : t.Targets) → u.in_targets (put ts) ≡ u.in_suffixes x.suffixes + u.in_targets ts) (extracted p f x)
unfolding extracted
extracted_given p f x = and_gives (only_if (conforms f.kind x.kind) TypeMismatch p tt) (λ k w.
    all_right (λ ts. target_names (conversion_for f.kind x.kind) (range_for f.kind x.kind) f x ts))

-- variables and constants
variable_used : (a : Around) (b : Bool) (k : PlainType) → Uses Unused (if b then global k else local a k)
variable_used a true k = record { in_state = λ σ. record { growth = 0; marked = omega arith; holds = refl } }
variable_used a false k = record { in_state = λ σ. record { growth = 0; marked = omega arith; holds = refl } }

variables_used : (a : Around) (k : PlainType) (xs : List Identifier) → Uses Unused (variables a k xs)
unfolding variables
variables_used a k [] = give refl
variables_used a k (x ∷ xs) = bind (variable_used a a.is_outermost k) (λ h n w. bind (variables_used a k xs) (λ hs m v. give (omega arith)))

few_globals_used : (p : Place) → Uses Unused (few_globals p)
few_globals_used p = record {
  in_state = λ σ. passed Unused (marks σ.used) (only (nat_le (words_in_all σ.globals) GLOBAL_WORDS) GlobalsTooLarge p) (Ok (tt, σ))
      (only_if (nat_le (words_in_all σ.globals) GLOBAL_WORDS) GlobalsTooLarge p tt) (record { growth = 0; marked = omega arith; holds = refl });
}

pub declared_used : (a : Around) (xs : List Identifier) (k : PlainType) (words : ℕ) → Uses Unused (declare a xs k words)
declared_used a xs k words =
    after_top (λ seen. variables a k xs >>=
    (λ hs. few_globals (first_name xs) >>= (λ v. settle xs (map (meaning_of k) hs) >>= (λ v. pure (Variables hs k seen words))))) (λ seen.
    bind (variables_used a k xs) (λ hs n e.
    bind (few_globals_used (first_name xs)) (λ v m w.
    bind (has_settled xs (map (meaning_of k) hs)) (λ x l q.
    give (omega arith)))))

text_given : (b : Bool) (p : Place) (e : t.Expr) → Gives (λ (m : Meaning). u.in_expr e ≡ 0) (text_constant b p e)
unfolding u.in_expr
text_given true p (t.Literal n) = all_right refl
text_given _ p e = refused tt

constant_by_given : (o : Option PlainType) (k : PlainType) (b : Bool) (p : Place) (e : t.Expr) → Gives (λ (m : Meaning). u.in_expr e ≡ 0) (constant_by o k b p e)
constant_by_given (Some base) k b p e = and_gives (constant_given p e) (λ n h. all_right h)
constant_by_given None k b p e = text_given b p e

pub constant_meaning_given : (a : Around) (k : PlainType) (e : s.Expr) (p : Place) (x : t.Expr)
    → Gives (λ (m : Meaning). u.in_expr x ≡ 0) (constant_meaning a k e p x)
unfolding constant_meaning
constant_meaning_given a k e p x = constant_by_given (base_of k) k (a.known.is_program && (is_text k && is_text_literal e)) p x

pub entered : (a : Around) (ls : List ArmLabel) → Uses Unused (enter_arm a ls)
unfolding enter_arm
entered a ls = record { in_state = λ σ. record { growth = 0; marked = omega arith; holds = refl } }

-- labels: FINISHED stands once at most, so that its statement is in what is left
abbrev pub Once : Bool → RepeatLabels → Type 0
Once true (repeat.Finished p) = ⊥
Once _ ls = Unit {0}

pub new_labels_given : (taken : List (List ℕ)) (b : Bool) (ls : RepeatLabels) → Gives (λ v. Once b ls) (new_labels taken b ls)
new_labels_given taken true (repeat.Named xs) = names_are_new taken xs
new_labels_given taken false (repeat.Named xs) = names_are_new taken xs
new_labels_given taken true (repeat.Finished p) = refused tt
new_labels_given taken false (repeat.Finished p) = all_right tt

-- what the REPEAT of a loop names, and its FINISHED nothing where there was one before
abbrev pub in_repeat : Left → ℕ
in_repeat l = u.in_exits l.exits + u.in_finish l.finished

abbrev pub NotAgain : Bool → Left → Type 0
NotAgain true l = u.in_finish l.finished ≡ 0
NotAgain false l = Unit {0}

pub left_names : (done : Bool) (ls : RepeatLabels) (n : ℕ) (body : t.Stmt) (l : Left) → Once done ls → NotAgain (done || is_finished ls) l
    → (u.in_stmt body + in_repeat l ≤ in_repeat (also_left ls n body l)) × NotAgain done (also_left ls n body l)
unfolding u.in_exits u.in_finish
left_names true (repeat.Named xs) n body l h k = (omega arith, k)
left_names true (repeat.Finished p) n body l h k = absurd h
left_names false (repeat.Named xs) n body l h k = (omega arith, tt)
left_names false (repeat.Finished p) n body l h k = (omega arith, tt)
