-- What reading a head and giving an initial value are, as the code takes its steps.
use Rattle.std.proofs.Common.{◌≡◌, ℕ, List, Ok, Err, map, refl, sym, ◌∙◌}
use Rattle.mesa_base.specs.declared.identifier.Identifier.{Identifier}
use Rattle.syntax_trees.specs.Syntax as s
use Rattle.check_rules.specs.Typed as t
use Rattle.check_rules.specs.Around.{Around, in_constant}
use Rattle.check_rules.specs.Checking as spec
use Rattle.check_rules.specs.Meanings.{Meaning}
use Rattle.check_rules.specs.Names.{announce, settle}
use Rattle.check_rules.specs.Parts.{first, first_name}
use Rattle.check_rules.specs.Phrases.{holds}
use Rattle.interface_records.specs.PlainTypes.{PlainType, kind_of}
use Rattle.check_rules.specs.Ranges.{Into}
use Rattle.check_rules.specs.Scopes.{Scope, innermost}
use Rattle.check_rules.specs.Statements.{Headed, Nothing, Variables, constant_meaning, declare, few_globals, meaning_of, variables}
use Rattle.check_rules.specs.Steps.{Check, Checked, State, and_then, ◌>>=◌, lift, pure, seeing, top, with_top, within_operands}
use Rattle.check_simple_statements.specs.check_declared.specs.Naming.{declared}
use Rattle.check_simple_statements.specs.check_expressions.proofs.Folding.{in_turn}
use Rattle.check_simple_statements.specs.Whole.{counting}
use Rattle.check_simple_statements.proofs.WholeLaws.{numbered_is, within_is}
use Rattle.check_locals.specs.Rules.{constant_head, constant_value, initial_head, type_head, valued, variable_head, whole_value}

-- one step behind another
turned : {A B C : Type 0} (m : Check A) (f : A → Check B) (g : B → Check C) → (m >>= f) >>= g ≡ m >>= (λ x. f x >>= g)
turned m f g = λ i σ. in_turn (m σ) (λ r. f r.0 r.1) (λ r. g r.0 r.1) i

pub declare_is : (a : Around) (xs : List Identifier) (k : PlainType) (words : ℕ)
    → declare a xs k words ≡ top >>= (λ seen. declared a xs k >>= (λ hs. pure (Variables hs k seen words)))
declare_is a xs k words = λ i. top >>= (λ seen. sym (turned (variables a k xs) (λ hs. few_globals (first_name xs) >>= (λ _. settle xs (map (meaning_of k) hs) >>= (λ _. pure hs)))
    (λ hs. pure (Variables hs k seen words)) ∙ (λ j. variables a k xs >>= (λ hs. inner seen hs j))) i)
  where
    inner : (seen : Scope Meaning) (hs : List t.Home) → (few_globals (first_name xs) >>= (λ _. settle xs (map (meaning_of k) hs) >>= (λ _. pure hs))) >>= (λ hs. pure (Variables hs k seen words))
        ≡ few_globals (first_name xs) >>= (λ _. settle xs (map (meaning_of k) hs) >>= (λ _. pure (Variables hs k seen words)))
    inner seen hs =
        turned (few_globals (first_name xs)) (λ _. settle xs (map (meaning_of k) hs) >>= (λ _. pure hs)) (λ hs. pure (Variables hs k seen words))
        ∙ (λ j. few_globals (first_name xs) >>= (λ _. turned (settle xs (map (meaning_of k) hs)) (λ _. pure hs) (λ hs. pure (Variables hs k seen words)) j))

-- ---- heads

pub head_type : (a : Around) (xs : List Identifier) (e : s.TypeExp) → spec.head a xs (s.TypeIs e) ≡ counting 0 (first_name xs) (type_head a xs e)
unfolding spec.check type_head
head_type a xs e = within_is 0 (first_name xs) (type_head a xs e)

pub head_variable : (a : Around) (xs : List Identifier) (e : s.TypeExp) → spec.head a xs (s.Variable e) ≡ counting 0 (first_name xs) (variable_head a xs e)
unfolding spec.check variable_head
head_variable a xs e = within_is 0 (first_name xs) (variable_head a xs e)

pub head_initial : (a : Around) (xs : List Identifier) (e : s.TypeExp) (x : s.Expr) → spec.head a xs (s.Initial e x) ≡ initial_head a xs e
unfolding spec.check initial_head
head_initial a xs e x = refl

constant_is : (a : Around) (xs : List Identifier) (e : s.TypeExp) (x : s.Expr) → constant_head a xs e x ≡ (do
  _ ← announce xs
  k ← spec.type_exp a e
  y ← spec.check (in_constant (first x) a) (Into k (first x)) x
  m ← lift (constant_meaning a k x (first x) y.value)
  _ ← settle xs (map (λ x. m) xs)
  pure Nothing)
unfolding constant_head constant_value
constant_is a xs e x = λ i. announce xs >>= (λ _.
    (turned (spec.type_exp a e) (λ k. spec.check (in_constant (first x) a) (Into k (first x)) x >>= (λ y. lift (constant_meaning a k x (first x) y.value))) rest
    ∙ (λ j. spec.type_exp a e >>= (λ k. turned (spec.check (in_constant (first x) a) (Into k (first x)) x) (λ y. lift (constant_meaning a k x (first x) y.value)) rest j))) i)
  where
    rest : Meaning → Check Headed
    rest m = settle xs (map (λ x. m) xs) >>= (λ _. pure Nothing)

pub head_constant : (a : Around) (xs : List Identifier) (e : s.TypeExp) (x : s.Expr) → spec.head a xs (s.Constant e x) ≡ counting 0 (first_name xs) (constant_head a xs e x)
unfolding spec.check
head_constant a xs e x = sym (λ i. within_operands 0 (first_name xs) (constant_is a xs e x i)) ∙ within_is 0 (first_name xs) (constant_head a xs e x)

pub ruleset head_clauses = (head_type, head_variable, head_initial, head_constant)

-- ---- initial values

pub initial_none : (a : Around) (xs : List Identifier) (d : s.PlainItem) → spec.initial a xs d Nothing ≡ pure (λ ss. ss)
unfolding spec.check
initial_none a xs (s.TypeIs e) = refl
initial_none a xs (s.Variable e) = refl
initial_none a xs (s.Initial e x) = refl
initial_none a xs (s.Constant e x) = refl

pub initial_type : (a : Around) (xs : List Identifier) (e : s.TypeExp) (h : Headed) → spec.initial a xs (s.TypeIs e) h ≡ pure (λ ss. ss)
unfolding spec.check
initial_type a xs e h = refl

pub initial_constant : (a : Around) (xs : List Identifier) (e : s.TypeExp) (x : s.Expr) (h : Headed) → spec.initial a xs (s.Constant e x) h ≡ pure (λ ss. ss)
unfolding spec.check
initial_constant a xs e x h = refl

pub initial_variable : (a : Around) (xs : List Identifier) (e : s.TypeExp) (hs : List t.Home) (k : PlainType) (seen : Scope Meaning) (words : ℕ)
    → spec.initial a xs (s.Variable e) (Variables hs k seen words) ≡ pure (t.AndStmt (t.Declare hs (kind_of k)))
unfolding spec.check
initial_variable a xs e hs k seen words = refl

abbrev put_at : t.Stmt × State → Checked ((t.Stmts → t.Stmts) × State)
put_at r = Ok (t.AndStmt r.0, r.1)

abbrev back_at : {A : Type 0} → State → A × State → Checked (A × State)
back_at σ r = Ok (r.0, with_top (innermost σ.scopes) r.1)

after_seeing : (seen : Scope Meaning) (m : Check t.Stmt) → seeing seen (m >>= (λ x. pure (t.AndStmt x))) ≡ seeing seen m >>= (λ x. pure (t.AndStmt x))
after_seeing seen m = λ i σ. put_back σ (m (with_top seen σ)) i
  where
    put_back : (σ : State) (o : Checked (t.Stmt × State)) → and_then (and_then o put_at) (back_at σ) ≡ and_then (and_then o (back_at σ)) put_at
    put_back σ (Ok r) = refl
    put_back σ (Err e) = refl

pub initial_value : (a : Around) (xs : List Identifier) (e : s.TypeExp) (x : s.Expr) (hs : List t.Home) (k : PlainType) (seen : Scope Meaning) (words : ℕ)
    → spec.initial a xs (s.Initial e x) (Variables hs k seen words) ≡ seeing seen (whole_value a xs hs k words x) >>= (λ x. pure (t.AndStmt x))
unfolding spec.check valued
initial_value a xs e x hs k seen words =
    (λ i. seeing seen (numbered_is a words (first_name xs) (holds x) (λ a. valued a hs k x) i >>= (λ x. pure (t.AndStmt x))))
    ∙ after_seeing seen (whole_value a xs hs k words x)

pub ruleset initial_clauses = (initial_none, initial_type, initial_constant, initial_variable, initial_value)
