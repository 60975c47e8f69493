-- The rules of lists, as one part after the other.
use Rattle.std.proofs.Common.{◌≡◌, ◌+◌, ℕ, Bool, ◌||◌, List, [], ◌∷◌, ◌++◌, map, length, Ok, Err, Some, None, refl, sym, ap, ◌∙◌}
use Rattle.mesa_base.specs.declared.identifier.Identifier.{Identifier}
use Rattle.mesa_types.specs.Plain as tree
use Rattle.syntax_trees.specs.PlainSyntax as plain
use Rattle.syntax_trees.specs.Syntax as s
use Rattle.syntax_trees.specs.declared.syntax.Arm.{Arm, out-Arm}
use Rattle.syntax_trees.specs.declared.syntax.Labeled.{Labeled}
use Rattle.syntax_trees.specs.declared.syntax.RepeatLabels.{RepeatLabels}
use Rattle.syntax_trees.specs.declared.syntax.Statement.{Statement}
use Rattle.mesa_base.specs.declared.place.Place.{Place}
use Rattle.mesa_types.specs.declared.typed_tree.Exit.{Exit}
use Rattle.mesa_types.specs.declared.typed_tree.TypedStmt.{TypedStmt}
use Rattle.check_statement_lists.specs.declared.endings.Left.{Left as LeftHere}
use Rattle.syntax_trees.proofs.PlainForms.{parts_of_arm}
use Rattle.check_rules.specs.Typed as t
use Rattle.check_rules.specs.Around.{Around, in_arm, label_of}
use Rattle.check_rules.specs.Checking as spec
use Rattle.check_rules.specs.Names.{arm_labels}
use Rattle.check_rules.specs.Parts.{distinct, join_stmts, names_of}
use Rattle.check_rules.specs.Statements.{Left, also_left, enter_arm, is_finished, labels_of, new_labels, numbers_from}
use Rattle.check_rules.specs.Steps.{Check, Checked, Fault, State, and_then, ◌>>=◌, pure, lift, in_scope}
use Rattle.check_statement_lists.specs.Turns.{one_arm, one_exit, one_repeat, repeat_behind, statements_behind}
use Rattle.check_statement_lists.specs.Views as views
use Rattle.check_statement_lists.proofs.Chaining.{before_rest, behind, chained, then_two, then_three, then_four}

-- where nothing is handed from part to part
abbrev pub always : {A X : Type 0} → (A → Check (X → X)) → Unit {0} → A → Check (X → X)
always one u = one

abbrev pub stays : {A : Type 0} → Unit {0} → A → Unit {0}
stays u x = u

-- ---- statements

unfoldable pub one_statement : Around → Statement → Check (t.Stmts → t.Stmts)
one_statement a x = spec.statement a (plain.statement x) >>= (λ b. pure (t.AndStmt b))

pub statements_are : (a : Around) (xs : List Statement) (σ : State)
    → spec.statements a (plain.statements xs) σ ≡ chained (always (one_statement a)) stays t.NoStmts tt xs σ
unfolding spec.check chained one_statement
statements_are a [] σ = refl
statements_are a (x ∷ xs) σ =
    then_two (spec.statement a (plain.statement x) σ) (λ b. Ok (t.AndStmt b.0, b.1)) (before_rest (spec.statements a (plain.statements xs)))
    ∙ ap (λ rest. and_then (one_statement a x σ) (before_rest rest)) (λ i τ. statements_are a xs τ i)

pub statement_put : (a : Around) (x : Statement) (b : t.Stmt) (σ τ : State) → spec.statement a (plain.statement x) σ ≡ Ok (b, τ) → one_statement a x σ ≡ Ok (t.AndStmt b, τ)
unfolding one_statement
statement_put a x b σ τ given = ap (λ m. and_then m (λ r. Ok (t.AndStmt r.0, r.1))) given

pub statement_fault : (a : Around) (x : Statement) (σ : State) (e : Fault) → spec.statement a (plain.statement x) σ ≡ Err e → one_statement a x σ ≡ Err e
unfolding one_statement
statement_fault a x σ e given = ap (λ m. and_then m (λ r. Ok (t.AndStmt r.0, r.1))) given

pub behind_are : (a : Around) (before : t.Stmts) (xs : List Statement) (σ : State)
    → statements_behind a before (plain.statements xs) σ ≡ behind (join_stmts before) (chained (always (one_statement a)) stays t.NoStmts tt xs σ)
unfolding statements_behind
behind_are a before xs σ = ap (behind (join_stmts before)) (statements_are a xs σ)

pub behind_none : (a : Around) (ss : s.Statements) (σ : State) → statements_behind a t.NoStmts ss σ ≡ spec.statements a ss σ
unfolding statements_behind join_stmts
behind_none a ss σ = same (spec.statements a ss σ)
  where
    same : (m : Checked (t.Stmts × State)) → and_then m (λ r. Ok (r.0, r.1)) ≡ m
    same (Ok r) = refl
    same (Err e) = refl

-- ---- arms

pub arms_are : (a : Around) (xs : List Arm) (σ : State) → spec.arms a (plain.arms xs) σ ≡ chained (always (one_arm a)) stays t.NoArms tt xs σ
unfolding spec.check chained one_arm
arms_are a [] σ = refl
arms_are a (x ∷ xs) σ =
    ap (λ f. spec.arms a (f (plain.arms xs)) σ) (parts_of_arm x)
    ∙ then_four (arm_labels a (out-Arm x).labels σ) (λ ls. enter_arm a ls.0 ls.1)
    (λ ls p. in_scope p.0.scope (spec.statement (in_arm ls.0 a) (plain.statement (out-Arm x).body)) p.1)
    (λ ls p b. Ok (t.AndArm (map label_of ls.0) p.0.first p.0.count b.0, b.1))
    (before_rest (spec.arms a (plain.arms xs)))
    ∙ ap (λ rest. and_then (one_arm a x σ) (before_rest rest)) (λ i τ. arms_are a xs τ i)

-- ---- EXITS: the number of the next label, and the names of those before

abbrev pub Taken : Type 0
Taken = ℕ × List (List ℕ)

abbrev pub exit_at : Around → Taken → Labeled (List Identifier) Statement → Check (t.Exits → t.Exits)
exit_at a taken x = one_exit a taken.0 taken.1 x

abbrev pub behind_exit : Taken → Labeled (List Identifier) Statement → Taken
behind_exit taken x = (taken.0 + length x.labels, taken.1 ++ names_of x.labels)

pub exits_are : (a : Around) (taken : Taken) (xs : List (Labeled (List Identifier) Statement)) (σ : State)
    → spec.exits a taken.0 taken.1 (plain.exits xs) σ ≡ chained (exit_at a) behind_exit t.NoExits taken xs σ
unfolding spec.check chained one_exit
exits_are a taken [] σ = refl
exits_are a taken (x ∷ xs) σ =
    then_three (lift (distinct taken.1 x.labels) σ) (λ u. spec.statement a (plain.statement x.item) u.1)
    (λ u b. Ok (t.AndExit (numbers_from taken.0 x.labels) b.0, b.1))
    (before_rest (spec.exits a (taken.0 + length x.labels) (taken.1 ++ names_of x.labels) (plain.exits xs)))
    ∙ ap (λ rest. and_then (one_exit a taken.0 taken.1 x σ) (before_rest rest)) (λ i τ. exits_are a (behind_exit taken x) xs τ i)

module _ (a : Around) (n : ℕ) (taken : List (List ℕ)) (x : Labeled (List Identifier) Statement) (σ : State) where
  pub exit_taken : (e : Fault) → distinct taken x.labels ≡ Err e → one_exit a n taken x σ ≡ Err e
  unfolding one_exit
  exit_taken e old = rw old refl

  pub exit_fault : (e : Fault) → distinct taken x.labels ≡ Ok tt → spec.statement a (plain.statement x.item) σ ≡ Err e → one_exit a n taken x σ ≡ Err e
  unfolding one_exit
  exit_fault e new given = rw (new, given) refl

  pub exit_given : (b : t.Stmt) (τ : State) → distinct taken x.labels ≡ Ok tt → spec.statement a (plain.statement x.item) σ ≡ Ok (b, τ)
      → one_exit a n taken x σ ≡ Ok (t.AndExit (numbers_from n x.labels) b, τ)
  unfolding one_exit
  exit_given b τ new given = rw (new, given) refl

-- ---- REPEAT: also whether FINISHED stands before

pub record Before : Type 0 where
  pub number : ℕ
  pub names : List (List ℕ)
  pub finished : Bool

abbrev pub before : ℕ → List (List ℕ) → Bool → Before
before number names finished = record { number = number; names = names; finished = finished }

abbrev pub repeat_at : Around → Before → Labeled RepeatLabels Statement → Check (Left → Left)
repeat_at a now x = one_repeat a now.number now.names now.finished x

abbrev pub behind_repeat : Before → Labeled RepeatLabels Statement → Before
behind_repeat now x = record {
  number = now.number + length (labels_of x.labels);
  names = now.names ++ names_of (labels_of x.labels);
  finished = now.finished || is_finished x.labels;
}

pub repeats_are : (a : Around) (now : Before) (xs : List (Labeled RepeatLabels Statement)) (σ : State)
    → spec.repeats a now.number now.names now.finished (plain.repeats xs) σ ≡ chained (repeat_at a) behind_repeat views.no_more now xs σ
unfolding spec.check chained one_repeat
repeats_are a now [] σ = refl
repeats_are a now (x ∷ xs) σ =
    then_three (lift (new_labels now.names now.finished x.labels) σ) (λ u. spec.statement a (plain.statement x.item) u.1)
    (λ u b. Ok (also_left x.labels now.number b.0, b.1))
    (before_rest (spec.repeats a (behind_repeat now x).number (behind_repeat now x).names (behind_repeat now x).finished (plain.repeats xs)))
    ∙ ap (λ rest. and_then (one_repeat a now.number now.names now.finished x σ) (before_rest rest)) (λ i τ. repeats_are a (behind_repeat now x) xs τ i)

module _ (a : Around) (n : ℕ) (taken : List (List ℕ)) (finished : Bool) (x : Labeled RepeatLabels Statement) (before : Left → Left) (σ : State) where
  pub repeat_taken : (e : Fault) → new_labels taken finished x.labels ≡ Err e → repeat_behind a n taken finished x before σ ≡ Err e
  unfolding one_repeat repeat_behind
  repeat_taken e old = rw old refl

  pub repeat_fault : (e : Fault) → new_labels taken finished x.labels ≡ Ok tt → spec.statement a (plain.statement x.item) σ ≡ Err e → repeat_behind a n taken finished x before σ ≡ Err e
  unfolding one_repeat repeat_behind
  repeat_fault e new given = rw (new, given) refl

  pub repeat_given : (b : t.Stmt) (τ : State) (more : Left → Left) → new_labels taken finished x.labels ≡ Ok tt → spec.statement a (plain.statement x.item) σ ≡ Ok (b, τ)
      → more ≡ (λ later. before (also_left x.labels n b later)) → repeat_behind a n taken finished x before σ ≡ Ok (more, τ)
  unfolding one_repeat repeat_behind
  repeat_given b τ more new given is = rw (new, given) (ap (λ f. Ok (f, τ)) (sym is))

-- ---- what is made, with one more at its end

pub stmts_onto : (done more : List TypedStmt) (x : TypedStmt) → more ≡ done ++ x ∷ [] → join_stmts (views.stmts more) ≡ (λ rest. join_stmts (views.stmts done) (t.AndStmt (tree.stmt x) rest))
unfolding views.stmts join_stmts
stmts_onto done more x is = ap (λ ss. join_stmts (tree.stmts (map tree.stmt ss))) is ∙ (λ i rest. go done rest i)
  where
    go : (done : List TypedStmt) (rest : t.Stmts) → join_stmts (tree.stmts (map tree.stmt (done ++ x ∷ []))) rest ≡ join_stmts (tree.stmts (map tree.stmt done)) (t.AndStmt (tree.stmt x) rest)
    go [] rest = refl
    go (y ∷ ys) rest = ap (t.AndStmt (tree.stmt y)) (go ys rest)

pub join_none : (ss : t.Stmts) → join_stmts ss t.NoStmts ≡ ss
unfolding join_stmts
join_none t.NoStmts = refl
join_none (t.AndStmt x ss) = ap (t.AndStmt x) (join_none ss)

-- of lists whose parts put themselves before the rest
pub chain_onto : {B X : Type 0} (view : B → X → X) (done more : List B) (x : B) → more ≡ done ++ x ∷ [] → tree.chain (map view more) ≡ (λ rest. tree.chain (map view done) (view x rest))
chain_onto {B} {X} view done more x is = ap (λ bs. tree.chain (map view bs)) is ∙ (λ i rest. go done rest i)
  where
    go : (done : List B) (rest : X) → tree.chain (map view (done ++ x ∷ [])) rest ≡ tree.chain (map view done) (view x rest)
    go [] rest = refl
    go (y ∷ ys) rest = ap (view y) (go ys rest)

-- ---- a phrase

pub phrase_none : (a : Around) → spec.phrase a s.NoPhrase ≡ pure t.NoPhrase
unfolding spec.check
phrase_none a = refl

pub phrase_some : (a : Around) (p : Place) (xs : s.Arms) → spec.phrase a (s.Catch p xs) ≡ spec.arms a xs >>= (λ ys. pure (t.Catch a.statement ys))
unfolding spec.check
phrase_some a p xs = refl

-- ---- what a REPEAT has so far

pub nothing_left : (done : LeftHere) → done.exits ≡ [] → done.finished ≡ None → (p : Checked (Left × State)) → p ≡ behind (views.onto done) p
unfolding views.onto
nothing_left done no_exits not_finished (Ok r) = rw (no_exits, not_finished) refl
nothing_left done no_exits not_finished (Err e) = refl

pub onto_exit : (done more : LeftHere) (e : Exit) → more.finished ≡ done.finished → more.exits ≡ done.exits ++ e ∷ []
    → views.onto more ≡ (λ (later : Left). views.onto done (record { exits = tree.exit e later.exits; finished = later.finished }))
unfolding views.onto
onto_exit done more e same longer = λ i later. record { exits = chain_onto tree.exit done.exits more.exits e longer i later.exits; finished = views.or_finish (same i) later.finished }

pub first_finished : (done more : LeftHere) (b : TypedStmt) → more.exits ≡ done.exits → done.finished ≡ None → more.finished ≡ Some b
    → views.onto more ≡ (λ (later : Left). views.onto done (record { exits = later.exits; finished = t.Finished (tree.stmt b) }))
unfolding views.onto
first_finished done more b same none one = λ i later. record {
  exits = tree.chain (map tree.exit (same i)) later.exits;
  finished = (ap (λ o. views.or_finish o later.finished) one ∙ sym (ap (λ o. views.or_finish o (t.Finished (tree.stmt b))) none)) i;
}

pub other_finished : (done more : LeftHere) (b first : TypedStmt) → more.exits ≡ done.exits → done.finished ≡ Some first → more.finished ≡ Some first
    → views.onto more ≡ (λ (later : Left). views.onto done (record { exits = later.exits; finished = t.Finished (tree.stmt b) }))
unfolding views.onto
other_finished done more b first same some one = λ i later. record {
  exits = tree.chain (map tree.exit (same i)) later.exits;
  finished = (ap (λ o. views.or_finish o later.finished) one ∙ sym (ap (λ o. views.or_finish o (t.Finished (tree.stmt b))) some)) i;
}

pub before_is : (m n : ℕ) (names : List (List ℕ)) (f g : Bool) → m ≡ n → f ≡ g → before m names f ≡ before n names g
before_is m n names f g same alike = λ i. before (same i) names (alike i)
