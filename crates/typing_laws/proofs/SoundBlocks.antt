-- Arms, declarations and blocks: from what checking promises of their parts, what it promises of them.
use Rattle.std.proofs.Common.{◌≡◌, ℕ, suc, ◌+◌, List, [], ◌∷◌, ◌++◌, length, refl, sym, ◌∙◌, ap, subst, arith}
use Rattle.std.specs.Prelude.{◌≤◌, ◌≢◌, Bool, true, false, Option, Some, None, Ok, IfOk, All, map, slice_index_or}
use Rattle.mesa_base.specs.declared.place.Place.{Place}
use Rattle.mesa_base.specs.declared.identifier.Identifier.{Identifier}
use Rattle.syntax_trees.specs.declared.syntax.Labels.{Labels}
use Rattle.syntax_trees.specs.Syntax as s
use Rattle.mesa_types.specs.Sound as sound
use Rattle.mesa_types.specs.Typed as points
use Rattle.mesa_types.specs.Constants.{constant}
use Rattle.mesa_types.specs.Counts.{operands_of_stmt, hidden, hidden_arms, hidden_exits, hidden_stmts, hidden_phrase}
use Rattle.mesa_types.specs.Shapes.{one}
use Rattle.check_rules.specs.Typed as t
use Rattle.interface_records.specs.PlainTypes.{PlainType, base_of, kind_of}
use Rattle.check_rules.specs.declared.fault.Cause.{Cause}
use Rattle.check_rules.specs.Scopes.{Scope, nothing}
use Rattle.check_rules.specs.Meanings as m
use Rattle.check_rules.specs.Meanings.{Meaning}
use Rattle.check_rules.specs.Steps.{Check, and_then, ◌>>=◌, pure, or_refuse, in_scope}
use Rattle.check_rules.specs.Around.{Around, ArmLabel, inside, in_constant, with_labels, in_statement, in_arm, parameters_of, label_of}
use Rattle.check_rules.specs.Parts.{first, first_name, names_of, distinct, join_stmts}
use Rattle.check_rules.specs.Ranges.{Typed, Into}
use Rattle.check_rules.specs.Statements.{numbered, Headed, Nothing, Variables, Held, held, text_constant, constant_by, constant_meaning, labels_of_exits, numbers_from}
use Rattle.check_rules.specs.Phrases.{holds, is_catch}
use Rattle.check_rules.specs.Checking.{phrase, arms, statement, statements, exits, block, heads, head, initials, initial}
use Rattle.check_rules.specs.Written.{ExprWritten, PhraseWritten, ArmsWritten, StatementWritten, StatementsWritten, BlockWritten, LocalsWritten, ItemWritten, ExitsWritten}
use Rattle.check_rules.specs.Written as written
use Rattle.check_rules.proofs.SoundTypes.{TypeIn, no_truth}
use Rattle.typing_laws.proofs.SoundConstants.{constant_value_in}
use Rattle.check_rules.specs.Interfaces.{ConstantFits}
use Rattle.typing_laws.proofs.SoundSteps.{World, Spot, at, MeaningIn, Rule, bind, so, under, given, plainly, apart, limited}
use Rattle.typing_laws.proofs.SoundnessStatements.{Inward, PhraseHere, AroundIn, Ready, LabelsIn, ValueIn, CheckedIn, AimIn, Checks}
use Rattle.typing_laws.proofs.SoundLists.{ChecksPhrase}
use Rattle.typing_laws.proofs.SoundNames.{labels_are_seen}
use Rattle.typing_laws.proofs.SoundScopes.{MeaningsIn, inside_scope, no_names, scoped, seen_before, announced, settled, HeadedIn, declared, ArmPlaceIn, arm_entered}
use Rattle.typing_laws.proofs.SoundAround.{behind_member, label_points, marked_spot, labelled_spot, arm_spot, is_arm_spot, in_statement_around, phrase_here, inside_around, constant_spot, constant_around, constant_phrase, is_marked_spot, labelled_around, arm_around, arm_labels_in, arm_given}
use Rattle.typing_laws.proofs.SoundTypeRules.{ChecksType, any_ok}
use Rattle.typing_laws.proofs.SoundStatements.{StatementIn, BodyOf, StatementsIn, ChecksStatement, ChecksStatements, numbered_body}
use Rattle.typing_laws.proofs.SoundLoops.{labels_there, in_labels, numbers_joined}

-- ---- judgements

pub record ArmsOf (W : World) (p : Spot) (n : ℕ) (xs : s.Arms) (ys : t.Arms) (spent hid : ℕ) : Type 0 where
  pub arms : sound.ArmsIn (at W p) n ys
  pub some : written.HasArm xs → sound.HasArm ys
  pub hidden_are : hidden_arms ys ≤ hid

pub record ChecksArms (W : World) (xs : s.Arms) : Type 0 where
  pub by : (flat : Bool) (p : Spot) (a : Around) → Rule W flat (AroundIn W flat p a × ArmsWritten xs) (ArmsOf W p a.statement xs) (arms a xs)

pub record ChecksItem (W : World) (d : s.PlainItem) : Type 0 where
  pub head : (flat : Bool) (p : Spot) (a : Around) (xs : List Identifier) → Inward flat a
      → Rule W flat (AroundIn W flat p a × (xs ≢ []) × ItemWritten d)
      (λ h i j. HeadedIn W p flat h) (head a xs d)
  pub initial : (flat : Bool) (p : Spot) (a : Around) (xs : List Identifier) (h : Headed)
      → Rule W flat (AroundIn W flat p a × ItemWritten d × HeadedIn W p flat h)
      (λ f c g. (ss : t.Stmts) → sound.StmtsIn (at W p) ss → sound.StmtsIn (at W p) (f ss) × (hidden_stmts (f ss) ≤ hidden_stmts ss + g))
      (initial a xs d h)

unfoldable pub EachHeaded : World → Spot → List Headed → Type 0
EachHeaded W p [] = Unit {0}
EachHeaded W p (h ∷ hs) = HeadedIn W p false h × EachHeaded W p hs

pub record ChecksLocals (W : World) (ls : s.Locals) : Type 0 where
  pub heads : (p : Spot) (a : Around) → Rule W false (AroundIn W false p a × LocalsWritten ls) (λ hs i j. EachHeaded W p hs) (heads a ls)
  pub initials : (p : Spot) (a : Around) (hs : List Headed) → Rule W false (AroundIn W false p a × LocalsWritten ls × EachHeaded W p hs)
      (StatementsIn W p)
      (initials a ls hs)

pub record ExitsOf (W : World) (p : Spot) (n : ℕ) (es : s.Exits) (xs : t.Exits) (spent hid : ℕ) : Type 0 where
  pub exits : sound.ExitsIn (at W p) xs
  pub labels : sound.labels_in xs ≡ numbers_from n (labels_of_exits es)
  pub hidden_are : hidden_exits xs ≤ hid

pub record ChecksExits (W : World) (es : s.Exits) : Type 0 where
  pub by : (p : Spot) (a : Around) (n : ℕ) (taken : List (List ℕ)) → Rule W false (AroundIn W false p a × ExitsWritten es) (ExitsOf W p n es)
      (exits a n taken es)

pub record ChecksBlock (W : World) (b : s.Block) : Type 0 where
  pub by : (p : Spot) (a : Around) → Rule W false (AroundIn W false p a × BlockWritten b) (StatementIn W p) (block a b)

module _ (W : World) where
  pub inside_flat : (flat : Bool) (p : Spot) (a : Around) → AroundIn W flat p a → AroundIn W false p a
  inside_flat flat p a h = record {
    takes = h.takes;
    gives = h.gives;
    gives_types = h.gives_types;
    strings = h.strings;
    interfaces = λ n scope e. inside_scope W flat scope (h.interfaces n scope e);
    further = h.further;
    depth = h.depth;
    few = h.few;
    statements = h.statements;
    labels = h.labels;
    labelled = h.labelled;
    exit = h.exit;
    next = h.next;
    leave = h.leave;
    arm = h.arm;
  }

  -- ---- arms
  pub arms_none : ChecksArms W s.NoArms
  unfolding arms sound.ArmsIn written.HasArm hidden_arms
  arms_none = record { by = λ flat p a. given W flat t.NoArms (λ pre. record { arms = tt; some = λ h. absurd h; hidden_are = omega arith }) }

  arm_in : (p : Spot) (n : ℕ) (ls : List ArmLabel) (first count : ℕ) (b : t.Stmt) (more : t.Arms) → LabelsIn W ls → (scope : Scope Meaning)
      → ArmPlaceIn W p (parameters_of ls) (record { scope = scope; first = first; count = count })
      → sound.StmtIn (at W (arm_spot n (map label_of ls) p)) b → sound.ArmsIn (at W p) n more
      → sound.ArmsIn (at W p) n (t.AndArm (map label_of ls) first count b more)
  unfolding sound.ArmsIn
  arm_in p n ls first count b more l scope x i j = (
    arm_labels_in W p ls l,
    _,
    x.count,
    x.locals,
    arm_given W p ls first l x.none,
    subst
        (λ Γ. sound.StmtIn Γ b) (sym (is_arm_spot W n (map label_of ls) p)) i,
    j,
  )

  pub arms_more : (labels : Labels) (body : s.Statement) (rest : s.Arms) → ChecksStatement W body → ChecksArms W rest
      → ChecksArms W (s.AndArm labels body rest)
  unfolding arms ArmsWritten sound.HasArm hidden_arms
  arms_more labels body rest k l = record {
    by = λ flat p a.
        bind W flat (labels_are_seen W flat a labels (λ pre. pre.0) (λ pre. pre.1.0)) (λ ls i j.
        bind W flat (arm_entered W p flat a ls (λ pre. (pre.0.0, pre.1))) (λ x d h.
        bind W flat (scoped W flat x.scope (λ pre. (pre.1).scope) (under W false (λ pre.
        (arm_around W false p a ls (inside_flat flat p a pre.0.0.0) pre.0.1, pre.0.0.1.1))
        (k.by (arm_spot a.statement (map label_of ls) p) (in_arm ls a))))
        (λ b c g.
        bind W flat (under W flat (λ pre. (pre.0.0.0.0, pre.0.0.0.1.2)) (l.by flat p a)) (λ more m n.
        given W flat (t.AndArm (map label_of ls) x.first x.count b more) (λ pre. record {
          arms = arm_in p a.statement ls x.first x.count b more pre.0.0.0.1 x.scope pre.0.0.1 (pre.0.1).statement (pre.1).arms;
          some = λ h. tt;
          hidden_are = omega (arith, (pre.0.1).hidden_are, (pre.1).hidden_are);
        })))));
  }

  pub phrase_none : ChecksPhrase W s.NoPhrase
  unfolding phrase sound.PhraseIn hidden_phrase
  phrase_none = record { by = λ flat p a. given W flat t.NoPhrase (λ pre. record { phrase = tt; hidden_are = omega arith }) }

  caught : (p : Spot) (a : Around) (xs : s.Arms) (ys : t.Arms) (c g : ℕ) → PhraseHere p a → written.HasArm xs → ArmsOf W p a.statement xs ys c g
      → sound.PhraseIn (at W p) (t.Catch a.statement ys)
  unfolding sound.PhraseIn sound.Reaches
  caught p a xs ys c g here some h = (h.some some, (p.depth, here.start, omega arith), (p.depth, here.after, omega arith), h.arms)

  pub phrase_catch : (q : Place) (xs : s.Arms) → ChecksArms W xs → ChecksPhrase W (s.Catch q xs)
  unfolding phrase PhraseWritten hidden_phrase
  phrase_catch q xs k = record {
    by = λ flat p a.
        bind W flat (under W flat (λ pre. (pre.around, pre.written.1)) (k.by flat p a)) (λ ys c g.
        given W flat (t.Catch a.statement ys) (λ pre. record {
          phrase = caught p a xs ys c g ((pre.0).phrase refl) (pre.0).written.0 pre.1;
          hidden_are = omega (arith, (pre.1).hidden_are);
        }));
  }

  -- ---- declarations
  each_type : (flat : Bool) (xs : List Identifier) (k : PlainType) → TypeIn k → MeaningsIn W flat (map (λ x. m.TypeName k) xs)
  unfolding MeaningsIn MeaningIn
  each_type flat [] k h = tt
  each_type flat (x ∷ xs) k h = (h, each_type flat xs k h)

  each_one : (flat : Bool) (xs : List Identifier) (a : Meaning) → MeaningIn W flat a → MeaningsIn W flat (map (λ x. a) xs)
  unfolding MeaningsIn
  each_one flat [] a h = tt
  each_one flat (x ∷ xs) a h = (h, each_one flat xs a h)

  literal_there : (p : Spot) (flat : Bool) (n : ℕ) (ks : t.Kinds) → sound.ExprIn (at W p) (t.Literal n) ks → MeaningIn W flat (m.TextConstant n)
  unfolding MeaningIn sound.ExprIn
  literal_there p flat n ks h = h.0

  texts_meant : (p : Spot) (flat : Bool) (b : Bool) (q : Place) (e : t.Expr) (ks : t.Kinds) → sound.ExprIn (at W p) e ks
      → IfOk (text_constant b q e) (MeaningIn W flat)
  texts_meant p flat true q (t.Literal n) ks h = literal_there p flat n ks h
  texts_meant p flat false q e ks h = tt
  texts_meant p flat true q e ks h = tt

  constant_meant : (p : Spot) (flat : Bool) (o : Option PlainType) (k : PlainType) (b : Bool) (q : Place) (e : t.Expr) → base_of k ≡ o → TypeIn k
      → sound.ExprIn (at W p) e (one (kind_of k)) → IfOk (constant_by o k b q e) (MeaningIn W flat)
  unfolding MeaningIn
  constant_meant p flat (Some base) k b q e d h x = by (constant e) refl _
    where
      made : (n : ℕ) → ConstantFits (kind_of k) n → MeaningIn W flat (m.Constant k n)
      made n i = (i, h)

      by : (o : Option ℕ) → constant e ≡ o → (cause : Cause) → IfOk (and_then (or_refuse o cause q) (λ n. Ok (m.Constant k n))) (MeaningIn W flat)
      by (Some n) f cause = made n (constant_value_in (at W p) e (kind_of k) n x f)
      by None f cause = tt
  constant_meant p flat None k b q e d h x = texts_meant p flat b q e (one (kind_of k)) x

  aimed_value : (p : Spot) (k : PlainType) (y : Typed) (c g : ℕ) → ValueIn W p y c g → y.kind ≡ k → sound.ExprIn (at W p) y.value (one (kind_of k))
  aimed_value p k y c g h e = subst (λ j. sound.ExprIn (at W p) y.value (one (kind_of j))) e h.value

  nothing_headed : (p : Spot) (flat : Bool) → HeadedIn W p flat Nothing
  unfolding HeadedIn
  nothing_headed p flat = tt

  head_type : (e : s.TypeExp) → ChecksType W e → (flat : Bool) (p : Spot) (a : Around) (xs : List Identifier) → Inward flat a
      → Rule W flat (AroundIn W flat p a × (xs ≢ []) × ItemWritten (s.TypeIs e)) (λ h i j. HeadedIn W p flat h) (head a xs (s.TypeIs e))
  unfolding head ItemWritten
  head_type e k flat p a xs o = so W flat (λ h i j pre l. l.2) (limited W flat 0 (first_name xs)
      (bind W flat (announced W flat xs) (λ u c g.
      bind W flat (under W flat (λ pre. (pre.0.0, pre.0.2)) (k.by flat p a)) (λ x d h.
      bind W flat (settled W flat xs (map (λ y. m.TypeName x) xs) (λ pre. each_type flat xs x pre.1)) (λ u i j.
      given W flat Nothing (λ pre. nothing_headed p flat))))))

  head_variable : (e : s.TypeExp) → ChecksType W e → (flat : Bool) (p : Spot) (a : Around) (xs : List Identifier) → Inward flat a
      → Rule W flat (AroundIn W flat p a × (xs ≢ []) × ItemWritten (s.Variable e)) (λ h i j. HeadedIn W p flat h) (head a xs (s.Variable e))
  unfolding head ItemWritten
  head_variable e k flat p a xs o = so W flat (λ h i j pre l. l.2) (limited W flat 0 (first_name xs)
      (bind W flat (announced W flat xs) (λ u c g.
      bind W flat (under W flat (λ pre. (pre.0.0, pre.0.2)) (k.by flat p a)) (λ x d h.
      under W flat (λ pre. (pre.0.0.0, pre.1, pre.0.0.1)) (declared W p flat a xs x 0 o)))))

  head_initial : (e : s.TypeExp) (x : s.Expr) → ChecksType W e → (flat : Bool) (p : Spot) (a : Around) (xs : List Identifier) → Inward flat a
      → Rule W flat (AroundIn W flat p a × (xs ≢ []) × ItemWritten (s.Initial e x)) (λ h i j. HeadedIn W p flat h) (head a xs (s.Initial e x))
  unfolding head ItemWritten
  head_initial e x k flat p a xs o =
      bind W flat (announced W flat xs) (λ u c g.
      bind W flat (apart W flat (under W flat (λ pre. (pre.0.0, pre.0.2.0)) (k.by flat p a))) (λ y d h.
      under W flat (λ pre. (pre.0.0.0, pre.1, pre.0.0.1)) (declared W p flat a xs y.0 y.1 o)))

  head_constant : (e : s.TypeExp) (x : s.Expr) → ChecksType W e → Checks W x → (flat : Bool) (p : Spot) (a : Around) (xs : List Identifier)
      → Inward flat a
      → Rule W flat (AroundIn W flat p a × (xs ≢ []) × ItemWritten (s.Constant e x)) (λ h i j. HeadedIn W p flat h) (head a xs (s.Constant e x))
  unfolding head ItemWritten constant_meaning CheckedIn AimIn
  head_constant e x k l flat p a xs o = so W flat (λ h i j pre l. l.2) (limited W flat 0 (first_name xs)
      (bind W flat (announced W flat xs) (λ u c g.
      bind W flat (under W flat (λ pre. (pre.0.0, pre.0.2.0)) (k.by flat p a)) (λ y d h.
      bind W flat (under W flat (λ pre. (
        record {
          around = constant_around W flat p a (first x) pre.0.0.0;
          phrase = λ e. constant_phrase W p a (first x);
          written = pre.0.0.2.1;
        },
        pre.1,
      )) (l.by flat (constant_spot W p a) (in_constant (first x) a) (Into y (first x)))) (λ z i j.
      bind W flat (plainly W flat {P = MeaningIn W flat} (constant_meaning a y x (first x) z.value) (λ pre.
      constant_meant (constant_spot W p a) flat (base_of y) y _ (first x) z.value refl pre.0.1
      (aimed_value (constant_spot W p a) y z i j pre.1.0 pre.1.1)))
      (λ w m' n'.
      bind W flat (settled W flat xs (map (λ y. w) xs) (λ pre. each_one flat xs w pre.1)) (λ u m n.
      given W flat Nothing (λ pre. nothing_headed p flat))))))))

  -- ---- initial values
  PutsOf : Spot → (t.Stmts → t.Stmts) → ℕ → Type 0
  PutsOf p f g = (ss : t.Stmts) → sound.StmtsIn (at W p) ss → sound.StmtsIn (at W p) (f ss) × (hidden_stmts (f ss) ≤ hidden_stmts ss + g)

  puts_none : (p : Spot) → PutsOf p (λ ss. ss) 0
  unfolding PutsOf
  puts_none p ss h = (h, omega arith)

  puts_one : (p : Spot) (x : t.Stmt) (g : ℕ) → sound.StmtIn (at W p) x → hidden x ≤ g → PutsOf p (t.AndStmt x) g
  unfolding PutsOf sound.StmtsIn hidden_stmts
  puts_one p x g h i ss j = ((h, j), omega (arith, i))

  initial_variable : (flat : Bool) (p : Spot) (a : Around) (xs : List Identifier) (e : s.TypeExp) (h : Headed)
      → Rule W flat (AroundIn W flat p a × ItemWritten (s.Variable e) × HeadedIn W p flat h) (λ f c g. PutsOf p f g) (initial a xs (s.Variable e) h)
  unfolding initial HeadedIn sound.StmtIn hidden
  initial_variable flat p a xs e Nothing = given W flat (λ ss. ss) (λ pre. puts_none p)
  initial_variable flat p a xs e (Variables homes k seen words) = given W flat (t.AndStmt (t.Declare homes (kind_of k)))
      (λ pre. puts_one p (t.Declare homes (kind_of k)) 0 (pre.2.0, pre.2.1) (omega arith))

  declare_as : (p : Spot) (homes : List t.Home) (k : PlainType) (y : Typed) (c g : ℕ) → homes ≢ []
      → All (λ h. sound.VariableIn (at W p) h (kind_of k)) homes
      → ValueIn W p y c g → y.kind ≡ k
      → BodyOf W p (t.DeclareAs homes (kind_of k) y.value) (c + 0) (g + 0)
  unfolding sound.StmtIn sound.Fits operands_of_stmt hidden
  declare_as p homes k y c g some there h e = record {
    statement = λ fits. (fits, some, there, aimed_value p k y c g h e);
    operands_are = omega (arith, h.operands_are);
    hidden_are = omega (arith, h.hidden_are);
  }

  -- variables are visible at each place of their body
  homes_moved : (p q : Spot) (k : t.Kind) (hs : List t.Home) → All (λ h. sound.VariableIn (at W p) h k) hs → All (λ h. sound.VariableIn (at W q) h k) hs
  unfolding sound.VariableIn
  homes_moved p q k hs h = λ i d small. moved (slice_index_or hs i d) (h i d small)
    where
      moved : (h : t.Home) → sound.VariableIn (at W p) h k → sound.VariableIn (at W q) h k
      moved (t.Global n) h = h
      moved (t.Local n) h = h

  initial_given : (flat : Bool) (p : Spot) (a : Around) (xs : List Identifier) (e : s.TypeExp) (x : s.Expr) → Checks W x → (h : Headed)
      → Rule W flat (AroundIn W flat p a × ItemWritten (s.Initial e x) × HeadedIn W p flat h) (λ f c g. PutsOf p f g)
      (initial a xs (s.Initial e x) h)
  unfolding initial HeadedIn ItemWritten CheckedIn AimIn
  initial_given flat p a xs e x l Nothing = given W flat (λ ss. ss) (λ pre. puts_none p)
  initial_given flat p a xs e x l (Variables homes k seen words) = seen_before W flat seen (λ pre. pre.2.3)
      (bind W flat (limited W flat words (first_name xs) (under W flat (λ pre. (pre.0, (pre.1.1, pre.2)))
      (numbered_body W flat (holds x) p a {X = ExprWritten x × HeadedIn W p flat (Variables homes k seen words)} _ (λ q b mark.
      bind W flat (under W flat (λ pre. (record { around = pre.around; phrase = pre.phrase; written = pre.written.0 }, pre.written.1.2))
      (l.by flat q b (Into k (first x)))) (λ y c g.
      given W flat (t.DeclareAs homes (kind_of k) y.value) (λ pre. declare_as q homes k y c g (pre.0).written.1.0
      (homes_moved p q (kind_of k) homes (pre.0).written.1.1) pre.1.0 pre.1.1))))))
      (λ z c g. given W flat (t.AndStmt z) (λ pre. puts_one p z (g + 0) (((pre.1).2).statement (omega (arith, (pre.1).1, ((pre.1).2).operands_are)))
      (omega (arith, ((pre.1).2).hidden_are)))))

  pub item_type : (e : s.TypeExp) → ChecksType W e → ChecksItem W (s.TypeIs e)
  unfolding initial PutsOf
  item_type e k = record { head = head_type e k; initial = λ flat p a xs h. by flat p a xs h }
    where
      by : (flat : Bool) (p : Spot) (a : Around) (xs : List Identifier) (h : Headed) → Rule W flat
          (AroundIn W flat p a × ItemWritten (s.TypeIs e) × HeadedIn W p flat h)
          (λ f c g. PutsOf p f g) (initial a xs (s.TypeIs e) h)
      by flat p a xs h = given W flat (λ ss. ss) (λ pre. puts_none p)

  pub item_variable : (e : s.TypeExp) → ChecksType W e → ChecksItem W (s.Variable e)
  unfolding PutsOf
  item_variable e k = record { head = head_variable e k; initial = λ flat p a xs h. initial_variable flat p a xs e h }

  pub item_initial : (e : s.TypeExp) (x : s.Expr) → ChecksType W e → Checks W x → ChecksItem W (s.Initial e x)
  unfolding PutsOf
  item_initial e x k l = record { head = head_initial e x k; initial = λ flat p a xs h. initial_given flat p a xs e x l h }

  pub item_constant : (e : s.TypeExp) (x : s.Expr) → ChecksType W e → Checks W x → ChecksItem W (s.Constant e x)
  unfolding initial PutsOf
  item_constant e x k l = record { head = head_constant e x k l; initial = λ flat p a xs h. by flat p a xs h }
    where
      by : (flat : Bool) (p : Spot) (a : Around) (xs : List Identifier) (h : Headed) → Rule W flat
          (AroundIn W flat p a × ItemWritten (s.Constant e x) × HeadedIn W p flat h) (λ f c g. PutsOf p f g) (initial a xs (s.Constant e x) h)
      by flat p a xs h = given W flat (λ ss. ss) (λ pre. puts_none p)

  -- ---- the declarations of a block
  no_stmts : (p : Spot) (c g : ℕ) → StatementsIn W p t.NoStmts c g
  unfolding sound.StmtsIn hidden_stmts
  no_stmts p c g = record { statements = tt; hidden_are = omega arith }

  pub locals_none : ChecksLocals W s.NoLocals
  unfolding heads initials EachHeaded
  locals_none = record { heads = λ p a. given W false [] (λ pre. tt); initials = λ p a hs. given W false t.NoStmts (λ pre. no_stmts p 0 0) }

  pub locals_more : (xs : List Identifier) (d : s.PlainItem) (rest : s.Locals) → ChecksItem W d → ChecksLocals W rest
      → ChecksLocals W (s.AndLocal xs d rest)
  unfolding heads initials LocalsWritten EachHeaded
  locals_more xs d rest k l = record {
    heads = λ p a.
        bind W false (under W false (λ pre. (pre.0, pre.1.0, pre.1.1)) (k.head false p a xs (λ e. refl))) (λ h c g.
        bind W false (under W false (λ pre. (pre.0.0, pre.0.1.2)) (l.heads p a)) (λ hs m n.
        given W false (h ∷ hs) (λ pre. (pre.0.1, pre.1))));
    initials = λ p a hs. by p a hs;
  }
    where
      by : (p : Spot) (a : Around) (hs : List Headed) → Rule W false (AroundIn W false p a × LocalsWritten (s.AndLocal xs d rest) × EachHeaded W p hs)
          (StatementsIn W p) (initials a (s.AndLocal xs d rest) hs)
      by p a [] = given W false t.NoStmts (λ pre. no_stmts p 0 0)
      by p a (h ∷ hs) =
          bind W false (under W false (λ pre. (pre.0, pre.1.1, pre.2.0)) (k.initial false p a xs h)) (λ f c g.
          bind W false (under W false (λ pre. (pre.0.0, pre.0.1.2, pre.0.2.1)) (l.initials p a hs)) (λ ss m n.
          given W false (f ss) (λ pre. let r = pre.0.1 ss (pre.1).statements in record
          { statements = r.0; hidden_are = omega (arith, r.1, (pre.1).hidden_are) })))

  -- ---- EXITS
  some_numbers : (n : ℕ) (xs : List Identifier) → xs ≢ [] → numbers_from n xs ≢ []
  unfolding numbers_from
  some_numbers n [] h e = h refl
  some_numbers n (x ∷ xs) h e = let no : suc (length (numbers_from (n + 1) xs)) ≡ 0 = ap length e in omega (arith, no)

  pub exits_none : ChecksExits W s.NoExits
  unfolding exits sound.ExitsIn sound.labels_in labels_of_exits numbers_from hidden_exits
  exits_none = record { by = λ p a n taken. given W false t.NoExits (λ pre. record { exits = tt; labels = refl; hidden_are = omega arith }) }

  pub exits_more : (xs : List Identifier) (x : s.Statement) (es : s.Exits) → ChecksStatement W x → ChecksExits W es → ChecksExits W (s.AndExit xs x es)
  unfolding exits ExitsWritten sound.ExitsIn sound.labels_in labels_of_exits hidden_exits
  exits_more xs x es k l = record {
    by = λ p a n taken.
        bind W false (plainly W false {P = λ u. Unit {0}} (distinct taken xs) (λ pre. any_ok (distinct taken xs))) (λ u i j.
        bind W false (under W false (λ pre. (pre.0.0, pre.0.1.1)) (k.by p a)) (λ b c g.
        bind W false (under W false (λ pre. (pre.0.0.0, pre.0.0.1.2)) (l.by p a (n + length xs) (taken ++ names_of xs))) (λ ys d h.
        given W false (t.AndExit (numbers_from n xs) b ys) (λ pre. record {
          exits = (some_numbers n xs pre.0.0.0.1.0, (pre.0.1).statement, (pre.1).exits);
          labels = ap (λ ns. numbers_from n xs ++ ns) (pre.1).labels ∙ sym (numbers_joined n xs (labels_of_exits es));
          hidden_are = omega (arith, (pre.0.1).hidden_are, (pre.1).hidden_are);
        }))));
  }

  -- ---- blocks
  pub joined_in : (p : Spot) (xs ys : t.Stmts) → sound.StmtsIn (at W p) xs → sound.StmtsIn (at W p) ys → sound.StmtsIn (at W p) (join_stmts xs ys)
  unfolding sound.StmtsIn join_stmts
  joined_in p t.NoStmts ys h i = i
  joined_in p (t.AndStmt x xs) ys h i = (h.0, joined_in p xs ys h.1 i)

  pub joined_hidden : (xs ys : t.Stmts) → hidden_stmts (join_stmts xs ys) ≡ hidden_stmts xs + hidden_stmts ys
  unfolding hidden_stmts join_stmts
  joined_hidden t.NoStmts ys = omega arith
  joined_hidden (t.AndStmt x xs) ys = omega (arith, joined_hidden xs ys)

  pub labelled_phrase : (p : Spot) (a : Around) (xs : List Identifier) → PhraseHere p a
      → PhraseHere (labelled_spot (a.labelled + length xs) (numbers_from a.labelled xs) p) (with_labels xs (inside a))
  unfolding labelled_spot
  labelled_phrase p a xs h = record {
    start = behind_member (label_points p.depth (numbers_from a.labelled xs)) p.points (record { point = points.Start a.statement; depth = p.depth })
        h.start;
    after = behind_member (label_points p.depth (numbers_from a.labelled xs)) p.points (record { point = points.After a.statement; depth = p.depth })
        h.after;
  }

  pub record HeldIn (p : Spot) (x : Held) (spent hid : ℕ) : Type 0 where
    pub phrase : sound.PhraseIn (at W p) x.phrase
    pub statements : sound.StmtsIn (at W p) x.statements
    pub hidden_are : hidden_phrase x.phrase + hidden_stmts x.statements ≤ hid

  pub block_in : (p : Spot) (n : ℕ) (es : s.Exits) (x : Held) (xs : t.Exits) (c g d h : ℕ) → p.labels ≤ n
      → HeldIn (labelled_spot (n + length (labels_of_exits es)) (numbers_from n (labels_of_exits es)) p) x c g → ExitsOf W p n es xs d h
      → sound.StmtIn (at W p) (t.Block x.phrase x.statements xs)
  unfolding sound.StmtIn
  block_in p n es x xs c g d h small a b =
      let past = n + length (labels_of_exits es) in
      let ns = numbers_from n (labels_of_exits es) in (
        past,
        labels_there W p n (labels_of_exits es) xs small b.labels,
        in_labels W p past ns xs (λ Γ. sound.PhraseIn Γ x.phrase) b.labels a.phrase,
        in_labels W p past ns xs (λ Γ. sound.StmtsIn Γ x.statements) b.labels
            a.statements,
        b.exits,
      )

  numbered_still : (b : Bool) (p : Spot) (a : Around) {X : Type 0} (rule : Around → Check t.Stmt)
      → ((q : Spot) (c : Around) → Rule W false (Ready W false q c b X) (StatementIn W q) (rule c))
      → Rule W false (AroundIn W false p a × X) (StatementIn W p) (numbered a b rule)
  unfolding sound.StmtIn hidden
  numbered_still true p a rule h =
      bind W false (under W false (λ pre. record { around = in_statement_around W false p a pre.0; phrase = λ e. phrase_here W p a; written = pre.1 })
      (h (marked_spot a.marked p) (in_statement a))) (λ x c g.
      given W false (t.Marked a.marked x) (λ pre. record {
        statement = marked_in p a.marked x (pre.0.0).statements (pre.1).statement;
        hidden_are = omega (arith, (pre.1).hidden_are);
      }))
    where
      marked_in : (p : Spot) (n : ℕ) (x : t.Stmt) → p.statements ≤ n → sound.StmtIn (at W (marked_spot n p)) x → sound.StmtIn (at W p) (t.Marked n x)
      marked_in p n x h i = (h, subst (λ Γ. sound.StmtIn Γ x) (sym (is_marked_spot W n p)) i)
  numbered_still false p a rule h = under W false (λ pre. record { around = pre.0; phrase = λ e. no_truth e; written = pre.1 }) (h p a)

  pub block_of : (q : Place) (ph : s.Phrase) (ls : s.Locals) (ss : s.Statements) (es : s.Exits) → ChecksPhrase W ph → ChecksLocals W ls
      → ChecksStatements W ss
      → ChecksExits W es → ChecksBlock W (s.BlockOf q ph ls ss es)
  unfolding block BlockWritten hidden
  block_of q ph ls ss es k l m n = record {
    by = λ p a. numbered_still (is_catch ph) p a
        {X = PhraseWritten ph × LocalsWritten ls × StatementsWritten ss × ExitsWritten es} _ (λ o b. by o b);
  }
    where
      xs : List Identifier
      xs = labels_of_exits es

      z : Spot → Around → Spot
      z o b = labelled_spot (b.labelled + length xs) (numbers_from b.labelled xs) o

      c : Around → Around
      c b = with_labels xs (inside b)

      around : (o : Spot) (b : Around) → AroundIn W false o b → AroundIn W false (z o b) (c b)
      around o b h = labelled_around W false o (inside b) xs (inside_around W false o b h)

      by : (o : Spot) (b : Around) → Rule W false (Ready W false o b (is_catch ph)
          (PhraseWritten ph × LocalsWritten ls × StatementsWritten ss × ExitsWritten es)) (StatementIn W o)
          (in_scope nothing (heads (c b) ls >>= (λ hs. phrase (c b) ph >>= (λ w. initials (c b) ls hs >>=
          (λ ds. statements (c b) ss >>= (λ bs. pure (held w ds bs))))))
          >>= (λ x. exits b b.labelled [] es >>= (λ ys. pure (t.Block x.phrase x.statements ys))))
      by o b =
          bind W false (scoped W false nothing (λ pre. no_names W false) (inner o b)) (λ x i g.
          bind W false (under W false (λ pre. ((pre.0).around, (pre.0).written.3)) (n.by o b b.labelled [])) (λ ys d h.
          given W false (t.Block x.phrase x.statements ys) (λ pre. record {
            statement = block_in o b.labelled es x ys i g d h ((pre.0.0).around).labels pre.0.1 pre.1;
            hidden_are = hides x ys i g d h (i + (d + 0)) (g + (h + 0)) (omega arith) pre.0.1 pre.1;
          })))
        where
          hides : (x : Held) (ys : t.Exits) (i g d h c' g' : ℕ) → g + h ≤ g' → HeldIn (z o b) x i g → ExitsOf W o b.labelled es ys d h
              → hidden (t.Block x.phrase x.statements ys) ≤ g'
          hides x ys i g d h c' g' j a e = omega (arith, j, a.hidden_are, e.hidden_are)

          inner : (o : Spot) (b : Around) → Rule W false (Ready W false o b (is_catch ph)
              (PhraseWritten ph × LocalsWritten ls × StatementsWritten ss × ExitsWritten es)) (HeldIn (z o b))
              (heads (c b) ls >>= (λ hs. phrase (c b) ph >>= (λ w. initials (c b) ls hs >>=
              (λ ds. statements (c b) ss >>= (λ bs. pure (held w ds bs))))))
          inner o b =
              bind W false (under W false (λ pre. (around o b pre.around, pre.written.1)) (l.heads (z o b) (c b))) (λ hs i g.
              bind W false (under W false (λ pre. record {
                around = around o b (pre.0).around;
                phrase = λ e. labelled_phrase o b xs ((pre.0).phrase e);
                written = (pre.0).written.0;
              }) (k.by false (z o b) (c b))) (λ w d h.
              bind W false (under W false (λ pre. (around o b (pre.0.0).around, (pre.0.0).written.1, pre.0.1)) (l.initials (z o b) (c b) hs)) (λ ds e f.
              bind W false (under W false (λ pre. (around o b (pre.0.0.0).around, (pre.0.0.0).written.2)) (m.by (z o b) (c b))) (λ bs i' g'.
              given W false (held w ds bs) (λ pre. record {
                phrase = (pre.0.0.1).phrase;
                statements = joined_in (z o b) ds bs (pre.0.1).statements (pre.1).statements;
                hidden_are = omega (arith, joined_hidden ds bs, (pre.0.0.1).hidden_are, (pre.0.1).hidden_are, (pre.1).hidden_are);
              })))))

  pub statement_nested : (b : s.Block) → ChecksBlock W b → ChecksStatement W (s.Nested b)
  unfolding statement StatementWritten
  statement_nested b k = record { by = λ p a. k.by p a }
