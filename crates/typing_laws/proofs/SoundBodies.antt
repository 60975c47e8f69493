-- What checking gives of each part of a text is sound: one induction over the syntax, a line for each form.
use Rattle.syntax_trees.specs.Syntax as s
use Rattle.typing_laws.proofs.SoundSteps.{World}
use Rattle.typing_laws.proofs.SoundnessStatements.{Checks, ChecksSums, ChecksTruths, ChecksInterval}
use Rattle.typing_laws.proofs.SoundExpressions as e
use Rattle.typing_laws.proofs.SoundLists as l
use Rattle.typing_laws.proofs.SoundLists.{ChecksExprs, ChecksKeyed, ChecksItems, ChecksPhrase, ChecksBrackets, ChecksSuffixes, ChecksMaybe, ChecksRaise}
use Rattle.typing_laws.proofs.SoundTypeRules as ty
use Rattle.typing_laws.proofs.SoundTypeRules.{ChecksType, ChecksFields, ChecksNamed, ChecksTypes, ChecksBounds}
use Rattle.typing_laws.proofs.SoundStatements as st
use Rattle.typing_laws.proofs.SoundStatements.{ChecksStatement, ChecksOther, ChecksStatements, ChecksLeft}
use Rattle.typing_laws.proofs.SoundLoops as lo
use Rattle.typing_laws.proofs.SoundLoops.{ChecksTests, ChecksCases, ChecksCount, ChecksCondition, ChecksControl, ChecksRepeats}
use Rattle.typing_laws.proofs.SoundExtractors as x
use Rattle.typing_laws.proofs.SoundExtractors.{ChecksLefts, ChecksKeyedLefts, ChecksTargets}
use Rattle.typing_laws.proofs.SoundBlocks as b
use Rattle.typing_laws.proofs.SoundBlocks.{ChecksArms, ChecksItem, ChecksLocals, ChecksExits, ChecksBlock}

module _ (W : World) where
  mutual
    pub type_checks : (y : s.TypeExp) → ChecksType W y
    type_checks (s.Integer q) = (ty.type_plain W q).0
    type_checks (s.Cardinal q) = (ty.type_plain W q).1
    type_checks (s.LongInteger q) = (ty.type_plain W q).5
    type_checks (s.LongCardinal q) = (ty.type_plain W q).6
    type_checks (s.Boolean q) = (ty.type_plain W q).2
    type_checks (s.Character q) = (ty.type_plain W q).3
    type_checks (s.String q) = (ty.type_plain W q).4
    type_checks (s.Called n) = ty.type_called W n
    type_checks (s.Enumeration q ns) = ty.type_enumeration W q ns
    type_checks (s.Subrange n i) = ty.type_subrange W n i (bounds_check i)
    type_checks (s.Array q i y) = ty.type_array W q i y (type_checks i) (type_checks y)
    type_checks (s.Record q fs) = ty.type_record W q fs (fields_check fs)

    pub fields_check : (fs : s.FieldList) → ChecksFields W fs
    fields_check (s.WithNames fs) = ty.fields_named W fs (named_check fs)
    fields_check (s.Unnamed ys) = ty.fields_unnamed W ys (types_check ys)

    pub named_check : (fs : s.NamedFields) → ChecksNamed W fs
    named_check s.NoFields = ty.named_none W
    named_check (s.AndFields ns y fs) = ty.named_more W ns y fs (type_checks y) (named_check fs)

    pub types_check : (ys : s.TypeExps) → ChecksTypes W ys
    types_check s.NoTypes = ty.types_none W
    types_check (s.AndType y ys) = ty.types_more W y ys (type_checks y) (types_check ys)

    pub bounds_check : (i : s.Interval) → ChecksBounds W i
    bounds_check (s.Between q m low high n) = ty.bounds_checked W q m low high n (checks low) (checks high)

    pub interval_checks : (i : s.Interval) → ChecksInterval W i
    interval_checks (s.Between q m low high n) = e.check_interval W q m low high n (checks low) (checks high)

    pub checks : (y : s.Expr) → Checks W y
    checks (s.Run y ss) = e.check_run W y ss (checks y) (sums_check ss) (truths_check ss)
    checks (s.Not q y) = e.check_not W q y (checks y)
    checks (s.Compare d n o q y) = e.check_compare W d n o q y (checks d) (checks y)
    checks (s.Within y n q i) = e.check_within W y n q i (checks y) (interval_checks i)
    checks (s.Signed n q y) = e.check_signed W n q y (checks y)
    checks (s.NumberLiteral q n) = e.check_number W q n
    checks (s.CharacterLiteral q n) = e.check_letter W q n
    checks (s.StringLiteral q n) = e.check_string W q n
    checks (s.Truth q n) = e.check_truth W q n
    checks (s.Parenthesis q y) = e.check_parenthesis W q y (checks y)
    checks (s.Reference (s.LeftOf n ss)) = l.check_reference W n ss (suffixes_check ss)
    checks (s.Constructor q is) = l.check_constructor W q is (items_check is)
    checks (s.Raised r) = l.check_raised W r (raise_checks r)

    pub sums_check : (ss : s.Operations) → ChecksSums W ss
    sums_check s.NoOperation = e.sums_none W
    sums_check (s.AndOperation o q y ss) = e.sums_more W o q y ss (checks y) (sums_check ss)

    pub truths_check : (ss : s.Operations) → ChecksTruths W ss
    truths_check s.NoOperation = e.truths_none W
    truths_check (s.AndOperation o q y ss) = e.truths_more W o q y ss (checks y) (truths_check ss)

    pub left_checks : (y : s.Left) → ChecksLeft W y
    left_checks (s.LeftOf n ss) = st.left_target W n ss (suffixes_check ss)

    pub suffixes_check : (ss : s.Suffixes) → ChecksSuffixes W ss
    suffixes_check s.NoSuffix = l.walk_none W
    suffixes_check (s.Field n ss) = l.walk_field W n ss (suffixes_check ss)
    suffixes_check (s.Applied n ss) = l.walk_applied W n ss (brackets_check n) (suffixes_check ss)

    pub brackets_check : (y : s.Brackets) → ChecksBrackets W y
    brackets_check (s.BracketsOf q is ph) = l.apply_brackets W q is ph (items_check is) (phrase_checks ph)

    pub items_check : (is : s.Items) → ChecksItems W is
    items_check s.Nothing = l.items_none W
    items_check (s.InOrder ys) = l.items_in_order W ys (exprs_check ys)
    items_check (s.ByKey ys) = l.items_by_key W ys (keyed_check ys)

    pub exprs_check : (ys : s.Exprs) → ChecksExprs W ys
    exprs_check s.NoExprs = l.values_none W
    exprs_check (s.AndExpr y ys) = l.values_more W y ys (checks y) (exprs_check ys)

    pub keyed_check : (ys : s.KeyedExprs) → ChecksKeyed W ys
    keyed_check s.NoKeyedExprs = l.keyed_none W
    keyed_check (s.AndKeyedExpr n y ys) = l.keyed_more W n y ys (checks y) (keyed_check ys)

    pub raise_checks : (r : s.Raise) → ChecksRaise W r
    raise_checks (s.SignalRaise q n y) = l.raise_signal W q n y (maybe_checks y)
    raise_checks (s.ErrorRaise q n y) = l.raise_error W q n y (maybe_checks y)
    raise_checks (s.UnnamedError q) = l.raise_unnamed W q

    pub maybe_checks : (y : s.MaybeBrackets) → ChecksMaybe W y
    maybe_checks s.NoBrackets = l.raise_bare W
    maybe_checks (s.WithBrackets (s.BracketsOf q is ph)) = l.raise_brackets W q is ph (items_check is) (phrase_checks ph)

    pub phrase_checks : (ph : s.Phrase) → ChecksPhrase W ph
    phrase_checks s.NoPhrase = b.phrase_none W
    phrase_checks (s.Catch q ys) = b.phrase_catch W q ys (arms_check ys)

    pub arms_check : (ys : s.Arms) → ChecksArms W ys
    arms_check s.NoArms = b.arms_none W
    arms_check (s.AndArm ls y ys) = b.arms_more W ls y ys (statement_checks y) (arms_check ys)

    pub statement_checks : (y : s.Statement) → ChecksStatement W y
    statement_checks (s.Null q) = st.statement_null W q
    statement_checks (s.Nested y) = b.statement_nested W y (block_checks y)
    statement_checks (s.Assign n y) = st.statement_assign W n y (left_checks n) (checks y)
    statement_checks (s.Extract q ts y) = x.statement_extract W q ts y (targets_check ts) (checks y)
    statement_checks (s.Call (s.LeftOf n ss)) = st.statement_call W n ss (suffixes_check ss)
    statement_checks (s.RaiseStatement r) = st.statement_raise W r (raise_checks r)
    statement_checks (s.If q y z o) = st.statement_if W q y z o (checks y) (statement_checks z) (other_checks o)
    statement_checks (s.Select q y cs o) = lo.statement_select W q y cs o (checks y) (cases_check cs) (other_checks o)
    statement_checks (s.Loop c q ph ss rs) = lo.statement_loop W c q ph ss rs (control_checks c) (phrase_checks ph) (statements_check ss) (repeats_check rs)
    statement_checks (s.ExitLoop q) = st.statement_exit W q
    statement_checks (s.NextTurn q) = st.statement_next W q
    statement_checks (s.Goto q n) = st.statement_goto W q n
    statement_checks (s.Return q s.NoItems) = st.statement_return W q
    statement_checks (s.Return q (s.WithItems r is)) = st.statement_returns W q r is (items_check is)
    statement_checks (s.Resume q s.NoItems) = st.statement_resume W q
    statement_checks (s.Resume q (s.WithItems r is)) = st.statement_resumes W q r is (items_check is)
    statement_checks (s.Reject q) = st.statement_reject W q
    statement_checks (s.Retry q) = st.statement_retry W q
    statement_checks (s.Continue q) = st.statement_continue W q

    pub other_checks : (y : s.MaybeStatement) → ChecksOther W y
    other_checks s.NoStatement = st.other_none W
    other_checks (s.OneStatement y) = st.other_one W y (statement_checks y)

    pub statements_check : (ys : s.Statements) → ChecksStatements W ys
    statements_check s.NoStatements = st.statements_none W
    statements_check (s.AndStatement y ys) = st.statements_more W y ys (statement_checks y) (statements_check ys)

    pub targets_check : (ts : s.Targets) → ChecksTargets W ts
    targets_check s.NoTarget = x.targets_none W
    targets_check (s.TargetsInOrder ys) = x.targets_ordered W ys (lefts_check ys)
    targets_check (s.TargetsByKey ys) = x.targets_keyed W ys (keyed_lefts_check ys)

    pub lefts_check : (ys : s.Lefts) → ChecksLefts W ys
    lefts_check s.NoLefts = x.lefts_none W
    lefts_check (s.AndLeft y ys) = x.lefts_more W y ys (left_checks y) (lefts_check ys)

    pub keyed_lefts_check : (ys : s.KeyedLefts) → ChecksKeyedLefts W ys
    keyed_lefts_check s.NoKeyedLefts = x.keyed_lefts_none W
    keyed_lefts_check (s.AndKeyedLeft n y ys) = x.keyed_lefts_more W n y ys (left_checks y) (keyed_lefts_check ys)

    pub control_checks : (c : s.Control) → ChecksControl W c
    control_checks (s.ControlOf n c) = lo.control_of W n c (count_checks n) (condition_checks c)

    pub count_checks : (n : s.Count) → ChecksCount W n
    count_checks s.NoCount = lo.count_none W
    count_checks (s.For q n down i) = lo.count_for W q n down i (interval_checks i)
    count_checks (s.Through q i) = lo.count_through W q i (interval_checks i)

    pub condition_checks : (c : s.Condition) → ChecksCondition W c
    condition_checks s.Always = lo.condition_always W
    condition_checks (s.While q y) = lo.condition_while W q y (checks y)
    condition_checks (s.Until q y) = lo.condition_until W q y (checks y)

    pub cases_check : (cs : s.Cases) → ChecksCases W cs
    cases_check s.NoCases = lo.cases_none W
    cases_check (s.AndCase ts y cs) = lo.cases_more W ts y cs (tests_check ts) (statement_checks y) (cases_check cs)

    pub tests_check : (ts : s.Tests) → ChecksTests W ts
    tests_check s.NoTests = lo.tests_none W
    tests_check (s.Value y ts) = lo.tests_value W y ts (checks y) (tests_check ts)
    tests_check (s.Compared n o q y ts) = lo.tests_compared W n o q y ts (checks y) (tests_check ts)
    tests_check (s.Inside n q i ts) = lo.tests_inside W n q i ts (interval_checks i) (tests_check ts)

    pub block_checks : (y : s.Block) → ChecksBlock W y
    block_checks (s.BlockOf q ph ls ss es) = b.block_of W q ph ls ss es (phrase_checks ph) (locals_check ls) (statements_check ss) (exits_check es)

    pub locals_check : (ls : s.Locals) → ChecksLocals W ls
    locals_check s.NoLocals = b.locals_none W
    locals_check (s.AndLocal ns d ls) = b.locals_more W ns d ls (item_checks d) (locals_check ls)

    pub item_checks : (d : s.PlainItem) → ChecksItem W d
    item_checks (s.TypeIs y) = b.item_type W y (type_checks y)
    item_checks (s.Variable y) = b.item_variable W y (type_checks y)
    item_checks (s.Initial y z) = b.item_initial W y z (type_checks y) (checks z)
    item_checks (s.Constant y z) = b.item_constant W y z (type_checks y) (checks z)

    pub exits_check : (es : s.Exits) → ChecksExits W es
    exits_check s.NoExits = b.exits_none W
    exits_check (s.AndExit ns y es) = b.exits_more W ns y es (statement_checks y) (exits_check es)

    pub repeats_check : (rs : s.Repeats) → ChecksRepeats W rs
    repeats_check s.NoRepeats = lo.repeats_none W
    repeats_check (s.AndRepeat ls y rs) = lo.repeats_more W ls y rs (statement_checks y) (repeats_check rs)
