-- A whole program and an image that stands for it, by computing: the code meets each row, it is valid, and the run of the image is that of the
-- program, by the law. A global is counted up in a loop; then it fails a check, and an arm sets it and jumps past the statement.
use Rattle.std.proofs.Common.{◌≡◌, ℕ, zero, suc, ◌<◌, List, [], ◌∷◌, length, All, Some, codes, inr, refl, sym, ap, subst, arith}
use Rattle.std.specs.Prelude.{slice_get}
use Rattle.std.proofs.lemmas.Option.{none-some, same_Some}
use Rattle.mesa_types.specs.declared.typed_parts.Base.TheVariants.{Unsigned}
use Rattle.mesa_types.specs.declared.typed_parts.Goal.TheVariants.{PastStatement}
use Rattle.mesa_types.specs.declared.typed_parts.Home.TheVariants.{Global}
use Rattle.mesa_types.specs.declared.typed_parts.Label.TheVariants.{OnBounds}
use Rattle.mesa_types.specs.declared.typed_parts.Range.TheVariants.{From}
use Rattle.mesa_base.specs.declared.relation.Relation.TheVariants.{Less}
use Rattle.mesa_types.specs.declared.faces.Import.{Import}
use Rattle.mesa_types.specs.declared.faces.Item.{Item}
use Rattle.mesa_types.specs.Typed.{point_of, Ordinal, NoKinds, AndKind, Expr, Number, Checked, Relate, Catch, Stmt, Marked, Block, Repeat, Endless, Jump, NoExits, LoopOf, NoFinish, While, Module}
use Rattle.mesa_types.specs.Counts.{hidden, hidden_expr, hidden_suffixes, hidden_operations, hidden_phrase, hidden_arms, hidden_stmts, hidden_exits, hidden_loop, hidden_finish, hidden_condition, operands, operands_in, operands_of_run, operands_of_stmt, operands_of_loop, operands_of_condition, words_of, words_given}
use Rattle.mesa_types.specs.Links.{item_in, imported, items_used, links_of}
use Rattle.mesa_types.specs.Shapes.{words_in, words_in_all, words_before, count_in, join, one, HasWords, KindAt}
use Rattle.mesa_types.specs.Operators.{differ}
use Rattle.mesa_types.specs.Sound.{Scope, Fits, CountIn, AllDiffer, VariableIn, IsCheck, RangeIn, NamesSignal, AreLabels, LocalsFrom, AreGiven, Reaches, HasArm, LabelsIn, labels_in, points_past, in_labelled, in_marked, in_arm, a_word, ExprIn, SuffixesIn, OperationsIn, PhraseIn, ArmsIn, StmtIn, StmtsIn, ExitsIn, LoopIn, FinishIn, ConditionIn, scope_of, Sound}
use Rattle.code_forms.specs.declared.instruction.Instruction.TheVariants as i
use Rattle.code_forms.specs.declared.module_code.Arm.{Arm}
use Rattle.code_forms.specs.declared.module_code.CodeProcedure.{CodeProcedure}
use Rattle.code_forms.specs.declared.module_code.Label.TheVariants.{BoundsFault}
use Rattle.code_forms.specs.declared.module_code.ModuleCode.{ModuleCode}
use Rattle.code_forms.specs.Valid.{Valid}
use Rattle.object_files.specs.declared.image.Image.{Image}
use Rattle.object_files.specs.declared.image.Instance.{Instance}
use Rattle.object_files.specs.declared.object.Object.{Object}
use Rattle.source_meaning.specs.Lawful.{LawfulInstance, Lawful}
use Rattle.source_meaning.specs.Program as source
use Rattle.source_meaning.specs.Program.{ToSignal, Unnamed, Program}
use Rattle.source_meaning.specs.Means.{Means}
use Rattle.source_meaning.specs.State.{Ending, Answer, Normal, Spent}
use Rattle.source_meaning.proofs.Made as source_run
use Rattle.source_meaning.proofs.Made.{stmts, global, assign, plus, block, one_arm}
use Rattle.machine_rules.specs.declared.end.End.TheVariants as end
use Rattle.machine_rules.specs.Laws.{HasValidCode}
use Rattle.machine_rules.specs.State.{Ended}
use Rattle.machine_rules.proofs.Written as machine_run
use Rattle.code_rules.specs.CodeFor as row
use Rattle.code_rules.specs.Modules.{CodeFor}
use Rattle.code_rules.specs.Reading.{Offset, no_more}
use Rattle.code_rules.proofs.Made.{at, ◌&◌}
use Rattle.agreement_rules.specs.Agreement.{RunsAlike}
use Rattle.agreement_rules.specs.Stands.{InstanceStands, TextFits, Stands, WantsTheHost}
use Rattle.agreement_laws.proofs.Agreement.{images_run}
use Rattle.code_examples.proofs.InRange.{Keeps, kept_where_true}
use Rattle.code_examples.proofs.Judging.{Parts, valid_where_none}

-- The program.

abbrev counts_up : Stmt
counts_up = Repeat Endless (LoopOf (While (Relate Unsigned Less (global 0) (Number 3))) (assign 0 (plus (global 0) (Number 1))) NoExits NoFinish)

abbrev fails : Stmt
fails =
    Marked 0 (Block (Catch 0 (one_arm OnBounds (block (assign 0 (Number 7) ∷ Jump 1 (PastStatement 0) ∷ []))))
    (stmts (assign 0 (Checked (From Unsigned 0 1) (global 0)) ∷ [])) NoExits)

-- M: PROGRAM = BEGIN g: CARDINAL; g ← 1; WHILE g < 3 DO g ← g + 1 ENDLOOP;
-- BEGIN ENABLE BoundsFault => {g ← 7; CONTINUE}; g ← (a number of [0..1]) g END; END.
abbrev counting : Module
counting = record {
  name = codes "M";
  imports = [];
  exports = [];
  globals = AndKind Ordinal NoKinds;
  signals = [];
  strings = [];
  procedures = [];
  body = record { variables = NoKinds; does = block (assign 0 (Number 1) ∷ counts_up ∷ fails ∷ []) };
}

abbrev program : Program
program = record { instances = record { path = []; code = counting; links = λ import item. ToSignal Unnamed } ∷ []; control = 0 ∷ [] }

-- It is lawful.

none_there : {A : Type 0} (n : ℕ) (x : A) → slice_get [] n ≡ Some x → ⊥
none_there n x e = none-some x e

none_of : {A : Type 0} (Q : A → Type 0) → All Q []
none_of Q n d lt = absurd (omega (arith, lt))

abbrev scope : Scope
scope = scope_of counting [] [] counting.body

-- inside of the outermost block
abbrev inside : Scope
inside = in_labelled 0 NoExits scope

abbrev marked : Scope
marked = in_marked 0 inside

abbrev caught : Scope
caught = in_labelled 0 NoExits marked

abbrev handled : Scope
handled = in_arm 0 (OnBounds ∷ []) caught

a_global : (Γ : Scope) → Γ.globals ≡ AndKind Ordinal NoKinds → VariableIn Γ (Global 0) Ordinal
unfolding VariableIn KindAt
a_global Γ e = subst (λ ks. KindAt ks 0 Ordinal) (sym e) refl

the_global : (Γ : Scope) → Γ.globals ≡ AndKind Ordinal NoKinds → ExprIn Γ (global 0) a_word
unfolding ExprIn SuffixesIn words_in a_word one
the_global Γ e = (Ordinal, Ordinal, a_global Γ e, refl, refl, refl)

a_number : (Γ : Scope) (n : ℕ) → n < 65536 → ExprIn Γ (Number n) a_word
unfolding ExprIn a_word
a_number Γ n lt = (lt, refl)

a_block : (Γ : Scope) (s : List Stmt) → Γ.labels ≡ 0 → StmtsIn (in_labelled 0 NoExits Γ) (stmts s) → StmtIn Γ (block s)
unfolding StmtIn LabelsIn labels_in AllDiffer PhraseIn ExitsIn
a_block Γ s e h = (0, (omega (arith, e), none_of _, tt), tt, h, tt)

an_assignment : (Γ : Scope) (e : Expr) → Γ.globals ≡ AndKind Ordinal NoKinds → Fits (assign 0 e) → ExprIn Γ e a_word → StmtIn Γ (assign 0 e)
unfolding StmtIn SuffixesIn a_word
an_assignment Γ e is fits h = (fits, Ordinal, Ordinal, a_global Γ is, refl, h)

counts_in : StmtIn inside counts_up
unfolding StmtIn CountIn LoopIn LabelsIn labels_in AllDiffer ConditionIn ExprIn OperationsIn RangeIn ExitsIn FinishIn in_labelled scope_of Fits operands_of_stmt operands_of_loop operands_of_condition operands operands_in operands_of_run words_of
counts_in = (
  omega arith,
  tt,
  (
    0,
    (omega arith, none_of _, tt),
    (the_global inside refl, a_number inside 3 (omega arith), refl),
    an_assignment inside (plus (global 0) (Number 1)) refl (omega arith) (the_global inside refl, (tt, a_number inside 1 (omega arith), tt), refl),
    tt,
    tt,
  ),
)

fails_in : StmtIn inside fails
unfolding StmtIn StmtsIn LabelsIn labels_in AllDiffer PhraseIn HasArm Reaches ArmsIn AreLabels NamesSignal LocalsFrom AreGiven count_in ExitsIn ExprIn IsCheck in_labelled in_marked in_arm points_past scope_of point_of Fits operands_of_stmt operands operands_in words_of
fails_in = (
  omega arith,
  (
    0,
    (omega arith, none_of _, tt),
    (
      tt,
      (0, (0, omega arith, refl), refl),
      (0, (1, omega arith, refl), refl),
      (
        inr (inr (λ e. omega (arith, ap length e), λ n d lt. one_label n d lt)),
        NoKinds,
        refl,
        tt,
        refl,
        a_block handled (assign 0 (Number 7) ∷ Jump 1 (PastStatement 0) ∷ []) refl (
          an_assignment (in_labelled 0 NoExits handled) (Number 7) refl (omega arith) (a_number (in_labelled 0 NoExits handled) 7 (omega arith)),
          ((0, (1, omega arith, refl), refl), tt),
        ),
        tt,
      ),
    ),
    (an_assignment caught (Checked (From Unsigned 0 1) (global 0)) refl (omega arith) ((omega arith, omega arith), the_global caught refl, refl), tt),
    tt,
  ),
)
  where
    one_label : All (NamesSignal caught) (OnBounds ∷ [])
    one_label zero d lt = tt
    one_label (suc n) d lt = absurd (omega (arith, lt))

body_in : StmtIn scope counting.body.does
unfolding StmtsIn in_labelled scope_of Fits operands_of_stmt operands operands_in words_of
body_in =
    a_block scope (assign 0 (Number 1) ∷ counts_up ∷ fails ∷ []) refl
    (an_assignment inside (Number 1) refl (omega arith) (a_number inside 1 (omega arith)), (counts_in, (fails_in, tt)))

sound : Sound counting
unfolding words_in_all words_in join scope_of hidden hidden_expr hidden_stmts hidden_exits hidden_loop hidden_finish hidden_condition hidden_suffixes hidden_operations hidden_phrase hidden_arms HasWords AllDiffer StmtsIn
sound = record {
  globals = omega arith;
  have_words = (tt, tt);
  strings = omega arith;
  strings_differ = tt;
  short_strings = none_of _;
  imports = none_of _;
  exports = none_of _;
  signals = none_of _;
  procedures = none_of _;
  body = record { variables = tt; does = body_in; small = omega arith };
}

none_imported : (k n : ℕ) (i : Item) → imported [] k n ≡ Some i → ⊥
unfolding imported item_in
none_imported k n i e = none-some i e

lawful : Lawful program
lawful = record {
  instances = λ n d lt. one_instance n d lt;
  control = λ n d lt. one_control n d lt;
}
  where
    one_instance : All (LawfulInstance program) program.instances
    one_instance zero d lt = record { sound = sound; links = λ k n i is used. absurd (none_imported k n i is) }
    one_instance (suc n) d lt = absurd (omega (arith, lt))

    one_control : All (λ j. j < 1) program.control
    one_control zero d lt = omega arith
    one_control (suc n) d lt = absurd (omega (arith, lt))

-- Its code.

abbrev arms_code : List Arm
arms_code = record { labels = BoundsFault ∷ []; slot = 0; words = 0; start = 57; end = 73 } ∷ []

abbrev body_code : CodeProcedure
body_code = record {
  name = codes "M";
  args = 0;
  results = 0;
  frame = 0;
  depth = 2;
  code =
      at 0 0 (i.Lit 1)
      ∷ at 3 1 (i.StoreG 0 1)
      ∷ at 8 0 (i.LoadG 0 1)
      ∷ at 13 1 (i.Lit 3)
      ∷ at 16 2 i.LessC
      ∷ at 17 1 (i.JumpIfNot 41)
      ∷ at 22 0 (i.LoadG 0 1)
      ∷ at 27 1 (i.Lit 1)
      ∷ at 30 2 i.Add
      ∷ at 31 1 (i.StoreG 0 1)
      ∷ at 36 0 (i.JumpBack 8)
      ∷ at 41 0 (i.LoadG 0 1)
      ∷ at 46 1 (i.CheckC 0 1)
      ∷ at 51 1 (i.StoreG 0 1)
      ∷ at 56 0 i.Return
      ∷ at 57 0 (i.Lit 7)
      ∷ at 60 1 (i.StoreG 0 1)
      ∷ at 65 0 (i.Leave 1 56)
      ∷ at 72 0 i.ArmEnd
      ∷ [];
  phrases = record { from = 41; to = 56; arms = arms_code } ∷ [];
}

abbrev parts : Parts
parts = record { globals = 1; strings = []; signals = []; links = []; procedures = body_code ∷ [] }

in_range : Keeps parts
in_range = kept_where_true parts refl

abbrev code : ModuleCode
code = record { name = codes "M"; global_words = 1; signals = []; strings = []; links = []; procedures = body_code ∷ []; ranges = ∣ in_range ∣₁ }

is_valid : Valid code
is_valid = valid_where_none parts refl

code_stands : CodeFor counting code
unfolding words_in words_in_all words_before join hidden hidden_expr hidden_suffixes hidden_operations hidden_phrase hidden_arms hidden_stmts hidden_exits hidden_loop hidden_condition hidden_finish words_of words_given items_used links_of differ point_of
code_stands = record {
  named = refl;
  global_words = refl;
  each_signal = refl;
  each_string = refl;
  each_link = refl;
  each_procedure = (
    record {
      name = refl;
      args = refl;
      results = refl;
      body = record {
        end = 56;
        does =
            row.block [] 56 56 row.no_phrase
            (row.and_statement 8 (row.assign 3 tt (row.number (refl & no_more)) (refl & no_more))
            (row.and_statement 41
            (row.loop (row.rounds [] 8 22 36 41 41 no_more
            (row.while (row.on_relation 13 16 (row.variable tt (refl & no_more)) (row.number (refl & no_more)) (refl & refl & no_more)))
            (row.assign 31 tt (row.operate 27 (row.variable tt (refl & no_more))
            (row.operation 27 30 31 no_more (row.number (refl & no_more)) (refl & no_more) row.no_operation)) (refl & no_more))
            (refl & no_more) (row.no_finish row.falls) row.no_exits))
            (row.and_statement 56
            (row.marked (row.block [] 56 56
            (row.catch 0 arms_code refl refl
            (row.and_arm 57 72 73
            (row.block [] 72 72 row.no_phrase
            (row.and_statement 65 (row.assign 60 tt (row.number (refl & no_more)) (refl & no_more))
            (row.and_statement 72 (row.jump (Offset 56) refl (refl & no_more)) row.no_statements)) row.falls row.no_exits)
            (refl & no_more) row.no_arms))
            (row.and_statement 56 (row.assign 51 tt (row.checked 46 (row.variable tt (refl & no_more)) (refl & no_more)) (refl & no_more)) row.no_statements)
            row.falls row.no_exits))
            row.no_statements)))
            row.falls row.no_exits;
        returns = refl & no_more;
        room = omega arith;
      };
    },
    tt,
  );
}

-- The image.

abbrev image : Image
image = record {
  modules = record { shape = record { name = codes "M"; imports = []; exports = [] }; code = code } ∷ [];
  wanted = [];
  instances = record { path = []; «module» = 0 } ∷ [];
  links = [] ∷ [];
  offered = [];
  control = 0 ∷ [];
}

abbrev object : Object
object = record { shape = record { name = codes "M"; imports = []; exports = [] }; code = code }

-- what is said of the first of one is said of each
of_one : {A : Type 0} (Q : ℕ → A → Type 0) (x : A) → Q 0 x → (n : ℕ) (y : A) → slice_get (x ∷ []) n ≡ Some y → Q n y
of_one Q x h zero y e = subst (λ z. Q 0 z) (same_Some x y e) h
of_one Q x h (suc n) y e = absurd (none-some y e)

image_is_valid : HasValidCode image
image_is_valid = of_one (λ n (o : Object). Valid o.code) object is_valid

abbrev the_instance : source.Instance
the_instance = record { path = []; code = counting; links = λ import item. ToSignal Unnamed }

abbrev its_image : Instance
its_image = record { path = []; «module» = 0 }

no_import : (k : ℕ) (import : Import) → slice_get [] k ≡ Some import → ⊥
no_import k import e = none-some import e

instance_stands : InstanceStands image 0 the_instance its_image
instance_stands = record {
  path = refl;
  object = object;
  is_there = refl;
  code = code_stands;
  links = λ k n import item is there used. absurd (no_import k import is);
}

stands : Stands program image
stands = record {
  as_many = refl;
  instances = λ j m i is there.
      of_one (λ n (x : source.Instance). (y : Instance) → slice_get image.instances n ≡ Some y → InstanceStands image n x y) the_instance
      (λ y e. subst (λ x. InstanceStands image 0 the_instance x) (same_Some its_image y e) instance_stands) j m is i there;
  control = refl;
  modules = omega arith;
  valid = image_is_valid;
  texts = of_one (λ n (o : Object). All TextFits o.code.strings) object (none_of _);
}

wants_the_host : WantsTheHost image
wants_the_host n w l = absurd (omega (arith, l))

-- Both run.

meaning_5 : source_run.seen program 5 ≡ source_run.Saw [] Normal 0
unfolding source_run.seen
meaning_5 = refl

meaning_4 : source_run.seen program 4 ≡ source_run.Saw [] Spent 0
unfolding source_run.seen
meaning_4 = refl

machine_5 : machine_run.seen image 5 ≡ machine_run.Saw [] (Ended end.Done) 0 0 30
unfolding machine_run.seen
machine_5 = refl

-- and alike, whatever the input and the bound
alike : (input : List ℕ) (ending : Ending) (turns : ℕ) → All (λ byte. byte < 256) input → (output : List ℕ) (answer : Answer) (left taken : ℕ)
    → Means program input ending turns output answer left taken → RunsAlike image input ending turns output answer left taken
alike input ending turns bytes output answer left taken means =
    images_run program image lawful stands wants_the_host input ending turns bytes output answer left taken means
