-- What is promised of each judgement of the meaning: where the code stands for the construct and the machine stands at its beginning, the
-- machine answers as the meaning does. `n` is the fuel: the constructs are run through `meaning P n`, and fewer than n + 1 turns are left.
-- What is run through it, with one turn less, has the same promise of n.
use Rattle.std.specs.Prelude.{◌≡◌, ℕ, suc, ◌+◌, ◌<◌, List, [], ◌∷◌, Bool, true, Some, nat_eq, slice_get, if◌then◌else◌}
use Rattle.mesa_types.specs.declared.faces.Item.{Item}
use Rattle.mesa_types.specs.declared.typed_parts.Callee.{Callee}
use Rattle.mesa_types.specs.declared.typed_parts.Raised.{Raised}
use Rattle.mesa_types.specs.Typed.{Kind, Ordinal, Longs, Kinds, NoKinds, Count, Expr, Exprs, Suffixes, Operations, Phrase, Stmt, Stmts, Cases, Tests, Loop, Repeat}
use Rattle.mesa_types.specs.Shapes.{HasWords, words_in}
use Rattle.mesa_types.specs.Counts.{hidden, hidden_expr, hidden_exprs, hidden_suffixes, hidden_operations, hidden_phrase, hidden_stmts, hidden_cases, hidden_tests, hidden_loop}
use Rattle.mesa_types.specs.Plain.{kinds_of}
use Rattle.mesa_types.specs.Operators.{differ, is_true, truth}
use Rattle.mesa_types.specs.Longs.{more_of, less_of, two_words}
use Rattle.mesa_types.specs.Sound.{a_word, a_long, CalleeIs, RaisedIs, ExprIn, ExprsIn, SuffixesIn, OperationsIn, LongOperationsIn, PhraseIn, StmtIn, StmtsIn, CasesIn, TestsIn, CasesTake, TestsTake, LoopIn}
use Rattle.source_meaning.specs.Value.{Word, Values, one, how_many, path_of}
use Rattle.source_meaning.specs.Program.{Signal, SignalOf, BoundsFault, ZeroDivisor, NoInput, Unnamed, module_of, resumes, callee_of, raised_of}
use Rattle.source_meaning.specs.State.{State, Result}
use Rattle.source_meaning.specs.Signals.{Next, catching, raise, through_of}
use Rattle.source_meaning.specs.Calls.{call}
use Rattle.source_meaning.specs.Meaning.{value, values, path, operations, long_operations, tests, cases, does, sequence, meaning}
use Rattle.machine_rules.specs.State.{Store, Stepped}
use Rattle.machine_rules.specs.Words.{push}
use Rattle.machine_rules.specs.Moves as moves
use Rattle.machine_rules.specs.Signals as machine
use Rattle.code_rules.specs.CodeFor.{ExprCode, ExprsCode, OperationsCode, LongOperationsCode, PathCode, BranchCode, PhraseCode, StmtCode, StmtsCode, CasesCode, TestsCode, LoopCode}
use Rattle.code_rules.specs.Laws as runs
use Rattle.code_rules.specs.Links.{call_code, raise_code}
use Rattle.code_rules.specs.Loops.{Counter}
use Rattle.code_rules.specs.Points.{Points}
use Rattle.code_rules.specs.Reading.{Destination, Place, Own, phrases_around}
use Rattle.code_rules.specs.Slots.{fields_of}
use Rattle.agreement_rules.specs.Agreement.{id_of}
use Rattle.agreement_rules.specs.Layout.{Show, slots_of}
use Rattle.agreement_rules.specs.Operators.{PathAt}
use Rattle.agreement_rules.specs.Reaches.{Reaches}
use Rattle.agreement_laws.specs.World.{World, texts_of}
use Rattle.agreement_laws.specs.Standing.{Frames, at, filled, fill}
use Rattle.agreement_laws.specs.Relation.{Ground, Agrees, standing}
use Rattle.agreement_laws.specs.Chains.{Floor}
use Rattle.agreement_laws.specs.Contexts.{Site, Context, InPlace, Inside}
use Rattle.agreement_laws.specs.Answers.{Comes, Answered, Valued, Done}
use Rattle.agreement_laws.specs.Rounds.{RoundsLeft, CounterLies, first_word}

abbrev pub next : World → ℕ → Next
next W n = meaning W.program n

abbrev pub Now : World → (bound : ℕ) → Site → Frames → Store → State → Type 0
Now W bound K μ m σ = Agrees W bound K.ground μ m σ

abbrev pub here : Site → (o : ℕ) → (operands : List ℕ) → Frames → Store → Stepped
here K o operands μ m = standing K.ground o operands μ m

-- Expressions.

abbrev pub ValueFollows : World → ℕ → Expr → Type 0
ValueFollows W n e = (K : Site) (w : Place) (ks : Kinds) (a b : ℕ) (rest : List ℕ) (μ : Frames) (m : Store) (σ : State)
    → ExprCode K.code w e a b → ExprIn K.scope e ks → InPlace W K w (hidden_expr e) → Inside W K.ground a b → Now W (suc n) K μ m σ
    → Valued W (suc n) K w.around ks b rest (here K a rest μ m) (value W.program (next W n) e K.meant σ)

-- the values one after the other, from left to right
abbrev pub ValuesFollow : World → ℕ → Exprs → Type 0
ValuesFollow W n es = (K : Site) (w : Place) (ks : Kinds) (a b : ℕ) (rest : List ℕ) (μ : Frames) (m : Store) (σ : State)
    → ExprsCode K.code w es a b → ExprsIn K.scope es ks → InPlace W K w (hidden_exprs es) → Inside W K.ground a b → Now W (suc n) K μ m σ
    → Valued W (suc n) K w.around ks b rest (here K a rest μ m) (values W.program (next W n) es K.meant σ)

-- the word that stands to the left is on the operands
abbrev pub OperationsFollow : World → ℕ → Operations → Type 0
OperationsFollow W n os = (K : Site) (w : Place) (a b x : ℕ) (rest : List ℕ) (μ : Frames) (m : Store) (σ : State)
    → OperationsCode K.code w os a b → OperationsIn K.scope os → x < 65536 → InPlace W K w (hidden_operations os) → Inside W K.ground a b
    → Now W (suc n) K μ m σ
    → Valued W (suc n) K w.around a_word b rest (here K a (x ∷ rest) μ m) (operations W.program (next W n) os K.meant x σ)

-- over LONG numbers: the two words of the one that stands to the left are on the operands
abbrev pub LongOperationsFollow : World → ℕ → Operations → Type 0
LongOperationsFollow W n os = (K : Site) (w : Place) (a b x : ℕ) (rest : List ℕ) (μ : Frames) (m : Store) (σ : State)
    → LongOperationsCode K.code w os a b → LongOperationsIn K.scope os → x < 4294967296 → InPlace W K w (hidden_operations os) → Inside W K.ground a b
    → Now W (suc n) K μ m σ
    → Valued W (suc n) K w.around a_long b rest (here K a (push (two_words x) rest) μ m) (long_operations W.program (next W n) os K.meant x σ)

-- the places of the suffixes lead from kind j to a part of kind k; its offset is on the operands, less the fields that are still to come,
-- which were counted before
pub record Found (W : World) (bound : ℕ) (G : Ground) (j k : Kind) (o first : ℕ) (rest : List ℕ) (s : Stepped) (vs : Values) (σ : State) : Type 0 where
  pub offset : ℕ
  pub path_at : PathAt (path_of vs) j k offset
  pub comes : Comes W bound G o ((first + offset) ∷ rest) s σ

abbrev pub PathFollows : World → ℕ → Suffixes → Type 0
PathFollows W n s = (K : Site) (w : Place) (j k : Kind) (a b first : ℕ) (rest : List ℕ) (μ : Frames) (m : Store) (σ : State)
    → PathCode K.code w s a b → SuffixesIn K.scope s j k → HasWords j → first + words_in j < 65536 → InPlace W K w (hidden_suffixes s) → Inside W K.ground a b
    → Now W (suc n) K μ m σ
    → Answered W (suc n) K w.around (λ s vs σ. Found W (suc n) K.ground j k b first rest s vs σ) (here K a ((first + fields_of s) ∷ rest) μ m)
    (path W.program (next W n) s K.meant σ).answer (path W.program (next W n) s K.meant σ).state

-- control comes to the target where the word is true, or where it is not, as is said; else to b
pub record Branched (W : World) (bound : ℕ) (G : Ground) (sense : Bool) (target b : ℕ) (rest : List ℕ) (s : Stepped) (vs : Values) (σ : State) : Type 0 where
  pub word : ℕ
  pub is : vs ≡ one (Word word)
  pub comes : Comes W bound G (if differ (is_true word) sense then b else target) rest s σ

abbrev pub BranchFollows : World → ℕ → Expr → Type 0
BranchFollows W n e = (K : Site) (w : Place) (sense : Bool) (target a b : ℕ) (rest : List ℕ) (μ : Frames) (m : Store) (σ : State)
    → BranchCode K.code w e sense target a b → ExprIn K.scope e a_word → InPlace W K w (hidden_expr e) → Inside W K.ground a b → Now W (suc n) K μ m σ
    → Answered W (suc n) K w.around (λ s vs σ. Branched W (suc n) K.ground sense target b rest s vs σ) (here K a rest μ m)
    (value W.program (next W n) e K.meant σ).answer (value W.program (next W n) e K.meant σ).state

pub record ExpressionsFollow (W : World) (n : ℕ) : Type 0 where
  pub value : (e : Expr) → ValueFollows W n e
  pub values : (es : Exprs) → ValuesFollow W n es
  pub path : (s : Suffixes) → PathFollows W n s
  pub branch : (e : Expr) → BranchFollows W n e

-- Raises.

-- what a signal or error takes and gives
abbrev pub SignalHas : World → Signal → Kinds → Kinds → Type 0
SignalHas W (SignalOf j k) takes gives =
    (i : Item) × (slice_get (module_of W.program j).signals k ≡ Some i) × (kinds_of i.takes ≡ takes) × (kinds_of i.gives ≡ gives)
SignalHas W BoundsFault takes gives = (takes ≡ NoKinds) × (gives ≡ NoKinds)
SignalHas W ZeroDivisor takes gives = (takes ≡ NoKinds) × (gives ≡ NoKinds)
SignalHas W NoInput takes gives = (takes ≡ NoKinds) × (gives ≡ NoKinds)
SignalHas W Unnamed takes gives = (takes ≡ NoKinds) × (gives ≡ NoKinds)

-- The topmost activation raises at an offset where these phrases are around. What comes of values that are given back is said by the
-- construct that raises: the machine gives their words to the activation at that offset.
abbrev pub RaiseFollows : World → ℕ → Type 1
RaiseFollows W n = (K : Site) (points : Points Destination) (around : List ℕ) (from to : ℕ) (signal : Signal) (takes gives : Kinds)
    (vs : Values) (words : List ℕ) (o : ℕ) (operands : List ℕ) (μ : Frames) (m : Store) (σ : State) (Given : Stepped → Values → State → Type 0)
    → Context W K points around from to → phrases_around K.code.routine.phrases o ≡ around → Inside W K.ground o o
    → SignalHas W signal takes gives → Show (texts_of W) takes vs words → Now W (suc n) K μ m σ
    → ((s : Stepped) (us : Values) (given : List ℕ) (ν : Frames) (l : Store) (τ : State) → resumes W.program signal (how_many us) ≡ true
    → Show (texts_of W) gives us given → Now W (suc n) K ν l τ
    → Reaches W.image s (moves.give W.image 0 given (filled ν (at K.ground.here o operands) ∷ fill ν K.ground.below) l) → Given s us τ)
    → (s : Stepped) → Reaches W.image s (machine.raise W.image (id_of signal) words (filled μ (at K.ground.here o operands)) (fill μ K.ground.below) m)
    → Answered W (suc n) K around Given s (raise W.program (next W n) K.meant signal vs σ).answer (raise W.program (next W n) K.meant signal vs σ).state

-- Phrases.

-- the site with the phrase before the chain; the hidden words of its arms end at a slot
abbrev pub floor_from : Floor → (f z : ℕ) → Floor
floor_from F f z g = if nat_eq g f then z else F g

abbrev pub caught : Phrase → (upto : ℕ) → Site → Site
caught ph upto K = record K { meant = catching ph K.meant; floor = floor_from K.floor K.meant.frame upto }

-- in the range of a phrase all is in order for what takes so many hidden words more; and what comes out of it goes through the phrase
pub record PhraseFollows (W : World) (n : ℕ) (K : Site) (w v : Place) (ph : Phrase) (words : ℕ) : Type 1 where
  pub context : Context W (caught ph (w.slot + hidden_phrase ph) K) v.points v.around (w.slot + hidden_phrase ph) (w.slot + (hidden_phrase ph + words))
  pub expression : (Given : Stepped → Values → State → Type 0) → ((s t : Stepped) (vs : Values) (σ : State) → Reaches W.image s t → Given t vs σ → Given s vs σ)
      → (s : Stepped) (r : Result) → Answered W (suc n) (caught ph (w.slot + hidden_phrase ph) K) v.around Given s r.answer r.state
      → Answered W (suc n) K w.around Given s (through_of (next W n) K.meant ph r.answer r.state).answer (through_of (next W n) K.meant ph r.answer r.state).state
  pub statement : (o : ℕ) (s : Stepped) (r : Result) → Done W (suc n) (caught ph (w.slot + hidden_phrase ph) K) v.around o s r.answer r.state
      → Done W (suc n) K w.around o s (through_of (next W n) K.meant ph r.answer r.state).answer (through_of (next W n) K.meant ph r.answer r.state).state

-- where the phrase has a range
abbrev pub PhrasesFollow : World → ℕ → Type 1
PhrasesFollow W n = (K : Site) (w v : Place) (ph : Phrase) (from to words : ℕ) → PhraseCode K.code w ph from to v → PhraseIn K.scope ph → from < to
    → runs.Run K.code v.around from to → InPlace W K w (hidden_phrase ph + words) → Inside W K.ground from to → PhraseFollows W n K w v ph words

-- The instruction that raises, and that calls, in a site whose chain has its phrase; the arguments are on the operands in order of place.

abbrev pub RaisedFollows : World → ℕ → Type 0
RaisedFollows W n = (K : Site) (w : Place) (raised : Raised) (takes gives : Kinds) (vs : Values) (words : List ℕ) (points : Points Destination) (from to a b : ℕ) (rest : List ℕ)
    (μ : Frames) (m : Store) (σ : State) → RaisedIs K.scope raised takes gives → Show (texts_of W) takes vs words
    → Own K.code w (raise_code K.code.imports raised ∷ []) a b → Context W K points w.around from to → Inside W K.ground a b → Now W (suc n) K μ m σ
    → Valued W (suc n) K w.around gives b rest (here K a (push words rest) μ m)
    (raise W.program (next W n) K.meant (raised_of W.program K.meant.instance raised) vs σ)

abbrev pub CallFollows : World → ℕ → Type 0
CallFollows W n = (K : Site) (w : Place) (callee : Callee) (i : Item) (vs : Values) (words : List ℕ) (points : Points Destination) (from to a b : ℕ) (rest : List ℕ)
    (μ : Frames) (m : Store) (σ : State) → CalleeIs K.scope callee i → Show (texts_of W) (kinds_of i.takes) vs words
    → Own K.code w (call_code K.code.imports callee ∷ []) a b → Context W K points w.around from to → Inside W K.ground a b → Now W (suc n) K μ m σ
    → Valued W (suc n) K w.around (kinds_of i.gives) b rest (here K a (push words rest) μ m)
    (call W.program (next W n) K.meant (callee_of W.program K.meant.instance callee) vs σ)

pub record SignalsFollow (W : World) (n : ℕ) : Type 1 where
  pub raise : RaiseFollows W n
  pub phrase : PhrasesFollow W n
  pub raised : RaisedFollows W n

-- Statements.

-- by a run of statements, with fewer turns left than the bound
abbrev pub StatementFollows : World → (bound : ℕ) → Next → Stmt → Type 0
StatementFollows W bound run s = (K : Site) (w : Place) (a b : ℕ) (μ : Frames) (m : Store) (σ : State)
    → StmtCode K.code w s a b → StmtIn K.scope s → InPlace W K w (hidden s) → Inside W K.ground a b → Now W bound K μ m σ
    → Done W bound K w.around b (here K a [] μ m) (run s K.meant σ).answer (run s K.meant σ).state

-- one that is run itself, and its parts through `meaning P n`
abbrev pub Follows : World → ℕ → Stmt → Type 0
Follows W n s = StatementFollows W (suc n) (does W.program (next W n)) s

-- a round of a loop begins, with so many rounds left; its hidden words lie before those of its body
abbrev pub LoopFollows : World → (bound : ℕ) → Next → Count → Loop → Type 0
LoopFollows W bound run c l = (K : Site) (w : Place) (k : Counter) (a b : ℕ) (μ : Frames) (m : Store) (σ : State)
    → LoopCode K.code w k l a b → LoopIn K.scope l → CounterLies k K.scope w
    → Context W K w.points w.around (first_word k w) (w.slot + hidden_loop l) → Inside W K.ground a b
    → RoundsLeft k c (slots_of (μ K.meant.frame)) → Now W bound K μ m σ
    → Done W bound K w.around b (here K a [] μ m) (run (Repeat c l) K.meant σ).answer (run (Repeat c l) K.meant σ).state

-- the induction's hypothesis, and its step: of the statements and rounds that are run through `meaning P n`
pub record StatementsFollow (W : World) (bound : ℕ) (run : Next) : Type 0 where
  pub statement : (s : Stmt) → StatementFollows W bound run s
  pub loop : (c : Count) (l : Loop) → LoopFollows W bound run c l

abbrev pub NextFollows : World → ℕ → Type 0
NextFollows W n = StatementsFollow W n (next W n)

abbrev pub SequenceFollows : World → ℕ → Stmts → Type 0
SequenceFollows W n ss = (K : Site) (w : Place) (a b : ℕ) (μ : Frames) (m : Store) (σ : State)
    → StmtsCode K.code w ss a b → StmtsIn K.scope ss → InPlace W K w (hidden_stmts ss) → Inside W K.ground a b → Now W (suc n) K μ m σ
    → Done W (suc n) K w.around b (here K a [] μ m) (sequence W.program (next W n) ss K.meant σ).answer (sequence W.program (next W n) ss K.meant σ).state

-- a selector x of this kind is held in the hidden words of the frame from slot z on: in one, or as a LONG number in two
abbrev pub HeldAs : Site → (z : ℕ) → Kind → (x : ℕ) → Type 0
HeldAs K z Ordinal x = (K.ground.hold K.meant.frame z ≡ Some x) × (x < 65536)
HeldAs K z Longs x = (K.ground.hold K.meant.frame z ≡ Some (more_of x)) × (K.ground.hold K.meant.frame (z + 1) ≡ Some (less_of x)) × (x < 4294967296)
HeldAs K z _ x = ⊥

abbrev pub CasesFollow : World → ℕ → Cases → Type 0
CasesFollow W n cs = (K : Site) (w : Place) (k : Kind) (z x a b : ℕ) (μ : Frames) (m : Store) (σ : State)
    → CasesCode K.code w z cs a b → CasesIn K.scope cs → CasesTake k cs → HeldAs K z k x → InPlace W K w (hidden_cases cs)
    → Inside W K.ground a b → Now W (suc n) K μ m σ
    → Done W (suc n) K w.around b (here K a [] μ m) (cases W.program (next W n) cs K.meant x σ).answer (cases W.program (next W n) cs K.meant x σ).state

-- a test gives a truth, and control comes to `yes` or `no`
pub record Tested (W : World) (bound : ℕ) (G : Ground) (yes no : ℕ) (s : Stepped) (vs : Values) (σ : State) : Type 0 where
  pub answer : Bool
  pub is : vs ≡ one (Word (truth answer))
  pub comes : Comes W bound G (if answer then yes else no) [] s σ

abbrev pub TestsFollow : World → ℕ → Tests → Type 0
TestsFollow W n ts = (K : Site) (w : Place) (k : Kind) (z x yes no a b : ℕ) (μ : Frames) (m : Store) (σ : State)
    → TestsCode K.code w z ts yes no a b → TestsIn K.scope ts → TestsTake k ts → HeldAs K z k x → InPlace W K w (hidden_tests ts)
    → Inside W K.ground a b → Now W (suc n) K μ m σ
    → Answered W (suc n) K w.around (λ s vs σ. Tested W (suc n) K.ground yes no s vs σ) (here K a [] μ m)
    (tests W.program (next W n) ts K.meant x σ).answer (tests W.program (next W n) ts K.meant x σ).state
