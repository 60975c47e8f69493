-- What each judgement of checking promises of what it gives: the table over which soundness is proved, chapter by chapter.
--
-- judgement        premise                                        of what it gives
-- named, qualified the place is in order                          the meaning is there, and used where it is an import's
-- check            and a phrase has its statement; the aim's type a sound value of its type, or for Several of its results
-- sums, truths     what stands before is sound                     the run, or words
-- walk             what was reached is sound                      what is reached then
-- arguments        the types of the parameters are in order       values that are arranged as the parameters
-- type_exp         the place is in order                          a type that keeps its limits
-- phrase, arms     the statement is around                        sound arms
-- statement        the place is in order                          a sound statement
-- In each the operands of the typed tree are at most the words that were counted, and its hidden words too.
use Rattle.std.proofs.Common.{◌≡◌, ℕ, ◌+◌, List, [], ◌∷◌, ◌⊎◌}
use Rattle.std.specs.Prelude.{◌≤◌, ◌<◌, ◌≢◌, ◌-◌, Bool, true, false, Option, Some, None, slice_get, Contains, map, min}
use Rattle.mesa_types.specs.Sound as sound
use Rattle.mesa_types.specs.Typed as points
use Rattle.mesa_types.specs.Links.{IsUsed}
use Rattle.mesa_types.specs.Counts.{operands, operands_of, operands_in, unnamed, hidden_expr, hidden_exprs, hidden_suffixes}
use Rattle.mesa_types.specs.Shapes.{one, KindAt, words_before}
use Rattle.mesa_types.specs.Nodes.{count_of}
use Rattle.mesa_base.specs.declared.place.Place.{Place}
use Rattle.syntax_trees.specs.Syntax as s
use Rattle.check_rules.specs.Typed as t
use Rattle.interface_records.specs.PlainTypes.{PlainType, Array, PlainField, kind_of, kinds_of, fields, is_text, words_of}
use Rattle.check_rules.specs.Scopes.{Scope}
use Rattle.check_rules.specs.Meanings.{Meaning}
use Rattle.check_rules.specs.Meanings as m
use Rattle.check_rules.specs.Around.{Around, Seen, ArmHere, NoArm, InArm, ArmLabel, ForAny, ForUnwind, ForSignal, label_of}
use Rattle.check_rules.specs.Values.{number_in, Sum, closed}
use Rattle.check_rules.specs.Ranges.{Typed, Aim, Free, Into, Several, Arguments}
use Rattle.check_rules.specs.Statements.{Ends, is_one}
use Rattle.check_rules.specs.Reached.{Reached, Variable, Value, Results, Named, Bracketed, InArray, InText, Target}
use Rattle.check_rules.specs.Parts.{Found}
use Rattle.check_rules.specs.Phrases.{holds, in_steps, in_interval}
use Rattle.check_rules.specs.Checking.{check, sums, truths, interval}
use Rattle.check_rules.specs.Written.{ExprWritten, StepsWritten, IntervalWritten}
use Rattle.check_rules.proofs.SoundTypes.{TypeIn, FieldsIn}
use Rattle.typing_laws.proofs.SoundSteps.{World, Spot, at, MeaningIn, ScopeIn, Rule}

-- ---- places

abbrev pub sees : Spot → points.Point → ℕ → Type 0
sees p point depth = Contains p.points (record { point = point; depth = depth })

-- the statement to which a phrase belongs is around, with no arm between
pub record PhraseHere (p : Spot) (a : Around) : Type 0 where
  pub start : sees p (points.Start a.statement) p.depth
  pub after : sees p (points.After a.statement) p.depth

-- an item that is named: used where it is an import's
unfoldable pub UsedIn : World → Meaning → Type 0
UsedIn W (m.Procedure (t.LinkedProcedure k n) i) = IsUsed W.imports k n
UsedIn W (m.Signal (t.LinkedSignal k n) i) = IsUsed W.imports k n
UsedIn W _ = Unit {0}

pub record SeenIn (W : World) (flat : Bool) (a : Meaning) : Type 0 where
  pub there : MeaningIn W flat a
  pub used : UsedIn W a

unfoldable pub LabelIn : World → ArmLabel → Type 0
LabelIn W ForAny = Unit {0}
LabelIn W ForUnwind = Unit {0}
LabelIn W (ForSignal r i) = SeenIn W false (m.Signal r i)

unfoldable pub IsForSignal : ArmLabel → Type 0
IsForSignal ForAny = ⊥
IsForSignal ForUnwind = ⊥
IsForSignal (ForSignal r i) = Unit {0}

unfoldable pub EachSignal : List ArmLabel → Type 0
EachSignal [] = Unit {0}
EachSignal (l ∷ ls) = IsForSignal l × EachSignal ls

unfoldable pub EachLabelIn : World → List ArmLabel → Type 0
EachLabelIn W [] = Unit {0}
EachLabelIn W (l ∷ ls) = LabelIn W l × EachLabelIn W ls

-- ANY alone, UNWIND alone, or signals
pub record LabelsIn (W : World) (ls : List ArmLabel) : Type 0 where
  pub form : (ls ≡ ForAny ∷ []) ⊎ (ls ≡ ForUnwind ∷ []) ⊎ ((ls ≢ []) × EachSignal ls)
  pub each : EachLabelIn W ls

pub record InArmHere (W : World) (p : Spot) (n : ℕ) (ls : List ArmLabel) : Type 0 where
  pub arm : p.arm ≡ map label_of ls
  pub statement : p.statement ≡ n
  pub inside : 0 < p.depth
  pub labels : LabelsIn W ls

unfoldable pub ArmIn : World → Spot → ArmHere → Type 0
ArmIn W p NoArm = Unit {0}
ArmIn W p (InArm n ls) = InArmHere W p n ls

-- a label or loop to which a jump may lead is visible
pub record GoalIn (p : Spot) (a : Around) (point : points.Point) (arms : ℕ) : Type 0 where
  pub seen : sees p point arms
  pub outside : arms ≤ a.arms

-- where variables of a body are declared, names may mean such variables
abbrev pub Inward : Bool → Around → Type 0
Inward flat a = a.is_outermost ≡ false → flat ≡ false

pub record AroundIn (W : World) (flat : Bool) (p : Spot) (a : Around) : Type 0 where
  pub takes : a.takes ≡ W.takes
  pub gives : a.gives ≡ W.gives
  pub gives_types : FieldsIn W.gives
  pub strings : (x : List ℕ) (n : ℕ) → number_in x 0 a.known.strings ≡ Some n → n < W.strings
  pub interfaces : (n : ℕ) (scope : Scope Meaning) → slice_get a.known.interfaces n ≡ Some scope → ScopeIn W flat scope
  -- a head that stands further on is in nothing that is checked
  pub further : (x : List ℕ) → a.further x ≡ None
  pub depth : p.depth ≡ a.arms
  pub few : a.unwinding ≤ a.arms
  pub statements : p.statements ≤ a.marked
  pub labels : p.labels ≤ a.labelled
  pub labelled : (x : List ℕ) (l : Seen) → a.labels x ≡ Some l → a.unwinding ≤ l.arms → GoalIn p a (points.At l.number) l.arms
  pub exit : (l : Seen) → a.loop ≡ Some l → a.unwinding ≤ l.arms → GoalIn p a (points.After l.number) l.arms
  pub next : (l : Seen) → a.loop ≡ Some l → a.unwinding ≤ l.arms → GoalIn p a (points.After (l.number + 1)) l.arms
  pub leave : a.unwinding ≤ 0 → sees p points.Leave 0
  pub arm : ArmIn W p a.arm

-- the premise of each judgement on a part of the text
pub record Ready (W : World) (flat : Bool) (p : Spot) (a : Around) (holds : Bool) (Written : Type 0) : Type 0 where
  pub around : AroundIn W flat p a
  pub phrase : holds ≡ true → PhraseHere p a
  pub written : Written

-- ---- values

-- what a call or raise gave
unfoldable pub GaveIn : World → Spot → t.Expr → Option (List PlainField) → Type 0
GaveIn W p e None = Unit {0}
GaveIn W p e (Some fs) = sound.IsCall e × sound.ExprIn (at W p) e (kinds_of fs) × FieldsIn fs

-- a number as it is written
unfoldable pub IsLiteral : t.Expr → Type 0
IsLiteral (t.Number n) = Unit {0}
IsLiteral (t.LongNumber n) = Unit {0}
IsLiteral _ = ⊥

-- a value of its type
pub record ValueIn (W : World) (p : Spot) (r : Typed) (spent hid : ℕ) : Type 0 where
  pub value : sound.ExprIn (at W p) r.value (one (kind_of r.kind))
  pub kind : TypeIn r.kind
  pub operands_are : operands r.value ≤ spent
  pub hidden_are : hidden_expr r.value ≤ hid
  pub gave : GaveIn W p r.value r.gave
  pub literal : r.literal ≡ true → IsLiteral r.value

-- what an extractor takes
pub record SeveralIn (W : World) (p : Spot) (r : Typed) (spent hid : ℕ) : Type 0 where
  pub single : is_one r.gave ≡ true → sound.ExprIn (at W p) r.value (one (kind_of r.kind))
  pub kind : TypeIn r.kind
  pub operands_are : operands r.value ≤ spent
  pub hidden_are : hidden_expr r.value ≤ hid
  pub gave : GaveIn W p r.value r.gave

unfoldable pub CheckedIn : World → Spot → Aim → Typed → ℕ → ℕ → Type 0
CheckedIn W p (Free q) r s h = ValueIn W p r s h
CheckedIn W p (Into k q) r s h = ValueIn W p r s h × (r.kind ≡ k)
CheckedIn W p (Several q) r s h = SeveralIn W p r s h

unfoldable pub AimIn : Aim → Type 0
AimIn (Into k q) = TypeIn k
AimIn (Free q) = Unit {0}
AimIn (Several q) = Unit {0}

unfoldable pub Stepped : s.Operations → Type 0
Stepped s.NoOperation = ⊥
Stepped (s.AndOperation o p e ss) = Unit {0}

-- a run so far, of this type
pub record SumIn (W : World) (p : Spot) (done : Sum) (kind : PlainType) (literal : Bool) : Type 0 where
  pub value : sound.ExprIn (at W p) (closed done) (one (kind_of kind))
  pub kind_in : TypeIn kind
  pub literal_is : literal ≡ true → IsLiteral (closed done)

-- a run behind what is done
pub record SumsIn (W : World) (p : Spot) (done : Sum) (r : t.Expr × PlainType) (spent hid : ℕ) : Type 0 where
  pub value : sound.ExprIn (at W p) r.0 (one (kind_of r.1))
  pub kind_in : TypeIn r.1
  pub operands_are : operands r.0 ≤ operands (closed done) + spent
  pub hidden_are : hidden_expr r.0 ≤ hidden_expr (closed done) + hid

pub record TruthsIn (W : World) (p : Spot) (fits : Bool) (ss : s.Operations) (es : t.Exprs) (spent hid : ℕ) : Type 0 where
  pub fit : Stepped ss → fits ≡ true
  pub some : Stepped ss → 1 ≤ count_of es
  pub words : sound.WordsIn (at W p) es
  pub operands_are : operands_of es ≤ spent
  pub hidden_are : hidden_exprs es ≤ hid

pub record EndsIn (W : World) (p : Spot) (i : Ends) (spent hid : ℕ) : Type 0 where
  pub low : sound.ExprIn (at W p) (i.low).value (one (kind_of (i.low).kind))
  pub low_kind : TypeIn (i.low).kind
  pub high : sound.ExprIn (at W p) (i.high).value (one (kind_of (i.high).kind))
  pub high_kind : TypeIn (i.high).kind
  pub operands_are : operands (i.low).value + operands (i.high).value ≤ spent
  pub hidden_are : hidden_expr (i.low).value + hidden_expr (i.high).value ≤ hid
  pub low_literal : (i.low).literal ≡ true → IsLiteral (i.low).value
  pub high_literal : (i.high).literal ≡ true → IsLiteral (i.high).value

-- ---- what a name leads to

pub record FoundIn (fs : List PlainField) (f : Found) : Type 0 where
  pub there : KindAt (kinds_of fs) f.number (kind_of f.kind)
  pub lies : f.offset ≡ words_before (kinds_of fs) f.number
  pub kind : TypeIn f.kind

pub record VariableReached (W : World) (p : Spot) (h : t.Home) (ss : t.Suffixes) (k : PlainType) (spent hid : ℕ) : Type 0 where
  pub whole : t.Kind
  pub home : sound.VariableIn (at W p) h whole
  pub part : sound.SuffixesIn (at W p) ss whole (kind_of k)
  pub kind : TypeIn k
  pub operands_are : operands_in ss ≤ spent
  pub hidden_are : hidden_suffixes ss ≤ hid

-- a value that still counts for so many words; of a string with `.length` or an index behind it one is named
pub record ValueReached (W : World) (p : Spot) (n : ℕ) (e : t.Expr) (k : PlainType) (spent hid : ℕ) : Type 0 where
  pub value : sound.ExprIn (at W p) e (one (kind_of k))
  pub kind : TypeIn k
  pub operands_are : operands e ≤ spent + n
  pub one_is : is_text k ≡ true → operands e - unnamed e ≤ spent + min n 1
  pub few : (fs : List PlainField) → fields k ≡ Some fs → n ≤ 1
  pub hidden_are : hidden_expr e ≤ hid

pub record ResultsReached (W : World) (p : Spot) (e : t.Expr) (fs : List PlainField) (spent hid : ℕ) : Type 0 where
  pub call : sound.IsCall e
  pub value : sound.ExprIn (at W p) e (kinds_of fs)
  pub kinds : FieldsIn fs
  pub operands_are : operands e ≤ spent
  pub hidden_are : hidden_expr e ≤ hid

unfoldable pub ReachedIn : World → Bool → Spot → Reached → ℕ → ℕ → Type 0
ReachedIn W flat p (Variable v ss k) s h = VariableReached W p v ss k s h
ReachedIn W flat p (Value n e k) s h = ValueReached W p n e k s h
ReachedIn W flat p (Results e fs) s h = ResultsReached W p e fs s h
ReachedIn W flat p (Named a) s h = SeenIn W flat a

-- what brackets behind something do
unfoldable pub BracketedIn : World → Spot → Bracketed → ℕ → ℕ → Type 0
BracketedIn W p (InArray v ss index element) s h = (k : PlainType) × (k ≡ Array index element) × VariableReached W p v ss k s h
BracketedIn W p (InText n e) s h = sound.ExprIn (at W p) e (one t.Texts) × (operands e - unnamed e ≤ s + min n 1) × (hidden_expr e ≤ h)

-- a variable into which is stored, whose words are counted
pub record TargetIn (W : World) (p : Spot) (x : Target) (spent hid : ℕ) : Type 0 where
  pub whole : t.Kind
  pub home : sound.VariableIn (at W p) x.home whole
  pub part : sound.SuffixesIn (at W p) x.suffixes whole (kind_of x.kind)
  pub kind : TypeIn x.kind
  pub operands_are : words_of x.kind + operands_in x.suffixes ≤ spent
  pub hidden_are : hidden_suffixes x.suffixes ≤ hid

-- a call or raise that stands as a statement
pub record PerformedIn (W : World) (p : Spot) (e : t.Expr) (spent hid : ℕ) : Type 0 where
  pub call : sound.IsCall e
  pub gives : t.Kinds
  pub value : sound.ExprIn (at W p) e gives
  pub operands_are : operands e ≤ spent
  pub hidden_are : hidden_expr e ≤ hid

-- the value that was reached, before it is given to a target
unfoldable pub FreshIn : World → Spot → Aim → Typed → ℕ → ℕ → Type 0
FreshIn W p (Several q) r s h = SeveralIn W p r s h
FreshIn W p (Free q) r s h = ValueIn W p r s h
FreshIn W p (Into k q) r s h = ValueIn W p r s h

-- ---- values of parameters, results or fields

pub record ValuesIn (W : World) (p : Spot) (ks : t.Kinds) (es : t.Exprs) (spent hid : ℕ) : Type 0 where
  pub values : sound.ExprsIn (at W p) es ks
  pub operands_are : operands_of es ≤ spent
  pub hidden_are : hidden_exprs es ≤ hid

pub record ArgumentsIn (W : World) (p : Spot) (fs : List PlainField) (x : Arguments) (spent hid : ℕ) : Type 0 where
  pub kinds : t.Kinds
  pub values : sound.ExprsIn (at W p) x.values kinds
  pub arranged : sound.Arranged x.places kinds (kinds_of fs)
  pub some : fs ≢ [] → sound.HasValue x.values
  pub operands_are : operands_of x.values ≤ spent
  pub hidden_are : hidden_exprs x.values ≤ hid

-- ---- judgements on parts of the text

pub record Checks (W : World) (e : s.Expr) : Type 0 where
  pub by : (flat : Bool) (p : Spot) (a : Around) (aim : Aim) → Rule W flat (Ready W flat p a (holds e) (ExprWritten e) × AimIn aim) (CheckedIn W p aim)
      (check a aim e)

pub record ChecksSums (W : World) (ss : s.Operations) : Type 0 where
  pub by : (flat : Bool) (p : Spot) (a : Around) (l : Place) (done : Sum) (kind : PlainType) (literal : Bool)
      → Rule W flat (Ready W flat p a (in_steps ss) (StepsWritten ss) × SumIn W p done kind literal) (SumsIn W p done) (sums a l done kind literal ss)

pub record ChecksTruths (W : World) (ss : s.Operations) : Type 0 where
  pub by : (flat : Bool) (p : Spot) (a : Around) (fits : Bool) → Rule W flat (Ready W flat p a (in_steps ss) (StepsWritten ss)) (TruthsIn W p fits ss)
      (truths a fits ss)

pub record ChecksInterval (W : World) (i : s.Interval) : Type 0 where
  pub by : (flat : Bool) (p : Spot) (a : Around) → Rule W flat (Ready W flat p a (in_interval i) (IntervalWritten i)) (EndsIn W p) (interval a i)
