-- What stands around a place of a text: the module, the procedure, and the labels, loops and arms (Language Manual, chapters
-- 4, 7 and 8; that a jump may leave an arm and which may not is a rule of this project).
use Rattle.std.specs.Prelude.{ℕ, ◌+◌, ◌-◌, Bool, true, false, ◌&&◌, List, [], ◌∷◌, length, Option, Some, None, Ok, if◌then◌else◌, nat_lt}
use Rattle.mesa_base.specs.declared.place.Place.{Place}
use Rattle.check_rules.specs.Typed as t
use Rattle.mesa_types.specs.declared.faces.ItemKind.{ItemKind}
use Rattle.mesa_types.specs.declared.faces.ItemKind.TheVariants as item
use Rattle.mesa_base.specs.declared.identifier.Identifier.{Identifier}
use Rattle.check_rules.specs.Scopes.{Scope, nothing, with_name}
use Rattle.check_rules.specs.Meanings.{Meaning}
use Rattle.check_rules.specs.Parts.{same_fields, same_types}
use Rattle.check_rules.specs.Steps.{Checked, and_then, refuse, only}
use Rattle.check_rules.specs.declared.fault.Cause.TheVariants.{TypeMismatch, BadLabel, NotResumable, UnwindJumps}
-- of the module: its name and stamp, its distinct string literals in text order, the tokens at which its records and
-- enumerations stand, and what each item of the DIRECTORY has to offer
use Rattle.interface_records.specs.PlainTypes.{PlainField, PlainItem}

pub record Known : Type 0 where
  pub name : List ℕ
  pub stamp : Option ℕ
  pub is_program : Bool
  pub strings : List (List ℕ)
  pub origins : List ℕ
  pub interfaces : List (Scope Meaning)

-- what an arm is for
pub data ArmLabel : Type 0 where
  ForAny : ArmLabel
  ForUnwind : ArmLabel
  ForSignal : t.Raised → PlainItem → ArmLabel

-- the innermost arm, with the statement of its phrase
pub data ArmHere : Type 0 where
  NoArm : ArmHere
  InArm : (statement : ℕ) → List ArmLabel → ArmHere

-- a label, with the number of arms around it
pub record Seen : Type 0 where
  pub number : ℕ
  pub arms : ℕ

pub record Around : Type 0 where
  pub known : Known
  -- whether this is a declaration of the module itself
  pub is_outermost : Bool
  -- where the constant or bound begins that this is a part of
  pub constant : Option Place
  -- the procedures, signals and errors of the module whose heads stand further on, each as if its head were checked
  pub further : Scope Meaning
  pub takes : List PlainField
  pub gives : List PlainField
  -- the statement to which a phrase belongs, and how many marked statements stand around
  pub statement : ℕ
  pub marked : ℕ
  pub labels : Scope Seen
  pub labelled : ℕ
  pub loop : Option Seen
  -- the arms around, and how many they are up to the innermost UNWIND arm, that one included
  pub arms : ℕ
  pub unwinding : ℕ
  pub arm : ArmHere

-- at the start of a body
abbrev pub body_of : Known → List PlainField → List PlainField → Around
body_of known takes gives = record {
  known = known;
  is_outermost = false;
  constant = None;
  further = nothing;
  takes = takes;
  gives = gives;
  statement = 0;
  marked = 0;
  labels = nothing;
  labelled = 0;
  loop = None;
  arms = 0;
  unwinding = 0;
  arm = NoArm;
}

-- in a statement that has a number
abbrev pub in_statement : Around → Around
in_statement a = record a { statement = a.marked; marked = a.marked + 1 }

abbrev pub inside : Around → Around
inside a = record a { is_outermost = false }

abbrev pub in_constant : Place → Around → Around
in_constant p a = record a { constant = Some p }

unfoldable pub label_scope : List Identifier → ℕ → ℕ → Scope Seen → Scope Seen
label_scope [] n arms scope = scope
label_scope (x ∷ xs) n arms scope = label_scope xs (n + 1) arms (with_name x.name (record { number = n; arms = arms }) scope)

abbrev pub with_labels : List Identifier → Around → Around
with_labels xs a = record a { labels = label_scope xs a.labelled a.arms a.labels; labelled = a.labelled + length xs }

-- in a loop with this number
abbrev pub in_loop : ℕ → List Identifier → Around → Around
in_loop n xs a = record (with_labels xs a) { loop = Some (record { number = n; arms = a.arms }) }

-- in the body of the loop that is the statement in hand; the body is a statement with the next number
abbrev pub in_round : List Identifier → Around → Around
in_round xs a = in_statement (in_loop a.statement xs a)

abbrev pub is_unwinding : List ArmLabel → Bool
is_unwinding (ForUnwind ∷ ls) = true
is_unwinding _ = false

abbrev pub in_arm : List ArmLabel → Around → Around
in_arm ls a = record a {
  arms = a.arms + 1;
  unwinding = if is_unwinding ls then a.arms + 1 else a.unwinding;
  arm = InArm a.statement ls;
}

-- a jump to a goal that has so many arms around it: none leads out of an UNWIND arm
unfoldable pub jump : Around → Place → t.Goal → ℕ → Checked t.Stmt
jump a p goal arms = and_then (may_leave a p arms) (λ _. Ok (t.Jump (a.arms - arms) goal))
  where
    may_leave : Around → Place → ℕ → Checked (Unit {0})
    may_leave a p arms = if nat_lt arms a.unwinding then refuse UnwindJumps p else Ok tt

abbrev pub leave_loop : Around → Place → (ℕ → t.Goal) → Option Seen → Checked t.Stmt
leave_loop a p goal None = refuse BadLabel p
leave_loop a p goal (Some l) = jump a p (goal l.number) l.arms

-- EXIT leads past the loop, LOOP past its body, which is the statement next in number
abbrev pub exit_loop : Around → Place → Checked t.Stmt
exit_loop a p = leave_loop a p t.PastStatement a.loop

abbrev pub next_round : Around → Place → Checked t.Stmt
next_round a p = leave_loop a p (λ n. t.PastStatement (n + 1)) a.loop

abbrev pub go_to_seen : Around → Place → Identifier → Option Seen → Checked t.Stmt
go_to_seen a p x None = refuse BadLabel x.place
go_to_seen a p x (Some l) = jump a p (t.ToLabel l.number) l.arms

abbrev pub go_to : Around → Place → Identifier → Checked t.Stmt
go_to a p x = go_to_seen a p x (a.labels x.name)

abbrev pub return : Around → Place → Checked t.Stmt
return a p = jump a p t.ToReturn 0

-- in an arm for raises: the statement of its phrase and its labels
abbrev pub arm_for_raises : Place → ArmHere → Checked (ℕ × List ArmLabel)
arm_for_raises p NoArm = refuse BadLabel p
arm_for_raises p (InArm n ls) = if is_unwinding ls then refuse UnwindJumps p else Ok (n, ls)

abbrev pub retry : Around → Place → Checked t.Stmt
retry a p = and_then (arm_for_raises p a.arm) (λ r. Ok (t.Retry r.0))

abbrev pub continue : Around → Place → Checked t.Stmt
continue a p = and_then (arm_for_raises p a.arm) (λ r. Ok (t.Continue r.0))

abbrev pub reject : Around → Place → Checked t.Stmt
reject a p = reject_in p a.arm
  where
    reject_in : Place → ArmHere → Checked t.Stmt
    reject_in p NoArm = refuse BadLabel p
    reject_in p _ = Ok t.Reject

abbrev pub is_signal : ItemKind → Bool
is_signal item.Signal = true
is_signal _ = false

unfoldable pub all_resumable : List ArmLabel → Bool
all_resumable [] = true
all_resumable (ForSignal r i ∷ ls) = is_signal i.kind && all_resumable ls
all_resumable _ = false

unfoldable pub all_give : List PlainField → List ArmLabel → Bool
all_give fs [] = true
all_give fs (ForSignal r i ∷ ls) = same_types i.gives fs && all_give fs ls
all_give fs _ = false

abbrev pub results_of : List ArmLabel → List PlainField
results_of (ForSignal r i ∷ ls) = i.gives
results_of _ = []

-- what RESUME gives: no label is an ERROR or ANY, and all give the same types, whose names are those of the first
unfoldable pub resumed : Around → Place → Checked (List PlainField)
resumed a p = and_then (arm_for_raises p a.arm) (λ r.
    and_then (only (all_resumable r.1) NotResumable p) (λ _.
    and_then (only (all_give (results_of r.1) r.1) TypeMismatch p) (λ _. Ok (results_of r.1))))

unfoldable pub all_like : PlainItem → List ArmLabel → Bool
all_like i [] = true
all_like i (ForSignal r j ∷ ls) = same_fields j.takes i.takes && (same_fields j.gives i.gives && all_like i ls)
all_like i _ = false

-- the parameters that an arm has as variables: where all its labels have one signal type, names included
unfoldable pub parameters_of : List ArmLabel → List PlainField
parameters_of (ForSignal r i ∷ ls) = if all_like i ls then i.takes else []
parameters_of _ = []

abbrev pub label_for : t.Raised → t.Label
label_for (t.OwnSignal n) = t.OnOwn n
label_for (t.LinkedSignal m n) = t.OnLinked m n
label_for t.TheBoundsFault = t.OnBounds
label_for t.TheZeroDivisor = t.OnZero
label_for t.TheUnnamed = t.OnAny

abbrev pub label_of : ArmLabel → t.Label
label_of ForAny = t.OnAny
label_of ForUnwind = t.OnUnwind
label_of (ForSignal r i) = label_for r
