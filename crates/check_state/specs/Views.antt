-- What the code's values stand for.
use Rattle.std.specs.Prelude.{List, [], map, Option, Some, None, option_map}
use Rattle.std.specs.Option.{option_copied}
use denote.Ref.{Bor}
use Rattle.mesa_types.specs.Plain.{expr, kinds_of}
use Rattle.mesa_types.specs.declared.types.FieldType.{FieldType}
use Rattle.interface_records.specs.check_scopes.specs.Scopes.{Scope, nothing, over}
use Rattle.interface_records.specs.check_scopes.specs.Shows.{means, shows}
use Rattle.interface_records.specs.check_scopes.specs.declared.names.Names.{Names}
use Rattle.interface_records.specs.check_scopes.specs.declared.scopes.Scopes.{Scopes}
use Rattle.interface_records.specs.PlainTypes.{PlainField, plain, plain_field, plain_item}
use Rattle.check_rules.specs.Meanings as m
use Rattle.check_rules.specs.Names.{or_nothing}
use Rattle.check_rules.specs.Steps as step
use Rattle.check_rules.specs.Around as place
use Rattle.check_rules.specs.Ranges as range
use Rattle.check_state.specs.declared.meaning.Meaning.{Meaning}
use Rattle.check_state.specs.declared.meaning.Meaning.TheVariants.{Variable, Constant, TextConstant, TypeName, Procedure, Signal, Interface, Later, Headless, NotImported}
use Rattle.check_state.specs.declared.state.State.{State}
use Rattle.check_state.specs.declared.known.Known.{Known}
use Rattle.check_state.specs.declared.around.Around.{Around}
use Rattle.check_state.specs.declared.around.Labels.{Labels}
use Rattle.check_state.specs.declared.around.Labels.TheOpen.{Labels-F}
use Rattle.check_state.specs.declared.around.Labels.TheFolds.{fold-Labels}
use Rattle.check_state.specs.declared.around.Seen.{Seen}
use Rattle.check_state.specs.declared.around.ArmLabel.{ArmLabel}
use Rattle.check_state.specs.declared.around.ArmLabel.TheVariants.{ForAny, ForUnwind, ForSignal}
use Rattle.check_state.specs.declared.around.ArmHere.{ArmHere}
use Rattle.check_state.specs.declared.around.ArmHere.TheVariants.{NoArm, InArm}
use Rattle.check_state.specs.declared.typed.Typed.{Typed}
use Rattle.check_state.specs.declared.typed.Gave.{Gave}
use Rattle.check_state.specs.declared.typed.Gave.TheVariants.{NotCalled, NoResults, ResultsOf}
use Rattle.check_state.specs.declared.typed.Aim.{Aim}
use Rattle.check_state.specs.declared.typed.Aim.TheVariants.{Free, Into, Several}

abbrev pub meaning : Meaning → m.Meaning
meaning (Variable h k) = m.Variable h (plain k)
meaning (Constant k n) = m.Constant (plain k) n
meaning (TextConstant n) = m.TextConstant n
meaning (TypeName k) = m.TypeName (plain k)
meaning (Procedure c i) = m.Procedure c (plain_item i)
meaning (Signal r i) = m.Signal r (plain_item i)
meaning (Interface n) = m.Interface n
meaning Later = m.Later
meaning Headless = m.Headless
meaning NotImported = m.NotImported

-- names, each with what the definition says that it means
abbrev pub seen_as : {A B : Type 0} → (A → B) → Scope A → Scope B
seen_as f scope x = option_map f (scope x)

unfoldable pub names : Names Meaning → Scope m.Meaning
names xs = seen_as meaning (means xs)

unfoldable pub scopes : Scopes Meaning → List (Scope m.Meaning)
scopes ss = map (seen_as meaning) (shows ss)

unfoldable pub state : State → step.State
state s = record {
  scopes = scopes s.scopes;
  coming = names s.coming;
  used = s.used;
  globals = kinds_of s.globals.fields;
  variables = kinds_of s.variables.fields;
  hidden = s.hidden;
  operands = s.operands;
}

unfoldable pub known : Known → place.Known
known k = record {
  name = k.name;
  stamp = k.stamp;
  is_program = k.is_program;
  strings = k.strings;
  origins = k.origins;
  interfaces = map names k.interfaces.items;
}

abbrev pub seen : Seen → place.Seen
seen s = record { number = s.number; arms = s.arms }

abbrev pub arm_label : ArmLabel → place.ArmLabel
arm_label ForAny = place.ForAny
arm_label ForUnwind = place.ForUnwind
arm_label (ForSignal r i) = place.ForSignal r (plain_item i)

abbrev pub arm_here : ArmHere → place.ArmHere
arm_here NoArm = place.NoArm
arm_here (InArm n labels) = place.InArm n (map arm_label labels.now)

abbrev pub further : Option (Bor (Names Meaning)) → Scope m.Meaning
further o = or_nothing (option_map names (option_copied o))

abbrev pub fields : List FieldType → List PlainField
fields = map plain_field

-- a value and its type
abbrev pub gave : Gave → Option (List PlainField)
gave NotCalled = None
gave NoResults = Some []
gave (ResultsOf i) = Some (fields i.gives)

abbrev pub typed : Typed → range.Typed
typed r = record { value = expr r.value; kind = plain r.kind; literal = r.literal; gave = gave r.gave }

abbrev pub aim : Aim → range.Aim
aim (Free place) = range.Free place
aim (Into target place) = range.Into (plain target.now) place
aim (Several place) = range.Several place

-- the labels that are visible: those of the innermost block or loop hide the others
abbrev pub labels_outside : Option (Bor (Scope place.Seen)) → Scope place.Seen
labels_outside None = nothing
labels_outside (Some scope) = scope.now

abbrev pub labels_step : Labels-F (Scope place.Seen) → Scope place.Seen
labels_step l = over (seen_as seen (means l.names)) (labels_outside l.around)

unfoldable pub labels_in : Labels → Scope place.Seen
labels_in = fold-Labels (Scope place.Seen) labels_step

abbrev pub labels : Option (Bor Labels) → Scope place.Seen
labels None = nothing
labels (Some l) = labels_in l.now

unfoldable pub around : Around → place.Around
around a = record {
  known = known a.known.now;
  is_outermost = a.is_outermost;
  constant = a.constant;
  further = further a.further;
  takes = fields a.takes.now;
  gives = fields a.gives.now;
  statement = a.statement;
  marked = a.marked;
  labels = labels a.labels;
  labelled = a.labelled;
  loop = option_map seen a.repeated;
  arms = a.arms;
  unwinding = a.unwinding;
  arm = arm_here a.arm;
}
