-- That a module keeps its ranges holds in one way, so it may be used for whatever is to be shown.
use Rattle.std.proofs.Common.{ℕ, List, Option, Some, None}
use Rattle.std.specs.Prelude.{slice_get}
use Rattle.std.proofs.Math.Logic.{∥∥₁_elim}
use Rattle.std.proofs.Props.{props}
use Rattle.code_forms.specs.declared.module_code.Arm.{Arm}
use Rattle.code_forms.specs.declared.module_code.CodeEntry.{CodeEntry}
use Rattle.code_forms.specs.declared.module_code.CodeKind.{CodeKind}
use Rattle.code_forms.specs.declared.module_code.CodeKind.TheVariants.{Procedure, Signal, Error}
use Rattle.code_forms.specs.declared.module_code.CodeLink.{CodeLink}
use Rattle.code_forms.specs.declared.module_code.CodeProcedure.{CodeProcedure}
use Rattle.code_forms.specs.declared.module_code.CodeSignal.{CodeSignal}
use Rattle.code_forms.specs.declared.module_code.Label.{Label}
use Rattle.code_forms.specs.declared.module_code.Label.TheVariants as l
use Rattle.code_forms.specs.declared.module_code.Phrase.{Phrase}
use Rattle.code_forms.specs.Ranges.{IsSignalWith, IsLinkWith, IsSignalLink, LabelInRange, ArmInRange, PhraseInRange, InOrder, ProcedureInRange, IsBody, KeepsRanges}
use Rattle.object_files.specs.declared.object.Object.{Object}

signal_once : (k : CodeKind) (results : ℕ) → IsProp (IsSignalWith k results)
signal_once Procedure results = hlevel
signal_once Signal results = hlevel
signal_once Error results = hlevel props

link_once : (k : CodeKind) (results : ℕ) → IsProp (IsLinkWith k results)
link_once Procedure results = hlevel
link_once Signal results = hlevel
link_once Error results = hlevel props

signal_link_once : (o : Option CodeLink) → IsProp (IsSignalLink o)
signal_link_once None = hlevel
signal_link_once (Some link) = signal_once link.kind link.results

label_once : (signals : List CodeSignal) (links : List CodeLink) (label : Label) → IsProp (LabelInRange signals links label)
label_once signals links l.Any = hlevel
label_once signals links l.Unwind = hlevel
label_once signals links (l.Own k) = hlevel props
label_once signals links (l.Link k) = signal_link_once (slice_get links k)
label_once signals links l.BoundsFault = hlevel
label_once signals links l.ZeroDivisor = hlevel

body_once : (o : Option CodeProcedure) → IsProp (IsBody o)
body_once None = hlevel
body_once (Some p) = hlevel props

arm_once : (signals : List CodeSignal) (links : List CodeLink) (arm : Arm) → IsProp (ArmInRange signals links arm)
arm_once signals links arm = hlevel (props, label_once)

phrase_once : (signals : List CodeSignal) (links : List CodeLink) (phrase : Phrase) → IsProp (PhraseInRange signals links phrase)
phrase_once signals links phrase = hlevel (props, arm_once)

order_once : (code : List CodeEntry) → IsProp (InOrder code)
order_once code = hlevel props

procedure_once : (signals : List CodeSignal) (links : List CodeLink) (p : CodeProcedure) → IsProp (ProcedureInRange signals links p)
procedure_once signals links p = hlevel (props, order_once, phrase_once)

ranges_once : (globals : ℕ) (signals : List CodeSignal) (strings : List (List ℕ)) (links : List CodeLink) (procedures : List CodeProcedure)
    → IsProp (KeepsRanges globals signals strings links procedures)
ranges_once globals signals strings links procedures = hlevel (props, signal_once, link_once, body_once, procedure_once)

pub keeps : (o : Object) → KeepsRanges o.code.global_words o.code.signals o.code.strings o.code.links o.code.procedures
keeps o = ∥∥₁_elim o.code.ranges (ranges_once o.code.global_words o.code.signals o.code.strings o.code.links o.code.procedures) (λ r. r)
