-- What instructions may do by which a signal comes (rule of this project).
use Rattle.std.specs.Prelude.{◌≡◌, ℕ, Option, Some, None}
use Rattle.code_forms.specs.declared.instruction.Instruction.{Instruction}
use Rattle.code_forms.specs.declared.instruction.Instruction.TheVariants.{LoadLX, StoreLX, LoadGX, StoreGX, Index, DivI, ModI, DivC, ModC, CheckI, CheckC, StrAt, Call, CallLink, Raise, RaiseLink, RaiseHost, DivDI, ModDI, DivDC, ModDC, NarrowI, NarrowC, CheckD}
use Rattle.object_files.specs.declared.image.Image.{Image}
use Rattle.object_files.specs.declared.image.Link.{Link}
use Rattle.object_files.specs.declared.image.Link.TheVariants.{Wanted, To}
use Rattle.signaller.specs.declared.signal_id.SignalId.{SignalId}
use Rattle.signaller.specs.declared.signal_id.SignalId.TheVariants.{Own, BoundsFault, ZeroDivisor, NoInput}
use Rattle.machine_rules.specs.LookUps.{bound_to, ReadChar, host_of}
use Rattle.machine_rules.specs.Steps.{host_signal}
use Rattle.survey_code.specs.declared.event.Event.{Event}
use Rattle.survey_code.specs.declared.event.Event.TheVariants as e

-- the event of an instruction: those that may raise a signal or call something have one
abbrev pub event_of : Instruction → Option Event
event_of (Raise k) = Some (e.Raise k)
event_of (RaiseLink k) = Some (e.RaiseLink k)
event_of (RaiseHost fault) = Some (e.RaiseHost fault)
event_of (LoadLX slot extent words) = Some e.PassBounds
event_of (StoreLX slot extent words) = Some e.PassBounds
event_of (LoadGX slot extent words) = Some e.PassBounds
event_of (StoreGX slot extent words) = Some e.PassBounds
event_of (Index count size) = Some e.PassBounds
event_of (CheckI least most) = Some e.PassBounds
event_of (CheckC least most) = Some e.PassBounds
event_of StrAt = Some e.PassBounds
event_of NarrowI = Some e.PassBounds
event_of NarrowC = Some e.PassBounds
event_of CheckD = Some e.PassBounds
event_of DivI = Some e.Divide
event_of ModI = Some e.Divide
event_of DivC = Some e.Divide
event_of ModC = Some e.Divide
event_of DivDI = Some e.Divide
event_of ModDI = Some e.Divide
event_of DivDC = Some e.Divide
event_of ModDC = Some e.Divide
event_of (Call procedure) = Some (e.Call procedure)
event_of (CallLink k) = Some (e.CallLink k)
event_of _ = None

-- ---- what an event of an instance raises

-- a link that is raised: a signal of an instance, or NoInput for whatever is wanted of the host
abbrev pub LinkRaises : Option Link → SignalId → Type 0
LinkRaises None s = ⊥
LinkRaises (Some (Wanted w)) s = NoInput ≡ s
LinkRaises (Some (To j n)) s = Own j n ≡ s

-- a link that is called and is the host's ReadChar raises NoInput
abbrev pub LinkReads : Image → Option Link → SignalId → Type 0
LinkReads image None s = ⊥
LinkReads image (Some (Wanted w)) s = (host_of image w ≡ Some ReadChar) × (NoInput ≡ s)
LinkReads image (Some (To j n)) s = ⊥

abbrev pub RaisesBy : Image → (instance : ℕ) → Event → SignalId → Type 0
RaisesBy image instance (e.Raise k) s = Own instance k ≡ s
RaisesBy image instance (e.RaiseLink k) s = LinkRaises (bound_to image instance k) s
RaisesBy image instance (e.RaiseHost fault) s = host_signal fault ≡ Some s
RaisesBy image instance e.PassBounds s = BoundsFault ≡ s
RaisesBy image instance e.Divide s = ZeroDivisor ≡ s
RaisesBy image instance (e.Call procedure) s = ⊥
RaisesBy image instance (e.CallLink k) s = LinkReads image (bound_to image instance k) s

-- ---- what it calls: a procedure of an instance

abbrev pub LinkCalls : Option Link → (other procedure : ℕ) → Type 0
LinkCalls None other procedure = ⊥
LinkCalls (Some (Wanted w)) other procedure = ⊥
LinkCalls (Some (To j q)) other procedure = (j ≡ other) × (q ≡ procedure)

abbrev pub CallsBy : Image → (instance : ℕ) → Event → (other procedure : ℕ) → Type 0
CallsBy image instance (e.Call q) other procedure = (instance ≡ other) × (q ≡ procedure)
CallsBy image instance (e.CallLink k) other procedure = LinkCalls (bound_to image instance k) other procedure
CallsBy image instance _ other procedure = ⊥
