-- What an instruction may raise or call is what its event does.
use Rattle.std.proofs.Common.{◌≡◌, ℕ, Option, Some, None, refl, sym, subst}
use Rattle.std.proofs.lemmas.Option.{none-some, same_Some}
use Rattle.code_forms.specs.declared.instruction.Instruction.{Instruction}
use Rattle.code_forms.specs.declared.instruction.Instruction.TheVariants.{LoadLX, StoreLX, LoadGX, StoreGX, Index, DivI, ModI, DivC, ModC, CheckI, CheckC, StrAt, Call, CallLink, Raise, RaiseLink, RaiseHost, DivDI, ModDI, DivDC, ModDC, NarrowI, NarrowC, CheckD}
use Rattle.object_files.specs.declared.image.Image.{Image}
use Rattle.object_files.specs.declared.image.Link.{Link}
use Rattle.object_files.specs.declared.image.Link.TheVariants.{Wanted, To}
use Rattle.signaller.specs.declared.signal_id.SignalId.{SignalId}
use Rattle.signaller.specs.declared.signal_id.SignalId.TheVariants.{Own, NoInput}
use Rattle.machine_rules.specs.LookUps.{bound_to}
use Rattle.survey_rules.specs.Escapes as rule
use Rattle.survey_rules.specs.Escapes.{MayPassBounds, MayDivide, MayRaise, Calls}
use Rattle.survey_code.specs.declared.event.Event.{Event}
use Rattle.survey_code.specs.declared.event.Event.TheVariants as e
use Rattle.survey_code.specs.Events.{event_of, LinkRaises, LinkReads, RaisesBy, LinkCalls, CallsBy}
use Rattle.survey_code.specs.Laws.{RaisesByEvent, CallsByEvent}

bounds_event : (i : Instruction) → MayPassBounds i → event_of i ≡ Some e.PassBounds
bounds_event (LoadLX slot extent words) may = refl
bounds_event (StoreLX slot extent words) may = refl
bounds_event (LoadGX slot extent words) may = refl
bounds_event (StoreGX slot extent words) may = refl
bounds_event (Index count size) may = refl
bounds_event (CheckI least most) may = refl
bounds_event (CheckC least most) may = refl
bounds_event StrAt may = refl
bounds_event NarrowI may = refl
bounds_event NarrowC may = refl
bounds_event CheckD may = refl
bounds_event _ may = absurd may

divides_event : (i : Instruction) → MayDivide i → event_of i ≡ Some e.Divide
divides_event DivI may = refl
divides_event ModI may = refl
divides_event DivC may = refl
divides_event ModC may = refl
divides_event DivDI may = refl
divides_event ModDI may = refl
divides_event DivDC may = refl
divides_event ModDC may = refl
divides_event _ may = absurd may

-- What is raised.

abbrev Raised : Image → ℕ → Instruction → SignalId → Type 0
Raised image j i s = (event : Event) × (event_of i ≡ Some event) × RaisesBy image j event s

raised : (image : Image) (j : ℕ) (i : Instruction) (s : SignalId) → MayRaise image j i s → Raised image j i s
raised image j _ _ (rule.own k) = (e.Raise k, refl, refl)
raised image j _ _ (rule.linked k other n bound) = (e.RaiseLink k, refl, subst (λ o. LinkRaises o (Own other n)) (sym bound) refl)
raised image j _ _ (rule.wanted k w bound) = (e.RaiseLink k, refl, subst (λ o. LinkRaises o NoInput) (sym bound) refl)
raised image j _ _ (rule.hosts fault s is) = (e.RaiseHost fault, refl, is)
raised image j _ _ (rule.bounds i may) = (e.PassBounds, bounds_event i may, refl)
raised image j _ _ (rule.divides i may) = (e.Divide, divides_event i may, refl)
raised image j _ _ (rule.reads k w bound host) = (e.CallLink k, refl, subst (λ o. LinkReads image o NoInput) (sym bound) (host, refl))

link_raises : (image : Image) (j k : ℕ) (s : SignalId) (o : Option Link) → bound_to image j k ≡ o → LinkRaises o s → MayRaise image j (RaiseLink k) s
link_raises image j k s None bound r = absurd r
link_raises image j k s (Some (Wanted w)) bound r = subst (λ x. MayRaise image j (RaiseLink k) x) r (rule.wanted k w bound)
link_raises image j k s (Some (To other n)) bound r = subst (λ x. MayRaise image j (RaiseLink k) x) r (rule.linked k other n bound)

link_reads : (image : Image) (j k : ℕ) (s : SignalId) (o : Option Link) → bound_to image j k ≡ o → LinkReads image o s → MayRaise image j (CallLink k) s
link_reads image j k s None bound r = absurd r
link_reads image j k s (Some (Wanted w)) bound r = subst (λ x. MayRaise image j (CallLink k) x) r.1 (rule.reads k w bound r.0)
link_reads image j k s (Some (To other n)) bound r = absurd r

-- of the event that the instruction has
its : (image : Image) (j : ℕ) (s : SignalId) (one event : Event) → Some one ≡ Some event → RaisesBy image j event s → RaisesBy image j one s
its image j s one event is r = subst (λ x. RaisesBy image j x s) (sym (same_Some one event is)) r

passes : (image : Image) (j : ℕ) (i : Instruction) (s : SignalId) (event : Event) → MayPassBounds i → Some e.PassBounds ≡ Some event → RaisesBy image j event s
    → MayRaise image j i s
passes image j i s event may is r = subst (λ x. MayRaise image j i x) (its image j s e.PassBounds event is r) (rule.bounds i may)

divides : (image : Image) (j : ℕ) (i : Instruction) (s : SignalId) (event : Event) → MayDivide i → Some e.Divide ≡ Some event → RaisesBy image j event s
    → MayRaise image j i s
divides image j i s event may is r = subst (λ x. MayRaise image j i x) (its image j s e.Divide event is r) (rule.divides i may)

may_raise : (image : Image) (j : ℕ) (i : Instruction) (s : SignalId) (event : Event) → event_of i ≡ Some event → RaisesBy image j event s → MayRaise image j i s
may_raise image j (Raise k) s event is r = subst (λ x. MayRaise image j (Raise k) x) (its image j s (e.Raise k) event is r) (rule.own k)
may_raise image j (RaiseLink k) s event is r = link_raises image j k s (bound_to image j k) refl (its image j s (e.RaiseLink k) event is r)
may_raise image j (RaiseHost fault) s event is r = rule.hosts fault s (its image j s (e.RaiseHost fault) event is r)
may_raise image j (LoadLX slot extent words) s event is r = passes image j (LoadLX slot extent words) s event tt is r
may_raise image j (StoreLX slot extent words) s event is r = passes image j (StoreLX slot extent words) s event tt is r
may_raise image j (LoadGX slot extent words) s event is r = passes image j (LoadGX slot extent words) s event tt is r
may_raise image j (StoreGX slot extent words) s event is r = passes image j (StoreGX slot extent words) s event tt is r
may_raise image j (Index count size) s event is r = passes image j (Index count size) s event tt is r
may_raise image j (CheckI least most) s event is r = passes image j (CheckI least most) s event tt is r
may_raise image j (CheckC least most) s event is r = passes image j (CheckC least most) s event tt is r
may_raise image j StrAt s event is r = passes image j StrAt s event tt is r
may_raise image j NarrowI s event is r = passes image j NarrowI s event tt is r
may_raise image j NarrowC s event is r = passes image j NarrowC s event tt is r
may_raise image j CheckD s event is r = passes image j CheckD s event tt is r
may_raise image j DivI s event is r = divides image j DivI s event tt is r
may_raise image j ModI s event is r = divides image j ModI s event tt is r
may_raise image j DivC s event is r = divides image j DivC s event tt is r
may_raise image j ModC s event is r = divides image j ModC s event tt is r
may_raise image j DivDI s event is r = divides image j DivDI s event tt is r
may_raise image j ModDI s event is r = divides image j ModDI s event tt is r
may_raise image j DivDC s event is r = divides image j DivDC s event tt is r
may_raise image j ModDC s event is r = divides image j ModDC s event tt is r
may_raise image j (Call q) s event is r = absurd (its image j s (e.Call q) event is r)
may_raise image j (CallLink k) s event is r = link_reads image j k s (bound_to image j k) refl (its image j s (e.CallLink k) event is r)
may_raise image j _ s event is r = absurd (none-some event is)

pub raises_by_event : RaisesByEvent
raises_by_event image j i s = (raised image j i s, λ x. may_raise image j i s x.0 x.1 x.2)

-- What is called.

called : (image : Image) (j : ℕ) (i : Instruction) (other procedure : ℕ) → Calls image j i other procedure
    → (event : Event) × (event_of i ≡ Some event) × CallsBy image j event other procedure
called image j _ _ _ (rule.own q) = (e.Call q, refl, (refl, refl))
called image j _ _ _ (rule.linked k other q bound) = (e.CallLink k, refl, subst (λ o. LinkCalls o other q) (sym bound) (refl, refl))

link_calls : (image : Image) (j k other procedure : ℕ) (o : Option Link) → bound_to image j k ≡ o → LinkCalls o other procedure → Calls image j (CallLink k) other procedure
link_calls image j k other procedure None bound r = absurd r
link_calls image j k other procedure (Some (Wanted w)) bound r = absurd r
link_calls image j k other procedure (Some (To i q)) bound r =
    subst (λ x. Calls image j (CallLink k) x procedure) r.0 (subst (λ x. Calls image j (CallLink k) i x) r.1 (rule.linked k i q bound))

its_call : (image : Image) (j other procedure : ℕ) (one event : Event) → Some one ≡ Some event → CallsBy image j event other procedure → CallsBy image j one other procedure
its_call image j other procedure one event is r = subst (λ x. CallsBy image j x other procedure) (sym (same_Some one event is)) r

own_call : (image : Image) (j other procedure q : ℕ) → j ≡ other → q ≡ procedure → Calls image j (Call q) other procedure
own_call image j other procedure q is same = subst (λ x. Calls image j (Call q) x procedure) is (subst (λ x. Calls image j (Call q) j x) same (rule.own q))

calls : (image : Image) (j : ℕ) (i : Instruction) (other procedure : ℕ) (event : Event) → event_of i ≡ Some event → CallsBy image j event other procedure
    → Calls image j i other procedure
calls image j (Raise k) other procedure event is r = absurd (its_call image j other procedure (e.Raise k) event is r)
calls image j (RaiseLink k) other procedure event is r = absurd (its_call image j other procedure (e.RaiseLink k) event is r)
calls image j (RaiseHost fault) other procedure event is r = absurd (its_call image j other procedure (e.RaiseHost fault) event is r)
calls image j (LoadLX slot extent words) other procedure event is r = absurd (its_call image j other procedure e.PassBounds event is r)
calls image j (StoreLX slot extent words) other procedure event is r = absurd (its_call image j other procedure e.PassBounds event is r)
calls image j (LoadGX slot extent words) other procedure event is r = absurd (its_call image j other procedure e.PassBounds event is r)
calls image j (StoreGX slot extent words) other procedure event is r = absurd (its_call image j other procedure e.PassBounds event is r)
calls image j (Index count size) other procedure event is r = absurd (its_call image j other procedure e.PassBounds event is r)
calls image j (CheckI least most) other procedure event is r = absurd (its_call image j other procedure e.PassBounds event is r)
calls image j (CheckC least most) other procedure event is r = absurd (its_call image j other procedure e.PassBounds event is r)
calls image j StrAt other procedure event is r = absurd (its_call image j other procedure e.PassBounds event is r)
calls image j NarrowI other procedure event is r = absurd (its_call image j other procedure e.PassBounds event is r)
calls image j NarrowC other procedure event is r = absurd (its_call image j other procedure e.PassBounds event is r)
calls image j CheckD other procedure event is r = absurd (its_call image j other procedure e.PassBounds event is r)
calls image j DivI other procedure event is r = absurd (its_call image j other procedure e.Divide event is r)
calls image j ModI other procedure event is r = absurd (its_call image j other procedure e.Divide event is r)
calls image j DivC other procedure event is r = absurd (its_call image j other procedure e.Divide event is r)
calls image j ModC other procedure event is r = absurd (its_call image j other procedure e.Divide event is r)
calls image j DivDI other procedure event is r = absurd (its_call image j other procedure e.Divide event is r)
calls image j ModDI other procedure event is r = absurd (its_call image j other procedure e.Divide event is r)
calls image j DivDC other procedure event is r = absurd (its_call image j other procedure e.Divide event is r)
calls image j ModDC other procedure event is r = absurd (its_call image j other procedure e.Divide event is r)
calls image j (Call q) other procedure event is r =
    let c = its_call image j other procedure (e.Call q) event is r in own_call image j other procedure q c.0 c.1
calls image j (CallLink k) other procedure event is r =
    link_calls image j k other procedure (bound_to image j k) refl (its_call image j other procedure (e.CallLink k) event is r)
calls image j _ other procedure event is r = absurd (none-some event is)

pub calls_by_event : CallsByEvent
calls_by_event image j i other procedure = (called image j i other procedure, λ x. calls image j i other procedure x.0 x.1 x.2)
