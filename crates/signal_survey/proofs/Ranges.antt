-- What begins to come is a signal of the image, and what is called is a procedure of it.
use Rattle.std.proofs.Common.{◌≡◌, ⊎_elim, ℕ, zero, suc, ◌<◌, List, [], ◌∷◌, length, map, Option, None, Some, refl, sym, ap, subst, ◌∙◌, arith}
use Rattle.std.specs.Prelude.{slice_get, option_map, option_and_then, MatchOption, IsSomeAnd}
use Rattle.std.proofs.Math.ListN.{length-map}
use Rattle.std.proofs.lemmas.Option.{none-some, same_Some, slice_get_within}
use Rattle.code_forms.specs.declared.instruction.Instruction.{Instruction}
use Rattle.code_forms.specs.declared.module_code.CodeKind.{CodeKind}
use Rattle.code_forms.specs.declared.module_code.CodeKind.TheVariants.{Procedure, Signal, Error}
use Rattle.code_forms.specs.declared.module_code.CodeLink.{CodeLink}
use Rattle.code_forms.specs.declared.module_code.CodeProcedure.{CodeProcedure}
use Rattle.code_forms.specs.declared.module_code.CodeSignal.{CodeSignal}
use Rattle.code_forms.specs.declared.module_code.ModuleCode.{ModuleCode}
use Rattle.code_forms.specs.declared.region.Region.{Region}
use Rattle.code_forms.specs.Operands.{OperandsFit, IsCalled, IsRaised, CalledLink, RaisedLink}
use Rattle.code_forms.specs.Routine.{routine, spots, spot_of, words_of}
use Rattle.code_forms.specs.Regions.{region_at}
use Rattle.code_forms.specs.Valid.{Valid, SpotIsRight}
use Rattle.code_forms.proofs.Leading.{spot_there}
use Rattle.object_files.specs.declared.image.Image.{Image}
use Rattle.object_files.specs.declared.image.Link.{Link}
use Rattle.object_files.specs.declared.image.Link.TheVariants.{To}
use Rattle.object_files.specs.declared.object.Object.{Object}
use Rattle.signaller.specs.declared.signal_id.SignalId.{SignalId}
use Rattle.signaller.specs.declared.signal_id.SignalId.TheVariants.{Own}
use Rattle.machine_rules.specs.Laws.{HasValidCode}
use Rattle.machine_rules.specs.LookUps.{module_number, code_in, code_of, procedure_of, called, signal_of, link_of, bound_to, instruction_at}
use Rattle.machine_rules.specs.Steps.{host_signal}
use Rattle.machine_rules.proofs.OneResult.{found}
use Rattle.machine_ready.specs.Order.{ImageInOrder, IsBoundAlike}
use Rattle.machine_activations.specs.Links.{IsLike, IsOfInstance}
use Rattle.place_walks.specs.declared.place.Place.{Place}
use Rattle.survey_rules.specs.Escapes as rule
use Rattle.survey_rules.specs.Escapes.{IsCode, IsRun, MayRaise, Calls}
use Rattle.survey_rules.specs.Reached.{Stands}
use Rattle.survey_rules.proofs.Codes.{procedure_there}
use Rattle.signal_survey.specs.Follows.{Begins, raised as began, CallsOut, called as called_out}
use Rattle.signal_survey.specs.Ranges.{AreValid, HasSignal}

-- ---- the code of each instance is valid

valid_in : (image : Image) → HasValidCode image → (n : ℕ) (o : Option Object) → slice_get image.modules n ≡ o → (m : ModuleCode)
    → option_map (λ (object : Object). object.code) o ≡ Some m → Valid m
valid_in image v n None e m is = absurd (none-some m is)
valid_in image v n (Some o) e m is = subst Valid (same_Some o.code m is) (v n o e)

valid_of : (image : Image) → HasValidCode image → (m : ModuleCode) (n : Option ℕ) → option_and_then (code_in image) n ≡ Some m → Valid m
unfolding code_in
valid_of image v m None e = absurd (none-some m e)
valid_of image v m (Some n) e = valid_in image v n (slice_get image.modules n) refl m e

pub are_valid : (image : Image) → HasValidCode image → AreValid image
unfolding code_of
are_valid image v j m e = valid_of image v m (module_number image j) e

-- ---- the operands of an instruction of valid code are in range

pub record FitsAt (m : ModuleCode) (p : CodeProcedure) (i : Instruction) : Type 0 where
  pub region : Region
  pub fits : OperandsFit (routine m p) region i

pub fit_at : (m : ModuleCode) → Valid m → (n : ℕ) (p : CodeProcedure) → slice_get m.procedures n ≡ Some p → (at : ℕ) (i : Instruction) → instruction_at p.code at ≡ Some i → FitsAt m p i
fit_at m v n p there at i e =
    let valid = v n p (slice_get_within m.procedures n p there) there in
    let f = found p.code at i e in
    let spot = spot_there p.code f.number f.entry f.is in
    let s : SpotIsRight (routine m p) f.number (spot_of f.entry) = valid.spots f.number (spot_of f.entry) (slice_get_within (spots p.code) f.number (spot_of f.entry) spot) spot in
    record {
      region = region_at (routine m p).phrases (spot_of f.entry).at;
      fits = subst (λ x. OperandsFit (routine m p) (region_at (routine m p).phrases (spot_of f.entry).at) x) f.instruction s.operands.own;
    }

pub fits_at : (image : Image) → AreValid image → (j n at : ℕ) (m : ModuleCode) (p : CodeProcedure) (i : Instruction) → IsCode image j n m p → Stands m p at i → FitsAt m p i
fits_at image v j n at m p i c stands = fit_at m (v j m c.is_module) n p (procedure_there image j n m p c) at i stands.is

-- ---- what there is

pub record Here {X : Type 0} (xs : List X) (k : ℕ) : Type 0 where
  pub it : X
  pub is : slice_get xs k ≡ Some it

pub here : {X : Type 0} (xs : List X) (k : ℕ) → k < length xs → Here xs k
here [] k l = absurd (omega arith)
here (x ∷ xs) zero l = record { it = x; is = refl }
here (x ∷ xs) (suc k) l = let h = here xs k (omega (arith, l)) in record { it = h.it; is = h.is }

signal_here : (image : Image) (j k : ℕ) (m : ModuleCode) → code_of image j ≡ Some m → k < length m.signals → HasSignal image (Own j k)
unfolding signal_of
signal_here image j k m is l = let h = here m.signals k l in (h.it, ap (option_and_then (λ (x : ModuleCode). slice_get x.signals k)) is ∙ h.is)

pub record HasProcedure (image : Image) (j q : ℕ) : Type 0 where
  pub procedure : CodeProcedure
  pub is : procedure_of image j q ≡ Some procedure

procedure_here : (image : Image) (j q : ℕ) (m : ModuleCode) → code_of image j ≡ Some m → q < length m.procedures → HasProcedure image j q
unfolding procedure_of
procedure_here image j q m is l =
    let h = here m.procedures q l in record { procedure = h.it; is = ap (option_and_then (λ (x : ModuleCode). slice_get x.procedures q)) is ∙ h.is }

-- with each procedure the body is there
body_in : (image : Image) (j q : ℕ) (p : CodeProcedure) (o : Option ModuleCode) → code_of image j ≡ o → option_and_then (λ (x : ModuleCode). slice_get x.procedures q) o ≡ Some p
    → HasProcedure image j 0
body_in image j q p None e is = absurd (none-some p is)
body_in image j q p (Some m) e is = procedure_here image j 0 m e (let l = slice_get_within m.procedures q p is in omega (arith, l))

pub body_here : (image : Image) (j q : ℕ) → HasProcedure image j q → HasProcedure image j 0
unfolding procedure_of
body_here image j q h = body_in image j q h.procedure (code_of image j) refl h.is

-- ---- links

alike : (image : Image) → ImageInOrder image → (j k : ℕ) (l : CodeLink) (b : Link) → link_of image j k ≡ Some l → bound_to image j k ≡ Some b → IsBoundAlike image l b
alike image order j k l b link bound =
    subst (λ (o : Option Link). IsSomeAnd o (IsBoundAlike image l)) bound
    (subst (λ (o : Option CodeLink). MatchOption o (bound_to image j k ≡ None) (λ x. IsSomeAnd (bound_to image j k) (IsBoundAlike image x))) link (order.links j k))

of_signal : (image : Image) (l : CodeLink) (j k : ℕ) (o : Option CodeSignal) → signal_of image j k ≡ o → IsSomeAnd o (λ (s : CodeSignal). IsLike l s.kind s.args s.results)
    → HasSignal image (Own j k)
of_signal image l j k None e h = absurd h
of_signal image l j k (Some s) e h = (s, e)

raised_here : (image : Image) (l : CodeLink) (kind : CodeKind) (j k : ℕ) → IsRaised kind → IsOfInstance image l kind j k → HasSignal image (Own j k)
raised_here image l Procedure j k r h = absurd r
raised_here image l Signal j k r h = of_signal image l j k (signal_of image j k) refl h
raised_here image l Error j k r h = of_signal image l j k (signal_of image j k) refl h

of_called : (image : Image) (l : CodeLink) (j q : ℕ) (o : Option CodeProcedure) → called image j q ≡ o
    → IsSomeAnd o (λ (p : CodeProcedure). IsLike l Procedure p.args p.results) → HasProcedure image j q
unfolding called
of_called image l j zero None e h = absurd h
of_called image l j zero (Some p) e h = absurd (none-some p e)
of_called image l j (suc q) None e h = absurd h
of_called image l j (suc q) (Some p) e h = record { procedure = p; is = e }

called_here : (image : Image) (l : CodeLink) (kind : CodeKind) (j q : ℕ) → IsCalled kind → IsOfInstance image l kind j q → HasProcedure image j q
called_here image l Procedure j q r h = of_called image l j q (called image j q) refl h
called_here image l Signal j q r h = absurd r
called_here image l Error j q r h = absurd r

link_there : (image : Image) (j k : ℕ) (m : ModuleCode) (l : CodeLink) → code_of image j ≡ Some m → slice_get m.links k ≡ Some l → link_of image j k ≡ Some l
unfolding link_of
link_there image j k m l is link = ap (option_and_then (λ (x : ModuleCode). slice_get x.links k)) is ∙ link

raised_link : (image : Image) → ImageInOrder image → (instance k j n : ℕ) (m : ModuleCode) (o : Option CodeLink) → code_of image instance ≡ Some m → slice_get m.links k ≡ o
    → RaisedLink o → bound_to image instance k ≡ Some (To j n) → HasSignal image (Own j n)
raised_link image order instance k j n m None is e r bound = absurd r
raised_link image order instance k j n m (Some l) is e r bound =
    raised_here image l l.kind j n r (alike image order instance k l (To j n) (link_there image instance k m l is e) bound)

called_link : (image : Image) → ImageInOrder image → (instance k j q : ℕ) (m : ModuleCode) (o : Option CodeLink) → code_of image instance ≡ Some m → slice_get m.links k ≡ o
    → CalledLink o → bound_to image instance k ≡ Some (To j q) → HasProcedure image j q
called_link image order instance k j q m None is e r bound = absurd r
called_link image order instance k j q m (Some l) is e r bound =
    called_here image l l.kind j q r (alike image order instance k l (To j q) (link_there image instance k m l is e) bound)

-- ---- what may be raised

hosts_there : (image : Image) (fault : ℕ) (s : SignalId) → host_signal fault ≡ Some s → HasSignal image s
unfolding host_signal
hosts_there image zero s e = subst (HasSignal image) (same_Some _ s e) tt
hosts_there image (suc zero) s e = subst (HasSignal image) (same_Some _ s e) tt
hosts_there image (suc (suc zero)) s e = subst (HasSignal image) (same_Some _ s e) tt
hosts_there image (suc (suc (suc n))) s e = absurd (none-some s e)

may_raise_there : (image : Image) → ImageInOrder image → (j : ℕ) (m : ModuleCode) (p : CodeProcedure) (i : Instruction) (s : SignalId) → code_of image j ≡ Some m → FitsAt m p i
    → MayRaise image j i s → HasSignal image s
may_raise_there image order j m p _ _ is f (rule.own k) = signal_here image j k m is f.fits
may_raise_there image order j m p _ _ is f (rule.linked k other n bound) = raised_link image order j k other n m (slice_get m.links k) is refl f.fits bound
may_raise_there image order j m p _ _ is f (rule.wanted k w bound) = tt
may_raise_there image order j m p _ _ is f (rule.hosts fault s e) = hosts_there image fault s e
may_raise_there image order j m p _ _ is f (rule.bounds i may) = tt
may_raise_there image order j m p _ _ is f (rule.divides i may) = tt
may_raise_there image order j m p _ _ is f (rule.reads k w bound host) = tt

pub begins_in : (image : Image) → ImageInOrder image → AreValid image → (s : SignalId) (x : Place) → Begins image s x → HasSignal image s
begins_in image order v s _ (began j n at m p i c stands may) = may_raise_there image order j m p i s c.is_module (fits_at image v j n at m p i c stands) may

pub begins_there : (image : Image) → ImageInOrder image → HasValidCode image → (s : SignalId) (x : Place) → Begins image s x → HasSignal image s
begins_there image order v s x b = begins_in image order (are_valid image v) s x b

-- ---- what may be called

calls_there : (image : Image) → ImageInOrder image → (j other q : ℕ) (m : ModuleCode) (p : CodeProcedure) (i : Instruction) → code_of image j ≡ Some m → FitsAt m p i
    → Calls image j i other q → HasProcedure image other q
calls_there image order j _ _ m p _ is f (rule.own q) =
    let l = (f.fits).1 in let e : length (map words_of m.procedures) ≡ length m.procedures = length-map m.procedures words_of in
    procedure_here image j q m is (omega (arith, l, e))
calls_there image order j _ _ m p _ is f (rule.linked k other q bound) = called_link image order j k other q m (slice_get m.links k) is refl f.fits bound

run_there : (image : Image) (j other procedure q : ℕ) → HasProcedure image other procedure → IsRun j other procedure q → HasProcedure image other q
run_there image j other procedure q h run =
    ⊎_elim
    (λ (e : q ≡ procedure). subst (λ x. HasProcedure image other x) (sym e) h)
    (λ (b : (other ≡ j → ⊥) × (q ≡ 0)). subst (λ x. HasProcedure image other x) (sym b.1) (body_here image other procedure h)) run

pub calls_out_in : (image : Image) → ImageInOrder image → AreValid image → (other q : ℕ) (x : Place) → CallsOut image other q x → HasProcedure image other q
calls_out_in image order v other q _ (called_out j n at procedure m p i c stands calls run) =
    run_there image j other procedure q (calls_there image order j other procedure m p i c.is_module (fits_at image v j n at m p i c stands) calls) run

pub calls_out_there : (image : Image) → ImageInOrder image → HasValidCode image → (other q : ℕ) (x : Place) → CallsOut image other q x → HasProcedure image other q
calls_out_there image order v other q x o = calls_out_in image order (are_valid image v) other q x o
