-- Calls, returns and ends of arms are not stuck.
use Rattle.std.proofs.Common.{◌≡◌, ℕ, zero, suc, List, [], ◌∷◌, Bool, true, false, Option, Some, None, refl, sym, ap, subst, ◌∙◌}
use Rattle.std.specs.Prelude.{slice_get, nat_eq, ◌||◌}
use Rattle.std.proofs.lemmas.Bool.{false≢true, true≢false}
use Rattle.std.proofs.lemmas.Option.{none-some}
use Rattle.code_forms.specs.declared.instruction.Instruction.TheVariants.{CallLink}
use Rattle.code_forms.specs.declared.module_code.CodeKind.{CodeKind}
use Rattle.code_forms.specs.declared.module_code.CodeKind.TheVariants as kind
use Rattle.code_forms.specs.declared.module_code.CodeLink.{CodeLink}
use Rattle.code_forms.specs.declared.module_code.CodeProcedure.{CodeProcedure}
use Rattle.code_forms.specs.declared.module_code.ModuleCode.{ModuleCode}
use Rattle.code_forms.specs.declared.region.Region.{Region}
use Rattle.code_forms.specs.declared.region.Region.TheVariants.{Body, ArmOf}
use Rattle.code_forms.specs.Operands.{IsCalled, CalledLink}
use Rattle.object_files.specs.declared.image.Image.{Image}
use Rattle.object_files.specs.declared.image.Link.{Link}
use Rattle.object_files.specs.declared.image.Link.TheVariants.{Wanted, To}
use Rattle.signaller.specs.declared.signal_id.SignalId.{SignalId}
use Rattle.signaller.specs.declared.signal_id.SignalId.TheVariants.{NoInput}
use Rattle.machine_rules.specs.State.{ForRaise, ForJump, Role, Frame, InArm, Active, Activations, Store}
use Rattle.machine_rules.specs.LookUps.{code_of, procedure_of, called, link_of, bound_to, instruction_at, procedure_under, instruction_under, Host, WriteChar, WriteString, WriteDecimal, ReadChar, EndOfInput, host_of}
use Rattle.machine_rules.specs.Activations.{owner}
use Rattle.machine_rules.specs.Moves.{give}
use Rattle.machine_rules.specs.Signals.{reject, takes_back, can_resume, resumed, resume}
use Rattle.machine_rules.specs.Calls.{call, host_write, read_char, end_of_input, host, call_in, call_bound, pending, returned, return_of, return_from}
use Rattle.machine_rules.specs.Laws.{IsBound}
use Rattle.machine_rules.proofs.Located.{World, has as has_procedure, stands_at}
use Rattle.machine_rules.proofs.Going.{Controlled, Well, ended_not, well_with, well_if, well_top, well_give, held_still, under_is, body_of, well_frame, well_start}
use Rattle.machine_rules.proofs.Arming.{well_raise}
use Rattle.machine_rules.proofs.Standing.{Bare, bare, bare_role, bares, Searches, GoesOn, Calls, FrameOver, Raised, Owns, RoleFits, Stand}

abbrev is_arm : Region → Bool
is_arm Body = false
is_arm (ArmOf q k) = true

abbrev pub in_frame : Role (Unit {0}) → Bool
in_frame (Frame v) = true
in_frame (InArm own n why) = false

-- Hosts.

well_write : (image : Image) → World image → (n : ℕ) (text : List ℕ) (a : Active) (S : Activations) (m : Store) → GoesOn image (bare a) → Stand image (bares (a ∷ S))
    → Controlled image m.control → Well image (host_write image n text (a ∷ S) m)
unfolding host_write
well_write image w n text a S m g s c = well_give image w n [] a S _ g s c

nothing_back : (image : Image) (B : List Bare) (b : Bare) → Raised image NoInput (b ∷ B)
unfolding takes_back
nothing_back image B b = λ n e. absurd (false≢true e)

well_read : (image : Image) → World image → (input : List ℕ) (a : Active) (S : Activations) (m : Store) → GoesOn image (bare a) → Stand image (bares (a ∷ S))
    → Controlled image m.control → Well image (read_char image input a S m)
unfolding read_char
well_read image w (byte ∷ rest) a S m g s c = well_give image w 0 _ a S _ g s c
well_read image w [] a S m g s c = well_if image m.faulty _ _ (ended_not _ refl) (well_raise image w NoInput [] a S m s (nothing_back image (bares S) (bare a)) c)

well_peek : (image : Image) → World image → (input : List ℕ) (a : Active) (S : Activations) (m : Store) → GoesOn image (bare a) → Stand image (bares (a ∷ S))
    → Controlled image m.control → Well image (end_of_input image input a S m)
unfolding end_of_input
well_peek image w (byte ∷ rest) a S m g s c = well_give image w 0 _ a S m g s c
well_peek image w [] a S m g s c = well_if image m.faulty _ _ (ended_not _ refl) (well_give image w 0 _ a S m g s c)

well_host : (image : Image) → World image → (h : Host) (a : Active) (S : Activations) (m : Store) → GoesOn image (bare a) → Stand image (bares (a ∷ S))
    → Controlled image m.control → Well image (host image h a S m)
unfolding host
well_host image w WriteChar a S m g s c = well_top image a.operands _ (λ x rest. well_write image w 1 _ a S m g s c)
well_host image w WriteString a S m g s c = well_top image a.operands _ (λ k rest. well_top image rest _ (λ n more. well_write image w 2 _ a S m g s c))
well_host image w WriteDecimal a S m g s c = well_top image a.operands _ (λ x rest. well_write image w 1 _ a S m g s c)
well_host image w ReadChar a S m g s c = well_read image w m.input a S m g s c
well_host image w EndOfInput a S m g s c = well_peek image w m.input a S m g s c

-- Calls.

goes_still : (image : Image) (a : Bare) (operands : List ℕ) → GoesOn image a → GoesOn image (record a { operands = operands })
goes_still image a operands g = record { p = g.p; is = g.is; i = g.i; there = g.there; goes = g.goes }

pub well_call : (image : Image) → World image → (j n : ℕ) (p : CodeProcedure) → called image j n ≡ Some p → (a : Active) (S : Activations) (m : Store)
    → GoesOn image (bare a) → Stand image (bares (a ∷ S)) → Controlled image m.control → Well image (call j n p a S m)
unfolding call called
well_call image w j zero p e a S m g s c = absurd (none-some p e)
well_call image w j (suc n) p e a S m g s c =
    well_frame image w j (suc n) p e _ _ m (held_still image (bare a) (bares S) _ s.0, s.1) (goes_still image (bare a) _ g) c

well_call_in : (image : Image) → World image → (j n : ℕ) (p : CodeProcedure) → called image j n ≡ Some p → (a : Active) (S : Activations) (m : Store)
    → GoesOn image (bare a) → Calls image (bare a) → Stand image (bares (a ∷ S)) → Controlled image m.control → Well image (call_in image j n p a S m)
unfolding call_in called
well_call_in image w j zero p e a S m g k s c = absurd (none-some p e)
well_call_in image w j (suc n) p e a S m g k s c =
    let b = body_of image w j (suc n) p e in
    well_if image (nat_eq a.instance j || m.started j) _ _ (well_call image w j (suc n) p e a S m g s c) (well_start image w j b.0 b.1 (a ∷ S) m s k c)

pub well_bound : (image : Image) → World image → (l : Link) → IsBound image kind.Procedure (Some l) → (a : Active) (S : Activations) (m : Store)
    → GoesOn image (bare a) → Calls image (bare a) → Stand image (bares (a ∷ S)) → Controlled image m.control → Well image (call_bound image l a S m)
unfolding call_bound
well_bound image w (Wanted n) b a S m g k s c = well_with image (host_of image n) b.0 m _ b.1 (well_host image w b.0 a S m g s c)
well_bound image w (To j n) b a S m g k s c = well_with image (called image j n) b.0 m _ b.1 (well_call_in image w j n b.0 b.1 a S m g k s c)

-- to what a called link is bound
bound_there : (image : Image) (o : Option Link) → IsBound image kind.Procedure o → (l : Link) × (o ≡ Some l) × IsBound image kind.Procedure (Some l)
bound_there image None b = absurd b
bound_there image (Some l) b = (l, refl, b)

kind_bound : (image : Image) (k : CodeKind) (o : Option Link) → IsCalled k → IsBound image k o → IsBound image kind.Procedure o
kind_bound image kind.Procedure o i b = b
kind_bound image kind.Signal o i b = absurd i
kind_bound image kind.Error o i b = absurd i

link_there : (image : Image) → World image → (j k : ℕ) (code : ModuleCode) → code_of image j ≡ Some code → (o : Option CodeLink) → slice_get code.links k ≡ o → CalledLink o
    → (l : Link) × (bound_to image j k ≡ Some l) × IsBound image kind.Procedure (Some l)
unfolding link_of
link_there image w j k code is None e c = absurd c
link_there image w j k code is (Some link) e c =
    bound_there image (bound_to image j k) (kind_bound image link.kind (bound_to image j k) c (w.ready.links j k link (rw is e)))

pub link_bound : (image : Image) → World image → (a : Active) (p : CodeProcedure) → procedure_of image a.instance a.procedure ≡ Some p → (k : ℕ)
    → instruction_at p.code a.offset ≡ Some (CallLink k) → (l : Link) × (bound_to image a.instance k ≡ Some l) × IsBound image kind.Procedure (Some l)
link_bound image w a p of k is =
    let h = has_procedure image w a.instance a.procedure p of in
    let s = stands_at image a.instance p h a.offset (CallLink k) is in
    link_there image w a.instance k h.code h.is (slice_get h.code.links k) refl s.stood.operands

pub calls_go : (image : Image) (a : Bare) → Calls image a → GoesOn image a
calls_go image a k = record { p = k.p; is = k.is; i = CallLink k.link; there = k.there; goes = λ h. refl }

-- Returns.

well_pending : (image : Image) → World image → (a : Active) (S : Activations) (m : Store) → (k : Calls image (bare a)) → Stand image (bares (a ∷ S)) → Controlled image m.control
    → Well image (pending image (CallLink k.link) a S m)
unfolding pending
well_pending image w a S m k s c =
    let b = link_bound image w a k.p k.is k.link k.there in
    well_with image (bound_to image a.instance k.link) b.0 m _ b.1 (well_bound image w b.0 b.2 a S m (calls_go image (bare a) k) k s c)

pub well_returned : (image : Image) → World image → (n : ℕ) (results : List ℕ) (S : Activations) (m : Store) → FrameOver image n (bares S) → Stand image (bares S)
    → Controlled image m.control → Well image (returned image n results S m)
unfolding returned
well_returned image w zero results [] m o s c = (tt, c)
well_returned image w (suc n) results [] m o s c = (tt, c)
well_returned image w zero results (a ∷ S) m o s c =
    well_with image (instruction_under image a) (CallLink o.link) m _ (under_is image a o.p (CallLink o.link) o.is o.there) (well_pending image w a S m o s c)
well_returned image w (suc n) results (a ∷ S) m o s c = well_give image w 0 results a S m o s c

return_role : (image : Image) → World image → (p r : CodeProcedure) (a : Active) (role : Role (List ℕ)) (S : Activations) (m : Store)
    → in_frame (bare_role role) ≡ true → RoleFits image a.instance a.procedure r (bare_role role) (bares S) → Stand image (bares S) → Controlled image m.control
    → Well image (return_of image p a role S m)
unfolding return_of
return_role image w p r a (Frame variables) S m f over s c = well_returned image w a.procedure _ S m over s c
return_role image w p r a (InArm own n why) S m f over s c = absurd (false≢true f)

pub well_return : (image : Image) → World image → (a : Active) (S : Activations) (m : Store) → in_frame (bare_role a.role) ≡ true → Stand image (bares (a ∷ S))
    → Controlled image m.control → Well image (return_from image a S m)
unfolding return_from procedure_under
well_return image w a S m f s c =
    well_with image (procedure_of image a.instance a.procedure) ((s.0).at).p m _ ((s.0).at).is
    (return_role image w ((s.0).at).p ((s.0).at).p a a.role S m f (s.0).over s.1 c)

-- Ends of arms.

of_frame : (image : Image) (B : List Bare) (own i j : ℕ) (p : CodeProcedure) → (o : Owns B own i j) → procedure_of image i j ≡ Some p
    → procedure_of image (o.frame).instance (o.frame).procedure ≡ Some p
of_frame image B own i j p o is = ap (λ x. procedure_of image x (o.frame).procedure) o.instance_is ∙ ap (λ x. procedure_of image i x) o.procedure_is ∙ is

own_itself : (B : List Bare) (own i j : ℕ) → (o : Owns B own i j) → owner (o.frame).role own ≡ own
unfolding owner
own_itself B own i j o = rw o.kind refl

pub well_reject : (image : Image) → World image → (i j : ℕ) (p : CodeProcedure) → procedure_of image i j ≡ Some p → (role : Role (List ℕ)) (S : Activations) (m : Store)
    → in_frame (bare_role role) ≡ false → RoleFits image i j p (bare_role role) (bares S) → Stand image (bares S) → Controlled image m.control → Well image (reject role S m)
unfolding reject
well_reject image w i j p of (Frame variables) S m f over s c = absurd (true≢false f)
well_reject image w i j p of (InArm own n (ForRaise signal args beyond)) S m f over s c =
    let o = over.owns in (
      s,
      c,
      record {
        b = o.frame;
        is = o.is;
        p = p;
        of = of_frame image (bares S) own i j p o of;
        searches = subst (λ k. Searches true p (bares S) k beyond) (sym (own_itself (bares S) own i j o)) over.fits.1;
        raised = over.fits.0;
      },
    )
well_reject image w i j p of (InArm own n (ForJump target beyond)) S m f over s c = (s, c, over.fits.0, over.fits.1)

resume_given : (image : Image) → World image → (signal : SignalId) (words : List ℕ) (n : ℕ) → takes_back image signal n ≡ true → (S : Activations) (m : Store)
    → Raised image signal (bares S) → Stand image (bares S) → Controlled image m.control → Well image (give image 0 words S m)
resume_given image w signal words n t [] m r s c = absurd r
resume_given image w signal words n t (a ∷ S) m r s c = well_give image w 0 words a S m (r n t) s c

resumed_role : (image : Image) → World image → (i j : ℕ) (p : CodeProcedure) → procedure_of image i j ≡ Some p → (n : ℕ) (words : List ℕ) (role : Role (List ℕ))
    → (b : Bool) → can_resume image role n ≡ b → (S : Activations) (m : Store)
    → in_frame (bare_role role) ≡ false → RoleFits image i j p (bare_role role) (bares S) → Stand image (bares S) → Controlled image m.control
    → Well image (resumed b image words role S m)
unfolding resumed can_resume
resumed_role image w i j p of n words (Frame variables) b e S m f over s c = absurd (true≢false f)
resumed_role image w i j p of n words (InArm own k (ForRaise signal args beyond)) true e S m f over s c =
    resume_given image w signal words n e S m over.fits.0 s c
resumed_role image w i j p of n words (InArm own k (ForRaise signal args beyond)) false e S m f over s c =
    well_reject image w i j p of (InArm own k (ForRaise signal args beyond)) S m f over s c
resumed_role image w i j p of n words (InArm own k (ForJump target beyond)) true e S m f over s c = absurd (false≢true e)
resumed_role image w i j p of n words (InArm own k (ForJump target beyond)) false e S m f over s c =
    well_reject image w i j p of (InArm own k (ForJump target beyond)) S m f over s c

pub well_resume : (image : Image) → World image → (i j : ℕ) (p : CodeProcedure) → procedure_of image i j ≡ Some p → (n : ℕ) (words : List ℕ) (role : Role (List ℕ))
    (S : Activations) (m : Store) → in_frame (bare_role role) ≡ false → RoleFits image i j p (bare_role role) (bares S) → Stand image (bares S) → Controlled image m.control
    → Well image (resume image n words role S m)
unfolding resume
well_resume image w i j p of n words role S m f over s c = resumed_role image w i j p of n words role (can_resume image role n) refl S m f over s c
