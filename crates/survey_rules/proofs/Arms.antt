-- Searches and arms of a state that is traced.
use Rattle.std.proofs.Common.{◌≡◌, ◌⊎◌, inr, ⊎_elim, ℕ, zero, suc, ◌+◌, ◌<◌, List, [], ◌∷◌, length, Bool, true, false, Option, Some, None, refl, sym, ap, subst, ◌∙◌, arith}
use Rattle.std.specs.Prelude.{Contains, nat_eq, position, slice_get, if◌then◌else◌}
use Rattle.std.proofs.lemmas.Bool.{true≢false}
use Rattle.std.proofs.lemmas.List.Quantifiers.{position-Some}
use Rattle.std.proofs.lemmas.Option.{none-some, same_Some}
use Rattle.code_forms.specs.declared.instruction.Instruction.{Instruction}
use Rattle.code_forms.specs.declared.instruction.Instruction.TheVariants.{ArmEnd, Resume}
use Rattle.code_forms.specs.declared.module_code.Arm.{Arm}
use Rattle.code_forms.specs.declared.module_code.CodeProcedure.{CodeProcedure}
use Rattle.code_forms.specs.declared.module_code.ModuleCode.{ModuleCode}
use Rattle.code_forms.specs.declared.module_code.Phrase.{Phrase}
use Rattle.code_forms.specs.Regions.{region_at}
use Rattle.code_forms.specs.Routine.{spots, spot_of, IsStart}
use Rattle.code_forms.proofs.Leading.{spot_there}
use Rattle.object_files.specs.declared.image.Image.{Image}
use Rattle.signaller.specs.declared.place.Place.{Place}
use Rattle.signaller.specs.declared.search.Search.{Search}
use Rattle.signaller.specs.declared.signal_id.SignalId.{SignalId}
use Rattle.signaller.specs.Search.{arms_of, arms_before, asked, search_at, first_place, numbered, fits_signal, next_arm}
use Rattle.signaller.specs.Sought.{IsPlace}
use Rattle.machine_rules.specs.State.{Why, ForRaise, ForJump, Role, Frame, InArm, Active, Activations, Store}
use Rattle.machine_rules.specs.LookUps.{procedure_of, links_of, instruction_at, procedure_under, instruction_under, phrases_under, arm_under}
use Rattle.machine_rules.specs.Activations.{activation_at, owner}
use Rattle.machine_rules.specs.Moves.{give}
use Rattle.machine_rules.specs.Signals.{put_at, enter_arm, around, outward, asked as asked_of, seek, reject, takes_back, can_resume, resumed, resume}
use Rattle.machine_rules.proofs.Arming.{owner_bare, phrases_are}
use Rattle.machine_rules.proofs.Holding.{ArmAtPlace, arm_at_place, arm_found, has_is, has_of}
use Rattle.machine_rules.proofs.Located.{World, Has, has as has_procedure, start_below}
use Rattle.machine_rules.proofs.OneResult.{found}
use Rattle.machine_rules.proofs.Placing.{placed, same_place}
use Rattle.machine_rules.proofs.Standing.{Bare, bare, bare_role, bares, bares_long, set_bares, at_top, Numbered, RoleIn, Located, Raised, Owns, RoleFits, Stand}
use Rattle.survey_rules.specs.Escapes.{IsCode, Catches, Comes, called, passed, position_of, position_beyond, escapes}
use Rattle.survey_rules.specs.Reached.{Reached, in_arm, StandsIn}
use Rattle.survey_rules.proofs.Codes.{code_there, one_code, under_at}
use Rattle.survey_rules.proofs.Coming.{come_alive, ComesTo, comes_to}
use Rattle.survey_rules.proofs.Living.{Alive}
use Rattle.survey_rules.proofs.Instructions.{reached_starts}
use Rattle.survey_rules.proofs.Following.{follows_with, follows_spend, follows_enter, follows_give}
use Rattle.survey_rules.proofs.Tracing.{Reaches, RunsBy, Started, ForSignal, WhyFrom, RoleFrom, Trace, Named, SeeksComing, Follows, under}

-- An arm begins.

arm_bare : (image : Image) (b : Active) (n : ℕ) (arm : Arm) → arm_under image b n ≡ Some arm → arm_under image (bare b) n ≡ Some arm
unfolding arm_under phrases_under procedure_under
arm_bare image b n arm e = e

-- the arm of a phrase in whose range an offset is reached begins at a reached offset
pub arm_reached : (image : Image) → World image → (b : Bare) (p : CodeProcedure) (m : ModuleCode) → IsCode image b.instance b.procedure m p → (place : Place) → IsPlace p.phrases place
    → Alive m p place.phrase → (n : ℕ) → n ≡ arms_before p.phrases place.phrase + place.arm → (arm : Arm) → arm_under image b n ≡ Some arm
    → Reaches image (record b { offset = arm.start })
arm_reached image w b p m c place is alive n number arm e = λ m' p' c'.
    let there_is = reached_starts image w b.instance b.procedure m p c alive.at alive.reached in
    let x = arm_at_place p.phrases place is in
    let same : x.0 ≡ arm = same_Some x.0 arm (sym (arm_found image b p c.is_procedure place x.0 x.1 n number) ∙ e) in
    let phrase : (x.1).phrase ≡ alive.phrase = same_Some (x.1).phrase alive.phrase (sym (x.1).is ∙ alive.is) in
    let there : slice_get alive.phrase.arms place.arm ≡ Some arm =
    subst (λ (ph : Phrase). slice_get ph.arms place.arm ≡ Some arm) phrase ((x.1).there ∙ ap Some same) in
    one_code (λ k q. Reached k q arm.start) image b.instance b.procedure m m' p p' c c'
    (in_arm alive.at place.phrase place.arm there_is.instruction alive.phrase arm alive.reached there_is.is alive.is alive.covered there)

pub follows_arm : (image : Image) (n : ℕ) (b : Active) (q : ℕ) (why : Why) (words : List ℕ) (S : Activations) (m : Store)
    → ((arm : Arm) → arm_under image (bare b) n ≡ Some arm → Reaches image (record (bare b) { offset = arm.start })) → WhyFrom image b.instance b.procedure n why (bares S)
    → Trace image (bares S) → Named image m.control → Follows image (enter_arm image n b q why words S m)
unfolding enter_arm put_at
follows_arm image n b q why words S m r y t c = follows_with image (arm_under image b n) m _ (λ arm e. follows_spend image m _ (λ m1 same.
    follows_enter image _ _ m1
    (subst (λ B. Trace image (record { instance = b.instance; procedure = b.procedure; offset = arm.start; operands = []; role = InArm (owner b.role q) n why } ∷ B))
    (sym (set_bares S (owner b.role q) _)) (record { reaches = r arm (arm_bare image b n arm e); role = y }, t))
    (subst (λ k. Named image k) (sym same) c)))

-- The activation at a place.

at_bare_if : (t : Bool) (a : Active) (S : Activations) (q : ℕ) (b : Active) → (activation_at S q ≡ Some b → activation_at (bares S) q ≡ Some (bare b))
    → (if t then Some a else activation_at S q) ≡ Some b → (if t then Some (bare a) else activation_at (bares S) q) ≡ Some (bare b)
at_bare_if true a S q b next e = ap (λ (x : Active). Some (bare x)) (same_Some a b e)
at_bare_if false a S q b next e = next e

pub at_bare : (S : Activations) (q : ℕ) (b : Active) → activation_at S q ≡ Some b → activation_at (bares S) q ≡ Some (bare b)
unfolding activation_at
at_bare [] q b e = absurd (none-some b e)
at_bare (a ∷ S) q b e =
    subst (λ n. (if nat_eq q n then Some (bare a) else activation_at (bares S) q) ≡ Some (bare b)) (sym (bares_long S))
    (at_bare_if (nat_eq q (length S)) a S q b (at_bare S q b) e)

lowest_started : (image : Image) (j n : ℕ) (B : List Bare) → length B ≡ 0 → Started image j n B → (n ≡ 0) × Contains image.control j
lowest_started image j n [] e s = s
lowest_started image j n (b ∷ B) e s = absurd (omega (arith, e))

-- under a frame stands what it was run for
record Caller (image : Image) (B : List Bare) (q instance procedure : ℕ) : Type 0 where
  b : Bare
  is : activation_at B q ≡ Some b
  runs : RunsBy image b instance procedure

caller : (image : Image) (j n q : ℕ) (B : List Bare) → length B ≡ suc q → Started image j n B → Caller image B q j n
caller image j n q [] e s = absurd (omega (arith, e))
caller image j n q (b ∷ B) e s =
    let long : length B ≡ q = omega (arith, e) in
    record { b = b; is = subst (λ k. activation_at (b ∷ B) k ≡ Some b) long (at_top b B); runs = s }

module _ (image : Image) (w : World image) where
  -- Searches.

  -- it comes out of a frame, and so to what this was run for
  comes_out : (signal : SignalId) (B : List Bare) → Stand image B → Trace image B → (own q j n : ℕ) → own ≡ suc q → Owns B own j n → Comes image signal j n None
      → (b : Bare) → activation_at B q ≡ Some b → (p : CodeProcedure) → procedure_of image b.instance b.procedure ≡ Some p
      → Comes image signal b.instance b.procedure (position_of p b.offset)
  comes_out signal B s t own q j n e o comes b at p of =
      let f = o.frame in
      let u = under image B own f t o.is in
      let started : Started image j n u.below =
      subst (λ k. Started image k n u.below) o.instance_is (subst (λ k. Started image f.instance k u.below) o.procedure_is
      (subst (λ r. RoleFrom image f.instance f.procedure r u.below) o.kind (u.from).role)) in
      let k = caller image j n q u.below (u.long ∙ e) started in
      let same : k.b ≡ b = same_Some k.b b (sym (u.stay q k.b k.is) ∙ at) in
      let r : RunsBy image b j n = subst (λ x. RunsBy image x j n) same k.runs in
      let h = has_procedure image w b.instance b.procedure p of in
      let c = code_there image b.instance b.procedure p of h in
      let reached = ((under image B q b t at).from).reaches h.code p c in
      called b.instance b.procedure b.offset j r.called n h.code p r.i c (record { reached = reached; is = under_at image b p r.i of r.is }) r.calls r.run comes

  follows_outward : (signal : SignalId) (args : List ℕ) (own j n : ℕ) (S : Activations) (m : Store) → Owns (bares S) own j n → Comes image signal j n None
      → Stand image (bares S) → Trace image (bares S) → Named image m.control → Follows image (outward image signal args own S m)
  unfolding outward around
  follows_outward signal args zero j n S m o comes s t c =
      let f = o.frame in
      let u = under image (bares S) 0 f t o.is in
      let started = lowest_started image f.instance f.procedure u.below u.long (subst (λ r. RoleFrom image f.instance f.procedure r u.below) o.kind (u.from).role) in
      escapes j (subst (λ k. Contains image.control k) o.instance_is started.1)
      (subst (λ k. Comes image signal j k None) (sym o.procedure_is ∙ started.0) comes)
  follows_outward signal args (suc q) j n S m o comes s t c = follows_with image (activation_at S q) m _ (λ a e.
      let at = at_bare S q a e in
      let l = placed image (bares S) q (bare a) s at in
      let more = comes_out signal (bares S) s t (suc q) q j n refl o comes (bare a) at l.p l.is in (
        t,
        c,
        λ b is. subst (λ (x : Bare). Comes image signal x.instance x.procedure (search_at true (phrases_under image a) a.offset).phrase) (same_Some (bare a) b (sym at ∙ is))
            (subst (λ (x : List Phrase). Comes image signal a.instance a.procedure (search_at true x a.offset).phrase) (sym (phrases_are image a l.p l.is)) more),
      ))

  position_within : {X : Type 0} (test : X → Bool) (xs : List X) (k : ℕ) → position test xs ≡ Some k → k < length xs
  position_within test [] k e = absurd (none-some k e)
  position_within test (x ∷ xs) k e = (position-Some test (x ∷ xs) k x e).0

  follows_place : (signal : SignalId) (args : List ℕ) (b : Active) (q : ℕ) (S : Activations) (m : Store) → Stand image (bares S) → Trace image (bares S) → Named image m.control
      → activation_at (bares S) q ≡ Some (bare b) → (p : CodeProcedure) → procedure_of image b.instance b.procedure ≡ Some p
      → (o : Option Place) → ComesTo image signal b.instance b.procedure p o → Follows image (asked_of image signal args b q (numbered true p.phrases o) S m)
  unfolding asked_of
  follows_place signal args b q S m s t c at p of None comes =
      let l = placed image (bares S) q (bare b) s at in
      follows_outward signal args (owner b.role q) b.instance b.procedure S m (subst (λ k. Owns (bares S) k b.instance b.procedure) (owner_bare b.role q) l.owns) comes s t c
  follows_place signal args b q S m s t c at p of (Some place) comes =
      let h = has_procedure image w b.instance b.procedure p of in
      let code = code_there image b.instance b.procedure p of h in
      let alive = come_alive image w signal b.instance b.procedure (Some place.phrase) comes.0 h.code p code place.phrase refl in
      let first : position (fits_signal (links_of image b.instance) signal) alive.phrase.arms ≡ Some place.arm =
      subst (λ o. position (fits_signal (links_of image b.instance) signal) (arms_of o) ≡ Some place.arm) alive.is comes.1 in
      let there : IsPlace p.phrases place = record { phrase = alive.phrase; is = alive.is; arm = position_within _ alive.phrase.arms place.arm first } in
      follows_arm image _ b q _ args S m
      (λ arm e. arm_reached image w (bare b) p h.code code place there alive _ refl arm e)
      (record { p = p; is = of; place = place; number_is = refl; first = comes.1; rest = refl; comes = comes.0 })
      t c

  pub follows_seek : (signal : SignalId) (args : List ℕ) (q : ℕ) (search : Search) (S : Activations) (m : Store) → Stand image (bares S) → Trace image (bares S)
      → Named image m.control → SeeksComing image signal (bares S) q search → Follows image (seek image signal args q search S m)
  unfolding seek
  follows_seek signal args q search S m s t c k = follows_with image (activation_at S q) m _ (λ b e.
      let at = at_bare S q b e in
      let l = placed image (bares S) q (bare b) s at in
      let h = has_procedure image w b.instance b.procedure l.p l.is in
      let code = code_there image b.instance b.procedure l.p l.is h in
      let comes = comes_to image signal b.instance b.procedure h.code l.p code (asked true (l.p).phrases search.phrase) search.phrase (k (bare b) at) refl in
      subst (λ (x : List Phrase). Follows image (asked_of image signal args b q (next_arm x search (links_of image b.instance) signal) S m)) (sym (phrases_are image b l.p l.is))
      (follows_place signal args b q S m s t c at l.p l.is (first_place (fits_signal (links_of image b.instance) signal) (l.p).phrases (asked true (l.p).phrases search.phrase)) comes))

  -- What comes of an arm.

  -- the instruction lets the signal past the phrase of the arm that is run for it
  abbrev pub LetsPast : Instruction → SignalId → Type 0
  LetsPast i signal = (i ≡ ArmEnd) ⊎ ((words : ℕ) × (i ≡ Resume words) × (takes_back image signal words ≡ false))

  start_at : (p : CodeProcedure) (offset : ℕ) (i : Instruction) → instruction_at p.code offset ≡ Some i → IsStart (spots p.code) offset
  start_at p offset i is =
      let f = found p.code offset i is in
      record { number = f.number; begins = record { spot = spot_of f.entry; is = spot_there p.code f.number f.entry f.is; at = f.begins } }

  -- where it is reached in an arm, the phrase does not stop the signal
  lets_past : (j n : ℕ) (p : CodeProcedure) → procedure_of image j n ≡ Some p → (a : Bare) → a.instance ≡ j → a.procedure ≡ n → (signal : SignalId) (place : Place) (number : ℕ)
      → number ≡ arms_before p.phrases place.phrase + place.arm
      → position (fits_signal (links_of image j) signal) (arms_of (slice_get p.phrases place.phrase)) ≡ Some place.arm
      → (h : Has image j p) → Reached h.code p a.offset → (i : Instruction) → instruction_at p.code a.offset ≡ Some i → LetsPast i signal
      → Numbered p number (region_at p.phrases a.offset) → Catches image j h.code p signal place.phrase → ⊥
  lets_past j n p of a ji ni signal place number number_is first h reached i is lets numbered' k =
      let arm : k.k ≡ place.arm =
      same_Some k.k place.arm (sym k.first ∙ ap (λ o. position (fits_signal (links_of image j) signal) (arms_of o)) (sym k.is_phrase) ∙ first) in
      let at : ArmAtPlace p.phrases place k.arm = record { phrase = k.phrase; is = k.is_phrase; there = ap (λ x. slice_get (k.phrase).arms x) (sym arm) ∙ k.is_arm } in
      let there : IsPlace p.phrases place = record { phrase = k.phrase; is = k.is_phrase; arm = position_within _ (k.phrase).arms place.arm (k.first ∙ ap Some arm) } in
      let of_a : procedure_of image a.instance a.procedure ≡ Some p = ap (λ x. procedure_of image x a.procedure) ji ∙ ap (λ x. procedure_of image j x) ni ∙ of in
      let region = numbered'.region_is
      ∙ same_place p h.valid.phrases image a of_a numbered'.place place numbered'.is there number numbered'.number number_is in
      let inside = has_is k.arm a.offset
      (has_of (spots p.code) p.phrases a.offset h.valid.phrases (start_below p.code h.order a.offset (start_at p a.offset i is)) place k.arm at region) in
      let stands : StandsIn h.code p k.arm i = record { at = a.offset; stands = record { reached = reached; is = is }; behind = inside.0; before = inside.1 } in
      ⊎_elim
      (λ (e : i ≡ ArmEnd). (k.stops).no_end (subst (λ x. StandsIn h.code p k.arm x) e stands))
      (λ (e : (words : ℕ) × (i ≡ Resume words) × (takes_back image signal words ≡ false)).
      true≢false (sym ((k.stops).resumes e.0 (subst (λ x. StandsIn h.code p k.arm x) e.1 stands)) ∙ e.2))
      lets

  -- what the end of an arm has to be
  abbrev pub Rejects : Instruction → Role (List ℕ) → Type 0
  Rejects i (Frame variables) = Unit {0}
  Rejects i (InArm own n (ForRaise signal args after)) = LetsPast i signal
  Rejects i (InArm own n (ForJump target after)) = Unit {0}

  signal_goes_on : (a : Active) (S : Activations) (m : Store) (i : Instruction) → instruction_under image (bare a) ≡ Some i → (own n : ℕ) (signal : SignalId) (args : List ℕ) (after : Search)
      → LetsPast i signal → (l : Located image (bare a)) → RoleIn l.p (InArm own n (ForRaise signal args after)) (region_at (l.p).phrases a.offset)
      → Owns (bares S) own a.instance a.procedure → Reaches image (bare a) → ForSignal image a.instance a.procedure n signal after
      → SeeksComing image signal (bares S) own after
  signal_goes_on a S m i is own n signal args after lets l numbered' o reaches f =
      let h = has_procedure image w a.instance a.procedure f.p f.is in
      let c = code_there image a.instance a.procedure f.p f.is h in
      let same : l.p ≡ f.p = same_Some l.p f.p (sym l.is ∙ f.is) in
      let lets_it : Catches image a.instance h.code f.p signal (f.place).phrase → ⊥ =
      lets_past a.instance a.procedure f.p f.is (bare a) refl refl signal f.place n f.number_is f.first h (reaches h.code f.p c) i (under_at image (bare a) f.p i f.is is) lets
      (subst (λ (x : CodeProcedure). Numbered x n (region_at x.phrases a.offset)) same numbered') in
      let comes : Comes image signal a.instance a.procedure (position_beyond f.p (f.place).phrase) =
      passed a.instance a.procedure (f.place).phrase h.code f.p c f.comes lets_it in
      let here : Comes image signal a.instance a.procedure after.phrase = subst (λ (x : Search). Comes image signal a.instance a.procedure x.phrase) (sym f.rest) comes in
      λ b at.
      let frame : o.frame ≡ b = same_Some o.frame b (sym o.is ∙ at) in
      subst (λ (x : Bare). Comes image signal x.instance x.procedure after.phrase) frame
      (subst (λ k. Comes image signal k (o.frame).procedure after.phrase) (sym o.instance_is)
      (subst (λ k. Comes image signal a.instance k after.phrase) (sym o.procedure_is) here))

  reject_role : (a : Active) (S : Activations) (m : Store) (i : Instruction) → instruction_under image (bare a) ≡ Some i → (role : Role (List ℕ)) → Rejects i role
      → (l : Located image (bare a)) → RoleIn l.p (bare_role role) (region_at (l.p).phrases a.offset) → RoleFits image a.instance a.procedure l.p (bare_role role) (bares S)
      → Reaches image (bare a) → RoleFrom image a.instance a.procedure (bare_role role) (bares S) → Trace image (bares S) → Named image m.control → Follows image (reject role S m)
  unfolding reject
  reject_role a S m i is (Frame variables) r l at over reaches from t c = tt
  reject_role a S m i is (InArm own n (ForRaise signal args after)) r l at over reaches from t c =
      (t, c, signal_goes_on a S m i is own n signal args after r l at over.owns reaches from)
  reject_role a S m i is (InArm own n (ForJump target after)) r l at over reaches from t c = (t, c, from.0, from.1)

  pub follows_reject : (a : Active) (S : Activations) (m : Store) (i : Instruction) → instruction_under image (bare a) ≡ Some i → Rejects i a.role → Stand image (bares (a ∷ S))
      → Trace image (bares (a ∷ S)) → Named image m.control → Follows image (reject a.role S m)
  follows_reject a S m i is r s t c = reject_role a S m i is a.role r (s.0).at ((s.0).at).role (s.0).over (t.0).reaches (t.0).role t.1 c

  given_back : (signal : SignalId) (n : ℕ) (words : List ℕ) (S : Activations) (m : Store) → takes_back image signal n ≡ true → Raised image signal (bares S)
      → Trace image (bares S) → Named image m.control → Follows image (give image 0 words S m)
  given_back signal n words [] m e r t c = absurd r
  given_back signal n words (a ∷ S) m e r t c = follows_give image w 0 words a S m (r n e) t c

  resume_role : (a : Active) (S : Activations) (m : Store) (n : ℕ) (words : List ℕ) → instruction_under image (bare a) ≡ Some (Resume n) → (role : Role (List ℕ)) (b : Bool)
      → can_resume image role n ≡ b → (l : Located image (bare a)) → RoleIn l.p (bare_role role) (region_at (l.p).phrases a.offset)
      → RoleFits image a.instance a.procedure l.p (bare_role role) (bares S) → Reaches image (bare a) → RoleFrom image a.instance a.procedure (bare_role role) (bares S)
      → Trace image (bares S) → Named image m.control → Follows image (resumed b image words role S m)
  unfolding resumed can_resume
  resume_role a S m n words is (Frame variables) true e l at over reaches from t c = absurd (true≢false (sym e))
  resume_role a S m n words is (InArm own k (ForRaise signal args after)) true e l at over reaches from t c =
      given_back signal n words S m e over.fits.0 t c
  resume_role a S m n words is (InArm own k (ForJump target after)) true e l at over reaches from t c = absurd (true≢false (sym e))
  resume_role a S m n words is (Frame variables) false e l at over reaches from t c =
      reject_role a S m (Resume n) is (Frame variables) tt l at over reaches from t c
  resume_role a S m n words is (InArm own k (ForRaise signal args after)) false e l at over reaches from t c =
      reject_role a S m (Resume n) is (InArm own k (ForRaise signal args after)) (inr (n, refl, e)) l at over reaches from t c
  resume_role a S m n words is (InArm own k (ForJump target after)) false e l at over reaches from t c =
      reject_role a S m (Resume n) is (InArm own k (ForJump target after)) tt l at over reaches from t c

  pub follows_resume : (a : Active) (S : Activations) (m : Store) (n : ℕ) (words : List ℕ) → instruction_under image (bare a) ≡ Some (Resume n) → Stand image (bares (a ∷ S))
      → Trace image (bares (a ∷ S)) → Named image m.control → Follows image (resume image n words a.role S m)
  unfolding resume
  follows_resume a S m n words is s t c =
      resume_role a S m n words is a.role (can_resume image a.role n) refl (s.0).at ((s.0).at).role (s.0).over (t.0).reaches (t.0).role t.1 c
