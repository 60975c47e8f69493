-- What is known of the activation at a place.
use Rattle.std.proofs.Common.{◌≡◌, ⊎_elim, ℕ, ◌+◌, List, [], ◌∷◌, length, Bool, true, false, Some, refl, sym, ap, subst, ◌∙◌, arith}
use Rattle.std.specs.Prelude.{slice_get}
use Rattle.std.proofs.lemmas.Bool.{false≢true}
use Rattle.std.proofs.lemmas.Option.{same_Some}
use Rattle.code_forms.specs.declared.module_code.Arm.{Arm}
use Rattle.code_forms.specs.declared.module_code.CodeProcedure.{CodeProcedure}
use Rattle.code_forms.specs.declared.module_code.Phrase.{Phrase}
use Rattle.code_forms.specs.declared.region.Region.{Region}
use Rattle.code_forms.specs.declared.region.Region.TheVariants.{Body, ArmOf}
use Rattle.code_forms.specs.Phrases.{PhrasesFill}
use Rattle.code_forms.specs.Regions.{region_at}
use Rattle.code_forms.specs.Routine.{spots}
use Rattle.object_files.specs.declared.image.Image.{Image}
use Rattle.signaller.specs.declared.place.Place.{Place}
use Rattle.signaller.specs.Search.{has, arms_before}
use Rattle.signaller.specs.Sought.{IsPlace}
use Rattle.machine_rules.specs.State.{Why, Role, Frame, InArm}
use Rattle.machine_rules.specs.LookUps.{procedure_of}
use Rattle.machine_rules.specs.Activations.{activation_at, owner}
use Rattle.machine_rules.proofs.Located.{World, has as has_procedure}
use Rattle.machine_rules.proofs.Holding.{arm_at_place, arm_found, region_of, has_from, arm_filled}
use Rattle.machine_rules.proofs.Searching.{Holders}
use Rattle.machine_rules.proofs.Standing.{Bare, at_more, at_cases, at_within, Numbered, RoleIn, Running, in_body, in_arm, Owns, IsHeld, ArmFits, RoleFits, Fits, Stand}

-- two places of one number are one region
pub same_place : (p : CodeProcedure) → PhrasesFill (spots p.code) p.phrases → (image : Image) (b : Bare) → procedure_of image b.instance b.procedure ≡ Some p
    → (one other : Place) → IsPlace p.phrases one → IsPlace p.phrases other
    → (n : ℕ) → n ≡ arms_before p.phrases one.phrase + one.arm → n ≡ arms_before p.phrases other.phrase + other.arm → ArmOf one.phrase one.arm ≡ ArmOf other.phrase other.arm
same_place p f image b is one other i j n e g =
    let x = arm_at_place p.phrases one i in
    let y = arm_at_place p.phrases other j in
    let same : x.0 ≡ y.0 = same_Some x.0 y.0 (sym (arm_found image b p is one x.0 x.1 n e) ∙ arm_found image b p is other y.0 y.1 n g) in
    let filled = arm_filled (spots p.code) p.phrases f one x.0 x.1 in
    let h : has x.0 (x.0).start ≡ true = has_from x.0 (x.0).start (omega arith) filled.1 in
    sym (region_of (spots p.code) p.phrases (x.0).start f one x.0 x.1 h)
    ∙ region_of (spots p.code) p.phrases (x.0).start f other y.0 y.1 (subst (λ (a : Arm). has a (x.0).start ≡ true) same h)

-- those below an activation
pub record Lower (image : Image) (B : List Bare) (q : ℕ) (b : Bare) : Type 0 where
  pub below : List Bare
  pub fits : Fits image b below
  pub long : length below ≡ q
  pub stay : (k : ℕ) (c : Bare) → activation_at below k ≡ Some c → activation_at B k ≡ Some c

pub lower : (image : Image) (B : List Bare) (q : ℕ) (b : Bare) → Stand image B → activation_at B q ≡ Some b → Lower image B q b
lower image [] q b s e = let l = at_within [] q b e in absurd (omega (arith, l))
lower image (a ∷ B) q b s e = ⊎_elim
    (λ (h : (q ≡ length B) × (a ≡ b)).
    subst (λ c. Lower image (a ∷ B) q c) h.1 (record { below = B; fits = s.0; long = sym h.0; stay = λ k c is. at_more a B k c is }))
    (λ (h : activation_at B q ≡ Some b).
    let r = lower image B q b s.1 h in record { below = r.below; fits = r.fits; long = r.long; stay = λ k c is. at_more a B k c (r.stay k c is) })
    (at_cases a B q b e)

running_up : (p : CodeProcedure) (B C : List Bare) (own : ℕ) (region : Region) → ((k : ℕ) (c : Bare) → activation_at B k ≡ Some c → activation_at C k ≡ Some c)
    → Running p B own region → Running p C own region
running_up p B C own region stay (in_body e) = in_body e
running_up p B C own region stay (in_arm q n b why at role k) = in_arm q n b why (stay q b at) role k

-- its frame
pub record Placed (image : Image) (B : List Bare) (q : ℕ) (b : Bare) : Type 0 where
  pub p : CodeProcedure
  pub is : procedure_of image b.instance b.procedure ≡ Some p
  pub owns : Owns B (owner b.role q) b.instance b.procedure
  pub running : Running p B (owner b.role q) (region_at p.phrases b.offset)

placed_by : (image : Image) (B : List Bare) (q : ℕ) (b : Bare) → activation_at B q ≡ Some b → (l : Lower image B q b) → (role : Role (Unit {0})) → b.role ≡ role
    → RoleIn (l.fits.at).p role (region_at ((l.fits.at).p).phrases b.offset) → RoleFits image b.instance b.procedure (l.fits.at).p role l.below
    → Owns B (owner role q) b.instance b.procedure × Running (l.fits.at).p B (owner role q) (region_at ((l.fits.at).p).phrases b.offset)
unfolding owner
placed_by image B q b e l (Frame v) r at over =
    (record { frame = b; is = e; kind = r; instance_is = refl; procedure_is = refl }, in_body at)
placed_by image B q b e l (InArm own n why) r at over =
    let o = over.owns in (
      record { frame = o.frame; is = l.stay own o.frame o.is; kind = o.kind; instance_is = o.instance_is; procedure_is = o.procedure_is },
      in_arm q n b why e r at,
    )

pub placed : (image : Image) (B : List Bare) (q : ℕ) (b : Bare) → Stand image B → activation_at B q ≡ Some b → Placed image B q b
placed image B q b s e =
    let l = lower image B q b s e in
    let r = placed_by image B q b e l b.role refl (l.fits.at).role l.fits.over in
    record { p = (l.fits.at).p; is = (l.fits.at).is; owns = r.0; running = r.1 }

-- the procedure of arms of one frame is one
pub one_procedure : (image : Image) (B : List Bare) (own i j k l : ℕ) (p r : CodeProcedure) → Owns B own i j → Owns B own k l
    → procedure_of image i j ≡ Some p → procedure_of image k l ≡ Some r → r ≡ p
one_procedure image B own i j k l p r one other is and' =
    let same : one.frame ≡ other.frame = same_Some one.frame other.frame (sym one.is ∙ other.is) in
    let a : k ≡ i = sym other.instance_is ∙ ap (λ (f : Bare). f.instance) (sym same) ∙ one.instance_is in
    let b : l ≡ j = sym other.procedure_is ∙ ap (λ (f : Bare). f.procedure) (sym same) ∙ one.procedure_is in
    same_Some r p (sym and' ∙ ap (λ x. procedure_of image x l) a ∙ ap (λ x. procedure_of image i x) b ∙ is)

abbrev phrase_number : Region → ℕ
phrase_number Body = 0
phrase_number (ArmOf q k) = q

abbrev is_arm : Region → Bool
is_arm Body = false
is_arm (ArmOf q k) = true

held_by : (image : Image) → World image → (B : List Bare) (own i j : ℕ) (p : CodeProcedure) → Owns B own i j → procedure_of image i j ≡ Some p
    → (x n : ℕ) (b : Bare) (why : Why) → (l : Lower image B x b) → (region : Region) → Numbered p n region
    → ArmFits image b.instance b.procedure (l.fits.at).p own n why l.below
    → (q k : ℕ) → region ≡ ArmOf q k → (ph : Phrase) → slice_get p.phrases q ≡ Some ph → Running p B own (region_at p.phrases ph.from)
held_by image w B own i j p owns is x n b why l region number over q k rq ph there =
    let o = over.owns in
    let mine : Owns B own b.instance b.procedure =
    record { frame = o.frame; is = l.stay own o.frame o.is; kind = o.kind; instance_is = o.instance_is; procedure_is = o.procedure_is } in
    let same : (l.fits.at).p ≡ p = one_procedure image B own i j b.instance b.procedure p (l.fits.at).p owns mine is (l.fits.at).is in
    let held : IsHeld p l.below own n = subst (λ x. IsHeld x l.below own n) same over.held in
    let h = has_procedure image w i j p is in
    let region_is = same_place p h.valid.phrases image b ((l.fits.at).is ∙ ap Some same) held.place number.place held.is number.is n held.number number.number in
    let phrase_is : held.place.phrase ≡ q = ap phrase_number (region_is ∙ sym number.region_is ∙ rq) in
    running_up p l.below B own (region_at p.phrases ph.from) l.stay (held.runs ph (subst (λ x. slice_get p.phrases x ≡ Some ph) (sym phrase_is) there))

pub holders : (image : Image) → World image → (B : List Bare) → Stand image B → (own i j : ℕ) (p : CodeProcedure) → Owns B own i j → procedure_of image i j ≡ Some p
    → Holders p B own
holders image w B s own i j p owns is region (in_body e) q k rq ph there = absurd (false≢true (ap is_arm (sym e ∙ rq)))
holders image w B s own i j p owns is region (in_arm x n b why at role number) q k rq ph there =
    let l = lower image B x b s at in
    held_by image w B own i j p owns is x n b why l region number
    (subst (λ r. RoleFits image b.instance b.procedure (l.fits.at).p r l.below) role l.fits.over) q k rq ph there
