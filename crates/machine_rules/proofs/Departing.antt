-- Jumps out of arms are not stuck.
use Rattle.std.proofs.Common.{◌≡◌, ⊎_elim, ℕ, zero, suc, ◌<◌, ◌≤◌, List, [], ◌∷◌, length, Bool, true, false, Option, Some, None, refl, sym, ap, subst, ◌∙◌, arith}
use Rattle.std.specs.Prelude.{slice_get, nat_eq, if◌then◌else◌}
use Rattle.std.proofs.lemmas.Bool.{false≢true, true≢false, and_parts, eq-eqb, eqb-true}
use Rattle.std.proofs.lemmas.Option.{none-some, same_Some}
use Rattle.code_forms.specs.declared.module_code.Arm.{Arm}
use Rattle.code_forms.specs.declared.module_code.CodeProcedure.{CodeProcedure}
use Rattle.code_forms.specs.declared.module_code.Phrase.{Phrase}
use Rattle.code_forms.specs.declared.region.Region.{Region}
use Rattle.code_forms.specs.declared.region.Region.TheVariants.{Body, ArmOf}
use Rattle.code_forms.specs.Regions.{region_at, around_phrase, and_then, outward}
use Rattle.code_forms.specs.Routine.{spots, code_end}
use Rattle.object_files.specs.declared.image.Image.{Image}
use Rattle.signaller.specs.declared.search.Found.{Found}
use Rattle.signaller.specs.declared.search.Found.TheVariants.{Arm as FoundArm, Beyond}
use Rattle.signaller.specs.declared.search.Search.{Search}
use Rattle.signaller.specs.Search.{has, search_at, fits_jump, next, unwind_next}
use Rattle.machine_rules.specs.State.{Target, Why, ForRaise, ForJump, Role, Frame, InArm, Active, Activations, Store}
use Rattle.machine_rules.specs.LookUps.{procedure_of, procedure_under, phrases_under, arm_under}
use Rattle.machine_rules.specs.Activations.{activation_at, owner, own_frame}
use Rattle.machine_rules.specs.Moves.{go_to}
use Rattle.machine_rules.specs.Leaving.{has_offset, is_arm_at, place_for, target_for, left_to_ask, dropped, leave, arrived, unwound, leave_step}
use Rattle.machine_rules.proofs.Located.{World, has as has_procedure, Starts}
use Rattle.machine_rules.proofs.Holding.{arm_at_place, arm_found, region_of, has_of}
use Rattle.machine_rules.proofs.Searching.{Holders, found_arm, rest_runs}
use Rattle.machine_rules.proofs.Placing.{holders, one_procedure, same_place}
use Rattle.machine_rules.proofs.Going.{Controlled, Well, well_if}
use Rattle.machine_rules.proofs.Arming.{owner_bare, place_asks, phrases_are, arm_enters}
use Rattle.machine_rules.proofs.Calling.{in_frame, well_return}
use Rattle.machine_rules.proofs.Standing.{Bare, bare, bare_role, bares, bares_long, at_more, at_top, at_within, at_cases, Numbered, RoleIn, Located, Running, in_body, in_arm, Searches, Aims, Arrives, AsksTop, Owns, IsHeld, ArmFits, RoleFits, Fits, Stand}

-- The target's activation.

same_arm_at : (image : Image) (a : Active) (role : Role (List ℕ)) (own offset : ℕ) → is_arm_at image (bare a) (bare_role role) own offset ≡ is_arm_at image a role own offset
unfolding is_arm_at arm_under phrases_under procedure_under
same_arm_at image a (Frame variables) own offset = refl
same_arm_at image a (InArm k n why) own offset = refl

place_bare : (image : Image) (S : Activations) (own offset : ℕ) → place_for image (bares S) own offset ≡ place_for image S own offset
unfolding place_for
place_bare image [] own offset = refl
place_bare image (a ∷ S) own offset = rw (same_arm_at image a a.role own offset, bares_long S, place_bare image S own offset) refl

-- a running arm of the frame whose region has the offset, or none
pub data PlaceFor (image : Image) (p : CodeProcedure) (C : List Bare) (own offset place : ℕ) : Type 0 where
  at_arm : (b : Bare) → activation_at C place ≡ Some b → Located image (record b { offset = offset }) → PlaceFor image p C own offset place
  at_none : place ≡ own → ((q n : ℕ) (b : Bare) (why : Why) → activation_at C q ≡ Some b → b.role ≡ InArm own n why → Numbered p n (region_at p.phrases offset) → ⊥)
      → PlaceFor image p C own offset place

-- the topmost one of a list that stands in another
pub record Inside (C B : List Bare) : Type 0 where
  pub stay : (k : ℕ) (c : Bare) → activation_at C k ≡ Some c → activation_at B k ≡ Some c

-- whether an arm is the one
arm_is : (image : Image) (b : Bare) (own offset : ℕ) (n : ℕ) (why : Why) → b.role ≡ InArm own n why → is_arm_at image b b.role own offset ≡ has_offset (arm_under image b n) offset
unfolding is_arm_at
arm_is image b own offset n why e = rw (e, eq-eqb own own refl) refl

arm_has : (image : Image) (b : Bare) (own offset : ℕ) (role : Role (Unit {0})) → b.role ≡ role → is_arm_at image b role own offset ≡ true
    → (n : ℕ) × (why : Why) × (b.role ≡ InArm own n why) × (has_offset (arm_under image b n) offset ≡ true)
unfolding is_arm_at
arm_has image b own offset (Frame v) r e = absurd (false≢true e)
arm_has image b own offset (InArm k n why) r e =
    let x = and_parts (nat_eq k own) (has_offset (arm_under image b n) offset) e in
    let same = eqb-true k own x.0 in
    (n, why, subst (λ j. b.role ≡ InArm j n why) same r, x.1)

arm_located : (image : Image) → World image → (B : List Bare) (own i j : ℕ) (p : CodeProcedure) → Owns B own i j → procedure_of image i j ≡ Some p
    → (offset : ℕ) → Starts p.code offset → (b : Bare) (C : List Bare) → Inside C B → (f : Fits image b C) → (n : ℕ) (why : Why) → b.role ≡ InArm own n why
    → has_offset (arm_under image b n) offset ≡ true → RoleIn (f.at).p (InArm own n why) (region_at ((f.at).p).phrases b.offset)
    → RoleFits image b.instance b.procedure (f.at).p (InArm own n why) C → Located image (record b { offset = offset })
unfolding has_offset
arm_located image w B own i j p owns is offset starts b C inside f n why role h number over =
    let o = over.owns in
    let mine : Owns B own b.instance b.procedure =
    record { frame = o.frame; is = inside.stay own o.frame o.is; kind = o.kind; instance_is = o.instance_is; procedure_is = o.procedure_is } in
    let same : (f.at).p ≡ p = one_procedure image B own i j b.instance b.procedure p (f.at).p owns mine is (f.at).is in
    let of : procedure_of image b.instance b.procedure ≡ Some p = (f.at).is ∙ ap Some same in
    let k : Numbered p n (region_at p.phrases b.offset) = subst (λ (x : CodeProcedure). Numbered x n (region_at x.phrases b.offset)) same number in
    let x = arm_at_place p.phrases k.place k.is in
    let found = arm_found image b p of k.place x.0 x.1 n k.number in
    let has_it : has x.0 offset ≡ true = subst (λ a. has_offset a offset ≡ true) found h in
    let c = has_procedure image w b.instance b.procedure p of in
    record {
      p = p;
      is = of;
      starts = starts;
      role = subst (λ (r : Role (Unit {0})). RoleIn p r (region_at p.phrases offset)) (sym role)
          (record { place = k.place; is = k.is; number = k.number; region_is = region_of (spots p.code) p.phrases offset c.valid.phrases k.place x.0 x.1 has_it });
    }

has_there : (image : Image) (b : Bare) (n : ℕ) (a : Arm) (offset : ℕ) → arm_under image b n ≡ Some a → has a offset ≡ true → has_offset (arm_under image b n) offset ≡ true
unfolding has_offset
has_there image b n a offset e h = rw e h

place_if : (image : Image) → World image → (B : List Bare) (own i j : ℕ) (p : CodeProcedure) → Owns B own i j → procedure_of image i j ≡ Some p
    → (offset : ℕ) → Starts p.code offset → offset < code_end (spots p.code) → (b : Bare) (C : List Bare) → Inside (b ∷ C) B → Stand image (b ∷ C)
    → PlaceFor image p C own offset (place_for image C own offset)
    → (t : Bool) → is_arm_at image b b.role own offset ≡ t → PlaceFor image p (b ∷ C) own offset (if t then length C else place_for image C own offset)
place_if image w B own i j p owns is offset starts end b C inside s next true t =
    let x = arm_has image b own offset b.role refl t in
    let f = s.0 in
    let below : Inside C B = record { stay = λ k c e. inside.stay k c (at_more b C k c e) } in
    at_arm b (at_top b C) (arm_located image w B own i j p owns is offset starts b C below f x.0 x.1 x.2 x.3
    (subst (λ (r : Role (Unit {0})). RoleIn (f.at).p r (region_at ((f.at).p).phrases b.offset)) x.2 (f.at).role)
    (subst (λ (r : Role (Unit {0})). RoleFits image b.instance b.procedure (f.at).p r C) x.2 f.over))
place_if image w B own i j p owns is offset starts end b C inside s (at_arm a e l) false t = at_arm a (at_more b C _ a e) l
place_if image w B own i j p owns is offset starts end b C inside s (at_none e none) false t = at_none e (λ q n a why at role number. ⊎_elim
    (λ (h : (q ≡ length C) × (b ≡ a)).
    let role_b : b.role ≡ InArm own n why = ap (λ (x : Bare). x.role) h.1 ∙ role in
    let f = s.0 in
    let over : ArmFits image b.instance b.procedure (f.at).p own n why C = subst (λ (r : Role (Unit {0})). RoleFits image b.instance b.procedure (f.at).p r C) role_b f.over in
    let o = over.owns in
    let mine : Owns B own b.instance b.procedure =
    record { frame = o.frame; is = inside.stay own o.frame (at_more b C own o.frame o.is); kind = o.kind; instance_is = o.instance_is; procedure_is = o.procedure_is } in
    let same : (f.at).p ≡ p = one_procedure image B own i j b.instance b.procedure p (f.at).p owns mine is (f.at).is in
    let of : procedure_of image b.instance b.procedure ≡ Some p = (f.at).is ∙ ap Some same in
    let x = arm_at_place p.phrases number.place number.is in
    let c = has_procedure image w b.instance b.procedure p of in
    let h2 : has x.0 offset ≡ true = has_of (spots p.code) p.phrases offset c.valid.phrases end number.place x.0 x.1 number.region_is in
    let found = arm_found image b p of number.place x.0 x.1 n number.number in
    let yes : has_offset (arm_under image b n) offset ≡ true = has_there image b n x.0 offset found h2 in
    false≢true (sym t ∙ arm_is image b own offset n why role_b ∙ yes))
    (λ (h : activation_at C q ≡ Some a). none q n a why h role number)
    (at_cases b C q a at))

place_of : (image : Image) → World image → (B : List Bare) (own i j : ℕ) (p : CodeProcedure) → Owns B own i j → procedure_of image i j ≡ Some p
    → (offset : ℕ) → Starts p.code offset → offset < code_end (spots p.code) → (C : List Bare) → Inside C B → Stand image C → PlaceFor image p C own offset (place_for image C own offset)
unfolding place_for
place_of image w B own i j p owns is offset starts end [] inside s = at_none refl (λ q n b why at role number. absurd (let l = at_within [] q b at in omega (arith, l)))
place_of image w B own i j p owns is offset starts end (b ∷ C) inside s =
    place_if image w B own i j p owns is offset starts end b C inside s
    (place_of image w B own i j p owns is offset starts end C (record { stay = λ k c e. inside.stay k c (at_more b C k c e) }) s.1)
    (is_arm_at image b b.role own offset) refl

aims_by : (image : Image) (B : List Bare) (own i j : ℕ) (p : CodeProcedure) → Owns B own i j → procedure_of image i j ≡ Some p → (offset place : ℕ) → Starts p.code offset
    → Running p B own (region_at p.phrases offset) → PlaceFor image p B own offset place → Aims image B (record { place = place; owner = own; goal = Some offset })
aims_by image B own i j p owns is offset place starts r (at_arm b e l) = record { target = b; is = e; arrives = l }
aims_by image B own i j p owns is offset place starts (in_arm q n b why at role number) (at_none e none) = absurd (none q n b why at role number)
aims_by image B own i j p owns is offset place starts (in_body body) (at_none e none) = record {
  target = owns.frame;
  is = ap (λ k. activation_at B k) e ∙ owns.is;
  arrives = record {
    p = p;
    is = ap (λ x. procedure_of image x (owns.frame).procedure) owns.instance_is ∙ ap (λ x. procedure_of image i x) owns.procedure_is ∙ is;
    starts = starts;
    role = subst (λ (r : Role (Unit {0})). RoleIn p r (region_at p.phrases offset)) (sym owns.kind) body;
  };
}

pub aims : (image : Image) → World image → (S : Activations) (own i j : ℕ) (p : CodeProcedure) → Stand image (bares S) → Owns (bares S) own i j → procedure_of image i j ≡ Some p
    → (offset : ℕ) → Starts p.code offset → offset < code_end (spots p.code) → Running p (bares S) own (region_at p.phrases offset)
    → Aims image (bares S) (record { place = place_for image S own offset; owner = own; goal = Some offset })
aims image w S own i j p s owns is offset starts end r =
    aims_by image (bares S) own i j p owns is offset (place_for image S own offset) starts r
    (subst (λ k. PlaceFor image p (bares S) own offset k) (place_bare image S own offset)
    (place_of image w (bares S) own i j p owns is offset starts end (bares S) (record { stay = λ k c e. e }) s))

-- so many holders outward is code that is running too
out_of : (p : CodeProcedure) (B : List Bare) (own k q : ℕ) (to : Region) → ((ph : Phrase) → slice_get p.phrases q ≡ Some ph → Running p B own (region_at p.phrases ph.from))
    → ((region : Region) → Running p B own region → outward p.phrases k region ≡ Some to → Running p B own to)
    → (o : Option Phrase) → slice_get p.phrases q ≡ o → and_then (outward p.phrases k) (around_phrase p.phrases o) ≡ Some to → Running p B own to
out_of p B own k q to runs next None e is = absurd (none-some to is)
out_of p B own k q to runs next (Some ph) e is = next (region_at p.phrases ph.from) (runs ph e) is

out_runs : (p : CodeProcedure) (B : List Bare) (own : ℕ) → Holders p B own → (k : ℕ) (to region : Region) → Running p B own region → outward p.phrases k region ≡ Some to
    → Running p B own to
out_runs p B own h zero to region r e = subst (λ x. Running p B own x) (same_Some region to e) r
out_runs p B own h (suc k) to Body r e = absurd (none-some to e)
out_runs p B own h (suc k) to (ArmOf q n) r e =
    out_of p B own k q to (h (ArmOf q n) r q n refl) (out_runs p B own h k to) (slice_get p.phrases q) refl e

-- The topmost activation is dropped.

asks_top : (image : Image) → World image → (b : Active) (S : Activations) → Stand image (bares (b ∷ S)) → AsksTop image (bares (b ∷ S)) (search_at false (phrases_under image b) b.offset)
asks_top image w b S s = λ p of.
    subst (λ (t : List Phrase). Searches false p (bares (b ∷ S)) (owner (bare_role b.role) (length (bares S))) (search_at false t b.offset)) (sym (phrases_are image b p of))
    (place_asks image w (bares (b ∷ S)) s (length (bares S)) (bare b) (at_top (bare b) (bares S)) p of false)

left_asks : (image : Image) → World image → (i j : ℕ) (p : CodeProcedure) (role : Role (List ℕ)) (b : Active) (S : Activations) → RoleFits image i j p (bare_role role) (bares (b ∷ S))
    → Stand image (bares (b ∷ S)) → AsksTop image (bares (b ∷ S)) (left_to_ask image role b)
unfolding left_to_ask
left_asks image w i j p (Frame variables) b S over s = asks_top image w b S s
left_asks image w i j p (InArm own n (ForRaise signal args beyond)) b S over s = asks_top image w b S s
left_asks image w i j p (InArm own n (ForJump target beyond)) b S over s = over.fits.1

pub well_dropped : (image : Image) → World image → (t : Target) (i j : ℕ) (p : CodeProcedure) (role : Role (List ℕ)) (S : Activations) (m : Store)
    → RoleFits image i j p (bare_role role) (bares S) → Stand image (bares S) → Controlled image m.control → Aims image (bares S) t → Well image (dropped image t role S m)
unfolding dropped
well_dropped image w t i j p role [] m over s c aim = absurd (let l = at_within [] t.place aim.target aim.is in omega (arith, l))
well_dropped image w t i j p role (b ∷ S) m over s c aim = (s, c, aim, left_asks image w i j p role b S over s)

-- A jump begins.

abbrev phrase_number : Region → ℕ
phrase_number Body = 0
phrase_number (ArmOf q k) = q

left_runs : (image : Image) → World image → (i j : ℕ) (p : CodeProcedure) → procedure_of image i j ≡ Some p → (b : Bare) → procedure_of image b.instance b.procedure ≡ Some p
    → (B : List Bare) → Stand image B → (own n : ℕ) → Owns B own i j → IsHeld p B own n → (region to : Region) → Numbered p n region
    → (arms : ℕ) → 1 ≤ arms → outward p.phrases arms region ≡ Some to → Running p B own to
left_runs image w i j p is b of B s own n owns held region to number zero l e = absurd (omega (arith, l))
left_runs image w i j p is b of B s own n owns held region to number (suc k) l e =
    let h = has_procedure image w i j p is in
    let same = same_place p h.valid.phrases image b of held.place number.place held.is number.is n held.number number.number in
    let q : held.place.phrase ≡ number.place.phrase = ap phrase_number same in
    out_of p B own k number.place.phrase to
    (λ ph there. held.runs ph (subst (λ x. slice_get p.phrases x ≡ Some ph) (sym q) there))
    (out_runs p B own (holders image w B s own i j p owns is) k to)
    (slice_get p.phrases number.place.phrase) refl
    (subst (λ r. outward p.phrases (suc k) r ≡ Some to) number.region_is e)

-- to return, and to an offset
pub well_leave_return : (image : Image) → World image → (i j : ℕ) (p : CodeProcedure) (role : Role (List ℕ)) (S : Activations) (m : Store) → in_frame (bare_role role) ≡ false
    → RoleFits image i j p (bare_role role) (bares S) → Stand image (bares S) → Controlled image m.control → Well image (leave image None role S m)
unfolding leave target_for
well_leave_return image w i j p (Frame v) S m f over s c = absurd (true≢false f)
well_leave_return image w i j p (InArm own n why) S m f over s c =
    let o = over.owns in
    well_dropped image w _ i j p (InArm own n why) S m over s c (record { target = o.frame; is = o.is; arrives = o.kind })

pub well_leave : (image : Image) → World image → (i j : ℕ) (p : CodeProcedure) → procedure_of image i j ≡ Some p → (b : Bare) → procedure_of image b.instance b.procedure ≡ Some p
    → (role : Role (List ℕ)) (S : Activations) (m : Store) → in_frame (bare_role role) ≡ false
    → RoleFits image i j p (bare_role role) (bares S) → Stand image (bares S) → Controlled image m.control
    → (region : Region) → RoleIn p (bare_role role) region → (arms offset : ℕ) → 1 ≤ arms → outward p.phrases arms region ≡ Some (region_at p.phrases offset)
    → Starts p.code offset → offset < code_end (spots p.code) → Well image (leave image (Some offset) role S m)
unfolding leave target_for
well_leave image w i j p is b of (Frame v) S m f over s c region at arms offset l e starts end = absurd (true≢false f)
well_leave image w i j p is b of (InArm own n why) S m f over s c region at arms offset l e starts end =
    well_dropped image w _ i j p (InArm own n why) S m over s c
    (aims image w S own i j p s over.owns is offset starts end
    (left_runs image w i j p is b of (bares S) s own n over.owns over.held region (region_at p.phrases offset) at arms l e))

-- A jump goes on.

well_arrived : (image : Image) → World image → (goal : Option ℕ) (a : Active) (S : Activations) (m : Store) → Stand image (bares (a ∷ S)) → Controlled image m.control
    → Arrives image (bare a) goal → Well image (arrived image goal a S m)
unfolding arrived go_to
well_arrived image w None a S m s c r = well_return image w a S m (ap in_frame r) s c
well_arrived image w (Some offset) a S m s c r =
    let f = s.0 in
    let same : r.p ≡ (f.at).p = same_Some r.p (f.at).p (sym r.is ∙ (f.at).is) in (
      (
        record {
          at = record {
            p = (f.at).p;
            is = (f.at).is;
            starts = subst (λ (x : CodeProcedure). Starts x.code offset) same r.starts;
            role = subst (λ (x : CodeProcedure). RoleIn x (bare_role a.role) (region_at x.phrases offset)) same r.role;
          };
          over = f.over;
        },
        s.1,
      ),
      c,
    )

well_unwound : (image : Image) → World image → (t : Target) (search : Search) (a : Active) (found : Found) (S : Activations) (m : Store) → (s : Stand image (bares (a ∷ S)))
    → Controlled image m.control → Aims image (bares S) t → AsksTop image (bares (a ∷ S)) search
    → next false fits_jump ((s.0).at).p.phrases search ≡ found → Well image (unwound image t a found S m)
unfolding unwound
well_unwound image w t search a Beyond S m s c aim ask f = well_dropped image w t a.instance a.procedure ((s.0).at).p a.role S m (s.0).over s.1 c aim
well_unwound image w t search a (FoundArm n after) S m s c aim ask f =
    let p = ((s.0).at).p in let of = ((s.0).at).is in
    let found = found_arm false fits_jump p.phrases search n after f in
    let e : activation_at (bares (a ∷ S)) (length S) ≡ Some (bare a) =
    subst (λ k. activation_at (bares (a ∷ S)) k ≡ Some (bare a)) (bares_long S) (at_top (bare a) (bares S)) in
    let searches : Searches false p (bares (a ∷ S)) (owner a.role (length S)) search =
    subst (λ k. Searches false p (bares (a ∷ S)) k search) (ap (λ k. owner (bare_role a.role) k) (bares_long S) ∙ owner_bare a.role (length S)) (ask p of) in
    let up : Aims image (bares (a ∷ S)) t = record { target = aim.target; is = at_more (bare a) (bares S) t.place aim.target aim.is; arrives = aim.arrives } in
    arm_enters image w false (a ∷ S) m s c (length S) a e p of n search after found searches (ForJump t after) [] (
      up,
      λ r is. (
          let same : p ≡ r = same_Some p r (sym of ∙ is) in
          subst (λ (x : CodeProcedure). Searches false x (bares (a ∷ S)) (owner (bare_role a.role) (length (bares S))) after) same
          (rest_runs false p (bares (a ∷ S)) (owner (bare_role a.role) (length (bares S))) search n after found (ask p of))),
    )

leave_if : (image : Image) → World image → (t : Target) (search : Search) (a : Active) (S : Activations) (m : Store) → Stand image (bares (a ∷ S))
    → Controlled image m.control → Aims image (bares (a ∷ S)) t → AsksTop image (bares (a ∷ S)) search
    → (b : Bool) → nat_eq (length S) t.place ≡ b
    → Well image (if b then arrived image t.goal a S m else (if nat_eq (own_frame a S) t.owner then dropped image t a.role S m
    else unwound image t a (unwind_next (phrases_under image a) search) S m))
leave_if image w t search a S m s c aim ask true e =
    let l : length S ≡ t.place = eqb-true (length S) t.place e in
    let at : activation_at (bares (a ∷ S)) t.place ≡ Some (bare a) =
    subst (λ k. activation_at (bares (a ∷ S)) k ≡ Some (bare a)) (bares_long S ∙ l) (at_top (bare a) (bares S)) in
    well_arrived image w t.goal a S m s c (subst (λ b. Arrives image b t.goal) (same_Some aim.target (bare a) (sym aim.is ∙ at)) aim.arrives)
leave_if image w t search a S m s c aim ask false e =
    let below : Aims image (bares S) t = ⊎_elim
    (λ (h : (t.place ≡ length (bares S)) × (bare a ≡ aim.target)).
    absurd (let long = bares_long S in let p = h.0 in false≢true (sym e ∙ eq-eqb (length S) t.place (omega (arith, long, p)))))
    (λ (h : activation_at (bares S) t.place ≡ Some aim.target). record { target = aim.target; is = h; arrives = aim.arrives })
    (at_cases (bare a) (bares S) t.place aim.target aim.is) in
    well_if image (nat_eq (own_frame a S) t.owner) _ _
    (well_dropped image w t a.instance a.procedure ((s.0).at).p a.role S m (s.0).over s.1 c below)
    (well_unwound image w t search a _ S m s c below ask
    (ap (λ (x : List Phrase). unwind_next x search) (sym (phrases_are image a ((s.0).at).p ((s.0).at).is))))

pub well_leave_step : (image : Image) → World image → (t : Target) (search : Search) (S : Activations) (m : Store) → Stand image (bares S) → Controlled image m.control
    → Aims image (bares S) t → AsksTop image (bares S) search → Well image (leave_step image t search S m)
unfolding leave_step
well_leave_step image w t search [] m s c aim ask = absurd ask
well_leave_step image w t search (a ∷ S) m s c aim ask = leave_if image w t search a S m s c aim ask (nat_eq (length S) t.place) refl
