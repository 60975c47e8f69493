-- Raises, searches and arms are not stuck.
use Rattle.std.proofs.Common.{◌≡◌, ⊎_elim, ℕ, zero, suc, ◌<◌, ◌≤◌, List, [], ◌∷◌, length, Bool, true, false, Some, refl, sym, ap, subst, ◌∙◌, arith}
use Rattle.std.specs.Prelude.{nat_eq, if◌then◌else◌}
use Rattle.std.proofs.lemmas.Bool.{false≢true, eq-eqb, cases_lt}
use Rattle.std.proofs.lemmas.Option.{same_Some}
use Rattle.code_forms.specs.declared.module_code.CodeProcedure.{CodeProcedure}
use Rattle.code_forms.specs.declared.module_code.Phrase.{Phrase}
use Rattle.code_forms.specs.Regions.{region_at}
use Rattle.code_forms.specs.Routine.{spots}
use Rattle.object_files.specs.declared.image.Image.{Image}
use Rattle.signaller.specs.declared.search.Found.{Found}
use Rattle.signaller.specs.declared.search.Found.TheVariants.{Arm as FoundArm, Beyond}
use Rattle.signaller.specs.declared.search.Search.{Search}
use Rattle.signaller.specs.declared.signal_id.SignalId.{SignalId}
use Rattle.signaller.specs.Search.{search_at, fits_signal, next, next_arm}
use Rattle.machine_rules.specs.State.{Why, ForRaise, Role, Frame, InArm, Active, Activations, Store}
use Rattle.machine_rules.specs.LookUps.{procedure_of, procedure_under, phrases_in, phrases_under, arm_under, links_of}
use Rattle.machine_rules.specs.Activations.{activation_at, owner}
use Rattle.machine_rules.specs.Signals.{put_at, enter_arm, around, raise, outward, asked, seek}
use Rattle.machine_rules.proofs.Located.{World, has as has_procedure, start_there}
use Rattle.machine_rules.proofs.Holding.{arm_at_place, arm_found, region_of, has_from, arm_filled}
use Rattle.machine_rules.proofs.Searching.{search_runs, IsFound, found_arm, rest_runs}
use Rattle.machine_rules.proofs.Placing.{placed, holders}
use Rattle.machine_rules.proofs.Going.{Controlled, Sought, Well, ended_not, well_with, well_spend, well_enter}
use Rattle.machine_rules.proofs.Standing.{Bare, bare, bare_role, bares, bares_long, set_bares, there, at_top, at_within, Running, AllRun, all_after, Searches, Raised, Owns, WhyFits, Fits, Stand}

pub owner_bare : (role : Role (List ℕ)) (q : ℕ) → owner (bare_role role) q ≡ owner role q
unfolding owner
owner_bare (Frame variables) q = refl
owner_bare (InArm own n why) q = refl

-- what is asked about an activation's offset
pub place_asks : (image : Image) → World image → (B : List Bare) → Stand image B → (q : ℕ) (b : Bare) → activation_at B q ≡ Some b → (p : CodeProcedure)
    → procedure_of image b.instance b.procedure ≡ Some p → (out : Bool) → Searches out p B (owner b.role q) (search_at out p.phrases b.offset)
place_asks image w B s q b e p of out =
    let l = placed image B q b s e in
    let same : l.p ≡ p = same_Some l.p p (sym l.is ∙ of) in
    let h = has_procedure image w b.instance b.procedure p of in
    search_runs p h.valid.phrases B (owner b.role q) (holders image w B s (owner b.role q) b.instance b.procedure p l.owns of) out b.offset
    (subst (λ (x : CodeProcedure). Running x B (owner b.role q) (region_at x.phrases b.offset)) same l.running)

-- as the machine asks it
pub phrases_are : (image : Image) (a : Active) (p : CodeProcedure) → procedure_of image a.instance a.procedure ≡ Some p → phrases_under image a ≡ p.phrases
unfolding phrases_under procedure_under phrases_in
phrases_are image a p e = rw e refl

pub arm_enters : (image : Image) → World image → (out : Bool) (S : Activations) (m : Store) → Stand image (bares S) → Controlled image m.control
    → (q : ℕ) (a : Active) → activation_at (bares S) q ≡ Some (bare a) → (p : CodeProcedure) → procedure_of image a.instance a.procedure ≡ Some p
    → (n : ℕ) (search after : Search) → IsFound out p.phrases search n after → Searches out p (bares S) (owner a.role q) search
    → (why : Why) (words : List ℕ) → WhyFits image p (owner a.role q) why (bares S) → Well image (enter_arm image n a q why words S m)
unfolding enter_arm put_at arm_under phrases_under procedure_under
arm_enters image w out S m s c q a e p of n search after f searches why words fits =
    let own = owner a.role q in
    let h = has_procedure image w a.instance a.procedure p of in
    let x = arm_at_place p.phrases f.place f.is in
    let filled = arm_filled (spots p.code) p.phrases h.valid.phrases f.place x.0 x.1 in
    let l = placed image (bares S) q (bare a) s e in
    let all = all_after p (bares S) own f.before f.place.phrase f.behind (subst (λ numbers. AllRun p (bares S) own numbers) f.parts searches) in
    let fit : Fits image (record { instance = a.instance; procedure = a.procedure; offset = (x.0).start; operands = []; role = InArm own n why }) (bares S) = record {
      at = record {
        p = p;
        is = of;
        starts = start_there p.code (x.0).start filled.0;
        role = record {
          place = f.place;
          is = f.is;
          number = f.number;
          region_is = region_of (spots p.code) p.phrases (x.0).start h.valid.phrases f.place x.0 x.1 (has_from x.0 (x.0).start (omega arith) filled.1);
        };
      };
      over = record {
        owns = subst (λ k. Owns (bares S) k a.instance a.procedure) (owner_bare a.role q) l.owns;
        held = record { place = f.place; is = f.is; number = f.number; runs = all.0 };
        fits = fits;
      };
    } in
    well_with image (arm_under image a n) x.0 m _ (arm_found image (bare a) p of f.place x.0 x.1 n f.number)
    (well_spend image m _ (λ m1 same. well_enter image _ _ m1
    (subst (λ B. Stand image (record { instance = a.instance; procedure = a.procedure; offset = (x.0).start; operands = []; role = InArm own n why } ∷ B))
    (sym (set_bares S own _)) (fit, s))
    (subst (λ k. Controlled image k) (sym same) c)))

pub well_raise : (image : Image) → World image → (signal : SignalId) (args : List ℕ) (a : Active) (S : Activations) (m : Store) → Stand image (bares (a ∷ S))
    → Raised image signal (bares (a ∷ S)) → Controlled image m.control → Well image (raise image signal args a S m)
unfolding raise around
well_raise image w signal args a S m s r c =
    let p = (s.0).at.p in let of = (s.0).at.is in
    let e : activation_at (bares (a ∷ S)) (length S) ≡ Some (bare a) =
    subst (λ n. activation_at (bares (a ∷ S)) n ≡ Some (bare a)) (bares_long S) (at_top (bare a) (bares S)) in
    well_spend image m _ (λ m1 same. (
      s,
      subst (λ k. Controlled image k) (sym same) c,
      record {
        b = bare a;
        is = e;
        p = p;
        of = of;
        searches = subst (λ (t : List Phrase). Searches true p (bares (a ∷ S)) (owner (bare_role a.role) (length S)) (search_at true t a.offset)) (sym (phrases_are image a p of))
            (place_asks image w (bares (a ∷ S)) s (length S) (bare a) e p of true);
        raised = r;
      },
    ))

-- one is there at each place
below_if : (t : Bool) (a : Active) (S : Activations) (q : ℕ) → nat_eq q (length S) ≡ t → q < suc (length S)
    → (q < length S → (x : Active) × (activation_at S q ≡ Some x) × (activation_at (bares S) q ≡ Some (bare x)))
    → (x : Active) × ((if t then Some a else activation_at S q) ≡ Some x) × ((if t then Some (bare a) else activation_at (bares S) q) ≡ Some (bare x))
below_if true a S q t l next = (a, refl, refl)
below_if false a S q t l next = next (⊎_elim (λ (h : q < length S). h)
    (λ (h : length S ≤ q). absurd (false≢true (sym t ∙ eq-eqb q (length S) (omega (arith, h, l))))) (cases_lt q (length S)))

pub there_below : (S : Activations) (q : ℕ) → q < length S → (a : Active) × (activation_at S q ≡ Some a) × (activation_at (bares S) q ≡ Some (bare a))
unfolding activation_at
there_below [] q l = absurd (omega (arith, l))
there_below (a ∷ S) q l =
    let r = below_if (nat_eq q (length S)) a S q refl l (there_below S q) in
    (r.0, r.1, subst (λ n. (if nat_eq q n then Some (bare a) else activation_at (bares S) q) ≡ Some (bare r.0)) (sym (bares_long S)) r.2)

well_outward : (image : Image) → World image → (signal : SignalId) (args : List ℕ) (own : ℕ) (S : Activations) (m : Store) → Stand image (bares S)
    → Controlled image m.control → Raised image signal (bares S) → own < length S → Well image (outward image signal args own S m)
unfolding outward around
well_outward image w signal args zero S m s c r l = ended_not _ refl
well_outward image w signal args (suc q) S m s c r l =
    let t = there_below S q (omega (arith, l)) in
    let a = t.0 in
    let k = placed image (bares S) q (bare a) s t.2 in
    well_with image (activation_at S q) a m _ t.1 (
      s,
      c,
      record {
        b = bare a;
        is = t.2;
        p = k.p;
        of = k.is;
        searches = subst (λ (x : List Phrase). Searches true k.p (bares S) (owner (bare_role a.role) q) (search_at true x a.offset)) (sym (phrases_are image a k.p k.is))
            (place_asks image w (bares S) s q (bare a) t.2 k.p k.is true);
        raised = r;
      },
    )

well_asked : (image : Image) → World image → (signal : SignalId) (args : List ℕ) (a : Active) (q : ℕ) (search : Search) (S : Activations) (m : Store) → Stand image (bares S)
    → Controlled image m.control → Raised image signal (bares S) → activation_at (bares S) q ≡ Some (bare a)
    → (p : CodeProcedure) → procedure_of image a.instance a.procedure ≡ Some p → Searches true p (bares S) (owner a.role q) search
    → (found : Found) → next true (fits_signal (links_of image a.instance) signal) p.phrases search ≡ found → Well image (asked image signal args a q found S m)
unfolding asked
well_asked image w signal args a q search S m s c r e p of searches Beyond f =
    let l = placed image (bares S) q (bare a) s e in
    let inside = at_within (bares S) (owner (bare_role a.role) q) l.owns.frame l.owns.is in
    let long = bares_long S in let same = owner_bare a.role q in
    well_outward image w signal args (owner a.role q) S m s c r (omega (arith, inside, long, same))
well_asked image w signal args a q search S m s c r e p of searches (FoundArm n after) f =
    let found = found_arm true (fits_signal (links_of image a.instance) signal) p.phrases search n after f in
    arm_enters image w true S m s c q a e p of n search after found searches (ForRaise signal args after) args
    (r, rest_runs true p (bares S) (owner a.role q) search n after found searches)

pub well_seek : (image : Image) → World image → (signal : SignalId) (args : List ℕ) (q : ℕ) (search : Search) (S : Activations) (m : Store) → Stand image (bares S)
    → Controlled image m.control → Sought image (bares S) q signal search → Well image (seek image signal args q search S m)
unfolding seek
well_seek image w signal args q search S m s c k =
    let t = there S q k.b k.is in
    let a = t.active in
    let is : activation_at (bares S) q ≡ Some (bare a) = k.is ∙ ap Some (sym t.same) in
    let of : procedure_of image a.instance a.procedure ≡ Some k.p = subst (λ (b : Bare). procedure_of image b.instance b.procedure ≡ Some k.p) (sym t.same) k.of in
    let searches : Searches true k.p (bares S) (owner a.role q) search =
    subst (λ n. Searches true k.p (bares S) n search) (owner_bare a.role q)
    (subst (λ (b : Bare). Searches true k.p (bares S) (owner b.role q) search) (sym t.same) k.searches) in
    well_with image (activation_at S q) a m _ t.is
    (well_asked image w signal args a q search S m s c k.raised is k.p of searches _
    (ap (λ (x : List Phrase). next_arm x search (links_of image a.instance) signal) (sym (phrases_are image a k.p of))))
