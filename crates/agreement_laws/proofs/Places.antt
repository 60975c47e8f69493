-- No arm of a frame runs twice, so a jump out of an arm comes to the activation that its target names.
use Rattle.std.proofs.Common.{◌≡◌, ⊎_elim, ℕ, ◌<◌, ◌≤◌, List, [], ◌∷◌, length, Bool, true, false, Option, Some, None, refl, sym, ap, ◌∙◌, subst, arith}
use Rattle.std.specs.Prelude.{nat_eq, slice_get, flat_map, ◌&&◌, if◌then◌else◌}
use Rattle.std.proofs.lemmas.Bool.{eq-eqb, eqb-true, and_parts, false≢true, false_from_ne_true}
use Rattle.std.proofs.lemmas.Option.{none-some, same_Some, slice_get_within}
use Rattle.code_forms.specs.declared.module_code.Arm.{Arm}
use Rattle.code_forms.specs.declared.module_code.Phrase.{Phrase}
use Rattle.code_forms.specs.declared.region.Region.{Region}
use Rattle.code_forms.specs.declared.region.Region.TheVariants.{Body, ArmOf}
use Rattle.code_forms.specs.Regions.{region_at}
use Rattle.signaller.specs.declared.place.Place.{Place}
use Rattle.signaller.specs.Search.{has, arms_of}
use Rattle.signaller.proofs.Numbering.{numbers_arms}
use Rattle.source_meaning.specs.State.{ProcedureId}
use Rattle.machine_rules.specs.State.{Target, Why}
use Rattle.machine_rules.specs.LookUps.{procedure_under, phrases_under, arm_under}
use Rattle.machine_rules.specs.Leaving.{has_offset, is_arm_at, place_for, target_for}
use Rattle.code_rules.specs.Reading.{Coded}
use Rattle.agreement_laws.specs.World.{World, CodeOf}
use Rattle.agreement_laws.specs.Standing.{Part, IsFrame, IsArm, Here, Act, Standing, bare, Frames, role_of, filled, fill, here_at, owner_of, Numbered, frame_at, table_of, region_of, LiesIn, HeldBehind, Apart, ArmStands, PartStands, Nested}
use Rattle.agreement_laws.specs.Chains.{Aims, IsTarget}
use Rattle.agreement_laws.proofs.Regions.{region_in}
use Rattle.agreement_laws.proofs.Stacks.{bare_long, fill_long, here_top, here_push, frame_push, here_cases, here_within, frame_within}

-- What stands under an activation.

pub record Under (W : World) (B : List Here) (r : ℕ) (k : Here) : Type 0 where
  pub below : List Here
  pub long : length below ≡ r
  pub stands : PartStands W k.procedure k.part below
  pub heres : (q : ℕ) (h : Here) → here_at below q ≡ Some h → here_at B q ≡ Some h
  pub frames : (q : ℕ) (f : Numbered) → frame_at below q ≡ Some f → frame_at B q ≡ Some f

pub under : (W : World) (B : List Here) → Nested W B → (r : ℕ) (k : Here) → here_at B r ≡ Some k → Under W B r k
under W [] nested r k e = absurd (none-some k e)
under W (x ∷ B) nested r k e = ⊎_elim
    (λ (d : (r ≡ length B) × (x ≡ k)). record {
      below = B;
      long = sym d.0;
      stands = subst (λ (y : Here). PartStands W y.procedure y.part B) d.1 nested.0;
      heres = λ q h is. here_push x B q (here_within B q h is) ∙ is;
      frames = λ q f is. frame_push x B q (frame_within B q f is) ∙ is;
    })
    (λ (d : here_at B r ≡ Some k).
    let u = under W B nested.1 r k d in
    record {
      below = u.below;
      long = u.long;
      stands = u.stands;
      heres = λ q h is. here_push x B q (here_within B q h (u.heres q h is)) ∙ u.heres q h is;
      frames = λ q f is. frame_push x B q (frame_within B q f (u.frames q f is)) ∙ u.frames q f is;
    })
    (here_cases x B r k e)

pub apart_at : (B : List Here) (q n : ℕ) → Apart B q n → (r : ℕ) (k : Here) → here_at B r ≡ Some k → HeldBehind k.part q n
apart_at [] q n apart r k e = absurd (none-some k e)
apart_at (x ∷ B) q n apart r k e = ⊎_elim
    (λ (d : (r ≡ length B) × (x ≡ k)). subst (λ (y : Here). HeldBehind y.part q n) d.1 apart.0)
    (λ (d : here_at B r ≡ Some k). apart_at B q n apart.1 r k d)
    (here_cases x B r k e)

-- Two activations of one frame in one region are one.

abbrev OnePlace : List Here → Type 0
OnePlace B = (q r : ℕ) (h k : Here) → here_at B q ≡ Some h → here_at B r ≡ Some k → owner_of h.part q ≡ owner_of k.part r → h.procedure ≡ k.procedure
    → region_of h.part ≡ region_of k.part → q ≡ r

abbrev phrase_number : Region → ℕ
phrase_number Body = 0
phrase_number (ArmOf n k) = n

abbrev is_arm : Region → Bool
is_arm Body = false
is_arm (ArmOf n k) = true

-- an arm with an arm below it
arms_clash : (W : World) (p : ProcedureId) (own holder : ℕ) (place : Place) (number : ℕ) (B : List Here) → OnePlace B
    → (a : ArmStands W p own holder place number B) → (r : ℕ) (k : Here) (holder' : ℕ) (place' : Place) (number' : ℕ) (below : List Here)
    → ((q : ℕ) (h : Here) → here_at below q ≡ Some h → here_at B q ≡ Some h)
    → (b : ArmStands W k.procedure own holder' place' number' below) → p ≡ k.procedure → place.phrase ≡ place'.phrase
    → (holder' ≡ holder → place.phrase < place'.phrase) → ⊥
arms_clash W p own holder place number B one a r k holder' place' number' below up b same phrases apart =
    let table = ap (λ q. table_of W q) same in
    let other = b.is_phrase in
    let phrase : a.phrase ≡ b.phrase = same_Some a.phrase b.phrase
    (sym a.is_phrase ∙ ap (λ t. slice_get t place.phrase) table ∙ ap (λ n. slice_get (table_of W k.procedure) n) phrases ∙ other) in
    let regions = sym a.held ∙ ap (λ t. region_at t a.phrase.from) table ∙ ap (λ (x : Phrase). region_at (table_of W k.procedure) x.from) phrase ∙ b.held in
    let holders : holder ≡ holder' = one holder holder' a.above b.above a.is_holder (up holder' b.above b.is_holder) (a.same_frame ∙ sym b.same_frame)
    (a.same_procedure ∙ same ∙ sym b.same_procedure) regions in
    let lt = apart (sym holders) in
    omega (arith, lt, phrases)

clash : (W : World) (p : ProcedureId) (part : Part) (B : List Here) → PartStands W p part B → (nested : Nested W B) → OnePlace B → (r : ℕ) (k : Here)
    → (is : here_at B r ≡ Some k) → (other : Part) → k.part ≡ other → PartStands W k.procedure other (under W B nested r k is).below
    → owner_of part (length B) ≡ owner_of other r → p ≡ k.procedure → region_of part ≡ region_of other → ⊥
clash W p (IsFrame n) B stands nested one r k is (IsFrame m) e u owners same regions = let lt = here_within B r k is in omega (arith, lt, owners)
clash W p (IsFrame n) B stands nested one r k is (IsArm own holder place number why) e u owners same regions = false≢true (ap is_arm regions)
clash W p (IsArm own holder place number why) B stands nested one r k is (IsFrame m) e u owners same regions = false≢true (sym (ap is_arm regions))
clash W p (IsArm own holder place number why) B stands nested one r k is (IsArm own' holder' place' number' why') e u owners same regions =
    arms_clash W p own holder place number B one stands r k holder' place' number' (under W B nested r k is).below
    (under W B nested r k is).heres
    (subst (λ x. ArmStands W k.procedure x holder' place' number' (under W B nested r k is).below) (sym owners) u) same (ap phrase_number regions)
    (subst (λ part. HeldBehind part holder place.phrase) e (apart_at B holder place.phrase stands.apart r k is))

pub one_place_of : (W : World) (B : List Here) → Nested W B → OnePlace B
one_place_of W [] nested q r h k e d owners same regions = absurd (none-some h e)
one_place_of W (x ∷ B) nested q r h k e d owners same regions =
    let one = one_place_of W B nested.1 in
    ⊎_elim
    (λ (a : (q ≡ length B) × (x ≡ h)). ⊎_elim
    (λ (b : (r ≡ length B) × (x ≡ k)). a.0 ∙ sym b.0)
    (λ (b : here_at B r ≡ Some k). absurd (clash W x.procedure x.part B nested.0 nested.1 one r k b k.part refl (under W B nested.1 r k b).stands
    (ap (λ (y : Here). owner_of y.part (length B)) a.1 ∙ ap (λ n. owner_of h.part n) (sym a.0) ∙ owners) (ap (λ (y : Here). y.procedure) a.1 ∙ same)
    (ap (λ (y : Here). region_of y.part) a.1 ∙ regions)))
    (here_cases x B r k d))
    (λ (a : here_at B q ≡ Some h). ⊎_elim
    (λ (b : (r ≡ length B) × (x ≡ k)). absurd (clash W x.procedure x.part B nested.0 nested.1 one q h a h.part refl (under W B nested.1 q h a).stands
    (ap (λ (y : Here). owner_of y.part (length B)) b.1 ∙ ap (λ n. owner_of k.part n) (sym b.0) ∙ sym owners) (ap (λ (y : Here). y.procedure) b.1 ∙ sym same)
    (ap (λ (y : Here). region_of y.part) b.1 ∙ sym regions)))
    (λ (b : here_at B r ≡ Some k). one q r h k a b owners same regions)
    (here_cases x B r k d))
    (here_cases x B q h e)

-- The machine's search for the place.

-- an arm of this number has the offset
abbrev Has : World → ProcedureId → (number offset : ℕ) → Type 0
Has W p number offset = has_offset (slice_get (flat_map (λ (q : Phrase). q.arms) (table_of W p)) number) offset ≡ true

not_arm : (W : World) (μ : Frames) (a : Act) (own offset : ℕ) (part : Part)
    → ((own' holder : ℕ) (place : Place) (number : ℕ) (why : Why) → part ≡ IsArm own' holder place number why → own' ≡ own
    → Has W a.here.procedure number offset → ⊥)
    → is_arm_at W.image (filled μ a) (role_of μ part) own offset ≡ false
unfolding is_arm_at arm_under phrases_under procedure_under
not_arm W μ a own offset (IsFrame number) never = refl
not_arm W μ a own offset (IsArm own' holder place number why) never = false_from_ne_true _ (λ e.
    let b = and_parts (nat_eq own' own) _ e in never own' holder place number why refl (eqb-true own' own b.0) b.1)

-- no arm of a frame stands under it
pub place_none : (W : World) (μ : Frames) (T : Standing) (own offset : ℕ) → Nested W (bare T) → length T ≤ own → place_for W.image (fill μ T) own offset ≡ own
unfolding place_for
place_none W μ [] own offset nested le = refl
place_none W μ (a ∷ T) own offset nested le =
    ap (λ b. if b then length (fill μ T) else place_for W.image (fill μ T) own offset)
    (not_arm W μ a own offset a.here.part (λ own' holder place number why is same has.
    let s = subst (λ part. PartStands W a.here.procedure part (bare T)) is nested.0 in
    let lt = frame_within (bare T) own' (record { number = s.frame; procedure = a.here.procedure }) s.is_frame in
    let long = bare_long T in omega (arith, lt, long, le, same)))
    ∙ place_none W μ T own offset nested.1 (omega (arith, le))

-- the place is the only one of an arm that has the offset
abbrev Only : World → Standing → (own offset q : ℕ) → Type 0
Only W T own offset q = (r : ℕ) (k : Here) → here_at (bare T) r ≡ Some k → (holder : ℕ) (place : Place) (number : ℕ) (why : Why)
    → k.part ≡ IsArm own holder place number why → Has W k.procedure number offset → r ≡ q

abbrev IsThere : World → ProcedureId → Part → (own offset q : ℕ) → Type 0
IsThere W p (IsFrame number) own offset q = own ≡ q
IsThere W p (IsArm own' holder place number why) own offset q = (own' ≡ own) × Has W p number offset

place_top : (W : World) (μ : Frames) (a : Act) (T : Standing) (own offset q : ℕ) → Nested W (bare T) → q ≡ length (bare T) → (part : Part)
    → IsThere W a.here.procedure part own offset q
    → (if is_arm_at W.image (filled μ a) (role_of μ part) own offset then length (fill μ T) else place_for W.image (fill μ T) own offset) ≡ q
unfolding is_arm_at arm_under phrases_under procedure_under
place_top W μ a T own offset q nested e (IsFrame number) there = let long = bare_long T in
    place_none W μ T own offset nested (omega (arith, long, e, there)) ∙ there
place_top W μ a T own offset q nested e (IsArm own' holder place number why) there =
    ap (λ b. if b && has_offset (slice_get (flat_map (λ (p : Phrase). p.arms) (table_of W a.here.procedure)) number) offset then length (fill μ T)
    else place_for W.image (fill μ T) own offset) (eq-eqb own' own there.0)
    ∙ ap (λ b. if b then length (fill μ T) else place_for W.image (fill μ T) own offset) there.1
    ∙ fill_long μ T ∙ sym e

place_by : (W : World) (μ : Frames) (T : Standing) (own offset q : ℕ) (h : Here) → Nested W (bare T) → here_at (bare T) q ≡ Some h → Only W T own offset q
    → IsThere W h.procedure h.part own offset q → place_for W.image (fill μ T) own offset ≡ q
unfolding place_for
place_by W μ [] own offset q h nested e only there = absurd (none-some h e)
place_by W μ (a ∷ T) own offset q h nested e only there = ⊎_elim
    (λ (d : (q ≡ length (bare T)) × (a.here ≡ h)).
    place_top W μ a T own offset q nested.1 d.0 a.here.part (subst (λ (x : Here). IsThere W x.procedure x.part own offset q) (sym d.1) there))
    (λ (d : here_at (bare T) q ≡ Some h).
    ap (λ b. if b then length (fill μ T) else place_for W.image (fill μ T) own offset)
    (not_arm W μ a own offset a.here.part (λ own' holder place number why is same has.
    let top = only (length (bare T)) a.here (here_top a.here (bare T)) holder place number why (is ∙ ap (λ o. IsArm o holder place number why) same) has in
    let lt = here_within (bare T) q h d in omega (arith, top, lt)))
    ∙ place_by W μ T own offset q h nested.1 d
    (λ r k is holder place number why. only r k (here_push a.here (bare T) r (here_within (bare T) r k is) ∙ is) holder place number why) there)
    (here_cases a.here (bare T) q h e)

-- a running arm has the offsets of its region
arm_has : (W : World) (p : ProcedureId) (own holder : ℕ) (place : Place) (number : ℕ) (B : List Here) → ArmStands W p own holder place number B
    → slice_get (flat_map (λ (q : Phrase). q.arms) (table_of W p)) number ≡ slice_get (arms_of (slice_get (table_of W p) place.phrase)) place.arm
arm_has W p own holder place number B a =
    ap (λ n. slice_get (flat_map (λ (q : Phrase). q.arms) (table_of W p)) n) a.its_number
    ∙ numbers_arms (table_of W p) place (record { phrase = a.phrase; is = a.is_phrase; arm = slice_get_within a.phrase.arms place.arm a.arm a.is_arm })

has_some : (o : Option Arm) (arm : Arm) (offset : ℕ) → o ≡ Some arm → has arm offset ≡ true → has_offset o offset ≡ true
unfolding has_offset
has_some o arm offset e h = ap (λ x. has_offset x offset) e ∙ h

some_has : (o : Option Arm) (offset : ℕ) → has_offset o offset ≡ true → (arm : Arm) × (o ≡ Some arm) × (has arm offset ≡ true)
unfolding has_offset
some_has None offset e = absurd (false≢true e)
some_has (Some arm) offset e = (arm, refl, e)

there_by : (W : World) (p : ProcedureId) (part : Part) (B : List Here) (offset q : ℕ) → PartStands W p part B → LiesIn (table_of W p) part offset
    → IsThere W p part (owner_of part q) offset q
there_by W p (IsFrame number) B offset q stands lies = refl
there_by W p (IsArm own holder place number why) B offset q stands lies =
    (refl, has_some _ lies.0 offset (arm_has W p own holder place number B stands ∙ lies.1) lies.2)

module _ (W : World) (μ : Frames) (T : Standing) (nested : Nested W (bare T)) (p : ProcedureId) (C : Coded) (c : CodeOf W p C) (own : ℕ) (f : Numbered)
    (is_frame : frame_at (bare T) own ≡ Some f) (its : f.procedure ≡ p) where
  -- each arm of the frame is of its procedure
  procedure_by : (k : Here) (below : List Here) → ((q : ℕ) (g : Numbered) → frame_at below q ≡ Some g → frame_at (bare T) q ≡ Some g)
      → (holder : ℕ) (place : Place)
      (number : ℕ) → ArmStands W k.procedure own holder place number below → k.procedure ≡ p
  procedure_by k below up holder place number a =
      let g : Numbered = record { number = a.frame; procedure = k.procedure } in
      ap (λ (x : Numbered). x.procedure) (same_Some g f (sym (up own g a.is_frame) ∙ is_frame)) ∙ its

  -- the place of the target's activation
  pub place_found : (offset q : ℕ) (h : Here) → here_at (bare T) q ≡ Some h → owner_of h.part q ≡ own → h.procedure ≡ p → LiesIn (table_of W p) h.part offset
      → place_for W.image (fill μ T) own offset ≡ q
  place_found offset q h e owned same lies =
      let u = under W (bare T) nested q h e in
      let lies' = subst (λ x. LiesIn (table_of W x) h.part offset) (sym same) lies in
      place_by W μ T own offset q h nested e
      (λ r k is holder place number why part has.
      let v = under W (bare T) nested r k is in
      let a = subst (λ x. PartStands W k.procedure x v.below) part v.stands in
      let of = procedure_by k v.below v.frames holder place number a in
      let found = some_has _ offset has in
      let in_arm : LiesIn (table_of W p) (IsArm own holder place number why) offset = (
        found.0,
        ap (λ x. slice_get (arms_of (slice_get (table_of W x) place.phrase)) place.arm) (sym of)
            ∙ sym (arm_has W k.procedure own holder place number v.below a) ∙ found.1,
        found.2,
      ) in
      one_place_of W (bare T) nested r q k h is e (ap (λ x. owner_of x r) part ∙ sym owned) (of ∙ sym same)
      (ap region_of part ∙ sym (region_in W p C c (IsArm own holder place number why) offset in_arm) ∙ region_in W p C c h.part offset lies))
      (subst (λ o. IsThere W h.procedure h.part o offset q) owned (there_by W h.procedure h.part u.below offset q u.stands lies'))

  found_by : (t : Target) → t.owner ≡ own → (h : Here) → here_at (bare T) t.place ≡ Some h → owner_of h.part t.place ≡ t.owner → h.procedure ≡ p
      → (goal : Option ℕ) → Aims W h t.place t.owner goal → target_for W.image (fill μ T) own goal ≡ record { place = t.place; owner = t.owner; goal = goal }
  unfolding target_for
  found_by t owner h e owned same None aims =
      ap (λ q. record { place = q; owner = q; goal = None }) (sym owner) ∙ ap (λ q. record { place = q; owner = t.owner; goal = None }) (sym aims)
  found_by t owner h e owned same (Some offset) aims =
      ap (λ q. record { place = q; owner = own; goal = Some offset })
      (place_found offset t.place h e (owned ∙ owner) same (subst (λ x. LiesIn (table_of W x) h.part offset) same aims))
      ∙ ap (λ q. record { place = t.place; owner = q; goal = Some offset }) (sym owner)

  -- a jump out of an arm finds the target that is named
  pub target_here : (number : ℕ) (t : Target) (goal : Option ℕ) → IsTarget W (bare T) number t → t.owner ≡ own → t.goal ≡ goal
      → target_for W.image (fill μ T) own goal ≡ t
  target_here number t goal x owner is =
      let frame : x.frame ≡ f = same_Some x.frame f (sym x.is_frame ∙ ap (λ q. frame_at (bare T) q) owner ∙ is_frame) in
      ap (λ g. target_for W.image (fill μ T) own g) (sym is)
      ∙ found_by t owner x.aimed x.is_there x.owned (x.same_procedure ∙ ap (λ (y : Numbered). y.procedure) frame ∙ its) t.goal x.aims
