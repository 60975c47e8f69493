-- The filled stack: what the machine finds in it, and what changes when the variables of a frame are set.
use Rattle.std.proofs.Common.{◌≡◌, ⊎_elim, inl, inr, ℕ, suc, ◌<◌, ◌≤◌, ◌⊎◌, List, [], ◌∷◌, length, Bool, true, false, Some, refl, sym, ap, ◌∙◌, subst, arith}
use Rattle.std.specs.Prelude.{nat_eq, if◌then◌else◌}
use Rattle.std.proofs.lemmas.Bool.{eq-eqb, eqb-true, ne_eqb}
use Rattle.std.proofs.lemmas.Option.{none-some, same_Some}
use Rattle.source_meaning.specs.State.{ProcedureId}
use Rattle.machine_rules.specs.State.{Role, Frame, Active}
use Rattle.machine_rules.specs.Activations.{activation_at, owner, with_variables, set_variables}
use Rattle.agreement_laws.specs.Standing.{Part, IsFrame, IsArm, Here, Act, Standing, bare, Frames, role_of, filled, fill, act_at, here_at, owner_of, Numbered, numbered, frame_at, PartBelow, below_it, Falling}

-- How long the lists are.

pub bare_long : (T : Standing) → length (bare T) ≡ length T
bare_long [] = refl
bare_long (a ∷ T) = ap suc (bare_long T)

pub fill_long : (μ : Frames) (T : Standing) → length (fill μ T) ≡ length (bare T)
fill_long μ [] = refl
fill_long μ (a ∷ T) = ap suc (fill_long μ T)

-- Looking up.

pub owner_same : (μ : Frames) (part : Part) (q : ℕ) → owner (role_of μ part) q ≡ owner_of part q
unfolding owner
owner_same μ (IsFrame n) q = refl
owner_same μ (IsArm own holder place number why) q = refl

found_if : (b : Bool) (μ : Frames) (c a : Act) (T : Standing) (q : ℕ) → (if b then Some c else act_at T q) ≡ Some a
    → (act_at T q ≡ Some a → activation_at (fill μ T) q ≡ Some (filled μ a)) → (if b then Some (filled μ c) else activation_at (fill μ T) q) ≡ Some (filled μ a)
found_if true μ c a T q e h = ap (λ x. Some (filled μ x)) (same_Some c a e)
found_if false μ c a T q e h = h e

pub fill_at : (μ : Frames) (T : Standing) (q : ℕ) (a : Act) → act_at T q ≡ Some a → activation_at (fill μ T) q ≡ Some (filled μ a)
unfolding activation_at
fill_at μ [] q a e = absurd (none-some a e)
fill_at μ (c ∷ T) q a e =
    ap (λ n. if nat_eq q n then Some (filled μ c) else activation_at (fill μ T) q) (fill_long μ T ∙ bare_long T)
    ∙ found_if (nat_eq q (length T)) μ c a T q e (fill_at μ T q a)

-- an activation that is known without its offset and operands
pub record ActAt (T : Standing) (q : ℕ) (h : Here) : Type 0 where
  pub act : Act
  pub is : act_at T q ≡ Some act
  pub here : act.here ≡ h

act_if : (b : Bool) (c : Act) (T : Standing) (q : ℕ) (h : Here) → nat_eq q (length T) ≡ b → (if b then Some c.here else here_at (bare T) q) ≡ Some h
    → (here_at (bare T) q ≡ Some h → ActAt T q h) → ActAt (c ∷ T) q h
act_if true c T q h b e f = record { act = c; is = ap (λ t. if t then Some c else act_at T q) b; here = same_Some c.here h e }
act_if false c T q h b e f = let x = f e in record { act = x.act; is = ap (λ t. if t then Some c else act_at T q) b ∙ x.is; here = x.here }

pub act_of : (T : Standing) (q : ℕ) (h : Here) → here_at (bare T) q ≡ Some h → ActAt T q h
act_of [] q h e = absurd (none-some h e)
act_of (c ∷ T) q h e =
    act_if (nat_eq q (length T)) c T q h refl (sym (ap (λ n. if nat_eq q n then Some c.here else here_at (bare T) q) (bare_long T)) ∙ e) (act_of T q h)

-- the topmost one, and those below whatever is on top

pub here_top : (h : Here) (B : List Here) → here_at (h ∷ B) (length B) ≡ Some h
here_top h B = ap (λ b. if b then Some h else here_at B (length B)) (eq-eqb (length B) (length B) refl)

pub frame_top : (h : Here) (B : List Here) → frame_at (h ∷ B) (length B) ≡ numbered h.procedure h.part
frame_top h B = ap (λ b. if b then numbered h.procedure h.part else frame_at B (length B)) (eq-eqb (length B) (length B) refl)

not_top : (q n : ℕ) → q < n → nat_eq q n ≡ false
not_top q n lt = ne_eqb q n (λ e. omega (arith, e, lt))

pub here_push : (h : Here) (B : List Here) (q : ℕ) → q < length B → here_at (h ∷ B) q ≡ here_at B q
here_push h B q lt = ap (λ b. if b then Some h else here_at B q) (not_top q (length B) lt)

pub frame_push : (h : Here) (B : List Here) (q : ℕ) → q < length B → frame_at (h ∷ B) q ≡ frame_at B q
frame_push h B q lt = ap (λ b. if b then numbered h.procedure h.part else frame_at B q) (not_top q (length B) lt)

pub act_push : (a : Act) (T : Standing) (q : ℕ) → q < length T → act_at (a ∷ T) q ≡ act_at T q
act_push a T q lt = ap (λ b. if b then Some a else act_at T q) (not_top q (length T) lt)

-- by the place: the topmost one, or one below

pub here_cases : (h : Here) (B : List Here) (q : ℕ) (k : Here) → here_at (h ∷ B) q ≡ Some k → ((q ≡ length B) × (h ≡ k)) ⊎ (here_at B q ≡ Some k)
here_cases h B q k e = by (nat_eq q (length B)) refl e
  where
    by : (b : Bool) → nat_eq q (length B) ≡ b → (if b then Some h else here_at B q) ≡ Some k → ((q ≡ length B) × (h ≡ k)) ⊎ (here_at B q ≡ Some k)
    by true t e = inl (eqb-true q (length B) t, same_Some h k e)
    by false t e = inr e

pub frame_cases : (h : Here) (B : List Here) (q : ℕ) (k : Numbered) → frame_at (h ∷ B) q ≡ Some k
    → ((q ≡ length B) × (numbered h.procedure h.part ≡ Some k)) ⊎ (frame_at B q ≡ Some k)
frame_cases h B q k e = by (nat_eq q (length B)) refl e
  where
    by : (b : Bool) → nat_eq q (length B) ≡ b → (if b then numbered h.procedure h.part else frame_at B q) ≡ Some k
        → ((q ≡ length B) × (numbered h.procedure h.part ≡ Some k)) ⊎ (frame_at B q ≡ Some k)
    by true t e = inl (eqb-true q (length B) t, e)
    by false t e = inr e

pub here_within : (B : List Here) (q : ℕ) (k : Here) → here_at B q ≡ Some k → q < length B
here_within [] q k e = absurd (none-some k e)
here_within (h ∷ B) q k e = ⊎_elim (λ d. let x = d.0 in omega (arith, x)) (λ d. let x = here_within B q k d in omega (arith, x)) (here_cases h B q k e)

pub frame_within : (B : List Here) (q : ℕ) (k : Numbered) → frame_at B q ≡ Some k → q < length B
frame_within [] q k e = absurd (none-some k e)
frame_within (h ∷ B) q k e = ⊎_elim (λ d. let x = d.0 in omega (arith, x)) (λ d. let x = frame_within B q k d in omega (arith, x)) (frame_cases h B q k e)

-- Frames by their numbers.

pub numbered_part : (p : ProcedureId) (part : Part) (k : Numbered) → numbered p part ≡ Some k → part ≡ IsFrame k.number
numbered_part p (IsFrame n) k e = ap (λ (x : Numbered). IsFrame x.number) (same_Some (record { number = n; procedure = p }) k e)
numbered_part p (IsArm own holder place number why) k e = absurd (none-some k e)

pub numbered_procedure : (p : ProcedureId) (part : Part) (k : Numbered) → numbered p part ≡ Some k → p ≡ k.procedure
numbered_procedure p (IsFrame n) k e = ap (λ (x : Numbered). x.procedure) (same_Some (record { number = n; procedure = p }) k e)
numbered_procedure p (IsArm own holder place number why) k e = absurd (none-some k e)

top_below : (p : ProcedureId) (part : Part) (n : ℕ) (k : Numbered) → numbered p part ≡ Some k → PartBelow part n → (below_it part n ≡ k.number) × (k.number < n)
top_below p part n k e b =
    let is = numbered_part p part k e in
    (ap (λ x. below_it x n) is, subst (λ x. PartBelow x n) is b)

pub lower : (part : Part) (n : ℕ) → PartBelow part n → below_it part n ≤ n
lower (IsFrame m) n b = omega (arith, b)
lower (IsArm own holder place number why) n b = omega arith

pub number_below : (n : ℕ) (B : List Here) (q : ℕ) (k : Numbered) → Falling n B → frame_at B q ≡ Some k → k.number < n
number_below n [] q k f e = absurd (none-some k e)
number_below n (h ∷ B) q k f e =
    ⊎_elim
    (λ d. (top_below h.procedure h.part n k d.1 f.0).1)
    (λ d. let x = number_below (below_it h.part n) B q k f.1 d in let y = lower h.part n f.0 in omega (arith, x, y))
    (frame_cases h B q k e)

-- two places of one number are one
pub one_place : (n : ℕ) (B : List Here) (q r : ℕ) (k l : Numbered) → Falling n B → frame_at B q ≡ Some k → frame_at B r ≡ Some l → k.number ≡ l.number → q ≡ r
one_place n [] q r k l f e d same = absurd (none-some k e)
one_place n (h ∷ B) q r k l f e d same =
    ⊎_elim
    (λ x. ⊎_elim
    (λ y. x.0 ∙ sym y.0)
    (λ y. let a = (top_below h.procedure h.part n k x.1 f.0).0 in let b = number_below (below_it h.part n) B r l f.1 y in absurd (omega (arith, a, b, same)))
    (frame_cases h B r l d))
    (λ x. ⊎_elim
    (λ y. let a = (top_below h.procedure h.part n l y.1 f.0).0 in let b = number_below (below_it h.part n) B q k f.1 x in absurd (omega (arith, a, b, same)))
    (λ y. one_place (below_it h.part n) B q r k l f.1 x y same)
    (frame_cases h B r l d))
    (frame_cases h B q k e)

-- a frame of the filled stack
pub record FrameAt (μ : Frames) (T : Standing) (q : ℕ) (k : Numbered) : Type 0 where
  pub there : Active
  pub is : activation_at (fill μ T) q ≡ Some there
  pub role : there.role ≡ Frame (μ k.number)
  pub instance : there.instance ≡ k.procedure.instance
  pub procedure : there.procedure ≡ k.procedure.number

frame_if : (b : Bool) (μ : Frames) (a : Act) (T : Standing) (q : ℕ) (k : Numbered) → nat_eq q (length (fill μ T)) ≡ b
    → (if b then numbered a.here.procedure a.here.part else frame_at (bare T) q) ≡ Some k → (frame_at (bare T) q ≡ Some k → FrameAt μ T q k) → FrameAt μ (a ∷ T) q k
unfolding activation_at
frame_if true μ a T q k b e f =
    let is = numbered_part a.here.procedure a.here.part k e in
    let of = numbered_procedure a.here.procedure a.here.part k e in
    record {
      there = filled μ a;
      is = ap (λ t. if t then Some (filled μ a) else activation_at (fill μ T) q) b;
      role = ap (λ x. role_of μ x) is;
      instance = ap (λ (p : ProcedureId). p.instance) of;
      procedure = ap (λ (p : ProcedureId). p.number) of;
    }
frame_if false μ a T q k b e f =
    let x = f e in
    record {
      there = x.there;
      is = ap (λ t. if t then Some (filled μ a) else activation_at (fill μ T) q) b ∙ x.is;
      role = x.role;
      instance = x.instance;
      procedure = x.procedure;
    }

pub frame_found : (μ : Frames) (T : Standing) (q : ℕ) (k : Numbered) → frame_at (bare T) q ≡ Some k → FrameAt μ T q k
frame_found μ [] q k e = absurd (none-some k e)
frame_found μ (a ∷ T) q k e =
    frame_if (nat_eq q (length (fill μ T))) μ a T q k refl
    (ap (λ n. if nat_eq q n then numbered a.here.procedure a.here.part else frame_at (bare T) q) (fill_long μ T) ∙ e) (frame_found μ T q k)

-- Setting variables.

-- the words of one frame are others
abbrev pub with_words : Frames → ℕ → List ℕ → Frames
with_words μ g new f = if nat_eq f g then new else μ f

pub words_here : (μ : Frames) (g : ℕ) (new : List ℕ) → with_words μ g new g ≡ new
words_here μ g new = ap (λ b. if b then new else μ g) (eq-eqb g g refl)

pub words_other : (μ : Frames) (g : ℕ) (new : List ℕ) (f : ℕ) → (f ≡ g → ⊥) → with_words μ g new f ≡ μ f
words_other μ g new f non = ap (λ b. if b then new else μ f) (ne_eqb f g non)

role_above : (μ : Frames) (part : Part) (n g : ℕ) (new : List ℕ) → PartBelow part n → g < below_it part n → role_of (with_words μ g new) part ≡ role_of μ part
role_above μ (IsFrame m) n g new b lt = ap Frame (words_other μ g new m (λ e. omega (arith, e, lt)))
role_above μ (IsArm own holder place number why) n g new b lt = refl

role_below : (μ : Frames) (part : Part) (n g : ℕ) (new : List ℕ) → PartBelow part n → n ≤ g → role_of (with_words μ g new) part ≡ role_of μ part
role_below μ (IsFrame m) n g new b le = ap Frame (words_other μ g new m (λ e. omega (arith, e, b, le)))
role_below μ (IsArm own holder place number why) n g new b le = refl

abbrev with_role : Frames → Act → Role (List ℕ) → Active
with_role μ a r = record (filled μ a) { role = r }

-- a number that does not stand
pub fill_other : (μ : Frames) (n g : ℕ) (new : List ℕ) (T : Standing) → Falling n (bare T) → n ≤ g → fill (with_words μ g new) T ≡ fill μ T
fill_other μ n g new [] f le = refl
fill_other μ n g new (a ∷ T) f le =
    let y = lower a.here.part n f.0 in
    ap (λ r. with_role μ a r ∷ fill (with_words μ g new) T) (role_below μ a.here.part n g new f.0 le)
    ∙ ap (λ S. filled μ a ∷ S) (fill_other μ (below_it a.here.part n) g new T f.1 (omega (arith, y, le)))

set_if : (b : Bool) (n : ℕ) (μ : Frames) (a : Act) (T : Standing) (q : ℕ) (k : Numbered) (new : List ℕ) → Falling n (bare (a ∷ T))
    → (if b then numbered a.here.procedure a.here.part else frame_at (bare T) q) ≡ Some k
    → (frame_at (bare T) q ≡ Some k → set_variables (fill μ T) q new ≡ fill (with_words μ k.number new) T)
    → (if b then record (filled μ a) { role = with_variables (role_of μ a.here.part) new } ∷ fill μ T else filled μ a ∷ set_variables (fill μ T) q new)
    ≡ fill (with_words μ k.number new) (a ∷ T)
unfolding with_variables
set_if true n μ a T q k new f e h =
    let is = numbered_part a.here.procedure a.here.part k e in
    let b = top_below a.here.procedure a.here.part n k e f.0 in
    let le = b.0 in
    ap (λ part. with_role μ a (with_variables (role_of μ part) new) ∷ fill μ T) is
    ∙ ap (λ ws. with_role μ a (Frame ws) ∷ fill μ T) (sym (words_here μ k.number new))
    ∙ ap (λ part. with_role μ a (role_of (with_words μ k.number new) part) ∷ fill μ T) (sym is)
    ∙ ap (λ S. filled (with_words μ k.number new) a ∷ S) (sym (fill_other μ (below_it a.here.part n) k.number new T f.1 (omega (arith, le))))
set_if false n μ a T q k new f e h =
    let lt = number_below (below_it a.here.part n) (bare T) q k f.1 e in
    ap (λ S. filled μ a ∷ S) (h e)
    ∙ ap (λ r. with_role μ a r ∷ fill (with_words μ k.number new) T) (sym (role_above μ a.here.part n k.number new f.0 lt))

pub fill_set : (n : ℕ) (μ : Frames) (T : Standing) (q : ℕ) (k : Numbered) (new : List ℕ) → Falling n (bare T) → frame_at (bare T) q ≡ Some k
    → set_variables (fill μ T) q new ≡ fill (with_words μ k.number new) T
unfolding set_variables
fill_set n μ [] q k new f e = absurd (none-some k e)
fill_set n μ (a ∷ T) q k new f e =
    ap (λ l. if nat_eq q l then record (filled μ a) { role = with_variables (role_of μ a.here.part) new } ∷ fill μ T else filled μ a ∷ set_variables (fill μ T) q new) (fill_long μ T)
    ∙ set_if (nat_eq q (length (bare T))) n μ a T q k new f e (fill_set (below_it a.here.part n) μ T q k new f.1)
