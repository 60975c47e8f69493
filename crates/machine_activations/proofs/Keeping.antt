-- What stays shown where words of the region change.
use Rattle.std.proofs.Common.{◌≡◌, ◌⊎◌, inl, inr, ℕ, ◌+◌, ◌*◌, ◌<◌, ◌≤◌, List, [], ◌∷◌, length, reverse, Bool, true, false, Some, refl, sym, ap, subst, ◌∙◌, arith}
use Rattle.std.specs.Prelude.{nat_eq, if◌then◌else◌}
use Rattle.std.proofs.Math.Nat.{mul-le-mul_right}
use Rattle.std.proofs.lemmas.Bool.{eqb-true}
use Rattle.std.proofs.lemmas.Option.{none-some, same_Some}
use Rattle.code_forms.specs.declared.module_code.CodeProcedure.{CodeProcedure}
use Rattle.object_files.specs.declared.image.Image.{Image}
use Rattle.machine_rules.specs.State.{Role, Frame, InArm, Active, Activations}
use Rattle.machine_rules.specs.LookUps.{procedure_of}
use Rattle.machine_rules.specs.Activations.{activation_at, variables_in, variables_of, with_variables, set_variables}
use Rattle.machine_topmost.specs.Flat.{part}
use Rattle.machine_activations.specs.declared.row.Layout.{Layout}
use Rattle.machine_activations.specs.declared.row.Row.{Row}
use Rattle.machine_activations.specs.Placed.{slots_from, floor_at, IsLaidOut, HasVariables}
use Rattle.machine_activations.specs.Below.{Over, over, args_over, Waiting, Home, home_of, frame_at, Owned, Below}
use Rattle.machine_activations.proofs.Homes.{same_over, same_kind, set_long, owned_set, owned_role, frame_within}

-- up to a limit the words are the same but for so many from a place on
abbrev pub SameBut : (region region' : List ℕ) → (at count limit : ℕ) → Type 0
SameBut region region' at count limit = (p n : ℕ) → p + n ≤ limit → (p + n ≤ at) ⊎ (at + count ≤ p) → part region' p n ≡ part region p n

abbrev pub SameTo : (region region' : List ℕ) → (limit : ℕ) → Type 0
SameTo region region' limit = (p n : ℕ) → p + n ≤ limit → part region' p n ≡ part region p n

pub next_part : (q p k : ℕ) → q < p → q * k + k ≤ p * k
next_part q p k less = let h = mul-le-mul_right k less in omega (arith, h)

pub variables_same : (region region' : List ℕ) (at frame : ℕ) (role : Role (List ℕ)) → part region' at frame ≡ part region at frame → HasVariables region at frame role → HasVariables region' at frame role
unfolding HasVariables
variables_same region region' at frame (Frame variables) same h = same ∙ h
variables_same region region' at frame (InArm own arm why) same h = tt

module _ (image : Image) (layout : Layout) (laid : IsLaidOut image layout) (table : List Row) where
  -- one that waits, where its part is the same
  waiting_same : (region region' : List ℕ) (x : Over) (q : ℕ) (a : Active) → ((p n : ℕ) → q * layout.part ≤ p → p + n ≤ q * layout.part + layout.part → part region' p n ≡ part region p n)
      → Waiting image layout region table x q a → Waiting image layout region' table x q a
  waiting_same region region' x q a same w =
      let fits = laid a.instance a.procedure w.procedure w.is in
      let room = w.room in
      record {
        procedure = w.procedure;
        is = w.is;
        placed = record {
          variables = variables_same region region' (slots_from layout q) w.procedure.frame a.role (same (slots_from layout q) w.procedure.frame (omega arith) (omega (arith, fits.0, fits.1))) w.placed.variables;
          operands = ap (λ l. reverse l) (same (floor_at layout q) (length a.operands) (omega arith) (omega (arith, fits.1, room))) ∙ w.placed.operands;
        };
        args = same (floor_at layout q + length a.operands) (length (args_over x)) (omega arith) (omega (arith, fits.1, room)) ∙ w.args;
        room = w.room;
        rowed = w.rowed;
        kept = w.kept;
      }

  pub below_same : (region region' : List ℕ) (x : Over) (S : Activations) → SameTo region region' (length S * layout.part) → Below image layout region table x S → Below image layout region' table x S
  unfolding Below
  below_same region region' x [] same b = tt
  below_same region region' x (a ∷ S) same b = (
    waiting_same region region' x (length S) a (λ p n low high. same p n (omega (arith, high))) b.0,
    b.1,
    below_same region region' (over a) S (λ p n l. same p n (omega (arith, l))) b.2,
  )

  same_procedure : (h k : Home) (p q : CodeProcedure) → Some h ≡ Some k → procedure_of image h.instance h.procedure ≡ Some p → procedure_of image k.instance k.procedure ≡ Some q → p ≡ q
  same_procedure h k p q e is is' = same_Some p q (sym is ∙ ap (λ (x : Home). procedure_of image x.instance x.procedure) (same_Some h k e) ∙ is')

  -- The variables of a frame.

  module _ (own j n : ℕ) (p : CodeProcedure) (is : procedure_of image j n ≡ Some p) where
    abbrev home : Home
    home = record { instance = j; procedure = n }

    variables_by : (region : List ℕ) (at : ℕ) (role : Role (List ℕ)) (k l : ℕ) (q : CodeProcedure) → procedure_of image k l ≡ Some q → home_of role k l ≡ Some home → HasVariables region at q.frame role
        → variables_in role ≡ part region at p.frame
    unfolding HasVariables home_of variables_in
    variables_by region at (Frame variables) k l q found h has =
        let same : q ≡ p = same_procedure (record { instance = k; procedure = l }) home q p h found is in
        sym has ∙ ap (λ (x : CodeProcedure). part region at x.frame) same
    variables_by region at (InArm o arm why) k l q found h has = absurd (none-some home h)

    variables_if : (b : Bool) (region : List ℕ) (x : Over) (a : Active) (S : Activations) → nat_eq own (length S) ≡ b → Waiting image layout region table x (length S) a
        → (frame_at S own ≡ Some home → variables_of (activation_at S own) ≡ part region (slots_from layout own) p.frame)
        → (if b then home_of a.role a.instance a.procedure else frame_at S own) ≡ Some home
        → variables_of (if b then Some a else activation_at S own) ≡ part region (slots_from layout own) p.frame
    unfolding variables_of
    variables_if true region x a S e w lower h =
        variables_by region (slots_from layout (length S)) a.role a.instance a.procedure w.procedure w.is h w.placed.variables
        ∙ ap (λ k. part region (slots_from layout k) p.frame) (sym (eqb-true own (length S) e))
    variables_if false region x a S e w lower h = lower h

    -- those that an arm over it sees
    pub variables_below : (region : List ℕ) (x : Over) (S : Activations) → Below image layout region table x S → frame_at S own ≡ Some home
        → variables_of (activation_at S own) ≡ part region (slots_from layout own) p.frame
    unfolding Below frame_at activation_at
    variables_below region x [] b h = absurd (none-some home h)
    variables_below region x (a ∷ S) b h = variables_if (nat_eq own (length S)) region x a S refl b.0 (variables_below region (over a) S b.2) h

    -- Words of them change.

    module _ (region region' : List ℕ) where
      abbrev new : List ℕ
      new = part region' (slots_from layout own) p.frame

      has_new : (role : Role (List ℕ)) (k l : ℕ) (q : CodeProcedure) → procedure_of image k l ≡ Some q → home_of role k l ≡ Some home
          → HasVariables region' (slots_from layout own) q.frame (with_variables role new)
      unfolding HasVariables home_of with_variables
      has_new (Frame old) k l q found h =
          let same : q ≡ p = same_procedure (record { instance = k; procedure = l }) home q p h found is in ap (λ (x : CodeProcedure). part region' (slots_from layout own) x.frame) same
      has_new (InArm o arm why) k l q found h = tt

      stored_here : (x : Over) (a : Active) → home_of a.role a.instance a.procedure ≡ Some home
          → SameBut region region' (slots_from layout own) p.frame (own * layout.part + layout.part) → Waiting image layout region table x own a
          → Waiting image layout region' table x own (record a { role = with_variables a.role new })
      stored_here x a h same w =
          let fits = laid a.instance a.procedure w.procedure w.is in
          let mine = laid j n p is in
          let room = w.room in
          record {
            procedure = w.procedure;
            is = w.is;
            placed = record {
              variables = has_new a.role a.instance a.procedure w.procedure w.is h;
              operands = ap (λ l. reverse l) (same (floor_at layout own) (length a.operands) (omega (arith, fits.1, room)) (inr (omega (arith, mine.0)))) ∙ w.placed.operands;
            };
            args = same (floor_at layout own + length a.operands) (length (args_over x)) (omega (arith, fits.1, room)) (inr (omega (arith, mine.0))) ∙ w.args;
            room = w.room;
            rowed = record {
              row = w.rowed.row;
              there = w.rowed.there;
              same_instance = w.rowed.same_instance;
              same_procedure = w.rowed.same_procedure;
              same_kind = same_kind w.rowed.row.kind a.role new w.rowed.same_kind;
            };
            kept = record { row = w.kept.row; there = w.kept.there; begins = w.kept.begins; same_count = w.kept.same_count; waits = w.kept.waits };
          }

      stored_if : (b : Bool) (x : Over) (a : Active) (S T : Activations) → nat_eq own (length S) ≡ b → length T ≡ length S
          → (b ≡ false → own < length S)
          → (if b then home_of a.role a.instance a.procedure else frame_at S own) ≡ Some home
          → SameBut region region' (slots_from layout own) p.frame (length S * layout.part + layout.part)
          → Waiting image layout region table x (length S) a → Owned a S → Below image layout region table (over a) S
          → Owned a T
          → (b ≡ false → Below image layout region' table (over a) T)
          → Below image layout region' table x (if b then record a { role = with_variables a.role new } ∷ S else a ∷ T)
      unfolding Below
      stored_if true x a S T e long low h same w owned below owned' below' =
          let here : own ≡ length S = eqb-true own (length S) e in (
            subst (λ k. Waiting image layout region' table x k (record a { role = with_variables a.role new })) here
                (stored_here x a h (subst (λ k. SameBut region region' (slots_from layout own) p.frame (k * layout.part + layout.part)) (sym here) same)
                (subst (λ k. Waiting image layout region table x k a) (sym here) w)),
            owned_role a.role new a.instance a.procedure S owned,
            subst (λ o. Below image layout region' table o S) (sym (same_over a.role new a.instance a.procedure))
                (below_same region region' (over a) S (λ k m l. same k m (omega (arith, l)) (inl (let z = ap (λ i. i * layout.part) here in omega (arith, l, z)))) below),
          )
      stored_if false x a S T e long low h same w owned below owned' below' =
          let less = low refl in
          let far = next_part own (length S) layout.part less in
          let mine = laid j n p is in (
            subst (λ k. Waiting image layout region' table x k a) (sym long)
                (waiting_same region region' x (length S) a (λ k m above limit. same k m limit (inr (omega (arith, far, mine.0, mine.1, above)))) w),
            owned',
            below' refl,
          )

      pub below_stored : (x : Over) (S : Activations) → frame_at S own ≡ Some home → SameBut region region' (slots_from layout own) p.frame (length S * layout.part)
          → Below image layout region table x S → Below image layout region' table x (set_variables S own new)
      unfolding Below frame_at set_variables
      below_stored x [] h same b = absurd (none-some home h)
      below_stored x (a ∷ S) h same b =
          stored_if (nat_eq own (length S)) x a S (set_variables S own new) refl (set_long S own new)
          (λ e. lower_if (nat_eq own (length S)) a S e h)
          h (λ k m l. same k m (omega (arith, l))) b.0 b.1 b.2 (owned_set a.role a.instance a.procedure S own new b.1)
          (λ e. below_stored (over a) S (frame_if (nat_eq own (length S)) a S e h) (λ k m l. same k m (omega (arith, l))) b.2)
        where
          frame_if : (b : Bool) (a : Active) (S : Activations) → b ≡ false → (if b then home_of a.role a.instance a.procedure else frame_at S own) ≡ Some home → frame_at S own ≡ Some home
          frame_if b a S e h = ap (λ c. if c then home_of a.role a.instance a.procedure else frame_at S own) (sym e) ∙ h

          lower_if : (b : Bool) (a : Active) (S : Activations) → b ≡ false → (if b then home_of a.role a.instance a.procedure else frame_at S own) ≡ Some home → own < length S
          lower_if b a S e h = frame_within S own home (frame_if b a S e h)
