-- What is shown of the activation at a place, and what its row tells.
use Rattle.std.proofs.Common.{◌≡◌, ℕ, suc, ◌<◌, ◌≤◌, List, [], ◌∷◌, length, Bool, true, false, Some, refl, sym, ap, subst, ◌∙◌, nat_eq, arith}
use Rattle.std.specs.Prelude.{if◌then◌else◌}
use Rattle.std.proofs.lemmas.Bool.{eqb-true, eqb-false, eq-eqb, ne_eqb}
use Rattle.code_forms.specs.Routine.{Begins, spots}
use Rattle.code_forms.proofs.Ordered.{spot_within}
use Rattle.object_files.specs.declared.image.Image.{Image}
use Rattle.machine_rules.specs.State.{Role, Frame, InArm, Active, Activations}
use Rattle.machine_rules.specs.LookUps.{procedure_of}
use Rattle.machine_rules.specs.Activations.{activation_at, owner}
use Rattle.machine_activations.specs.declared.row.Layout.{Layout}
use Rattle.machine_activations.specs.declared.row.Row.{Row}
use Rattle.machine_activations.specs.Below.{Over, over, Waiting, Home, home_of, frame_at, OwnedBy, Owned, Below}
use Rattle.machine_activations.specs.Frames.{row_at, owner_place}
use Rattle.machine_activations.proofs.Homes.{at_top, at_lower, frame_within}
use Rattle.machine_activations.proofs.Returning.{owner_kind}
use Rattle.machine_activations.proofs.Tables.{row_there}
use Rattle.machine_signals.specs.Indexed.{IsAsked}

abbrev pub home_for : Active → Home
home_for a = record { instance = a.instance; procedure = a.procedure }

-- what stands over it, and its frame
pub record At (image : Image) (layout : Layout) (region : List ℕ) (table : List Row) (S : Activations) (q : ℕ) : Type 0 where
  pub active : Active
  pub is : activation_at S q ≡ Some active
  pub above : Over
  pub waiting : Waiting image layout region table above q active
  pub home : frame_at S (owner active.role q) ≡ Some (home_for active)
  pub low : owner active.role q ≤ q

pub frame_lower : (a : Active) (S : Activations) (q : ℕ) → q < length S → frame_at (a ∷ S) q ≡ frame_at S q
unfolding frame_at
frame_lower a S q less =
    ap (λ b. if b then home_of a.role a.instance a.procedure else frame_at S q) (ne_eqb q (length S) (λ e. omega (arith, e, less)))

-- its frame is below it, or it is the frame
pub record Homed (a : Active) (S : Activations) : Type 0 where
  pub home : frame_at (a ∷ S) (owner a.role (length S)) ≡ Some (home_for a)
  pub low : owner a.role (length S) ≤ length S

homed_by : (role : Role (List ℕ)) (a : Active) (S : Activations) → a.role ≡ role → OwnedBy role a.instance a.procedure S
    → (frame_at (a ∷ S) (owner role (length S)) ≡ Some (home_for a)) × (owner role (length S) ≤ length S)
unfolding owner OwnedBy frame_at home_of
homed_by (Frame variables) a S is owned = (
  ap (λ b. if b then home_of a.role a.instance a.procedure else frame_at S (length S)) (eq-eqb (length S) (length S) refl)
      ∙ ap (λ r. home_of r a.instance a.procedure) is,
  omega arith,
)
homed_by (InArm own n why) a S is owned =
    let low = frame_within S own (home_for a) owned in (frame_lower a S own low ∙ owned, omega (arith, low))

pub homed : (a : Active) (S : Activations) → Owned a S → Homed a S
homed a S owned = let h = homed_by a.role a S refl owned in record { home = h.0; low = h.1 }

module _ (image : Image) (layout : Layout) (region : List ℕ) (table : List Row) where
  at_if : (t : Bool) (x : Over) (a : Active) (S : Activations) (q : ℕ) → nat_eq q (length S) ≡ t → Waiting image layout region table x (length S) a → Owned a S
      → q < suc (length S) → (q < length S → At image layout region table S q) → At image layout region table (a ∷ S) q
  at_if true x a S q e w owned less next =
      let here : length S ≡ q = sym (eqb-true q (length S) e) in
      let h = homed a S owned in
      subst (λ k. At image layout region table (a ∷ S) k) here (record { active = a; is = at_top a S; above = x; waiting = w; home = h.home; low = h.low })
  at_if false x a S q e w owned less next =
      let other = eqb-false q (length S) e in
      let lower : q < length S = omega (arith, other, less) in
      let r = next lower in
      record {
        active = r.active;
        is = at_lower a S q lower ∙ r.is;
        above = r.above;
        waiting = r.waiting;
        home = frame_lower a S (owner r.active.role q) (let l = r.low in omega (arith, l, lower)) ∙ r.home;
        low = r.low;
      }

  pub place_at : (x : Over) (S : Activations) (q : ℕ) → Below image layout region table x S → q < length S → At image layout region table S q
  unfolding Below
  place_at x [] q b less = absurd (omega (arith, less))
  place_at x (a ∷ S) q b less = at_if (nat_eq q (length S)) x a S q refl b.0 b.1 less (λ l. place_at (over a) S q b.2 l)

  -- what its row tells
  module _ (S : Activations) (q : ℕ) (at : At image layout region table S q) where
    told : row_at table q ≡ at.waiting.rowed.row
    told = row_there table q at.waiting.rowed.row at.waiting.rowed.there

    kept : row_at table q ≡ at.waiting.kept.row
    kept = row_there table q at.waiting.kept.row at.waiting.kept.there

    pub at_instance : (row_at table q).instance ≡ at.active.instance
    at_instance = ap (λ (r : Row). r.instance) told ∙ at.waiting.rowed.same_instance

    pub at_procedure : (row_at table q).procedure ≡ at.active.procedure
    at_procedure = ap (λ (r : Row). r.procedure) told ∙ at.waiting.rowed.same_procedure

    pub at_owner : owner_place (row_at table q).kind q ≡ owner at.active.role q
    at_owner = ap (λ (r : Row). owner_place r.kind q) told ∙ owner_kind at.waiting.rowed.row.kind at.active.role q at.waiting.rowed.same_kind

    pub at_entry : Begins (spots at.waiting.procedure.code) (row_at table q).entry at.active.offset
    at_entry = subst (λ (r : Row). Begins (spots at.waiting.procedure.code) r.entry at.active.offset) (sym kept) at.waiting.kept.begins

    pub at_count : (row_at table q).count ≡ length at.active.operands
    at_count = ap (λ (r : Row). r.count) kept ∙ at.waiting.kept.same_count

    pub at_code : procedure_of image (row_at table q).instance (row_at table q).procedure ≡ Some at.waiting.procedure
    at_code =
        ap (λ j. procedure_of image j (row_at table q).procedure) at_instance ∙ ap (λ n. procedure_of image at.active.instance n) at_procedure
        ∙ at.waiting.is

    pub at_asked : IsAsked image table q
    at_asked =
        let b = at_entry in record {
          read = record { procedure = at.waiting.procedure; is = at_code; within = spot_within at.waiting.procedure.code (row_at table q).entry b.spot b.is };
          low = (let o = at_owner in let l = at.low in omega (arith, o, l));
        }
