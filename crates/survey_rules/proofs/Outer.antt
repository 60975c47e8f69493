-- Regions around one another.
use Rattle.std.proofs.Common.{◌≡◌, ℕ, zero, suc, List, Bool, true, false, Option, Some, None, refl, sym, ap, subst, ◌∙◌}
use Rattle.std.specs.Prelude.{slice_get}
use Rattle.std.proofs.lemmas.Bool.{false≢true}
use Rattle.std.proofs.lemmas.Option.{none-some, same_Some}
use Rattle.code_forms.specs.declared.instruction.Instruction.{Instruction}
use Rattle.code_forms.specs.declared.instruction.Instruction.TheVariants.{Jump, JumpIf, JumpIfNot, JumpBack, Leave}
use Rattle.code_forms.specs.declared.module_code.Phrase.{Phrase}
use Rattle.code_forms.specs.declared.region.Region.{Region}
use Rattle.code_forms.specs.declared.region.Region.TheVariants.{Body, ArmOf}
use Rattle.code_forms.specs.Jumps.{JumpsRightly}
use Rattle.code_forms.specs.Regions.{region_at, around_phrase, and_then, outward}
use Rattle.code_forms.specs.Routine.{Routine}
use Rattle.survey_rules.specs.Reached.{LeadsTo}

-- a region, or one that holds the phrase of its arm, or one around that
pub data Outer (table : List Phrase) : Region → Region → Type 0 where
  itself : (r : Region) → Outer table r r
  beyond : (n k : ℕ) (ph : Phrase) (r : Region) → slice_get table n ≡ Some ph → Outer table (region_at table ph.from) r → Outer table (ArmOf n k) r

pub more_outer : (table : List Phrase) (r s t : Region) → Outer table r s → Outer table s t → Outer table r t
more_outer table _ _ t (itself _) more = more
more_outer table _ s t (beyond n k ph _ is rest) more = beyond n k ph t is (more_outer table (region_at table ph.from) s t rest more)

same_outer : (table : List Phrase) (r s : Region) → s ≡ r → Outer table r s
same_outer table r s e = subst (λ x. Outer table r x) (sym e) (itself r)

holder_outer : (table : List Phrase) (k n a : ℕ) (s : Region) → ((r : Region) → outward table k r ≡ Some s → Outer table r s)
    → (o : Option Phrase) → slice_get table n ≡ o → and_then (outward table k) (around_phrase table o) ≡ Some s → Outer table (ArmOf n a) s
holder_outer table k n a s next None is e = absurd (none-some s e)
holder_outer table k n a s next (Some ph) is e = beyond n a ph s is (next (region_at table ph.from) e)

outer_of : (table : List Phrase) (k : ℕ) (s r : Region) → outward table k r ≡ Some s → Outer table r s
outer_of table zero s r e = same_outer table r s (sym (same_Some r s e))
outer_of table (suc k) s Body e = absurd (none-some s e)
outer_of table (suc k) s (ArmOf n a) e = holder_outer table k n a s (outer_of table k s) (slice_get table n) refl e

-- a jump leads to its own region or to one around it
pub leads_outer : (r : Routine) (at target : ℕ) (i : Instruction) → JumpsRightly r at i → LeadsTo i target
    → Outer r.phrases (region_at r.phrases at) (region_at r.phrases target)
leads_outer r at target (Jump goal) j e = subst (λ x. Outer r.phrases (region_at r.phrases at) (region_at r.phrases x)) e (same_outer r.phrases _ _ j.region)
leads_outer r at target (JumpIf goal) j e = subst (λ x. Outer r.phrases (region_at r.phrases at) (region_at r.phrases x)) e (same_outer r.phrases _ _ j.region)
leads_outer r at target (JumpIfNot goal) j e = subst (λ x. Outer r.phrases (region_at r.phrases at) (region_at r.phrases x)) e (same_outer r.phrases _ _ j.region)
leads_outer r at target (JumpBack goal) j e = subst (λ x. Outer r.phrases (region_at r.phrases at) (region_at r.phrases x)) e (same_outer r.phrases _ _ j.region)
leads_outer r at target (Leave arms goal) j e = subst (λ x. Outer r.phrases (region_at r.phrases at) (region_at r.phrases x)) e (outer_of r.phrases arms _ _ j.region)
leads_outer r at target _ j e = absurd e

abbrev is_arm : Region → Bool
is_arm Body = false
is_arm (ArmOf n k) = true

-- around the body is nothing
pub not_outer : (table : List Phrase) (r s : Region) (n k : ℕ) → Outer table r s → r ≡ Body → s ≡ ArmOf n k → ⊥
not_outer table _ _ n k (itself r) b e = false≢true (ap is_arm (sym b) ∙ ap is_arm e)
not_outer table _ s n k (beyond m j ph _ is rest) b e = false≢true (sym (ap is_arm b))
