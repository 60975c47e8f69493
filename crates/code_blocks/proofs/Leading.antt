-- Where the points around a block lie: each way to one leads to an instruction of the region outward of the arms that it leaves, or to the
-- caller out of all of them. So jumps of the text lead where valid code asks.
use Rattle.std.proofs.Common.{◌≡◌, refl, sym, ap, ◌∙◌, subst, ℕ, zero, suc, ◌<◌, ◌≤◌, List, Option, Some, None, Bool, true, false, nat_eq, if◌then◌else◌, arith}
use Rattle.std.specs.Prelude.{◌≢◌}
use Rattle.mesa_types.specs.Typed.{Point, Start, After, At, Leave}
use Rattle.code_forms.specs.declared.instruction.Instruction.{Instruction}
use Rattle.code_forms.specs.declared.region.Region.{Region}
use Rattle.code_forms.specs.declared.region.Region.TheVariants.{Body}
use Rattle.code_forms.specs.Jumps.{JumpsRightly}
use Rattle.code_forms.specs.Operands.{OperandsFit}
use Rattle.code_forms.specs.Regions.{region_at, holder, and_then, outward}
use Rattle.code_forms.specs.Routine.{Routine, IsStart}
use Rattle.code_rules.specs.Agreement.{IsOutOf}
use Rattle.code_rules.specs.Points.{Way, NoWay, OutOf, Points, here_if, here_or, one_arm_more, in_body, in_marked, in_labelled, in_arm, is_among}
use Rattle.code_rules.specs.Reading.{Destination, Offset, Caller, jump_to}
use Rattle.code_blocks.specs.Sizes.{goes_to}
use Rattle.code_blocks.specs.Writing.{offset_of, at_labels}
use Rattle.code_blocks.proofs.Fits.{Ways, NotBack, is_label}
use Rattle.code_blocks.proofs.Known.{Lands, goes_there}

module _ (r : Routine) where
  -- a way out of so many arms, from a region; out of none it leads on to some offset or further, but for a start
  abbrev pub Leads : Region → (from arms : ℕ) → Point → Way Destination → Type 0
  Leads g from arms p NoWay = ⊥
  Leads g from arms p (OutOf k (Offset o)) =
      (k ≡ arms) × Lands p (Offset o) × IsStart r.code o × (outward r.phrases arms g ≡ Some (region_at r.phrases o)) × (arms ≡ 0 → NotBack p arms → from ≤ o)
  Leads g from arms p (OutOf k Caller) = (k ≡ arms) × Lands p Caller × (outward r.phrases arms g ≡ Some Body)

  -- so each does to a point that is seen
  abbrev pub AllLead : Region → (from : ℕ) → Ways → Points Destination → Type 0
  AllLead g from ways points = (arms : ℕ) (p : Point) → IsOutOf arms (ways p) → Leads g from arms p (points p)

  leads_sooner : (g : Region) (a b arms : ℕ) (p : Point) (way : Way Destination) → a ≤ b → Leads g b arms p way → Leads g a arms p way
  leads_sooner g a b arms p NoWay le h = h
  leads_sooner g a b arms p (OutOf k (Offset o)) le h = (h.0, h.1, h.2, h.3, λ none forward. omega (arith, le, h.4 none forward))
  leads_sooner g a b arms p (OutOf k Caller) le h = h

  pub lead_sooner : (g : Region) (a b : ℕ) (ways : Ways) (points : Points Destination) → a ≤ b → AllLead g b ways points → AllLead g a ways points
  lead_sooner g a b ways points le h arms p seen = leads_sooner g a b arms p (points p) le (h arms p seen)

  -- In a body only the return is seen.

  pub lead_in_body : (from : ℕ) → AllLead Body from (in_body tt) (in_body Caller)
  lead_in_body from arms (Start n) seen = absurd seen
  lead_in_body from arms (After n) seen = absurd seen
  lead_in_body from arms (At l) seen = absurd seen
  lead_in_body from arms Leave seen = (seen, tt, subst (λ k. outward r.phrases k Body ≡ Some Body) seen refl)

  -- A place in the region.

  module _ (g : Region) (from o : ℕ) (start : IsStart r.code o) (there : region_at r.phrases o ≡ g) where
    place_leads : (arms : ℕ) (p : Point) → Lands p (Offset o) → (NotBack p 0 → from ≤ o) → 0 ≡ arms → Leads g from arms p (OutOf 0 (Offset o))
    place_leads arms p lands ahead e = (
      e,
      lands,
      start,
      subst (λ k. outward r.phrases k g ≡ Some (region_at r.phrases o)) e (ap Some (sym there)),
      λ none forward. ahead (subst (λ k. NotBack p k) none forward),
    )

    place_or : (b : Bool) (arms : ℕ) (p : Point) (seen : Way (Unit {0})) (way : Way Destination) → Lands p (Offset o) → (NotBack p 0 → from ≤ o)
        → (IsOutOf arms seen → Leads g from arms p way) → IsOutOf arms (here_if b tt seen) → Leads g from arms p (here_if b (Offset o) way)
    place_or true arms p seen way lands ahead f h = place_leads arms p lands ahead h
    place_or false arms p seen way lands ahead f h = f h

    label_or : (b : Bool) (arms l : ℕ) (seen : Way (Unit {0})) (way : Way Destination) → from ≤ o → (IsOutOf arms seen → Leads g from arms (At l) way)
        → IsOutOf arms (here_or (if b then Some tt else None) seen) → Leads g from arms (At l) (here_or (if b then Some (Offset o) else None) way)
    label_or true arms l seen way le f h = place_leads arms (At l) tt (λ x. le) h
    label_or false arms l seen way le f h = f h

    -- where labels lead there
    pub lead_in_labelled : (ls : List ℕ) (ways : Ways) (points : Points Destination) → from ≤ o → AllLead g from ways points
        → AllLead g from (in_labelled (is_label ls) ways) (in_labelled (at_labels ls o) points)
    lead_in_labelled ls ways points le h arms (Start n) seen = h arms (Start n) seen
    lead_in_labelled ls ways points le h arms (After n) seen = h arms (After n) seen
    lead_in_labelled ls ways points le h arms (At l) seen = label_or (is_among l ls) arms l (ways (At l)) (points (At l)) le (h arms (At l)) seen
    lead_in_labelled ls ways points le h arms Leave seen = h arms Leave seen

    -- where a numbered statement begins at another place and ends there
    pub lead_in_marked : (n a : ℕ) (ways : Ways) (points : Points Destination) → IsStart r.code a → region_at r.phrases a ≡ g → from ≤ o
        → AllLead g from ways points → AllLead g from (in_marked n tt tt ways) (in_marked n (Offset a) (Offset o) points)
    lead_in_marked n a ways points first same le h arms (Start k) seen = begin (nat_eq n k) seen
      where
        begin : (b : Bool) → IsOutOf arms (here_if b tt (ways (Start k))) → Leads g from arms (Start k) (here_if b (Offset a) (points (Start k)))
        begin true e = (
          e,
          tt,
          first,
          subst (λ m. outward r.phrases m g ≡ Some (region_at r.phrases a)) e (ap Some (sym same)),
          λ none forward. absurd (subst (λ m. NotBack (Start k) m) none forward),
        )
        begin false e = h arms (Start k) e
    lead_in_marked n a ways points first same le h arms (After k) seen =
        place_or (nat_eq n k) arms (After k) (ways (After k)) (points (After k)) tt (λ x. le) (h arms (After k)) seen
    lead_in_marked n a ways points first same le h arms (At l) seen = h arms (At l) seen
    lead_in_marked n a ways points first same le h arms Leave seen = h arms Leave seen

  -- In an arm.

  module _ (outer g : Region) (held : holder r.phrases g ≡ Some outer) where
    further_out : (k arms : ℕ) (to : Option Region) → suc k ≡ arms → outward r.phrases k outer ≡ to → outward r.phrases arms g ≡ to
    further_out k arms to e out =
        subst (λ n. outward r.phrases n g ≡ to) e (ap (λ o. and_then (outward r.phrases k) o) held ∙ out)

    one_more : (a b k arms : ℕ) (p : Point) (way : Way Destination) → suc k ≡ arms → Leads outer a k p way → Leads g b arms p (one_arm_more way)
    one_more a b k arms p NoWay e h = absurd h
    one_more a b k arms p (OutOf j (Offset o)) e h =
        (omega (arith, h.0, e), h.1, h.2, further_out k arms (Some (region_at r.phrases o)) e h.3, λ none forward. absurd (omega (arith, e, none)))
    one_more a b k arms p (OutOf j Caller) e h = (omega (arith, h.0, e), h.1, further_out k arms (Some Body) e h.2)

    seen_more : (a b arms : ℕ) (p : Point) (seen : Way (Unit {0})) (way : Way Destination) → ((k : ℕ) → IsOutOf k seen → Leads outer a k p way)
        → IsOutOf arms (one_arm_more seen) → Leads g b arms p (one_arm_more way)
    seen_more a b arms p NoWay way f h = absurd h
    seen_more a b arms p (OutOf k place) way f h = one_more a b k arms p way h (f k refl)

    pub lead_in_arm : (a b : ℕ) (ways : Ways) (points : Points Destination) → AllLead outer a ways points → AllLead g b (in_arm ways) (in_arm points)
    lead_in_arm a b ways points h arms p seen = seen_more a b arms p (ways p) (points p) (λ k. h k p) seen

  -- The instruction of a jump.

  abbrev pub IsRight : (at : ℕ) → Region → Instruction → Type 0
  IsRight at g x = JumpsRightly r at x × OperandsFit r g x

  not_body : (k : ℕ) (g : Region) (to : Region) → outward r.phrases (suc k) g ≡ Some to → g ≢ Body
  not_body k g to out e = cc (sym (ap (λ x. outward r.phrases (suc k) x) e) ∙ out)

  back_right : (arms at : ℕ) (g : Region) → region_at r.phrases at ≡ g → outward r.phrases arms g ≡ Some Body → IsRight at g (jump_to arms Caller)
  back_right zero at g here out = (tt, cc out)
  back_right (suc k) at g here out =
      (record { some = omega arith; region = subst (λ x. outward r.phrases (suc k) x ≡ Some Body) (sym here) out }, not_body k g Body out)

  on_right : (arms at o : ℕ) (g : Region) → region_at r.phrases at ≡ g → IsStart r.code o → outward r.phrases arms g ≡ Some (region_at r.phrases o)
      → (arms ≡ 0 → at < o) → IsRight at g (jump_to arms (Offset o))
  on_right zero at o g here start out ahead =
      let same : g ≡ region_at r.phrases o = cc out in
      (record { start = start; region = sym same ∙ sym here; after = ahead refl }, tt)
  on_right (suc k) at o g here start out ahead = (
    record {
      start = start;
      some = omega arith;
      region = subst (λ x. outward r.phrases (suc k) x ≡ Some (region_at r.phrases o)) (sym here) out;
    },
    not_body k g (region_at r.phrases o) out,
  )

  pub goes_is_right : (at from arms : ℕ) (p : Point) (g : Region) (way : Way Destination) → region_at r.phrases at ≡ g → at < from → NotBack p arms
      → Leads g from arms p way → IsRight at g (goes_to arms p (offset_of way))
  goes_is_right at from arms p g NoWay here lt forward h = absurd h
  goes_is_right at from arms p g (OutOf k (Offset o)) here lt forward h =
      subst (λ x. IsRight at g x) (sym (goes_there arms p (Offset o) h.1))
      (on_right arms at o g here h.2 h.3 (λ none. omega (arith, lt, h.4 none forward)))
  goes_is_right at from arms p g (OutOf k Caller) here lt forward h =
      subst (λ x. IsRight at g x) (sym (goes_there arms p Caller h.1)) (back_right arms at g here h.2)
