-- Plans of texts by what each names, and that texts have one at most.
use Rattle.std.proofs.Common.{◌≡◌, ℕ, List, Result, Ok, Err, map, sym, ap, ◌∙◌, subst}
use Rattle.std.specs.Prelude.{◌≢◌, IfErr, IfOk}
use Rattle.std.proofs.lemmas.List.{length-map}
use Rattle.include_rules.specs.Laws.{PlansComeOnce}
use Rattle.include_rules.specs.Naming.{naming, named}
use Rattle.include_rules.specs.Plans.{IsPlan, HasNoPlan, circling}
use Rattle.include_rules.specs.Stale.{faced, stale}
use Rattle.include_rules.specs.declared.entries.FileEntry.{FileEntry}
use Rattle.include_rules.specs.declared.entries.TextEntry.{TextEntry}
use Rattle.include_rules.specs.declared.plan.Plan.{Plan}
use Rattle.include_rules.specs.declared.plan.PlanFault.{PlanFault}
use Rattle.include_rules.specs.declared.plan.PlanFault.TheVariants.{Cycle, Memory}
use Rattle.include_checker.specs.Arranging.{IsArranged, IsPlanBy, HasNoPlanBy, circles}
use Rattle.include_checker.specs.Graphs.{LooksAs}
use Rattle.include_checker.specs.declared.arranging.Arranged.{Arranged}
use Rattle.include_checker.specs.declared.arranging.Arranged.TheVariants.{Circling}
use Rattle.include_checker.proofs.Carried.{same_order, same_cycle}

-- ---- from what each text names to the texts

plan_of : (texts : List TextEntry) (files : List FileEntry) (names : List (List ℕ)) → LooksAs names (naming texts) → (p : Plan) → IsPlanBy names files p
    → IsPlan texts files p
plan_of texts files names looks p by = record {
  order = same_order names (naming texts) looks p.order by.order;
  stale_are = by.stale_are ∙ ap (λ n. stale n (map faced files)) (looks.as_long ∙ length-map texts (named texts));
}

no_plan : {e : PlanFault} (texts : List TextEntry) (names : List (List ℕ)) → LooksAs names (naming texts) → HasNoPlanBy names e → HasNoPlan texts e
no_plan texts names looks (circles cycle is) = circling cycle (same_cycle names (naming texts) looks cycle is)

pub found_for : (texts : List TextEntry) (files : List FileEntry) (names : List (List ℕ)) (r : Result Plan PlanFault) → LooksAs names (naming texts)
    → IfOk r (IsPlanBy names files) → IfOk r (IsPlan texts files)
found_for texts files names (Ok p) looks by = plan_of texts files names looks p by
found_for texts files names (Err e) looks by = tt

pub fault_for : (texts : List TextEntry) (names : List (List ℕ)) (r : Result Plan PlanFault) → LooksAs names (naming texts)
    → IfErr r (λ e. e ≢ Memory → HasNoPlanBy names e) → IfErr r (λ e. e ≢ Memory → HasNoPlan texts e)
fault_for texts names (Ok p) looks by = tt
fault_for texts names (Err e) looks by = λ other. no_plan texts names looks (by other)

-- the cycle that was found in the place of an order
pub circle_is : (names : List (List ℕ)) (a : Arranged) (cycle : List ℕ) → a ≡ Circling cycle → IsArranged names a → HasNoPlanBy names (Cycle cycle)
circle_is names a cycle is arranged = let P : Arranged → Type 0 = IsArranged names in circles cycle (subst P is arranged)

-- ---- one plan, or one fault

-- a fault that is not want of memory is the answer's
live : (e : PlanFault) → (let r : Result Plan PlanFault = Err e in r ≢ Err Memory) → e ≢ Memory
live e other none = other (ap (λ (k : PlanFault). Err k) none)

module _ (laws : PlansComeOnce) (texts : List TextEntry) (files : List FileEntry) where
  one_plan : (p q : Plan) → IsPlan texts files p → IsPlan texts files q → p ≡ q
  one_plan p q is too =
      let plan : List ℕ → List ℕ → Plan = λ order stale. record { order = order; stale = stale } in
      ap (λ order. plan order p.stale) (laws.one_order (naming texts) p.order q.order is.order too.order) ∙ ap (plan q.order) (is.stale_are ∙ sym too.stale_are)

  one_fault : {d e : PlanFault} → HasNoPlan texts d → HasNoPlan texts e → d ≡ e
  one_fault (circling a is) (circling b too) = ap Cycle (laws.one_cycle (naming texts) a b is too)

  not_both : {e : PlanFault} (p : Plan) → IsPlan texts files p → HasNoPlan texts e → ⊥
  not_both p is (circling cycle circle) = laws.not_both (naming texts) p.order cycle is.order circle

  pub only_plan : (r : Result Plan PlanFault) → IfOk r (IsPlan texts files) → IfErr r (λ e. e ≢ Memory → HasNoPlan texts e) → (p : Plan) → IsPlan texts files p
      → r ≢ Err Memory → r ≡ Ok p
  only_plan (Ok q) found fault p is other = ap (λ (k : Plan). Ok k) (one_plan q p found is)
  only_plan (Err e) found fault p is other = absurd (not_both p is (fault (live e other)))

  pub first_fault : (r : Result Plan PlanFault) → IfOk r (IsPlan texts files) → IfErr r (λ e. e ≢ Memory → HasNoPlan texts e) → (e : PlanFault) → HasNoPlan texts e
      → r ≢ Err Memory → r ≡ Err e
  first_fault (Ok q) found fault e is other = absurd (not_both q found is)
  first_fault (Err d) found fault e is other = ap (λ (k : PlanFault). Err k) (one_fault (fault (live d other)) is)
