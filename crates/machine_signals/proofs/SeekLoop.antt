-- A round of the search from table to table, with the values of the code.
use Rattle.std.proofs.Common.{◌≡◌, ◌≢◌, ℕ, suc, ◌-◌, ◌<◌, ◌≤◌, List, length, true, Some, sym, ap, subst, ◌∙◌, arith}
use Rattle.code_forms.specs.declared.module_code.CodeProcedure.{CodeProcedure}
use Rattle.object_files.specs.declared.image.Image.{Image}
use Rattle.signaller.specs.declared.search.Found.{Found}
use Rattle.signaller.specs.declared.search.Found.TheVariants.{Arm as FoundArm, Beyond}
use Rattle.signaller.specs.declared.search.Search.{Search}
use Rattle.signaller.specs.declared.signal_id.SignalId.{SignalId}
use Rattle.signaller.specs.Search.{next_arm}
use Rattle.machine_rules.specs.declared.end.End.TheVariants.{Uncaught}
use Rattle.machine_rules.specs.State.{Activations, Store, Seeks, Ended, Stepped, Goes}
use Rattle.machine_rules.specs.LookUps.{procedure_of, links_of}
use Rattle.machine_rules.specs.Steps.{Ends}
use Rattle.machine_activations.specs.declared.row.Layout.{Layout}
use Rattle.machine_activations.specs.declared.row.Row.{Row}
use Rattle.machine_activations.specs.Below.{Over, Below}
use Rattle.machine_activations.specs.Frames.{row_at, owner_place}
use Rattle.machine_activations.specs.Reaching.{Reaches}
use Rattle.machine_signals.specs.Indexed.{AskedOf, BeginsThere, IsRead, IsAsked}
use Rattle.machine_signals.specs.Seeking.{Lands, IsLanding}
use Rattle.machine_signals.proofs.Asked.{found_there}
use Rattle.machine_signals.proofs.Seeks.{lands, uncaught, further}

module _ (image : Image) (table : List Row) (place : ℕ) (row : Row) (row_is : row ≡ row_at table place) where
  pub read_so : IsRead image (row_at table place) → IsRead image row
  read_so h = subst (λ (x : Row). IsRead image x) (sym row_is) h

  pub asked_so : (search : Search) → AskedOf image (row_at table place) search → AskedOf image row search
  asked_so search h = subst (λ (x : Row). AskedOf image x search) (sym row_is) h

  pub asked_there : (search : Search) → AskedOf image row search → AskedOf image (row_at table place) search
  asked_there search h = subst (λ (x : Row). AskedOf image x search) row_is h

  pub begins_there : (search : Search) → BeginsThere image true row search → BeginsThere image true (row_at table place) search
  begins_there search h = subst (λ (x : Row). BeginsThere image true x search) row_is h

  module _ (signal : SignalId) (search : Search) (answer : Found)
      (said : (p : CodeProcedure) → procedure_of image row.instance row.procedure ≡ Some p → answer ≡ next_arm p.phrases search (links_of image row.instance) signal)
      (asked : IsAsked image table place) where
    abbrev pub p : CodeProcedure
    p = asked.read.procedure

    told : answer ≡ next_arm p.phrases search (links_of image (row_at table place).instance) signal
    told =
        subst (λ (x : Row). (p : CodeProcedure) → procedure_of image x.instance x.procedure ≡ Some p → answer ≡ next_arm p.phrases search (links_of image x.instance) signal) row_is said
        p asked.read.is

    module _ (arm : ℕ) (beyond : Search) (found : answer ≡ FoundArm arm beyond) where
      pub lands_there : (from : ℕ) → place ≤ from → IsLanding image table from (record { place = place; arm = arm; beyond = beyond })
      lands_there from low = found_there image table from place low p asked.read.is search (links_of image (row_at table place).instance) signal arm beyond (sym told ∙ found)

      pub lands_so : (layout : Layout) (region : List ℕ) (x : Over) (S : Activations) → Below image layout region table x S → place < length S → (args : List ℕ) (m : Store) (s : Stepped)
          → Reaches image s (Goes (Seeks signal args place search S m)) → Lands image signal args S m (record { place = place; arm = arm; beyond = beyond }) s
      lands_so layout region x S below less args m s reaches =
          lands image layout region table x S below signal args m place less search p asked.read.is s arm beyond reaches (sym told ∙ found)

    module _ (none : answer ≡ Beyond) (own : ℕ) (own_is : own ≡ owner_place row.kind place) where
      own_there : owner_place (row_at table place).kind place ≡ own
      own_there = sym (own_is ∙ ap (λ (x : Row). owner_place x.kind place) row_is)

      pub own_low : own ≤ place
      own_low = let l = asked.low in let o = own_there in omega (arith, l, o)

      pub uncaught_so : own ≡ 0 → (layout : Layout) (region : List ℕ) (x : Over) (S : Activations) → Below image layout region table x S → place < length S → (args : List ℕ) (m : Store) (s : Stepped)
          → Reaches image s (Goes (Seeks signal args place search S m)) → Ends image s (Ended (Uncaught signal)) m
      uncaught_so lowest layout region x S below less args m s reaches =
          uncaught image layout region table x S below signal args m place less search p asked.read.is s reaches (sym told ∙ none) (own_there ∙ lowest)

      pub further_so : (own ≡ 0 → ⊥) → (layout : Layout) (region : List ℕ) (x : Over) (S : Activations) → Below image layout region table x S → place < length S → (args : List ℕ) (m : Store) (s : Stepped)
          → Reaches image s (Goes (Seeks signal args place search S m)) → (next : Search) → BeginsThere image true (row_at table (own - 1)) next
          → Reaches image s (Goes (Seeks signal args (own - 1) next S m))
      further_so some layout region x S below less args m s reaches next begins =
          let up : own ≡ suc (own - 1) = positive own some in
          further image layout region table x S below signal args m place less search p asked.read.is s (own - 1) next reaches (sym told ∙ none) (own_there ∙ up) begins
        where
          positive : (n : ℕ) → (n ≡ 0 → ⊥) → n ≡ suc (n - 1)
          positive n h = let k : n ≢ 0 = h in omega (arith, k)
