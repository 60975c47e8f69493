-- One image, or one fault.
use Rattle.std.proofs.Common.{◌≡◌, List, [], Result, Ok, Err, ap}
use Rattle.std.specs.Prelude.{◌≢◌, IfErr, IfOk}
use Rattle.object_files.specs.declared.image.Image.{Image}
use Rattle.loader_rules.specs.declared.fault.LoadFault.{LoadFault}
use Rattle.loader_rules.specs.declared.fault.LoadFault.TheVariants.{Memory}
use Rattle.loader_rules.specs.Laws.{LoadsComeOnce}
use Rattle.loader_rules.specs.LoadFaults.{load_faults, HasLoadFault}
use Rattle.loader_rules.specs.Loaded.{IsJoined, Loaded}

-- a fault that is not want of memory is the answer's
live : (e : LoadFault) → (let r : Result Image LoadFault = Err e in r ≢ Err Memory) → e ≢ Memory
live e other none = other (ap (λ (k : LoadFault). Err k) none)

module _ (images : List Image) where
  pub found_for : (r : Result Image LoadFault) → load_faults images ≡ [] → IfOk r (IsJoined images) → IfOk r (Loaded images)
  found_for (Ok i) none joined = record { no_fault = none; joined = joined }
  found_for (Err e) none joined = tt

  pub fault_for : (r : Result Image LoadFault) → IfErr r (λ e. e ≡ Memory) → IfErr r (λ e. e ≢ Memory → HasLoadFault images e)
  fault_for (Ok i) memory = tt
  fault_for (Err e) memory = λ other. absurd (other memory)

  module _ (laws : LoadsComeOnce) where
    pub only_image : (r : Result Image LoadFault) → IfOk r (Loaded images) → IfErr r (λ e. e ≢ Memory → HasLoadFault images e) → (i : Image) → Loaded images i
        → r ≢ Err Memory → r ≡ Ok i
    only_image (Ok j) found fault i is other = ap (λ (k : Image). Ok k) (laws.one_image images j i found is)
    only_image (Err e) found fault i is other = absurd (laws.not_both images i e is (fault (live e other)))

    pub first_fault : (r : Result Image LoadFault) → IfOk r (Loaded images) → IfErr r (λ e. e ≢ Memory → HasLoadFault images e) → (e : LoadFault) → HasLoadFault images e
        → r ≢ Err Memory → r ≡ Err e
    first_fault (Ok j) found fault e is other = absurd (laws.not_both images j e found is)
    first_fault (Err d) found fault e is other = ap (λ (k : LoadFault). Err k) (laws.one_fault images d e (fault (live d other)) is)
