-- What the code answers beside the exact answer of the definition: the same, or that memory is wanting.
use Rattle.std.specs.Prelude.{◌≡◌, ◌⊎◌, Result, Ok, Err, MatchResult}
use Rattle.config_rules.specs.Through.{Answer}
use Rattle.config_rules.specs.declared.fault.TreeFault.{TreeFault}
use Rattle.config_rules.specs.declared.fault.TreeFault.TheVariants.{Memory}

abbrev pub Stops : {A : Type 0} → Answer A → TreeFault → Type 0
Stops exact fault = (fault ≡ Memory) ⊎ (exact ≡ Err fault)

-- the value is seen as one of the definition
abbrev pub IsAnswer : {A B : Type 0} → (B → A) → Answer A → Result B TreeFault → Type 0
IsAnswer seen exact result = MatchResult result (λ b. exact ≡ Ok (seen b)) (λ fault. Stops exact fault)
