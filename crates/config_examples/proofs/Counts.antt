-- Worked configurations, by computation: as many instances as there may be, and one less.
use Rattle.std.proofs.Common.{◌≡◌, refl}
use Rattle.std.specs.Prelude.{ℕ, zero, suc, List, [], ◌∷◌, codes, Some}
use Rattle.cmesa_grammar.specs.Syntax.{Configuration, Statements, NoStatements, AndDeclare, AndInstance}
use Rattle.config_rules.specs.Through.{Answer}
use Rattle.config_rules.proofs.Written.{at, named, alone, configuration, Shown, shown, good, quiet}

abbrev nth : ℕ → List ℕ
nth n = 65 ∷ n ∷ []

-- so many instances of a component, each with a name of its own
abbrev numbered : (many n : ℕ) → (component : List ℕ) → Statements → Statements
numbered zero n component ss = ss
numbered (suc k) n component ss = AndInstance (record { place = at n; records = []; name = Some (named n (nth n)); component = named n component; arguments = [] }) (numbered k (suc n) component ss)

-- a block is 31 modules, which with itself are 32 instances; a street is 31 blocks, which with itself are 993
abbrev town : Statements → Configuration
town ss = configuration (codes "Town") [] [] []
    (AndDeclare (configuration (codes "Block") [] [] [] (numbered 31 0 (codes "Quiet") NoStatements))
    (AndDeclare (configuration (codes "Street") [] [] [] (numbered 31 0 (codes "Block") NoStatements)) ss))

abbrev with_modules : ℕ → Answer Shown
with_modules many = shown (town (AndInstance (alone 5 (codes "Street")) (numbered many 0 (codes "Quiet") NoStatements))) (quiet (codes "Quiet") ∷ [])

instances_1023 : with_modules 30 ≡ good [] []
unfolding shown
instances_1023 = refl

instances_1024 : with_modules 31 ≡ good [] []
unfolding shown
instances_1024 = refl
