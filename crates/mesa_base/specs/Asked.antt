-- How often a source was asked (rule of this project).
use Rattle.std.specs.Prelude.{◌≡◌, ℕ, zero, suc, ◌+◌, ◌≤◌, List, length, drop, Option, Some, IfSome}
use Rattle.mesa_base.specs.Outside.{raised}

-- a count after so many calls more
unfoldable pub after : (calls count : ℕ) → ℕ
after zero count = count
after (suc calls) count = raised (after calls count)

-- from one count to the other a source was asked once for each byte that it gave, and so many times more, in vain
pub record Asked (left left' : Option (List ℕ)) (calls calls' vain : ℕ) : Type 0 where
  pub given : ℕ
  pub counted : calls' ≡ after (given + vain) calls
  pub rest : IfSome left (λ bytes. (given ≤ length bytes) × (left' ≡ Some (drop given bytes)))

-- it was asked once for each byte that it gave, and at most once more: after a call in vain there is none
abbrev pub AskedOnce : (left left' : Option (List ℕ)) → (calls calls' : ℕ) → Type 0
AskedOnce left left' calls calls' = (vain : ℕ) × (vain ≤ 1) × Asked left left' calls calls' vain
