-- The words on the operand stack that are told along with the code.
use Rattle.std.specs.Prelude.{◌≡◌, ℕ, ◌<◌, ◌⊎◌}
use Rattle.code_forms.specs.declared.limits.TheConstants.{STACK_WORDS}

-- the number is the depth, or both are more than an operand stack ever has room for
abbrev pub IsDepth : (number depth : ℕ) → Type 0
IsDepth n d = (n ≡ d) ⊎ ((STACK_WORDS < n) × (STACK_WORDS < d))
