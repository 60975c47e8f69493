-- What stands around a block, read off the arena of scopes.
use Rattle.std.specs.Prelude.{◌≡◌, ℕ, zero, suc, ◌-◌, ◌≤◌, List, length, Option, Some, None, slice_get}
use Rattle.code_trees.specs.Plain.{mark_of}
use Rattle.code_writer.specs.declared.scope.Level.{Level}
use Rattle.code_writer.specs.declared.scope.Level.TheVariants.{Part, Arms}
use Rattle.code_writer.specs.declared.scope.Scope.{Scope}
use Rattle.code_writer.specs.declared.scope.Sought.{Sought}
use Rattle.code_writer.specs.declared.scope.Sought.TheVariants.{Found, Further}
use Rattle.code_blocks.specs.Writing.{Env, in_part, in_arms, in_procedure, end_at}

abbrev pub inside : Level → Env → Env
inside (Part mark start end) E = in_part (mark_of mark.now) start end E
inside Arms E = in_arms E

abbrev pub inside_if : Option Scope → Env → Env
inside_if None E = in_procedure
inside_if (Some s) E = inside s.level E

-- the number of the scope around the one with number n + 1
abbrev pub outer_of : Option Scope → (n : ℕ) → ℕ
outer_of None n = 0
outer_of (Some s) n = n - s.back

-- in so many steps outward; number 0 is the procedure
abbrev pub env_within : (steps : ℕ) → List Scope → (number : ℕ) → Env
env_within steps scopes zero = in_procedure
env_within zero scopes (suc n) = in_procedure
env_within (suc steps) scopes (suc n) = inside_if (slice_get scopes n) (env_within steps scopes (outer_of (slice_get scopes n) n))

-- what stands around a block in the scope with this number; each step outward leads to a lesser number
unfoldable pub env_at : List Scope → (number : ℕ) → Env
env_at scopes n = env_within n scopes n

-- there are no fewer scopes than before, and those before are the same
pub record Grows (before after : List Scope) : Type 0 where
  pub longer : length before ≤ length after
  pub same : (n : ℕ) → n ≤ length before → env_at after n ≡ env_at before n

abbrev pub or_offset : Option ℕ → ℕ → ℕ
or_offset None outer = outer
or_offset (Some o) outer = o

-- the end of a part that is sought
abbrev pub end_from : Sought → Env → ℕ
end_from (Found end) E = end
end_from (Further left) E = end_at E.ends left
