-- How many instructions a run begins at most (rule of this project).
use Rattle.std.specs.Prelude.{ℕ, suc, ◌+◌, ◌*◌, length}
use Rattle.mesa_base.specs.declared.limits.TheConstants.{ACTIVATIONS}
use Rattle.object_files.specs.declared.image.Image.{Image}
use Rattle.machine_ready.specs.Sizes.{largest}

-- how many steps a state is from the end at most, where so much lies ahead of each
abbrev pub far : (turns heavy ahead A : ℕ) → ℕ
far turns heavy ahead A = (turns * 16385 + heavy) * suc A + ahead

-- no more lies ahead of any state
abbrev pub reach : Image → ℕ
reach image = ACTIVATIONS + suc (largest (λ q. length q.code) image.modules) + length image.control

-- no run begins more instructions
abbrev pub most : Image → (turns : ℕ) → ℕ
most image turns = suc (far turns 0 (length image.control) (reach image))
