-- The form that one of the code is.
use Rattle.std.specs.Prelude.{◌≡◌, ◌≢◌, ℕ, ◌<◌, ◌≤◌, true, List, [], ◌∷◌, Some, slice_get}
use Rattle.config_rules.specs.Components.{is_file_base}
use Rattle.command_passes.specs.command_rules.specs.Forms as rules
use Rattle.command_passes.specs.Kinds.{kind_in}
use Rattle.command_lines.specs.declared.kinds.Source.{Source}
use Rattle.command_lines.specs.declared.kinds.Source.TheVariants.{OfModule, OfConfig}
use Rattle.command_lines.specs.declared.form.Form.{Form}
use Rattle.command_lines.specs.declared.form.Form.TheVariants.{Compile, Define, Bind, Run, Go, Show, Upgrade, Exercise, Plan, Survey}

abbrev pub source_in : Source → rules.Source
source_in OfModule = rules.OfModule
source_in OfConfig = rules.OfConfig

-- the words behind the first
abbrev pub behind_first : List (List ℕ) → List (List ℕ)
behind_first [] = []
behind_first (word ∷ words) = words

-- the words before the last
unfoldable pub before_last : List (List ℕ) → List (List ℕ)
before_last [] = []
before_last (a ∷ []) = []
before_last (a ∷ b ∷ words) = a ∷ before_last (b ∷ words)

-- the words between the first and the last
abbrev pub between : List (List ℕ) → List (List ℕ)
between words = before_last (behind_first words)

abbrev pub form_in : Form → rules.Form
form_in (Compile base) = rules.Compile base.now
form_in (Define base stamp) = rules.Define base.now stamp
form_in (Bind base) = rules.Bind base.now
form_in (Run words turns) = rules.Run (between words.now) turns
form_in (Go source base turns) = rules.Go (source_in source) base.now turns
form_in (Show kind base) = rules.Show (kind_in kind) base.now
form_in (Upgrade kind base) = rules.Upgrade (kind_in kind) base.now
form_in (Exercise links turns) = rules.Exercise links turns
form_in (Plan words) = rules.Plan (behind_first words.now)
form_in (Survey base) = rules.Survey base.now

-- the word at this place is a base of a file
pub record IsBaseAt (words : List (List ℕ)) (at : ℕ) : Type 0 where
  pub base : List ℕ
  pub is : slice_get words at ≡ Some base
  pub fits : is_file_base base ≡ true

-- the word at this place is a base of a file, and no word behind the first and before it is the same
pub record IsFit (words : List (List ℕ)) (at : ℕ) : Type 0 where
  pub base : List ℕ
  pub is : slice_get words at ≡ Some base
  pub fits : is_file_base base ≡ true
  pub new : (k : ℕ) → 1 ≤ k → k < at → slice_get words k ≢ Some base
