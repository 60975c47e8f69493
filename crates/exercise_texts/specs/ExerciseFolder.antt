-- The folder of the exercise: of its calls none fails (rule of this project).
use Rattle.std.specs.Prelude.{ℕ, List}
use Rattle.mesa_base.specs.declared.named_file.NamedFile.{NamedFile}
use Rattle.exercise_texts.specs.Files.{exercise_list}

-- the files, how many calls were made, and how many reads asked for a file that was not there
pub record ExerciseFolder : Type 0 where
  pub files : List NamedFile
  pub calls : ℕ
  pub misses : ℕ

-- with the files of so many links, and no call made
abbrev pub exercise_of : (links : ℕ) → ExerciseFolder
exercise_of links = record { files = exercise_list links; calls = 0; misses = 0 }
