-- How large the parts of the region of words are (rule of this project).
use Rattle.std.specs.Prelude.{ℕ, List, map, fold, flat_map, max}
use Rattle.code_forms.specs.declared.module_code.CodeProcedure.{CodeProcedure}
use Rattle.object_files.specs.declared.object.Object.{Object}

-- the largest of a size of the procedures of all modules
abbrev pub largest : (CodeProcedure → ℕ) → List Object → ℕ
largest size modules = fold max 0 (flat_map (λ (o : Object). map size o.code.procedures) modules)
