-- Each body of a sound module can be written.
use Rattle.std.proofs.Common.{◌≡◌, ap, ◌∙◌, ℕ, zero, suc, ◌+◌, ◌≤◌, List, [], ◌∷◌, map, Some, arith}
use Rattle.std.proofs.lemmas.Option.{slice_get-map}
use Rattle.std.specs.Prelude.{slice_get, option_map}
use Rattle.code_forms.specs.declared.module_code.CodeEntry.{CodeEntry}
use Rattle.code_forms.specs.declared.module_code.CodeProcedure.{CodeProcedure}
use Rattle.code_forms.specs.Instructions.{bytes_of}
use Rattle.code_forms.specs.Ranges.{ProcedureInRange}
use Rattle.code_rules.specs.Modules.{procedures_of}
use Rattle.code_writer.specs.Bounds.{BodiesCanBeWritten}
use Rattle.code_blocks.specs.Modules.{body_block, procedure_code, module_code}
use Rattle.code_blocks.specs.Regions.{Written, written}
use Rattle.code_blocks.specs.Weights.{entries_bytes, procedure_bytes, procedures_bytes}
use Rattle.code_blocks.proofs.Counting.{all_finished}
use Rattle.code_blocks.proofs.Laying.{Run}
use Rattle.code_blocks.proofs.Lists.{all_get}
use Rattle.code_blocks.proofs.ModuleWeights.{modules_are_short}
use Rattle.code_blocks.proofs.RangeRules.{ranges_are_kept}

run_bytes : (a b : ℕ) (es : List CodeEntry) → Run a es b → b ≡ a + entries_bytes es
run_bytes a b [] r = omega (arith, r)
run_bytes a b (e ∷ es) r = omega (arith, run_bytes (a + bytes_of e.instruction) b es r.1)

one_of_all : (cs : List CodeProcedure) (k : ℕ) (c : CodeProcedure) → slice_get cs k ≡ Some c → procedure_bytes c ≤ procedures_bytes cs
one_of_all [] k c e = cc
one_of_all (x ∷ cs) zero c e = let same : x ≡ c = cc in omega (arith, ap procedure_bytes same)
one_of_all (x ∷ cs) (suc k) c e = omega (arith, one_of_all cs k c e)

pub bodies_can_be_written : BodiesCanBeWritten
bodies_can_be_written m s few k p is =
    let cs : List CodeProcedure = map (procedure_code m) (procedures_of m) in
    let there : slice_get cs k ≡ Some (procedure_code m p) =
    slice_get-map (procedure_code m) (procedures_of m) k ∙ ap (option_map (procedure_code m)) is in
    let w : Written = written (body_block m p) in
    let end : w.end ≡ 0 + entries_bytes w.code = run_bytes 0 w.end w.code ((all_finished (body_block m p)).kept).run in
    let range = all_get (ProcedureInRange (module_code m).signals (module_code m).links) cs k (procedure_code m p) there (ranges_are_kept m s few).each_procedure in
    record {
      room = omega (arith, end, one_of_all cs k (procedure_code m p) there, modules_are_short m s, few);
      shallow = omega (arith, range.depth);
    }
