use Rattle.std.proofs.Common.{ℕ, List, flat_map}
use Rattle.code_forms.specs.declared.module_code.CodeProcedure.{CodeProcedure}
use Rattle.code_forms.specs.declared.module_code.CodeSignal.{CodeSignal}
use Rattle.listing_rules.specs.Code.{globals_line, signal_line, string_line, procedure_lines}
use Rattle.listing_writers.proofs.Chains.{then_four, of_value, of_last}
use Rattle.listing_writers.proofs.code.put_code.Goals as goal

pub returns : goal.returns
returns c =
    let m = c.args.code.now in
    then_four c.put_each-3.result c.args.out.now c.put_globals.new.out c.put_each.new.out c.put_each-2.new.out c.put_each-3.new.out
    (globals_line m.global_words) (flat_map signal_line m.signals) (flat_map string_line m.strings) (flat_map procedure_lines m.procedures)
    c.in_ok-put_globals.ensures
    (of_value (λ (xs : List CodeSignal). flat_map signal_line xs) c.put_globals.new.out c.put_each.new.out c.as_slice.result.now m.signals c.as_slice.ensures c.in_ok-put_each.ensures)
    (of_value (λ (xs : List (List ℕ)). flat_map string_line xs) c.put_each.new.out c.put_each-2.new.out c.as_slice-2.result.now m.strings c.as_slice-2.ensures c.in_ok-put_each-2.ensures)
    (of_last c.put_each-3.result (λ (xs : List CodeProcedure). flat_map procedure_lines xs) c.put_each-2.new.out c.put_each-3.new.out c.as_slice-3.result.now m.procedures c.as_slice-3.ensures c.put_each-3.ensures)
