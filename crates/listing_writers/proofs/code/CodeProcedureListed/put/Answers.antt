use Rattle.std.proofs.Common.{List, flat_map}
use Rattle.code_forms.specs.declared.module_code.CodeEntry.{CodeEntry}
use Rattle.code_forms.specs.declared.module_code.Phrase.{Phrase}
use Rattle.listing_rules.specs.Code.{entry_line, phrase_lines, procedure_head}
use Rattle.listing_writers.proofs.Chains.{then_three, of_value, of_last}
use Rattle.listing_writers.proofs.code.CodeProcedureListed.put.Goals as goal

pub returns : goal.returns
returns c =
    let p = c.args.self.now in
    then_three c.put_each-2.result c.args.out.now c.put_head.new.out c.put_each.new.out c.put_each-2.new.out (procedure_head p) (flat_map entry_line p.code) (flat_map phrase_lines p.phrases)
    c.in_ok-put_head.ensures
    (of_value (λ (xs : List CodeEntry). flat_map entry_line xs) c.put_head.new.out c.put_each.new.out c.as_slice.result.now p.code c.as_slice.ensures c.in_ok-put_each.ensures)
    (of_last c.put_each-2.result (λ (xs : List Phrase). flat_map phrase_lines xs) c.put_each.new.out c.put_each-2.new.out c.as_slice-2.result.now p.phrases c.as_slice-2.ensures c.put_each-2.ensures)
