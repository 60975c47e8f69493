use Rattle.std.proofs.Common.{List, flat_map}
use Rattle.code_forms.specs.declared.module_code.Arm.{Arm}
use Rattle.listing_rules.specs.Code.{arm_line, phrase_head}
use Rattle.listing_writers.proofs.Chains.{then_two, of_last}
use Rattle.listing_writers.proofs.catching.PhraseListed.put.Goals as goal

pub returns : goal.returns
returns c =
    let p = c.args.self.now in
    then_two c.put_each.result c.args.out.now c.put_head.new.out c.put_each.new.out (phrase_head p) (flat_map arm_line p.arms) c.in_ok-put_head.ensures
    (of_last c.put_each.result (λ (xs : List Arm). flat_map arm_line xs) c.put_head.new.out c.put_each.new.out c.as_slice.result.now p.arms c.as_slice.ensures c.put_each.ensures)
