use Rattle.object_writers.specs.CodeBytes.{arm_bytes}
use Rattle.object_writers.specs.Spelling.{spell_list, u32_bytes}
use Rattle.object_writers.proofs.Chains.{of_last, then_three}
use Rattle.object_writers.proofs.catching.PhrasePut.put.Goals as goal

pub returns : goal.returns
returns c =
    let p = c.args.self.now in
    then_three c.put_list.result c.args.out.now c.u32.new.self c.u32-2.new.self c.put_list.new.out (u32_bytes p.from) (u32_bytes p.to) (spell_list arm_bytes p.arms)
    c.in_ok-u32.ensures c.in_ok-u32-2.ensures
    (of_last c.put_list.result arm_bytes c.u32-2.new.self c.put_list.new.out c.as_slice.result.now p.arms c.as_slice.ensures c.put_list.ensures)
