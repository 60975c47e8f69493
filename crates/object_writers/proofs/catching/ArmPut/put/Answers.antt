use Rattle.object_writers.specs.CodeBytes.{label_bytes}
use Rattle.object_writers.specs.Spelling.{spell_list, u16_bytes, u32_bytes}
use Rattle.object_writers.proofs.Chains.{of_list, then_five}
use Rattle.object_writers.proofs.catching.ArmPut.put.Goals as goal

pub returns : goal.returns
returns c =
    let a = c.args.self.now in
    then_five c.u32-2.result c.args.out.now c.put_list.new.out c.u16.new.self c.u16-2.new.self c.u32.new.self c.u32-2.new.self
    (spell_list label_bytes a.labels) (u16_bytes a.slot) (u16_bytes a.words) (u32_bytes a.start) (u32_bytes a.end)
    (of_list label_bytes c.args.out.now c.put_list.new.out c.as_slice.result.now a.labels c.as_slice.ensures c.in_ok-put_list.ensures)
    c.in_ok-u16.ensures c.in_ok-u16-2.ensures c.in_ok-u32.ensures c.u32-2.ensures
