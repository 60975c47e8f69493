use Rattle.object_writers.specs.ObjectBytes.{module_bytes, entry_bytes, instance_bytes, table_bytes, offer_bytes}
use Rattle.object_writers.specs.Spelling.{spell_all, spell_list, u32_bytes}
use Rattle.object_writers.proofs.Chains.{of_each, of_list, of_last, then_six}
use Rattle.object_writers.proofs.images.put_image.Goals as goal

pub returns : goal.returns
returns c =
    let i = c.args.image.now in
    then_six c.put_list-5.result c.args.out.now c.put_list.new.out c.put_list-2.new.out c.put_list-3.new.out c.put_each.new.out c.put_list-4.new.out c.put_list-5.new.out
    (spell_list module_bytes i.modules) (spell_list entry_bytes i.wanted) (spell_list instance_bytes i.instances) (spell_all table_bytes i.links)
    (spell_list offer_bytes i.offered) (spell_list u32_bytes i.control)
    (of_list module_bytes c.args.out.now c.put_list.new.out c.as_slice.result.now i.modules c.as_slice.ensures c.in_ok-put_list.ensures)
    (of_list entry_bytes c.put_list.new.out c.put_list-2.new.out c.as_slice-2.result.now i.wanted c.as_slice-2.ensures c.in_ok-put_list-2.ensures)
    (of_list instance_bytes c.put_list-2.new.out c.put_list-3.new.out c.as_slice-3.result.now i.instances c.as_slice-3.ensures c.in_ok-put_list-3.ensures)
    (of_each table_bytes c.put_list-3.new.out c.put_each.new.out c.as_slice-4.result.now i.links c.as_slice-4.ensures c.in_ok-put_each.ensures)
    (of_list offer_bytes c.put_each.new.out c.put_list-4.new.out c.as_slice-5.result.now i.offered c.as_slice-5.ensures c.in_ok-put_list-4.ensures)
    (of_last c.put_list-5.result u32_bytes c.put_list-4.new.out c.put_list-5.new.out c.as_slice-6.result.now i.control c.as_slice-6.ensures c.put_list-5.ensures)
