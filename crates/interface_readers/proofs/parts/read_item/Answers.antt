use Rattle.std.proofs.Common.{arith}
use Rattle.face_rules.specs.FaceForms.{item}
use Rattle.face_rules.proofs.FaceLaws.{item_law}
use Rattle.interface_readers.proofs.PartLaws.{part_rest_fits, part_left_fits, part_found, part_fails}
use Rattle.interface_readers.proofs.parts.read_item.Goals as goal

pub overflow_sub-result : goal.overflow_sub-result
overflow_sub-result c = part_rest_fits (item c.args.version) (item_law c.args.version) c.args.bytes.now c.args.at c.requires.within (λ i. omega (arith, c.type_inv.bytes i)) c.in-Ok.item c.item.new.input.rest.now c.in-Ok.ensures

pub fault_at-requires : goal.fault_at-requires
fault_at-requires c = part_left_fits (item c.args.version) (item_law c.args.version) c.args.bytes.now c.args.at c.requires.within (λ i. omega (arith, c.type_inv.bytes i)) c.in-Err.why c.in-Err.ensures

pub returns-in-Ok : goal.returns-in-Ok
returns-in-Ok c = part_found (item c.args.version) (item_law c.args.version) c.args.bytes.now c.args.at c.requires.within (λ i. omega (arith, c.type_inv.bytes i)) c.in-Ok.item c.item.new.input.rest.now c.in-Ok.ensures

pub returns-in-Err : goal.returns-in-Err
returns-in-Err c = rw c.fault_at.ensures (part_fails (item c.args.version) (item_law c.args.version) c.args.bytes.now c.args.at c.requires.within (λ i. omega (arith, c.type_inv.bytes i)) c.in-Err.why c.in-Err.ensures)
