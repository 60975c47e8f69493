use Rattle.std.proofs.Common.{arith}
use Rattle.file_forms.specs.Names.{name}
use Rattle.file_forms.proofs.NameLaws.{name_law}
use Rattle.interface_readers.proofs.PartLaws.{part_rest_fits, part_left_fits, part_found, part_fails}
use Rattle.interface_readers.proofs.parts.read_name.Goals as goal

pub overflow_sub-result : goal.overflow_sub-result
overflow_sub-result c = part_rest_fits name name_law c.args.bytes.now c.args.at c.requires (λ i. omega (arith, c.type_inv.bytes i)) c.in-Ok.name c.name.new.self.rest.now c.in-Ok.ensures

pub fault_at-requires : goal.fault_at-requires
fault_at-requires c = part_left_fits name name_law c.args.bytes.now c.args.at c.requires (λ i. omega (arith, c.type_inv.bytes i)) c.in-Err.why c.in-Err.ensures

pub returns-in-Ok : goal.returns-in-Ok
returns-in-Ok c = part_found name name_law c.args.bytes.now c.args.at c.requires (λ i. omega (arith, c.type_inv.bytes i)) c.in-Ok.name c.name.new.self.rest.now c.in-Ok.ensures

pub returns-in-Err : goal.returns-in-Err
returns-in-Err c = rw c.fault_at.ensures (part_fails name name_law c.args.bytes.now c.args.at c.requires (λ i. omega (arith, c.type_inv.bytes i)) c.in-Err.why c.in-Err.ensures)
