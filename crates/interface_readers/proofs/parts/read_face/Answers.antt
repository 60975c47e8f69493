use Rattle.std.proofs.Common.{arith}
use Rattle.face_rules.specs.FaceForms.{face}
use Rattle.face_rules.proofs.FaceLaws.{face_law}
use Rattle.interface_readers.proofs.PartLaws.{part_rest_fits, part_left_fits, part_found, part_fails}
use Rattle.interface_readers.proofs.parts.read_face.Goals as goal

pub overflow_sub-result : goal.overflow_sub-result
overflow_sub-result c = part_rest_fits (face c.args.version) (face_law c.args.version) c.args.bytes.now c.args.at c.requires.within (λ i. omega (arith, c.type_inv.bytes i)) c.in-Ok.face c.face.new.input.rest.now c.in-Ok.ensures.read

pub fault_at-requires : goal.fault_at-requires
fault_at-requires c = part_left_fits (face c.args.version) (face_law c.args.version) c.args.bytes.now c.args.at c.requires.within (λ i. omega (arith, c.type_inv.bytes i)) c.in-Err.why c.in-Err.ensures.read

pub returns-in-Ok : goal.returns-in-Ok
returns-in-Ok c = part_found (face c.args.version) (face_law c.args.version) c.args.bytes.now c.args.at c.requires.within (λ i. omega (arith, c.type_inv.bytes i)) c.in-Ok.face c.face.new.input.rest.now c.in-Ok.ensures.read

pub returns : goal.returns
returns c = rw c.fault_at.ensures (part_fails (face c.args.version) (face_law c.args.version) c.args.bytes.now c.args.at c.requires.within (λ i. omega (arith, c.type_inv.bytes i)) c.in-Err.why c.in-Err.ensures.read)
