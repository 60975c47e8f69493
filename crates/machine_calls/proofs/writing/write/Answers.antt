use Rattle.std.proofs.Common.{arith}
use Rattle.machine_calls.specs.declared.host.HostProcedure.TheVariants.{Write}
use Rattle.machine_calls.proofs.Behind.{host_fits}
use Rattle.machine_calls.proofs.HostWrites.{writes_on}
use Rattle.machine_calls.proofs.writing.write.Goals as goal

pub returns-in_err-put_operands-clause-leads : goal.returns-in_err-put_operands-clause-leads
returns-in_err-put_operands-clause-leads g c = writes_on c.args.image.now c.args.region.now c.args.r c.args.writing

pub overflow_add-result : goal.overflow_add-result
overflow_add-result g c = let fits = host_fits c.args.region.now c.args.r (Write c.args.writing) c.requires.can in let entry = fits.entry in omega (arith, entry)

pub returns-clause-leads : goal.returns-clause-leads
returns-clause-leads g c = writes_on c.args.image.now c.args.region.now c.args.r c.args.writing
