use Rattle.std.proofs.Common.{arith}
use Rattle.listing_writers.proofs.InstanceLaws.{no_instance_yet, instance_more, instances_done}
use Rattle.listing_writers.proofs.images.put_instances.Goals as goal

pub instances-init : goal.instances-init
instances-init c = no_instance_yet c.args.instances.now c.args.tables.now c.args.out.now c.as_slice-all.result.now

pub instances-preserved : goal.instances-preserved
instances-preserved c =
    instance_more c.args.instances.now c.args.tables.now c.args.out.now c.instances.out c.put_instance.new.out c.put_table.new.out c.as_slice-all.result.now c.instances.i c.index-all-i.result
    (omega arith) c.index-all-i.is c.instances.invariant c.in_ok-put_instance.ensures c.in_ok-put_table.ensures

pub returns : goal.returns
returns c =
    instances_done c.args.instances.now c.args.tables.now c.args.out.now c.instances.out c.as_slice-all.result.now c.instances.i c.as_slice-all.ensures (omega arith) c.instances.invariant
