use Rattle.std.proofs.Common.{nat_lt, rules, arith}
use Rattle.std.proofs.lemmas.List.Sorted.{IsPartitionPoint-from_clause, IsPartitionedBy-ltb}
use Rattle.code_forms.proofs.Ordered.{at_rise}
use Rattle.code_forms.proofs.Points.{below_point}
use Rattle.machine_ready.proofs.Jumping.{few_entries, entry_found}
use Rattle.machine_ready.proofs.targets.entry_at.Goals as goal

pub overflow_cast-result : goal.overflow_cast-result
overflow_cast-result c = let few = few_entries c.args.code.now c.requires in let bound = c.partition_point.ensures.bound in omega (arith, few, bound)

pub returns : goal.returns
returns c =
    let p = below_point (λ e. e.at) c.args.code.now c.args.offset c.partition_point.result
    (IsPartitionPoint-from_clause (λ e. nat_lt e.at c.args.offset) c.args.code.now c.partition_point.result c.partition_point.ensures.partitioned
    (IsPartitionedBy-ltb (λ e. e.at) c.args.code.now c.args.offset (at_rise c.args.code.now c.requires)) (λ a r f k. search rules)) in
    entry_found c.args.code.now c.partition_point.result c.args.offset c.requires p.0 p.1
