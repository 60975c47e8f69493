use Rattle.std.proofs.Common.{nat_le, rules}
use Rattle.std.proofs.lemmas.List.Sorted.{IsPartitionPoint-from_clause, IsPartitionedBy-leb}
use Rattle.code_forms.proofs.Points.{upto_point}
use Rattle.code_forms.proofs.lookups.arms_begun.Goals as goal

pub returns-clause-begun : goal.returns-clause-begun
returns-clause-begun c =
    (upto_point (λ a. a.start) c.args.arms.now c.args.offset c.partition_point.result
    (IsPartitionPoint-from_clause (λ a. nat_le a.start c.args.offset) c.args.arms.now c.partition_point.result c.partition_point.ensures.partitioned
    (IsPartitionedBy-leb (λ a. a.start) c.args.arms.now c.args.offset c.requires.starts) (λ a r f k. search rules))).0

pub returns-clause-rest : goal.returns-clause-rest
returns-clause-rest c =
    (upto_point (λ a. a.start) c.args.arms.now c.args.offset c.partition_point.result
    (IsPartitionPoint-from_clause (λ a. nat_le a.start c.args.offset) c.args.arms.now c.partition_point.result c.partition_point.ensures.partitioned
    (IsPartitionedBy-leb (λ a. a.start) c.args.arms.now c.args.offset c.requires.starts) (λ a r f k. search rules))).1
