use Rattle.std.proofs.Common.{nat_lt, rules}
use Rattle.std.proofs.lemmas.List.Sorted.{IsPartitionPoint-from_clause, IsPartitionedBy-ltb}
use Rattle.code_forms.proofs.Points.{below_point}
use Rattle.code_forms.proofs.catching.next_behind.Goals as goal

pub returns-clause-before : goal.returns-clause-before
returns-clause-before c =
    (below_point (λ p. p.from) c.args.phrases.now c.args.to c.partition_point.result
    (IsPartitionPoint-from_clause (λ p. nat_lt p.from c.args.to) c.args.phrases.now c.partition_point.result c.partition_point.ensures.partitioned
    (IsPartitionedBy-ltb (λ p. p.from) c.args.phrases.now c.args.to c.requires) (λ a r f k. search rules))).0

pub returns-clause-rest : goal.returns-clause-rest
returns-clause-rest c =
    (below_point (λ p. p.from) c.args.phrases.now c.args.to c.partition_point.result
    (IsPartitionPoint-from_clause (λ p. nat_lt p.from c.args.to) c.args.phrases.now c.partition_point.result c.partition_point.ensures.partitioned
    (IsPartitionedBy-ltb (λ p. p.from) c.args.phrases.now c.args.to c.requires) (λ a r f k. search rules))).1
