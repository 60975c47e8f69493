use Rattle.std.proofs.Common.{nat_lt, rules}
use Rattle.std.proofs.lemmas.List.Sorted.{IsPartitionPoint-from_clause, IsPartitionedBy-ltb}
use Rattle.code_forms.proofs.Ordered.{at_rise}
use Rattle.code_forms.proofs.Points.{below_point}
use Rattle.survey_code.proofs.ending.entries_before.Goals as goal

pub returns-clause-before : goal.returns-clause-before
returns-clause-before c =
    (below_point (λ e. e.at) c.args.code.now c.args.offset c.partition_point.result
    (IsPartitionPoint-from_clause (λ e. nat_lt e.at c.args.offset) c.args.code.now c.partition_point.result c.partition_point.ensures.partitioned
    (IsPartitionedBy-ltb (λ e. e.at) c.args.code.now c.args.offset (at_rise c.args.code.now c.requires)) (λ a r f k. search rules))).0

pub returns-clause-rest : goal.returns-clause-rest
returns-clause-rest c =
    (below_point (λ e. e.at) c.args.code.now c.args.offset c.partition_point.result
    (IsPartitionPoint-from_clause (λ e. nat_lt e.at c.args.offset) c.args.code.now c.partition_point.result c.partition_point.ensures.partitioned
    (IsPartitionedBy-ltb (λ e. e.at) c.args.code.now c.args.offset (at_rise c.args.code.now c.requires)) (λ a r f k. search rules))).1
