use Rattle.std.proofs.Common.{nat_le, rules}
use Rattle.std.proofs.lemmas.List.Sorted.{IsPartitionPoint-from_clause, IsPartitionedBy-leb}
use Rattle.code_forms.specs.Phrases.{first_start}
use Rattle.code_forms.proofs.Points.{upto_point}
use Rattle.survey_code.proofs.around.phrases_begun.Goals as goal

pub returns-clause-begun : goal.returns-clause-begun
returns-clause-begun c =
    (upto_point (λ p. first_start p.arms) c.args.table.now c.args.at c.partition_point.result
    (IsPartitionPoint-from_clause (λ p. nat_le (first_start p.arms) c.args.at) c.args.table.now c.partition_point.result c.partition_point.ensures.partitioned
    (IsPartitionedBy-leb (λ p. first_start p.arms) c.args.table.now c.args.at c.requires.firsts) (λ a r f k. search rules))).0

pub returns-clause-rest : goal.returns-clause-rest
returns-clause-rest c =
    (upto_point (λ p. first_start p.arms) c.args.table.now c.args.at c.partition_point.result
    (IsPartitionPoint-from_clause (λ p. nat_le (first_start p.arms) c.args.at) c.args.table.now c.partition_point.result c.partition_point.ensures.partitioned
    (IsPartitionedBy-leb (λ p. first_start p.arms) c.args.table.now c.args.at c.requires.firsts) (λ a r f k. search rules))).1
