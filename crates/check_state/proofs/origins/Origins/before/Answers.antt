use Rattle.std.proofs.Common.{◌≡◌, rules}
use Rattle.std.specs.Prelude.{nat_lt}
use Rattle.std.proofs.lemmas.List.Sorted.{IsPartitionPoint-from_clause, IsPartitionedBy-ltb}
use Rattle.check_state.specs.Ascending.{less_than}
use Rattle.check_state.proofs.OriginLaws.{point_counts, rises_so}
use Rattle.check_state.proofs.origins.Origins.before.Goals as goal

pub returns : goal.returns
returns c =
    let slice = c.as_slice.result.now in
    let point = c.partition_point.result in
    let rises = rises_so c.self.inside.tokens c.self.inside.ascending.items slice c.args.token point c.self.invariant c.as_slice.ensures.value in
    let counted : point ≡ less_than c.args.token c.self.inside.tokens =
    point_counts c.self.inside.tokens c.self.inside.ascending.items slice c.args.token point c.self.invariant c.as_slice.ensures.value
    c.partition_point.ensures.bound
    (IsPartitionPoint-from_clause (λ n. nat_lt n c.args.token) slice point c.partition_point.ensures.partitioned
    (IsPartitionedBy-ltb (λ n. n) slice c.args.token rises) (λ a r f k. search rules)) in
    rw (← c.self.view_is) counted
