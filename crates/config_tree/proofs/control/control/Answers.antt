use Rattle.std.proofs.Common.{◌≡◌, List, ℕ, [], flat_map, ◌∙◌}
use Rattle.mesa_base.specs.declared.identifier.Identifier.{Identifier}
use Rattle.config_rules.specs.Grown.{once}
use Rattle.config_tree.specs.Started.{added, started_at}
use Rattle.config_tree.proofs.NotedShapes.{if_ok}
use Rattle.config_tree.proofs.Starting.{start_more, start_end, once_added}
use Rattle.config_tree.proofs.control.control.Goals as goal

pub loop-identifier-preserved : goal.loop-identifier-preserved
loop-identifier-preserved c =
    let f = λ (i : Identifier). started_at c.args.starts.now i.name in (
      c.in_ok-start.ensures.done,
      start_more f c.loop-identifier.started.keys c.args.names.now c.loop-identifier.identifier-index (added [] (flat_map f c.args.names.now)) c.start.new.started.keys c.identifier-item.result
          c.identifier-item.result c.loop-identifier-test.true c.identifier-item.is c.in_ok-start.ensures.started c.loop-identifier.invariant.1,
    )

pub returns : goal.returns
returns c =
    let f = λ (i : Identifier). started_at c.args.starts.now i.name in
    let all = flat_map f c.args.names.now in
    let is = start_end f c.loop-identifier.started.keys c.args.names.now c.loop-identifier.identifier-index (added [] all) c.loop-identifier-test.false c.loop-identifier.invariant.1 in
    if_ok (λ (l : List ℕ). l ≡ c.as_slice.result.now) (λ (l : List ℕ). l ≡ once [] all) c.from_slice.result (λ l e. e ∙ c.as_slice.ensures.keys ∙ is ∙ once_added all) c.from_slice.ensures
