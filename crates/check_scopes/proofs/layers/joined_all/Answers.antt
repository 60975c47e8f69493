-- In the end all are in one.
use Rattle.std.proofs.Common.{sym, ap, ◌∙◌}
use Rattle.check_scopes.specs.Scopes.{over}
use Rattle.check_scopes.specs.Shows.{valued}
use Rattle.check_scopes.proofs.Indexes.{no_entries}
use Rattle.check_scopes.proofs.LayerLaws.{all_over, one_over, valued-over}
use Rattle.check_scopes.proofs.layers.joined_all.Goals as goal

pub loop-layer-preserved : goal.loop-layer-preserved
loop-layer-preserved g c =
    one_over c.loop-layer.layers.now c.in-Some.older.now c.in-Some.layer.now c.loop-layer.all c.declare_all.new.self c.in-Some.ensures.cases.0
    (valued-over c.loop-layer.all c.in_ok-both.both c.declare_all.new.self c.in_ok-declare_all.ensures
    ∙ ap (over (valued c.loop-layer.all)) (c.in_ok-both.ensures ∙ ap valued c.get.ensures))
    ∙ c.loop-layer.invariant

pub returns : goal.returns
returns g c =
    sym (all_over (valued c.loop-layer.all) c.loop-layer.layers.now (no_entries c.loop-layer.layers.now c.in_default.ensures.cases))
    ∙ c.loop-layer.invariant
