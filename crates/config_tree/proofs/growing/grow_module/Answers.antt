use Rattle.std.proofs.Common.{refl, ◌∙◌}
use Rattle.config_tree.specs.declared.growth.Growth.{Growth}
use Rattle.config_tree.proofs.Growths.{module_grows}
use Rattle.config_tree.proofs.growing.grow_module.Goals as goal

pub returns : goal.returns
returns c =
    let new : Growth = record { scopes = c.args.growth.now.scopes; instances = c.put.new.list } in
    module_grows c.args.shapes.now c.args.path.now c.args.scope c.args.growth.now new c.args.part.now c.args.component c.in_ok-instance.instance c.in_ok-number.number c.in_ok-started.started refl
    c.in_ok-put.ensures c.in_ok-instance.ensures c.in_ok-started.ensures (c.in_ok-number.ensures ∙ c.len.ensures)
