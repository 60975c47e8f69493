use Rattle.std.proofs.Common.{refl, sym, ap, ◌∙◌}
use Rattle.object_files.specs.declared.object.Object.{Object}
use Rattle.machine_signals.proofs.InImage.{instance_within, module_within, code_read}
use Rattle.frame_machine.proofs.look_ups.code_of.Goals as goal

pub bounds-as_slice-instance : goal.bounds-as_slice-instance
bounds-as_slice-instance c = instance_within c.args.image.now c.args.instance c.as_slice.result.now c.args.image.now.modules c.as_slice.ensures refl c.requires

pub bounds-as_slice-instance-2 : goal.bounds-as_slice-instance-2
bounds-as_slice-instance-2 c = instance_within c.args.image.now c.args.instance c.as_slice.result.now c.args.image.now.modules c.as_slice.ensures refl c.requires

pub bounds-as_slice-module : goal.bounds-as_slice-module
bounds-as_slice-module c =
    module_within c.args.image.now c.args.instance c.as_slice.result.now c.as_slice-2.result.now c.as_slice.ensures c.as_slice-2.ensures c.requires
    c.index-as_slice-instance.result

pub returns : goal.returns
returns c =
    code_read c.args.image.now c.args.instance c.as_slice.result.now c.as_slice-2.result.now c.as_slice.ensures c.as_slice-2.ensures c.requires
    c.index-as_slice-instance.result c.index-as_slice-module.result c.code.result.now c.index-as_slice-module.is (c.code.ensures.same ∙ sym (ap (λ (o : Object). o.code) c.index-as_slice-module.is))
