use Rattle.std.proofs.Common.{Some, sym, ap, ◌∙◌}
use Rattle.object_files.specs.declared.object.Object.{Object}
use Rattle.machine_trials.proofs.Ordered.{code_there}
use Rattle.machine_trials.proofs.ordering.code_of.Goals as goal

pub returns : goal.returns
returns c =
    code_there c.args.image.now c.args.instance c.as_slice.result.now c.as_slice-2.result.now c.index-as_slice-instance.result c.index-as_slice-module.result
    c.as_slice.ensures c.as_slice-2.ensures c.requires.modules c.requires.there c.index-as_slice-module.is
    ∙ ap (λ (o : Object). Some o.code) c.index-as_slice-module.is ∙ ap Some (sym c.code.ensures.same)
