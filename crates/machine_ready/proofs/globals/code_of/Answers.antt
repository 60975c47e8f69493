use Rattle.std.proofs.Common.{Some, sym, ap, ◌∙◌}
use Rattle.object_files.specs.declared.object.Object.{Object}
use Rattle.machine_ready.proofs.Linked.{code_read}
use Rattle.machine_ready.proofs.globals.code_of.Goals as goal

pub returns : goal.returns
returns c =
    code_read c.args.image.now c.args.number c.as_slice.result.now c.as_slice-2.result.now c.index-as_slice-number.result c.index-as_slice-module.result
    c.as_slice.ensures c.as_slice-2.ensures c.requires.order c.requires.there c.index-as_slice-module.is
    ∙ ap (λ (o : Object). Some o.code) c.index-as_slice-module.is ∙ ap Some (sym c.code.ensures.same)
