use Rattle.std.proofs.Common.{Some, sym, ap, subst, ◌∙◌}
use Rattle.object_files.specs.declared.object.Object.{Object}
use Rattle.code_forms.specs.Valid.{Valid}
use Rattle.machine_ready.proofs.Linked.{code_read}
use Rattle.signal_survey.proofs.shapes.valid_code.Goals as goal

pub returns : goal.returns
returns c = record {
  is = code_read c.args.image.now c.args.instance c.as_slice.result.now c.as_slice-2.result.now c.index-as_slice-instance.result c.index-as_slice-module.result
      c.as_slice.ensures c.as_slice-2.ensures c.requires.order c.requires.there c.index-as_slice-module.is
      ∙ ap (λ (o : Object). Some o.code) c.index-as_slice-module.is ∙ ap Some (sym c.code.ensures.same);
  valid = subst Valid (sym c.code.ensures.same) c.code.ensures.valid;
}
