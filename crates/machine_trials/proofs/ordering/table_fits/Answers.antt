use Rattle.std.proofs.Common.{length, sym, ap, ◌∙◌, subst}
use Rattle.machine_trials.specs.Fitting.{LinksFit}
use Rattle.machine_trials.proofs.Ordered.{table_there}
use Rattle.machine_trials.proofs.ordering.table_fits.Goals as goal

pub returns : goal.returns
returns c h = record {
  code = c.code_of-code.result.now;
  table = c.index-as_slice-instance.result;
  its_code = c.code_of-code.ensures;
  its_table = table_there c.args.image.now c.args.instance c.as_slice.result.now c.index-as_slice-instance.result c.as_slice.ensures c.requires.tables c.requires.there c.index-as_slice-instance.is;
  as_many = sym c.len.ensures ∙ c.if-len-table.false ∙ ap length c.as_slice-table.ensures;
  alike = subst (λ ls. LinksFit c.args.image.now ls c.index-as_slice-instance.result (length ls)) c.as_slice-2.ensures
      (subst (λ t. LinksFit c.args.image.now c.as_slice-2.result.now t (length c.as_slice-2.result.now)) c.as_slice-table.ensures (c.links_fit.ensures h));
}
