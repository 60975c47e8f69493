use Rattle.std.proofs.Common.{suc, ap, sym, ◌∙◌}
use Rattle.machine_activations.specs.declared.row.Row.{Row}
use Rattle.machine_signals.specs.Leaving.{resumes_with}
use Rattle.machine_signals.proofs.Resumed.{resume_rejects}
use Rattle.machine_signals.proofs.resuming.resume.Goals as goal

pub reject-requires-clause-rejects : goal.reject-requires-clause-rejects
reject-requires-clause-rejects c = record {
  start = c.requires.stands.start;
  unstuck = c.requires.stands.unstuck;
  store = record c.requires.stands.store { begun = suc c.requires.stands.store.begun };
  rejects = resume_rejects c.args.image.now c.args.stack.now.layout c.requires.tables.prepared c.args.stack.now.region.items c.args.stack.now.rows.items c.args.r c.args.code.now c.requires.code c.args.words c.requires.at
      c.requires.stands.start c.requires.stands.store c.requires.stands.shown
      (ap (λ (x : Row). resumes_with c.args.image.now x.kind c.args.words) (sym c.row_of.ensures) ∙ sym c.resumes.ensures ∙ c.if-resumes.false);
}

pub returns-clause-leads : goal.returns-clause-leads
returns-clause-leads c s m unstuck turns shown =
    c.reject.ensures.leads s (record m { begun = suc m.begun }) unstuck turns
    (resume_rejects c.args.image.now c.args.stack.now.layout c.requires.tables.prepared c.args.stack.now.region.items c.args.stack.now.rows.items c.args.r c.args.code.now c.requires.code c.args.words c.requires.at s m shown
    (ap (λ (x : Row). resumes_with c.args.image.now x.kind c.args.words) (sym c.row_of.ensures) ∙ sym c.resumes.ensures ∙ c.if-resumes.false))
