use Rattle.std.proofs.Common.{true, sym, ◌∙◌}
use Rattle.code_forms.specs.Routine.{spots}
use Rattle.signaller.proofs.Surrounding.{begins_innermost}
use Rattle.machine_signals.proofs.asking.search_about.Goals as goal

pub returns-in-Some : goal.returns-in-Some
returns-in-Some c =
    sym ((begins_innermost (spots c.args.procedure.now.code) c.args.procedure.now.phrases c.requires.phrases true c.args.offset c.requires.inside).inside c.in-Some.number
    (sym c.requires.innermost ∙ c.in-Some.is))
