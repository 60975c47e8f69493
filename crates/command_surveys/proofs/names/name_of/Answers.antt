use Rattle.std.proofs.Common.{sym}
use Rattle.command_surveys.proofs.Naming.{name_at, no_name}
use Rattle.command_surveys.proofs.names.name_of.Goals as goal

pub returns-in-Some : goal.returns-in-Some
returns-in-Some c =
    name_at c.args.image.now c.args.instance c.args.number c.in-Some.object.now.code c.name_in.result.now (sym c.in-Some.ensures)
    (rw c.code.ensures.same at c.name_in.ensures)

pub returns-in-None : goal.returns-in-None
returns-in-None c = sym (no_name c.args.image.now c.args.instance c.args.number (sym c.in-None.ensures))
