use Rattle.std.proofs.Common.{sym, ◌∙◌, ap}
use Rattle.std.specs.Prelude.{option_map}
use Rattle.object_files.specs.declared.object.Object.{Object}
use Rattle.command_surveys.proofs.Naming.{code_at, no_code}
use Rattle.command_surveys.proofs.names.module_of.Goals as goal

pub returns-in-Some : goal.returns-in-Some
returns-in-Some c =
    ap (option_map (λ (o : Object). o.code)) c.get-in-Some.ensures
    ∙ sym (code_at c.args.image.now c.args.instance c.in-Some.instance.now (sym c.in-Some.ensures))

pub returns-in-None : goal.returns-in-None
returns-in-None c = sym (no_code c.args.image.now c.args.instance (sym c.in-None.ensures))
