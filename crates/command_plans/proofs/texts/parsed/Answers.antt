use Rattle.command_passes.specs.checked_texts.specs.Texts.{HasNoTree}
use Rattle.command_passes.specs.command_rules.specs.Planning.{Parses, parsed, refused}
use Rattle.command_passes.specs.Stops.{stop_case}
use Rattle.command_passes.proofs.Faults.{fault_told}
use Rattle.command_plans.proofs.texts.parsed.Goals as goal

pub returns-in-Ok : goal.returns-in-Ok
returns-in-Ok c = parsed c.in-Ok.tree c.in-Ok.ensures.tree

pub returns-in-Err : goal.returns-in-Err
returns-in-Err c =
    fault_told (Parses c.args.file c.args.text.now) (HasNoTree c.args.text.now) c.args.file c.in-Err.fault (stop_case c.faulty.result) refused
    c.in-Err.ensures.fault c.faulty.ensures
