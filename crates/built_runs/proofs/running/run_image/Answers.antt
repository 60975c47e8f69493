use Rattle.std.specs.Prelude.{map}
use Rattle.mesa_types.specs.Plain.{plain}
use Rattle.bound_images.specs.Programs.{program_of}
use Rattle.built_runs.proofs.Linked.{meant}
use Rattle.built_runs.proofs.running.run_image.Goals as goal

pub returns-clause-broken_off : goal.returns-clause-broken_off
returns-clause-broken_off g c = λ failed.
    let modules = map plain c.args.modules.now in
    c.run_image.ensures.broken_off failed (program_of c.args.tree.now modules) (meant c.args.tree.now modules c.args.machine.now c.requires.linked c.requires.host)

pub returns-clause-cut_off : goal.returns-clause-cut_off
returns-clause-cut_off g c = λ failed bytes.
    let modules = map plain c.args.modules.now in
    c.run_image.ensures.cut_off failed (program_of c.args.tree.now modules) (meant c.args.tree.now modules c.args.machine.now c.requires.linked c.requires.host) bytes
