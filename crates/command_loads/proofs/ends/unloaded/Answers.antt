use Rattle.std.proofs.Common.{◌<◌, length, sym, subst}
use Rattle.command_passes.specs.Stops.{stop_case}
use Rattle.command_loads.specs.Stops.{no_memory}
use Rattle.command_loads.proofs.Joining.{fault_ends}
use Rattle.command_loads.proofs.ends.unloaded.Goals as goal

pub returns-in-Some : goal.returns-in-Some
returns-in-Some c =
    let some = c.in-Some.ensures.1 in
    fault_ends c.args.bases.now c.in-Some.number c.index-bases-number.result
    (subst (λ n. n < length c.args.bases.now) (sym c.in-Some.ensures.0) (c.requires.one some)) c.index-bases-number.is c.args.fault (stop_case c.refused.result)
    c.in-Some.ensures.0 some (rw c.as_slice.ensures at c.refused.ensures)

pub returns-in-None : goal.returns-in-None
returns-in-None c = no_memory
