use Rattle.std.proofs.Common.{ap, length}
use Rattle.mesa_types.specs.Plain.{plain}
use Rattle.command_passes.specs.Stops.{stop_case}
use Rattle.command_sources.proofs.Binding.{no_room}
use Rattle.command_sources.proofs.Sourcing.{module_source, no_module_source, one_plain}
use Rattle.command_sources.proofs.sources.source_of_module.Goals as goal

pub returns-in_err-text-clause-passes : goal.returns-in_err-text-clause-passes
returns-in_err-text-clause-passes g c = no_room _ _ _ _ c.from_residual.result c.from_residual.ensures.1

pub returns-in_err-file-clause-passes : goal.returns-in_err-file-clause-passes
returns-in_err-file-clause-passes g c = no_room _ _ _ _ c.from_residual-in_err-file.result c.from_residual-in_err-file.ensures.1

pub returns-in_err-bases-clause-passes : goal.returns-in_err-bases-clause-passes
returns-in_err-bases-clause-passes g c = no_room _ _ _ _ c.from_residual-in_err-bases.result c.from_residual-in_err-bases.ensures.1

pub module_bound-requires : goal.module_bound-requires
module_bound-requires g c = record {
  kept = rw c.into_inner.ensures (c.modules_of_files_can_be_kept.ensures.one c.in_ok-text.text _ _ (plain c.in-Ok.«module») c.in-Ok.ensures.passes.comes);
  plain_bases = one_plain c.args.base.now c.in_ok-bases.bases c.in_ok-bases.ensures c.requires;
  one = ap length c.in_ok-bases.ensures;
}

pub returns-in-Ok-clause-passes : goal.returns-in-Ok-clause-passes
returns-in-Ok-clause-passes g c =
    module_source c.args.base.now c.in_ok-text.text c.in_ok-text.ensures c.in_ok-file.file c.in_ok-bases.bases _ _ (plain c.in-Ok.«module») c.module_bound.result
    c.in_ok-file.ensures c.in_ok-bases.ensures c.in-Ok.ensures.passes (rw c.into_inner.ensures at c.module_bound.ensures.passes)

pub returns-in-Err-clause-passes : goal.returns-in-Err-clause-passes
returns-in-Err-clause-passes g c =
    no_module_source c.args.base.now c.in_ok-text.text c.in_ok-text.ensures _ _ (stop_case c.in-Err.why) c.in-Err.ensures.passes
