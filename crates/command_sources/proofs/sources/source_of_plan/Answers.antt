use Rattle.std.proofs.Common.{map}
use Rattle.mesa_types.specs.Plain.{plain}
use Rattle.cmesa_grammar.specs.Plain as grammar
use Rattle.command_passes.specs.Stops.{stop_case}
use Rattle.command_sources.proofs.Binding.{no_room}
use Rattle.command_sources.proofs.Sourcing.{bases_are, config_source, modules_are, no_config_source}
use Rattle.command_sources.proofs.sources.source_of_plan.Goals as goal

pub returns-in_err-file-clause-passes : goal.returns-in_err-file-clause-passes
returns-in_err-file-clause-passes g c = no_room _ _ _ _ c.from_residual.result c.from_residual.ensures.1

pub returns-in_err-bases-clause-passes : goal.returns-in_err-bases-clause-passes
returns-in_err-bases-clause-passes g c = no_room _ _ _ _ c.from_residual-in_err-bases.result c.from_residual-in_err-bases.ensures.1

pub modules_of-requires : goal.modules_of-requires
modules_of-requires g c = rw c.as_slice-2.ensures c.requires.plan.files

pub config_bound-requires : goal.config_bound-requires
config_bound-requires g c =
    let config = grammar.plain c.args.plan.now.config in
    record {
      plan = c.requires.plan;
      bases = bases_are config c.args.plan.now.components c.requires.plan.components_are c.in_ok-bases.bases (rw c.as_slice.ensures at c.in_ok-bases.ensures);
      modules =
          modules_are config c.args.plan.now.components c.requires.plan.components_are c.modules_of_files_can_be_kept.ensures _ _ (map plain c.in-Ok.modules)
          (rw c.as_slice-2.ensures at c.in-Ok.ensures.passes);
    }

pub returns-in-Ok-clause-passes : goal.returns-in-Ok-clause-passes
returns-in-Ok-clause-passes g c =
    let config = grammar.plain c.args.plan.now.config in
    rw c.in_ok-file.ensures at
    (config_source config c.args.plan.now.components c.requires.plan.components_are c.in_ok-file.file c.in_ok-bases.bases _ _ (map plain c.in-Ok.modules)
    c.config_bound.result
    (bases_are config c.args.plan.now.components c.requires.plan.components_are c.in_ok-bases.bases (rw c.as_slice.ensures at c.in_ok-bases.ensures))
    (rw c.as_slice-2.ensures at c.in-Ok.ensures.passes) c.config_bound.ensures.passes)

pub returns-in-Err-clause-passes : goal.returns-in-Err-clause-passes
returns-in-Err-clause-passes g c =
    no_config_source (grammar.plain c.args.plan.now.config) c.args.plan.now.components c.requires.plan.components_are _ _ _ (stop_case c.in-Err.why)
    (rw c.as_slice-2.ensures at c.in-Err.ensures.passes)
