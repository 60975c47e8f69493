use Rattle.std.proofs.Common.{refl}
use Rattle.command_lines.specs.Words.{source_in as form_source}
use Rattle.command_lines.specs.command_passes.specs.Kinds.{kind_in}
use Rattle.mesa_command.proofs.Calls.{goes, loads}
use Rattle.mesa_command.proofs.Exercised.{exercises}
use Rattle.command_lines.specs.Words.{behind_first, between}
use Rattle.command_rules.specs.Forms.{kind_file}
use Rattle.command_rules.specs.Listing.{listing_in}
use Rattle.command_rules.specs.Planning.{plan_in}
use Rattle.command_rules.specs.Surveying.{survey_in}
use Rattle.mesa_command.proofs.Printed.{prints_so}
use Rattle.mesa_command.proofs.top.to_form.Goals as goal

pub returns-in-Run-clause-comes : goal.returns-in-Run-clause-comes
returns-in-Run-clause-comes g c =
    let it = c.run_or_tell.ensures.ends in
    rw c.in-Run.is
    (it.0, loads (between c.in-Run.words.now) _ _ c.loaded-machine.result c.in-Run.turns _ _ it.0 c.loaded-machine.ensures.loads it.1, it.2)

pub returns-in-Go-clause-comes : goal.returns-in-Go-clause-comes
returns-in-Go-clause-comes g c =
    let it = c.run_or_tell-in-Go.ensures.ends in
    rw c.in-Go.is (
      it.0,
      goes c.runs_are_meant.ensures (form_source c.in-Go.source) c.in-Go.base.now _ _ c.built-machine.result c.in-Go.turns _ _ it.0 c.built-machine.ensures it.1,
      it.2,
    )

pub returns-in-Show-clause-comes : goal.returns-in-Show-clause-comes
returns-in-Show-clause-comes g c =
    let it = c.print_or_tell.ensures.ends in
    rw c.in-Show.is (
      it.0,
      prints_so (listing_in (kind_in c.in-Show.kind) (kind_file (kind_in c.in-Show.kind) c.in-Show.base.now)) _ _ _ _ c.listing.result _ _ it.0
          c.listing.ensures.passes c.listing.ensures.onward it.1,
      it.2,
    )

pub returns-in-Plan-clause-comes : goal.returns-in-Plan-clause-comes
returns-in-Plan-clause-comes g c =
    let it = c.print_or_tell-in-Plan.ensures.ends in
    rw c.in-Plan.is (
      it.0,
      prints_so (plan_in (behind_first c.in-Plan.words.now)) _ _ _ _ c.report.result _ _ it.0 c.report.ensures.passes c.report.ensures.onward it.1,
      it.2,
    )

pub returns-in-Survey-clause-comes : goal.returns-in-Survey-clause-comes
returns-in-Survey-clause-comes g c =
    let it = c.print_or_tell-in-Survey.ensures.ends in
    rw c.in-Survey.is (
      it.0,
      prints_so (survey_in c.in-Survey.base.now) _ _ _ _ c.surveyed.result _ _ it.0 c.surveyed.ensures.passes c.surveyed.ensures.onward it.1,
      it.2,
    )

pub returns-in-Exercise-clause-comes : goal.returns-in-Exercise-clause-comes
returns-in-Exercise-clause-comes g c =
    let it = c.sum_or_tell.ensures.ends in
    rw c.in-Exercise.is (
      it.0,
      (exercises c.runs_are_meant.ensures c.in-Exercise.links c.in-Exercise.turns _ _ refl c.exercise_built.result it.0 c.exercise_built.ensures it.1, refl),
      it.2,
    )
