use Rattle.std.proofs.Common.{sym}
use Rattle.signal_survey.proofs.Happened.{no_survey_here, sites_done}
use Rattle.signal_survey.proofs.happening.add_procedure.Goals as goal

pub unreachable-requires : goal.unreachable-requires
unreachable-requires c =
    no_survey_here c.args.image.now c.args.surveys.now c.args.instance c.args.procedure c.args.code.now c.requires.surveyed c.requires.code c.requires.there (sym c.in_default.ensures)

pub returns : goal.returns
returns c =
    sites_done c.add_sites.result c.args.image.now c.args.surveys.now c.args.instance c.args.procedure c.args.code.now c.in-Some.surveyed.now c.as_slice.result.now c.args.list.now
    c.add_sites.new.list c.requires.surveyed c.requires.code c.requires.there (sym c.in-Some.ensures) c.as_slice.ensures c.add_sites.ensures
