use Rattle.std.proofs.Common.{sym}
use Rattle.signal_survey.proofs.Nexts.{code_found, no_procedure, no_survey, survey_is, phrase_within}
use Rattle.signal_survey.proofs.graph.next_of.Goals as goal

pub unreachable-requires-in_default-get : goal.unreachable-requires-in_default-get
unreachable-requires-in_default-get c = no_procedure c.args.image.now c.args.place c.in-Some.code.now c.requires.place (sym c.in-Some.ensures) (sym c.in_default-get.ensures)

pub unreachable-requires-in_default-at : goal.unreachable-requires-in_default-at
unreachable-requires-in_default-at c = no_survey c.args.image.now c.args.surveys.now c.args.place c.requires.surveyed c.requires.place (sym c.in_default-at.ensures)

pub next_by-requires : goal.next_by-requires
next_by-requires c =
    let code = code_found c.args.image.now c.args.place.instance c.args.place.procedure c.in-Some.code.now c.in-Some-get.procedure.now (sym c.in-Some.ensures) (sym c.in-Some-get.ensures) in
    record {
      is_code = code;
      surveyed = survey_is c.args.image.now c.args.surveys.now c.args.place.instance c.args.place.procedure c.in-Some.code.now c.in-Some-get.procedure.now c.in-Some-at.surveyed.now
          c.requires.surveyed code (sym c.in-Some-at.ensures);
      position = c.requires.position;
      there = phrase_within c.args.image.now c.args.place c.args.number c.in-Some.code.now c.in-Some-get.procedure.now c.requires.place code c.requires.position;
    }
