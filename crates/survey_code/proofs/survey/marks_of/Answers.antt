use Rattle.survey_code.proofs.Listing.{its_graph, tells}
use Rattle.survey_code.proofs.survey.marks_of.Goals as goal

pub reach-requires : goal.reach-requires
reach-requires c = its_graph c.args.code.now c.requires.valid c.args.procedure.now c.requires.own c.in_ok-graph.graph c.in_ok-graph.ensures

pub returns : goal.returns
returns c =
    tells c.args.code.now c.requires.valid c.args.procedure.now c.requires.own c.in_ok-graph.graph c.in_ok-marks.marks.items c.truncate.new.self.items c.len.result c.in_ok-graph.ensures
    c.in_ok-marks.ensures c.len.ensures c.truncate.ensures.items
