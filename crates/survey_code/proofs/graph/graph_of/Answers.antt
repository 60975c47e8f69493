use Rattle.survey_code.proofs.Building.{all_rows}
use Rattle.survey_code.proofs.graph.graph_of.Goals as goal

pub returns : goal.returns
returns c =
    all_rows c.args.code.now c.args.procedure.now c.in_ok-graph.graph c.in_ok-phrase_rows.field-0 c.append.new.self c.in_ok-graph.ensures c.in_ok-phrase_rows.ensures
    c.in_ok-append.ensures.ok
