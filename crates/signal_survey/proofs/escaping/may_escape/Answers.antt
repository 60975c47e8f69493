use Rattle.signal_survey.proofs.Control.{escapes_by}
use Rattle.signal_survey.proofs.escaping.may_escape.Goals as goal

pub returns-clause-escapes : goal.returns-clause-escapes
returns-clause-escapes c =
    escapes_by c.comes_where_reached.ensures c.args.image.now c.args.signal c.args.round c.come.new.walk c.as_slice.result.now c.came_out.result c.as_slice.ensures c.in_ok-come.ensures.come
    c.came_out.ensures
