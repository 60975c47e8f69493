use Rattle.std.proofs.lemmas.Result.{on_ok_weaker}
use Rattle.interface_writers.proofs.WholeLaws.{interface_written}
use Rattle.interface_writers.proofs.interfaces.put_interface.Goals as goal

pub returns : goal.returns
returns c =
    on_ok_weaker c.put_named_types.result
    (interface_written c.args.interface.now c.args.out.now c.put_face.new.out c.put_constants.new.out c.put_named_types.new.out c.in_ok-put_face.ensures c.in_ok-put_constants.ensures)
    c.put_named_types.ensures
