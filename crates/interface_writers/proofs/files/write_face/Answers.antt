use Rattle.std.proofs.lemmas.Result.{IfOk-weaker}
use Rattle.interface_writers.proofs.WholeLaws.{bytes_written}
use Rattle.interface_writers.proofs.files.write_face.Goals as goal

pub returns : goal.returns
returns c = IfOk-weaker c.whole.result _ _ (λ bytes is. bytes_written c.new-out.result c.put_face.new.out _ bytes c.new-out.ensures c.in_ok-put_face.ensures is) c.whole.ensures
