use Rattle.std.proofs.lemmas.Result.{IfOk-weaker}
use Rattle.interface_writers.proofs.WholeLaws.{bytes_written}
use Rattle.interface_writers.proofs.files.write_item.Goals as goal

pub returns : goal.returns
returns c = IfOk-weaker c.whole.result _ _ (λ bytes is. bytes_written c.new-out.result c.put_item.new.out _ bytes c.new-out.ensures c.in_ok-put_item.ensures is) c.whole.ensures
