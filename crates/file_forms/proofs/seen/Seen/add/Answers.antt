use Rattle.file_forms.proofs.SeenNames.{one_more}
use Rattle.file_forms.proofs.seen.Seen.add.Goals as goal

pub returns : goal.returns
returns c = λ names shown. record { each = one_more _ _ names c.args.name.now c.in_ok-declare.ensures.ok shown.each }
