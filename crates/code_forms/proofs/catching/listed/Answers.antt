use Rattle.std.proofs.Common.{refl}
use Rattle.code_forms.proofs.PhraseOrder.{listed_last}
use Rattle.code_forms.proofs.catching.listed.Goals as goal

pub returns : goal.returns
returns c = (λ _. listed_last c.args.before.now c.args.from _ c.requires c.if-from-before.false, λ _. refl)
