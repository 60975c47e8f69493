use Rattle.std.proofs.Common.{refl}
use Rattle.code_forms.proofs.Leading.{depth_there}
use Rattle.code_forms.proofs.stack.agrees_at.Goals as goal

pub returns-else-depth-code : goal.returns-else-depth-code
returns-else-depth-code c = (λ _ j d f. depth_there c.args.code.now c.args.target j c.in-Some.j c.args.depth d _ c.requires c.in-Some.ensures c.if-depth-code.false f, λ _. refl)

pub returns-in-None : goal.returns-in-None
returns-in-None c = (λ _ j d f. absurd (c.in-None.ensures j f), λ _. refl)
