use Rattle.std.proofs.Common.{sym, subst, arith}
use Rattle.code_forms.specs.Depths.{Reaches}
use Rattle.code_forms.specs.Routine.{spots}
use Rattle.code_forms.proofs.Leading.{reached_once}
use Rattle.code_forms.proofs.stack.target_of.Goals as goal

pub returns-then-j-i : goal.returns-then-j-i
returns-then-j-i c j l f =
    let e = reached_once c.args.code.now c.forward_target.result j c.in-Some.j c.requires (subst (λ t. Reaches (spots c.args.code.now) t j) (sym c.forward_target.ensures) f) c.in-Some.ensures in
    let t = c.if-j-i.true in omega (arith, e, t, l)

pub returns-in-None : goal.returns-in-None
returns-in-None c j l f = c.in-None.ensures j (subst (λ t. Reaches (spots c.args.code.now) t j) (sym c.forward_target.ensures) f)
