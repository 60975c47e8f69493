use Rattle.std.proofs.Common.{rules}
use Rattle.check_types.proofs.ElementLaws.{elements_at, elements_out}
use Rattle.check_types.proofs.elements.few_elements.Goals as goal

pub loop-i-preserved : goal.loop-i-preserved
loop-i-preserved c = rw c.loop-i.invariant (rw (elements_at _ _ c.args.names.now c.loop-i.i c.index-names-i.result _ (search rules) c.index-names-i.is) (search rules))

pub returns-in_err-element : goal.returns-in_err-element
returns-in_err-element c = rw c.loop-i.invariant (rw (elements_at _ _ c.args.names.now c.loop-i.i c.index-names-i.result _ (search rules) c.index-names-i.is) (search rules))

pub returns : goal.returns
returns c = rw c.loop-i.invariant (rw (elements_out _ _ c.args.names.now c.loop-i.i _ (search rules)) (search rules))
