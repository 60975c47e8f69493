use Rattle.std.proofs.Common.{rules}
use Rattle.interface_records.specs.PlainTypes.{plain}
use Rattle.check_state.specs.Views.{names}
use Rattle.check_directory.proofs.EntryLaws as laws
use Rattle.check_directory.proofs.elements.elements.Goals as goal

pub loop-element-preserved : goal.loop-element-preserved
loop-element-preserved c = rw c.loop-element.invariant.1 (rw (laws.flat_at (laws.element_at (plain c.args.kind.now)) (names c.loop-element.names) c.loop-element.element-index c.args.elements.now c.loop-element.element-index c.element-item.result (search rules) (search rules)) (search rules))

pub returns : goal.returns
returns c = rw (laws.elements_flat (plain c.args.kind.now) 0 c.args.elements.now) (rw c.loop-element.invariant.1 (rw (laws.flat_out (laws.element_at (plain c.args.kind.now)) (names c.loop-element.names) c.loop-element.element-index c.args.elements.now c.loop-element.element-index (search rules)) (search rules)))
