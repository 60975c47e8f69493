use Rattle.std.proofs.Common.{rules}
use Rattle.interface_records.specs.PlainTypes.{plain}
use Rattle.check_state.specs.Views.{around, state}
use Rattle.check_types.proofs.ElementLaws.{few_are_all, too_many_are_all}
use Rattle.check_types.proofs.elements.declare_elements.Goals as goal

pub returns-then-names : goal.returns-then-names
returns-then-names c = rw (few_are_all (around c.args.around.now) (plain c.args.kind.now) c.args.place c.args.names.now (state c.args.state.now) (search rules)) (search rules)

pub returns-else-names : goal.returns-else-names
returns-else-names c = rw (too_many_are_all (around c.args.around.now) (plain c.args.kind.now) c.args.place c.args.names.now (state c.args.state.now) (search rules)) (search rules)
