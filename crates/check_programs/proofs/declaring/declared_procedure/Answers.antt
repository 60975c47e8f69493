use Rattle.std.proofs.Common.{rules}
use Rattle.interface_records.specs.PlainTypes.{plain_item}
use Rattle.check_state.specs.Views as words
use Rattle.check_programs.specs.Views as view
use Rattle.check_programs.proofs.DeclaredLaws.{declared_is}
use Rattle.check_heads.specs.Views.{heading}
use Rattle.check_programs.proofs.declaring.declared_procedure.Goals as goal

pub returns : goal.returns
returns c =
    rw (declared_is (view.found c.args.found.now) c.args.one.now.names c.args.one.now.access c.args.number (heading c.args.head) c.args.operands
    (plain_item c.in_ok-head.head.item) (words.state c.args.state.now) (rw c.as_slice-names.ensures at c.in_ok-head.ensures.item))
    (search rules)
