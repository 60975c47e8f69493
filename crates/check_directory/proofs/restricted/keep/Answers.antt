use Rattle.std.proofs.Common.{rules, sym}
use Rattle.check_state.specs.Views.{names}
use Rattle.check_directory.proofs.KeptLaws.{none_kept}
use Rattle.check_directory.proofs.restricted.keep.Goals as goal

pub returns-in-None : goal.returns-in-None
returns-in-None c = sym (none_kept (names c.args.kept.now) c.args.scope.now c.args.name.now (search rules))
