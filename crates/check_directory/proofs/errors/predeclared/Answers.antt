use Rattle.std.proofs.Common.{rules}
use Rattle.std.specs.Prelude.{codes}
use Rattle.check_rules.specs.Directory.{predeclared_entry}
use Rattle.check_rules.specs.Typed as t
use Rattle.check_state.specs.Views.{names}
use Rattle.check_directory.proofs.EntryLaws.{no_names, two_together}
use Rattle.check_directory.proofs.errors.predeclared.Goals as goal

pub returns : goal.returns
returns c =
    two_together (names c.new-names.result) (names c.predeclare.new.names) (names c.predeclare-2.new.names)
    (predeclared_entry (codes "BoundsFault") t.TheBoundsFault) (predeclared_entry (codes "ZeroDivisor") t.TheZeroDivisor)
    (no_names c.new-names.result (search rules)) (search rules) c.in_ok-predeclare-2.ensures
