use Rattle.std.proofs.Common.{[], OnOk, map, subst}
use Rattle.syntax_trees.specs.PlainSyntax as plain
use Rattle.check_rules.specs.Mentions.{of_definitions}
use Rattle.check_mentions.specs.Gathering.{Leaves}
use Rattle.check_mentions.proofs.ModuleForms.{Definitions, of_program, of_interface}
use Rattle.check_mentions.proofs.gathered.Gathered.module.Goals as goal

pub returns-in-Program : goal.returns-in-Program
returns-in-Program c = rw c.in-Program.is (rw of_program c.program.ensures)

pub returns-in-Interface : goal.returns-in-Interface
returns-in-Interface c = rw c.in-Interface.is (rw of_interface (
    subst (λ (ds : Definitions). OnOk c.definitions.result (Leaves c.args.self.now (of_definitions (map plain.definition ds)) c.definitions.new.self []))
    c.as_slice.ensures c.definitions.ensures))
