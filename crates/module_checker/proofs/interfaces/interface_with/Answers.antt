use Rattle.std.proofs.Common.{rules}
use Rattle.syntax_trees.specs.PlainSyntax.{syntax}
use Rattle.module_checker.proofs.InterfaceLaws.{interface_is}
use Rattle.module_checker.proofs.interfaces.interface_with.Goals as goal

pub returns : goal.returns
returns c = interface_is (syntax c.args.module.now) c.args.stamp c.in_ok-name.name c.args.all.items c.args.all.constants c.args.all.types (search rules)
