use Rattle.std.proofs.Common.{rules, sym, ap, map}
use Rattle.syntax_trees.specs.PlainSyntax.{declaration}
use Rattle.check_scopes.specs.Scopes.{over}
use Rattle.check_rules.specs.Programs.{ahead}
use Rattle.check_state.specs.Views.{names}
use Rattle.check_directory.proofs.EntryLaws.{no_names}
use Rattle.check_faces.proofs.AheadLaws as laws
use Rattle.check_faces.proofs.declared_names.ahead.Goals as goal

pub loop-declaration-init : goal.loop-declaration-init
loop-declaration-init c = ap (λ s. over s (ahead (map declaration c.args.declarations.now))) (sym (no_names c.new-names.result (search rules)))

pub loop-declaration-preserved : goal.loop-declaration-preserved
loop-declaration-preserved c = rw c.loop-declaration.invariant (rw (laws.ahead_at (names c.loop-declaration.names) c.loop-declaration.declaration-index c.args.declarations.now c.declaration-item.result (search rules) (search rules)) (search rules))

pub returns : goal.returns
returns c = rw c.loop-declaration.invariant (rw (laws.ahead_out (names c.loop-declaration.names) c.loop-declaration.declaration-index c.args.declarations.now (search rules)) (search rules))
