use Rattle.std.proofs.Common.{rules, refl, sym, ap}
use Rattle.check_scopes.specs.Scopes.{over}
use Rattle.check_rules.specs.Directory.{first_entry}
use Rattle.check_state.specs.Views.{names}
use Rattle.check_directory.proofs.EntryLaws as laws
use Rattle.check_directory.proofs.ItemLaws.{number_at, scope_flat}
use Rattle.check_directory.proofs.directories.directory_scope.Goals as goal

pub loop-item-init : goal.loop-item-init
loop-item-init c = (refl, ap (λ s. over s (first_entry (laws.flat_from number_at 0 c.args.directory.now))) (sym (laws.no_names c.new-names.result (search rules))))

pub loop-item-preserved : goal.loop-item-preserved
loop-item-preserved c = rw c.loop-item.invariant.1 (rw (laws.flat_at number_at (names c.loop-item.names) c.loop-item.item-index c.args.directory.now c.loop-item.item-index c.item-item.result (search rules) (search rules)) (search rules))

pub returns : goal.returns
returns c =
    rw (scope_flat 0 c.args.directory.now)
    (rw c.loop-item.invariant.1 (rw (laws.flat_out number_at (names c.loop-item.names) c.loop-item.item-index c.args.directory.now c.loop-item.item-index (search rules)) (search rules)))
