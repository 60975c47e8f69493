use Rattle.std.proofs.Common.{rules, sym, ap}
use Rattle.check_scopes.specs.Scopes.{over}
use Rattle.check_rules.specs.Directory.{first_entry}
use Rattle.check_state.specs.Views.{names}
use Rattle.check_directory.proofs.EntryLaws as laws
use Rattle.check_directory.proofs.KeptLaws.{name_at, left_flat}
use Rattle.check_directory.proofs.restricted.those_in.Goals as goal

pub loop-name-init : goal.loop-name-init
loop-name-init c =
    ap (λ s. over s (first_entry (laws.flat_from (name_at (names c.args.scope.now)) 0 c.args.names.now))) (sym (laws.no_names c.new-kept.result (search rules)))

pub loop-name-preserved : goal.loop-name-preserved
loop-name-preserved c = rw c.loop-name.invariant (rw (laws.flat_at (name_at (names c.args.scope.now)) (names c.loop-name.kept) c.loop-name.name-index c.args.names.now c.loop-name.name-index c.name-item.result (search rules) (search rules)) (search rules))

pub returns : goal.returns
returns c =
    rw (left_flat (names c.args.scope.now) 0 c.args.names.now)
    (rw c.loop-name.invariant (rw (laws.flat_out (name_at (names c.args.scope.now)) (names c.loop-name.kept) c.loop-name.name-index c.args.names.now c.loop-name.name-index (search rules)) (search rules)))
