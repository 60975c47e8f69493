use Rattle.std.proofs.Common.{◌≡◌, drop}
use Rattle.config_rules.specs.Resolves.{given_for}
use Rattle.import_binder.proofs.numbers.first_given.Given as goal

-- none before has the name
abbrev pub invariant-loop-pair : goal.invariant-loop-pair
invariant-loop-pair l = given_for l.name l.export.face (drop l.pair-index l.pair-items) ≡ given_for l.name l.export.face l.pair-items
