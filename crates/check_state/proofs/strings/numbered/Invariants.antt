use Rattle.std.proofs.Common.{◌≡◌, drop}
use Rattle.interface_records.specs.check_scopes.specs.Scopes.{over}
use Rattle.interface_records.specs.check_scopes.specs.Shows.{means}
use Rattle.check_state.proofs.StringLaws.{numbers}
use Rattle.check_state.proofs.strings.numbered.Given as goal

abbrev pub invariant-loop-text : goal.invariant-loop-text
invariant-loop-text l = numbers 0 l.texts ≡ over (means l.index) (numbers l.number (drop l.text-index l.texts))
