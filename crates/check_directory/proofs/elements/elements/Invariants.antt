use Rattle.std.proofs.Common.{◌≡◌, drop}
use Rattle.check_scopes.specs.Scopes.{over}
use Rattle.check_rules.specs.Directory.{first_entry}
use Rattle.interface_records.specs.PlainTypes.{plain}
use Rattle.check_state.specs.Views.{names}
use Rattle.check_directory.proofs.EntryLaws as laws
use Rattle.check_directory.proofs.elements.elements.Given as goal

abbrev pub invariant-loop-element : goal.invariant-loop-element
invariant-loop-element l = (l.number ≡ l.element-index) × (over (names l.fn.names) (first_entry (laws.flat_from (laws.element_at (plain l.kind)) 0 l.elements)) ≡ over (names l.names) (first_entry (laws.flat_from (laws.element_at (plain l.kind)) l.element-index (drop l.element-index l.elements))))
