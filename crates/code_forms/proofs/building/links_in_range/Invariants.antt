use Rattle.std.specs.List.{AllWithin}
use Rattle.code_forms.specs.Ranges.{LinkInRange}
use Rattle.code_forms.proofs.building.links_in_range.Given as goal

abbrev pub invariant-loop-link : goal.invariant-loop-link
invariant-loop-link l = AllWithin LinkInRange l.links 0 l.link-index
