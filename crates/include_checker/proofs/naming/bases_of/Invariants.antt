use Rattle.std.proofs.Common.{◌≡◌, map, take}
use Rattle.include_rules.specs.declared.entries.TextEntry.{TextEntry}
use Rattle.include_checker.proofs.naming.bases_of.Given as goal

abbrev pub invariant-loop-text : goal.invariant-loop-text
invariant-loop-text l = l.bases ≡ map (λ (t : TextEntry). t.base) (take l.text-index l.texts)
