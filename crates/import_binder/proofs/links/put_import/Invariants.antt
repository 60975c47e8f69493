use Rattle.std.proofs.Common.{drop, flat_map, slice_get}
use Rattle.config_rules.specs.Resolves.{want}
use Rattle.import_binder.proofs.Linking.{Rest}
use Rattle.import_binder.proofs.links.put_import.Given as goal

abbrev pub invariant-loop-number : goal.invariant-loop-number
invariant-loop-number l =
    Rest l.initial.links l.links (flat_map (λ n. want l.indexed.tree.now l.instance l.record_name l.import.face (slice_get l.import.face.items n)) l.number-items)
    (flat_map (λ n. want l.indexed.tree.now l.instance l.record_name l.import.face (slice_get l.import.face.items n)) (drop l.number-index l.number-items))
