use Rattle.std.proofs.Common.{◌≡◌, [], None, drop, map}
use Rattle.check_rules.specs.syntax_trees.specs.declared.syntax.Keyed.{Keyed}
use Rattle.check_scopes.specs.Shows.{means}
use Rattle.check_selectors.specs.Keys.{places_from}
use Rattle.check_selectors.proofs.keys.all_places.Given as goal

abbrev pub invariant-loop-one : goal.invariant-loop-one
invariant-loop-one g l = places_from (means l.numbers) (λ x. None) [] (map (λ (x : Keyed _). x.key) l.keyed) ≡ places_from (means l.numbers) (means l.taken) l.places (map (λ (x : Keyed _). x.key) (drop l.one-index l.keyed))
