use Rattle.std.proofs.Common.{rules}
use Rattle.check_scopes.specs.Shows.{means}
use Rattle.check_selectors.proofs.KeyLaws.{all_keys}
use Rattle.check_selectors.proofs.keys.places.Goals as goal

pub returns : goal.returns
returns g c = rw (all_keys c.args.fields.now c.args.keyed.now (means c.in_ok-numbers.numbers) (search rules) (search rules)) (search rules)
