-- The scopes show what they showed, and those before this turn are copied.
use Rattle.std.proofs.Common.{◌≡◌, map, take}
use Rattle.check_scopes.specs.Shows.{means}
use Rattle.check_scopes.proofs.scopes.Scopes.copy.Given as goal

abbrev pub invariant-loop-at : goal.invariant-loop-at
invariant-loop-at g l = record {
  stays : map means l.self.scopes.items ≡ map means l.fn.self.scopes.items;
  copied : map means l.scopes.items ≡ take l.at (map means l.fn.self.scopes.items);
}
