-- The marked ones of the objects so far.
use Rattle.std.proofs.Common.{◌≡◌, flat_map}
use Rattle.link_tables.specs.Modules.{kept_one}
use Rattle.link_tables.proofs.modules.kept_objects.Given as goal

abbrev pub invariant-loop-object : goal.invariant-loop-object
invariant-loop-object l = l.kept ≡ flat_map (λ p. kept_one p.0 p.1.now) l.yielded
