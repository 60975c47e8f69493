use Rattle.std.proofs.Common.{◌≡◌, ◌∷◌, take}
use Rattle.image_loader.proofs.naming.path_behind.Given as goal

abbrev pub invariant-loop-part : goal.invariant-loop-part
invariant-loop-part l = l.made ≡ l.name ∷ take l.part-index l.part-items
