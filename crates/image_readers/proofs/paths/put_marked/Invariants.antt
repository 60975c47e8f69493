use Rattle.std.proofs.Common.{◌≡◌, [], ◌∷◌, ◌++◌, take}
use Rattle.std.specs.Prelude.{flat_map}
use Rattle.image_readers.proofs.paths.put_marked.Given as goal

abbrev pub invariant-loop-byte : goal.invariant-loop-byte
invariant-loop-byte l = l.key ≡ l.initial.key ++ flat_map (λ b. 1 ∷ b ∷ []) (take l.byte-index l.name)
