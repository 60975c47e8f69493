use Rattle.std.proofs.Common.{◌≡◌, map, drop}
use Rattle.mesa_base.specs.Chain.{chain}
use Rattle.mesa_types.specs.Plain.{suffix}
use Rattle.mesa_types.specs.Typed as t
use Rattle.code_blocks.specs.Translation as spec
use Rattle.code_trees.proofs.suffix_forms.has_index.Given as goal

abbrev pub invariant-loop-suffix : goal.invariant-loop-suffix
invariant-loop-suffix l = spec.has_index (chain (map suffix (drop l.suffix-index l.suffixes)) t.NoSuffix) ≡ spec.has_index (chain (map suffix l.suffixes) t.NoSuffix)
