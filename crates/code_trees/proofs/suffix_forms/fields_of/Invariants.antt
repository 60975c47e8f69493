use Rattle.std.proofs.Common.{◌≡◌, ◌+◌, map, drop}
use Rattle.mesa_base.specs.Chain.{chain}
use Rattle.mesa_types.specs.Plain.{suffix}
use Rattle.mesa_types.specs.Typed as t
use Rattle.code_rules.specs.Slots.{fields_of}
use Rattle.code_trees.proofs.suffix_forms.fields_of.Given as goal

abbrev pub invariant-loop-suffix : goal.invariant-loop-suffix
invariant-loop-suffix l =
    l.words + fields_of (chain (map suffix (drop l.suffix-index l.suffixes)) t.NoSuffix) ≡ fields_of (chain (map suffix l.suffixes) t.NoSuffix)
