use Rattle.std.proofs.Common.{◌≡◌, ◌+◌, ◌++◌, drop}
use Rattle.mesa_types.specs.Plain.{kinds_of}
use Rattle.mesa_types.specs.Shapes.{words_in_all}
use Rattle.code_trees.specs.Starts.{ends_from}
use Rattle.code_trees.proofs.laying.put_ends.Given as goal

abbrev pub invariant-loop-field : goal.invariant-loop-field
invariant-loop-field l =
    (l.fn.starts ++ ends_from l.fn.words (kinds_of l.fields) ≡ l.starts ++ ends_from l.end (kinds_of (drop l.field-index l.fields)))
    × (l.end + words_in_all (kinds_of (drop l.field-index l.fields)) ≡ l.fn.words + words_in_all (kinds_of l.fields))
