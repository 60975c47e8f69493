-- What a text asks for is named by plain bytes.
use Rattle.std.specs.Prelude.{ℕ, List, Option, Some, None}
use Rattle.std.specs.List.{All}
use Rattle.std.specs.Str.{IsAscii}
use Rattle.syntax_trees.specs.Syntax as s
use Rattle.command_rules.specs.checked_texts.specs.Asked.{asks}

abbrev pub IsPlain : Option (List ℕ) → Type 0
IsPlain None = Unit {0}
IsPlain (Some base) = IsAscii base

-- each base that a text asks for
abbrev pub AsksPlainly : s.Module → Type 0
AsksPlainly m = All IsPlain (asks m)
