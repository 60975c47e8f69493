-- The block that reads a variable or a part of it, by that of the path to the part (rule of this project).
use Rattle.std.specs.Prelude.{ℕ, [], ◌∷◌, if◌then◌else◌}
use Rattle.mesa_types.specs.declared.typed_parts.Home.{Home}
use Rattle.mesa_types.specs.Typed as t
use Rattle.code_rules.specs.Reading.{Coded}
use Rattle.code_rules.specs.Slots.{fields_of, load, load_within}
use Rattle.code_blocks.specs.Blocks.{Block, Does, ◌▹◌}
use Rattle.code_blocks.specs.Translation.{at_element, has_index}

abbrev pub read_of : Coded → Home → t.Suffixes → (words : ℕ) → (path : Block) → Block
read_of P h s words path =
    if has_index s then at_element s (path ▹ Does (load_within P h words ∷ [])) else Does (load P h (fields_of s) words ∷ [])
