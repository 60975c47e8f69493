-- How the examples are written.
use Rattle.std.specs.Prelude.{◌+◌}
use Rattle.mesa_types.specs.Typed.{Stmt}
use Rattle.code_rules.specs.Reading.{Coded, scratch}
use Rattle.code_blocks.specs.Regions.{Written, written}
use Rattle.code_blocks.specs.Translation.{block}

-- what is written of the body of a procedure
abbrev pub written_of : Coded → Stmt → Written
written_of P s = written (block P (scratch P + 16) s)
