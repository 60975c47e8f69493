-- The laws of numbers and lengths with a rule.
use Rattle.std.proofs.Common.{ℕ, Bool}
use Rattle.mesa_base.specs.declared.file_fault.Field.TheVariants as field
use Rattle.file_forms.specs.Forms.{number}
use Rattle.file_forms.specs.Lawful.{Lawful}
use Rattle.file_forms.proofs.Fields.{number_law}
use Rattle.file_forms.proofs.Made.{ruled_law}
use Rattle.object_rules.specs.Numbers.{number_where, length_where}

pub number_where_law : (size : ℕ) (test : ℕ → Bool) → Lawful (number_where size test)
number_where_law size test = ruled_law (number size) test field.Number (number_law size)

pub length_where_law : (size : ℕ) (test : ℕ → Bool) → Lawful (length_where size test)
length_where_law size test = ruled_law (number size) test field.Length (number_law size)
