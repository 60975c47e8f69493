-- How many bytes each operand has.
use Rattle.std.specs.Prelude.{ℕ, List, [], ◌∷◌}
use Rattle.module_readers.specs.declared.operands.Operands.{Operands}
use Rattle.module_readers.specs.declared.operands.Operands.TheVariants.{Plain, Word, Words, ThreeWords, Number, Byte, WordAndNumber}

abbrev pub sizes_in : Operands → List ℕ
sizes_in Plain = []
sizes_in Word = 2 ∷ []
sizes_in Words = 2 ∷ 2 ∷ []
sizes_in ThreeWords = 2 ∷ 2 ∷ 2 ∷ []
sizes_in Number = 4 ∷ []
sizes_in Byte = 1 ∷ []
sizes_in WordAndNumber = 2 ∷ 4 ∷ []
