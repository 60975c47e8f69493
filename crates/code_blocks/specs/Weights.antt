-- How many bytes the code and the phrases of procedures have in a file (rule of this project).
use Rattle.std.specs.Prelude.{ℕ, ◌+◌, List, [], ◌∷◌}
use Rattle.code_forms.specs.declared.module_code.Arm.{Arm}
use Rattle.code_forms.specs.declared.module_code.CodeEntry.{CodeEntry}
use Rattle.code_forms.specs.declared.module_code.CodeProcedure.{CodeProcedure}
use Rattle.code_forms.specs.declared.module_code.Label.{Label}
use Rattle.code_forms.specs.declared.module_code.Label.TheVariants.{Any, Unwind, Own, Link, BoundsFault, ZeroDivisor}
use Rattle.code_forms.specs.declared.module_code.Phrase.{Phrase}
use Rattle.code_forms.specs.Instructions.{bytes_of}

-- a kind, and the number of a signal or link
abbrev pub label_bytes : Label → ℕ
label_bytes Any = 1
label_bytes Unwind = 1
label_bytes (Own n) = 5
label_bytes (Link k) = 5
label_bytes BoundsFault = 1
label_bytes ZeroDivisor = 1

abbrev pub labels_bytes : List Label → ℕ
labels_bytes [] = 0
labels_bytes (l ∷ ls) = label_bytes l + labels_bytes ls

-- how many labels, the labels, the slot and the words, where the region begins and ends
abbrev pub arm_bytes : Arm → ℕ
arm_bytes a = 16 + labels_bytes a.labels

abbrev pub arms_bytes : List Arm → ℕ
arms_bytes [] = 0
arms_bytes (a ∷ rest) = arm_bytes a + arms_bytes rest

-- where the range begins and ends, how many arms, the arms
abbrev pub phrase_bytes : Phrase → ℕ
phrase_bytes p = 12 + arms_bytes p.arms

abbrev pub phrases_bytes : List Phrase → ℕ
phrases_bytes [] = 0
phrases_bytes (p ∷ ps) = phrase_bytes p + phrases_bytes ps

abbrev pub entries_bytes : List CodeEntry → ℕ
entries_bytes [] = 0
entries_bytes (e ∷ es) = bytes_of e.instruction + entries_bytes es

-- how many bytes of code, the code, how many phrases, the phrases
abbrev pub procedure_bytes : CodeProcedure → ℕ
procedure_bytes p = 4 + entries_bytes p.code + (4 + phrases_bytes p.phrases)

abbrev pub procedures_bytes : List CodeProcedure → ℕ
procedures_bytes [] = 0
procedures_bytes (p ∷ ps) = procedure_bytes p + procedures_bytes ps
