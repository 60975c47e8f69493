-- The edges of the ranges that the code of each module keeps.
use Rattle.std.proofs.Common.{◌≡◌, ℕ, Bool, true, false, List, [], ◌∷◌, map, codes, refl}
use Rattle.code_forms.specs.declared.instruction.Instruction.TheVariants.{Return}
use Rattle.code_forms.specs.declared.module_code.CodeEntry.{CodeEntry}
use Rattle.code_forms.specs.declared.module_code.CodeKind.{CodeKind}
use Rattle.code_forms.specs.declared.module_code.CodeKind.TheVariants as k
use Rattle.code_forms.specs.declared.module_code.CodeProcedure.{CodeProcedure}
use Rattle.code_forms.specs.declared.module_code.Label.{Label}
use Rattle.code_forms.specs.declared.module_code.Label.TheVariants as l
use Rattle.code_forms.specs.declared.module_code.Phrase.{Phrase}
use Rattle.code_examples.proofs.InRange.{keeps}
use Rattle.code_examples.proofs.Tables.{procedure, phrase, arm, holds}

-- the sizes of a procedure beside a body: the frame, the words of arguments and results in it, the room on the operand stack
abbrev beside : CodeProcedure → Bool
beside p = keeps (holds (procedure 0 0 0 0 (Return ∷ []) [] ∷ p ∷ []))

abbrev sized : ℕ → ℕ → ℕ → ℕ → Bool
sized args results frame depth = beside (procedure args results frame depth (Return ∷ []) [])

sizes : sized 0 0 2048 65535 ∷ sized 0 0 2049 0 ∷ sized 0 0 0 65536 ∷ sized 1024 1024 2048 0 ∷ sized 1024 1024 2047 0 ∷ sized 65535 65535 2048 0 ∷ []
    ≡ true ∷ false ∷ false ∷ true ∷ false ∷ false ∷ []
sizes = refl

-- the body is there, and takes and gives nothing
bodies : keeps (holds []) ∷ keeps (holds (procedure 0 0 0 0 (Return ∷ []) [] ∷ [])) ∷ keeps (holds (procedure 1 0 1 0 (Return ∷ []) [] ∷ []))
    ∷ keeps (holds (procedure 0 1 1 0 (Return ∷ []) [] ∷ [])) ∷ []
    ≡ false ∷ true ∷ false ∷ false ∷ []
bodies = refl

-- instructions of one byte at these offsets
abbrev at : ℕ → CodeEntry
at offset = record { at = offset; depth = 0; instruction = Return }

abbrev offsets : List ℕ → Bool
offsets all = beside (record { name = codes "P"; args = 0; results = 0; frame = 0; depth = 0; code = map at all; phrases = [] })

order : offsets [] ∷ offsets (0 ∷ []) ∷ offsets (1 ∷ []) ∷ offsets (0 ∷ 1 ∷ 2 ∷ []) ∷ offsets (0 ∷ 2 ∷ []) ∷ offsets (0 ∷ 1 ∷ 1 ∷ []) ∷ []
    ≡ false ∷ true ∷ false ∷ true ∷ false ∷ false ∷ []
order = refl

-- a phrase has an arm, an arm has a label, and a label names a signal of the module or a link of a signal or an error
abbrev caught : List Phrase → Bool
caught phrases = beside (procedure 0 0 0 0 (Return ∷ []) phrases)

abbrev labelled : List Label → Bool
labelled labels = caught (phrase 9 3 (arm labels 9 9 2 1 ∷ []) ∷ [])

labels : labelled [] ∷ labelled (l.Own 1 ∷ []) ∷ labelled (l.Any ∷ l.Own 2 ∷ []) ∷ labelled (l.Link 0 ∷ []) ∷ labelled (l.Link 1 ∷ l.Link 2 ∷ [])
    ∷ labelled (l.Link 3 ∷ []) ∷ labelled (l.Unwind ∷ l.BoundsFault ∷ l.ZeroDivisor ∷ []) ∷ caught (phrase 0 1 [] ∷ []) ∷ []
    ≡ false ∷ true ∷ false ∷ false ∷ true ∷ false ∷ true ∷ false ∷ []
labels = refl

-- the globals; an entry of a signal is no procedure; an error has no results
abbrev with : ℕ → CodeKind → ℕ → CodeKind → ℕ → Bool
with globals kind results link_kind link_results = keeps (record {
  globals = globals;
  strings = [];
  signals = record { kind = kind; name = codes "S"; args = 9; results = results } ∷ [];
  links = record { kind = link_kind; args = 9; results = link_results } ∷ [];
  procedures = procedure 0 0 0 0 (Return ∷ []) [] ∷ [];
})

kinds : with 16384 k.Signal 9 k.Signal 9 ∷ with 16385 k.Signal 9 k.Signal 9 ∷ with 0 k.Procedure 0 k.Signal 9 ∷ with 0 k.Error 0 k.Procedure 9 ∷ with 0 k.Error 1 k.Signal 9
    ∷ with 0 k.Signal 9 k.Error 0 ∷ with 0 k.Signal 9 k.Error 1 ∷ []
    ≡ true ∷ false ∷ false ∷ true ∷ false ∷ true ∷ false ∷ []
kinds = refl
