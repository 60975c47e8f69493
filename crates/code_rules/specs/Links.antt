-- The links of a module's code: one for each used item of its imports, in order, numbered from 0 (rule of this project).
use Rattle.std.specs.Prelude.{ℕ, zero, suc, ◌+◌, List, [], ◌∷◌, length, nat_eq, if◌then◌else◌}
use Rattle.mesa_types.specs.declared.faces.Import.{Import}
use Rattle.mesa_types.specs.declared.typed_parts.Callee.{Callee}
use Rattle.mesa_types.specs.declared.typed_parts.Callee.TheVariants.{OwnProcedure, LinkedProcedure}
use Rattle.mesa_types.specs.declared.typed_parts.Raised.{Raised}
use Rattle.mesa_types.specs.declared.typed_parts.Raised.TheVariants.{OwnSignal, LinkedSignal, TheBoundsFault, TheZeroDivisor, TheUnnamed}
use Rattle.mesa_types.specs.declared.typed_parts.Label as t
use Rattle.mesa_types.specs.declared.typed_parts.Label.TheVariants.{OnAny, OnUnwind, OnOwn, OnLinked, OnBounds, OnZero}
use Rattle.code_forms.specs.declared.instruction.Instruction.{Instruction}
use Rattle.code_forms.specs.declared.instruction.Instruction.TheVariants.{Call, CallLink, Raise, RaiseLink, RaiseHost}
use Rattle.code_forms.specs.declared.module_code.Label.{Label}
use Rattle.code_forms.specs.declared.module_code.Label.TheVariants.{Any, Unwind, Own, Link, BoundsFault, ZeroDivisor}

-- how many numbers stand before one in a list
abbrev pub rank : ℕ → List ℕ → ℕ
rank n [] = 0
rank n (m ∷ ms) = if nat_eq m n then 0 else suc (rank n ms)

-- the link of the item of some number of the import of some number
abbrev pub link_number : List Import → (import item : ℕ) → ℕ
link_number [] k n = 0
link_number (m ∷ ms) zero n = rank n m.used
link_number (m ∷ ms) (suc k) n = length m.used + link_number ms k n

abbrev pub call_code : List Import → Callee → Instruction
call_code imports (OwnProcedure q) = Call q
call_code imports (LinkedProcedure k n) = CallLink (link_number imports k n)

abbrev pub raise_code : List Import → Raised → Instruction
raise_code imports (OwnSignal n) = Raise n
raise_code imports (LinkedSignal k n) = RaiseLink (link_number imports k n)
raise_code imports TheBoundsFault = RaiseHost 0
raise_code imports TheZeroDivisor = RaiseHost 1
raise_code imports TheUnnamed = RaiseHost 2

abbrev pub label_code : List Import → t.Label → Label
label_code imports OnAny = Any
label_code imports OnUnwind = Unwind
label_code imports (OnOwn n) = Own n
label_code imports (OnLinked k n) = Link (link_number imports k n)
label_code imports OnBounds = BoundsFault
label_code imports OnZero = ZeroDivisor
