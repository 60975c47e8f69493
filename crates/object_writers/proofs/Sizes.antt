-- The length of code, instruction by instruction.
use Rattle.std.proofs.Common.{◌≡◌, ℕ, ◌+◌, ◌<◌, ◌≤◌, ◌^◌, List, [], ◌∷◌, ◌++◌, length, take, drop, get_or, refl, ap, ◌∙◌, arith}
use Rattle.std.proofs.lemmas.List.{take-append-drop}
use Rattle.code_forms.specs.declared.module_code.CodeEntry.{CodeEntry}
use Rattle.code_forms.specs.Instructions.{bytes_of}
use Rattle.object_rules.specs.Filling.{size_of_all}
use Rattle.object_writers.specs.CodeBytes.{code_size}
use Rattle.object_writers.proofs.Lists.{take_more}

size_append : (xs ys : List CodeEntry) → code_size (xs ++ ys) ≡ code_size xs + code_size ys
unfolding size_of_all
size_append [] ys = omega arith
size_append (x ∷ xs) ys = omega (arith, size_append xs ys)

size_one : (x : CodeEntry) → code_size (x ∷ []) ≡ bytes_of x.instruction
unfolding size_of_all
size_one x = omega arith

pub size_none : (all : List CodeEntry) → code_size (take 0 all) ≡ 0
unfolding size_of_all
size_none all = refl

size_more : (all : List CodeEntry) (i : ℕ) (d : CodeEntry) → i < length all → code_size (take (i + 1) all) ≡ code_size (take i all) + bytes_of (get_or all i d).instruction
size_more all i d less =
    ap code_size (take_more all i d less) ∙ size_append (take i all) (get_or all i d ∷ []) ∙ ap (λ n. code_size (take i all) + n) (size_one (get_or all i d))

size_within : (all : List CodeEntry) (i : ℕ) → code_size (take i all) ≤ code_size all
size_within all i = omega (arith, ap code_size (take-append-drop i all), size_append (take i all) (drop i all))

-- one instruction more: the sum fits, and is that of the instructions so far
pub size_step : (all : List CodeEntry) (i sum n : ℕ) (d : CodeEntry) → code_size all < 2 ^ 32 → sum ≡ code_size (take i all) → i < length all → n ≡ bytes_of (get_or all i d).instruction
    → (sum + n < 2 ^ 32) × (sum + n ≡ code_size (take (i + 1) all))
size_step all i sum n d small so less is = (
  omega (arith, small, so, is, size_more all i d less, size_within all (i + 1)),
  omega (arith, so, is, size_more all i d less),
)
