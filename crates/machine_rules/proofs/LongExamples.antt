-- Each instruction over LONG numbers. Of a number's two words the more significant is pushed first, so it lies under the other.
use Rattle.std.specs.Prelude.{◌≡◌, refl, ℕ, List, [], ◌∷◌}
use Rattle.object_files.specs.mesa_types.specs.Operators.{OutOfBounds, DividedByZero, is_negative, differ, truth, by_divisor}
use Rattle.object_files.specs.mesa_types.specs.Longs.{more_of, less_of, long_of, wrap_long, shifted_long, opposite_long, is_negative_long, long_magnitude_if, long_magnitude, with_sign_long, quotient_long, remainder_long, related_long, extended_if, extended, is_in_common, is_word_of}
use Rattle.code_forms.specs.declared.instruction.Instruction.{Instruction}
use Rattle.code_forms.specs.declared.instruction.Instruction.TheVariants.{AddD, SubD, MulD, NegD, DivDI, ModDI, DivDC, ModDC, EqD, LessDI, LessDC, WidenI, WidenC, NarrowI, NarrowC, CheckD}
use Rattle.machine_rules.specs.Working.{Worked, Works, Faults, leaves, in_bounds, leaves_long, leaves_long_tried, works}

abbrev left : List ℕ → Worked
left operands = Works (record { operands = operands; variables = []; globals = [] })

unfoldable on : Instruction → List ℕ → Worked
unfolding is_negative differ truth by_divisor more_of less_of long_of wrap_long shifted_long opposite_long is_negative_long long_magnitude_if long_magnitude with_sign_long quotient_long remainder_long related_long extended_if extended is_in_common is_word_of leaves in_bounds leaves_long leaves_long_tried works
on i operands = works (λ m k. []) 0 i (record { operands = operands; variables = []; globals = [] })

-- 65535 + 1, 2147483647 + 1, 4294967295 + 1, 131071 + 196609 over a word that stays
add : on AddD (1 ∷ 0 ∷ 65535 ∷ 0 ∷ []) ∷ on AddD (1 ∷ 0 ∷ 65535 ∷ 32767 ∷ []) ∷ on AddD (1 ∷ 0 ∷ 65535 ∷ 65535 ∷ []) ∷ on AddD (1 ∷ 3 ∷ 65535 ∷ 1 ∷ 9 ∷ []) ∷ []
    ≡ left (0 ∷ 1 ∷ []) ∷ left (0 ∷ 32768 ∷ []) ∷ left (0 ∷ 0 ∷ []) ∷ left (0 ∷ 5 ∷ 9 ∷ []) ∷ []
unfolding on
add = refl

-- 65536 - 1, 1 - 65536, 0 - 1, -2147483648 - 1: the number pushed first is on the left
sub : on SubD (1 ∷ 0 ∷ 0 ∷ 1 ∷ []) ∷ on SubD (0 ∷ 1 ∷ 1 ∷ 0 ∷ []) ∷ on SubD (1 ∷ 0 ∷ 0 ∷ 0 ∷ []) ∷ on SubD (1 ∷ 0 ∷ 0 ∷ 32768 ∷ []) ∷ []
    ≡ left (65535 ∷ 0 ∷ []) ∷ left (1 ∷ 65535 ∷ []) ∷ left (65535 ∷ 65535 ∷ []) ∷ left (65535 ∷ 32767 ∷ []) ∷ []
unfolding on
sub = refl

-- 65535 * 65535, 65536 * 65536, -1 * 2
mul : on MulD (65535 ∷ 0 ∷ 65535 ∷ 0 ∷ []) ∷ on MulD (0 ∷ 1 ∷ 0 ∷ 1 ∷ []) ∷ on MulD (2 ∷ 0 ∷ 65535 ∷ 65535 ∷ []) ∷ []
    ≡ left (1 ∷ 65534 ∷ []) ∷ left (0 ∷ 0 ∷ []) ∷ left (65534 ∷ 65535 ∷ []) ∷ []
unfolding on
mul = refl

-- 0, 1, -2147483648
neg : on NegD (0 ∷ 0 ∷ []) ∷ on NegD (1 ∷ 0 ∷ []) ∷ on NegD (0 ∷ 32768 ∷ []) ∷ []
    ≡ left (0 ∷ 0 ∷ []) ∷ left (65535 ∷ 65535 ∷ []) ∷ left (0 ∷ 32768 ∷ []) ∷ []
unfolding on
neg = refl

-- -131071 by 1000; -2147483648 by -1; by 0
div_di : on DivDI (1000 ∷ 0 ∷ 1 ∷ 65534 ∷ []) ∷ on DivDI (65535 ∷ 65535 ∷ 0 ∷ 32768 ∷ []) ∷ on DivDI (0 ∷ 0 ∷ 1 ∷ 0 ∷ []) ∷ []
    ≡ left (65405 ∷ 65535 ∷ []) ∷ left (0 ∷ 32768 ∷ []) ∷ Faults DividedByZero ∷ []
unfolding on
div_di = refl

mod_di : on ModDI (1000 ∷ 0 ∷ 1 ∷ 65534 ∷ []) ∷ on ModDI (65535 ∷ 65535 ∷ 0 ∷ 32768 ∷ []) ∷ on ModDI (0 ∷ 0 ∷ 1 ∷ 0 ∷ []) ∷ []
    ≡ left (65465 ∷ 65535 ∷ []) ∷ left (0 ∷ 0 ∷ []) ∷ Faults DividedByZero ∷ []
unfolding on
mod_di = refl

-- 4294967295 by 65536, and by 2; 65536 by 65536 has a divisor whose less significant word is 0
div_dc : on DivDC (0 ∷ 1 ∷ 65535 ∷ 65535 ∷ []) ∷ on DivDC (2 ∷ 0 ∷ 65535 ∷ 65535 ∷ []) ∷ on DivDC (0 ∷ 1 ∷ 0 ∷ 1 ∷ []) ∷ on DivDC (0 ∷ 0 ∷ 1 ∷ 0 ∷ []) ∷ []
    ≡ left (65535 ∷ 0 ∷ []) ∷ left (65535 ∷ 32767 ∷ []) ∷ left (1 ∷ 0 ∷ []) ∷ Faults DividedByZero ∷ []
unfolding on
div_dc = refl

mod_dc : on ModDC (10 ∷ 0 ∷ 65535 ∷ 65535 ∷ []) ∷ on ModDC (0 ∷ 1 ∷ 65535 ∷ 65535 ∷ []) ∷ on ModDC (0 ∷ 0 ∷ 1 ∷ 0 ∷ []) ∷ []
    ≡ left (5 ∷ 0 ∷ []) ∷ left (65535 ∷ 0 ∷ []) ∷ Faults DividedByZero ∷ []
unfolding on
mod_dc = refl

-- both words count
eq_d : on EqD (0 ∷ 1 ∷ 0 ∷ 1 ∷ 9 ∷ []) ∷ on EqD (0 ∷ 1 ∷ 0 ∷ 0 ∷ []) ∷ on EqD (1 ∷ 0 ∷ 0 ∷ 0 ∷ []) ∷ []
    ≡ left (1 ∷ 9 ∷ []) ∷ left (0 ∷ []) ∷ left (0 ∷ []) ∷ []
unfolding on
eq_d = refl

-- -1 and 0; 0 and -1; 65536 and 1; -2147483648 and 2147483647
less_di : on LessDI (0 ∷ 0 ∷ 65535 ∷ 65535 ∷ []) ∷ on LessDI (65535 ∷ 65535 ∷ 0 ∷ 0 ∷ []) ∷ on LessDI (1 ∷ 0 ∷ 0 ∷ 1 ∷ []) ∷ on LessDI (65535 ∷ 32767 ∷ 0 ∷ 32768 ∷ []) ∷ []
    ≡ left (1 ∷ []) ∷ left (0 ∷ []) ∷ left (0 ∷ []) ∷ left (1 ∷ []) ∷ []
unfolding on
less_di = refl

less_dc : on LessDC (0 ∷ 0 ∷ 65535 ∷ 65535 ∷ []) ∷ on LessDC (65535 ∷ 65535 ∷ 0 ∷ 0 ∷ []) ∷ on LessDC (0 ∷ 1 ∷ 65535 ∷ 0 ∷ []) ∷ on LessDC (65535 ∷ 32767 ∷ 0 ∷ 32768 ∷ []) ∷ []
    ≡ left (0 ∷ []) ∷ left (1 ∷ []) ∷ left (1 ∷ []) ∷ left (0 ∷ []) ∷ []
unfolding on
less_dc = refl

-- -1, -32768 and 32767; 65535
widen : on WidenI (65535 ∷ []) ∷ on WidenI (32768 ∷ []) ∷ on WidenI (32767 ∷ []) ∷ on WidenC (65535 ∷ 9 ∷ []) ∷ []
    ≡ left (65535 ∷ 65535 ∷ []) ∷ left (32768 ∷ 65535 ∷ []) ∷ left (32767 ∷ 0 ∷ []) ∷ left (65535 ∷ 0 ∷ 9 ∷ []) ∷ []
unfolding on
widen = refl

-- 32767, 32768, -32768, -32769, 65536
narrow_i : on NarrowI (32767 ∷ 0 ∷ []) ∷ on NarrowI (32768 ∷ 0 ∷ []) ∷ on NarrowI (32768 ∷ 65535 ∷ []) ∷ on NarrowI (32767 ∷ 65535 ∷ []) ∷ on NarrowI (0 ∷ 1 ∷ []) ∷ []
    ≡ left (32767 ∷ []) ∷ Faults OutOfBounds ∷ left (32768 ∷ []) ∷ Faults OutOfBounds ∷ Faults OutOfBounds ∷ []
unfolding on
narrow_i = refl

-- 0, 65535, 65536, -1: the number is read with a sign
narrow_c : on NarrowC (0 ∷ 0 ∷ []) ∷ on NarrowC (65535 ∷ 0 ∷ []) ∷ on NarrowC (0 ∷ 1 ∷ []) ∷ on NarrowC (65535 ∷ 65535 ∷ []) ∷ []
    ≡ left (0 ∷ []) ∷ left (65535 ∷ []) ∷ Faults OutOfBounds ∷ Faults OutOfBounds ∷ []
unfolding on
narrow_c = refl

-- 2147483647 and 2147483648
check_d : on CheckD (65535 ∷ 32767 ∷ 9 ∷ []) ∷ on CheckD (0 ∷ 32768 ∷ []) ∷ [] ≡ left (65535 ∷ 32767 ∷ 9 ∷ []) ∷ Faults OutOfBounds ∷ []
unfolding on
check_d = refl
