-- Each instruction that works on one activation alone.
use Rattle.std.specs.Prelude.{◌≡◌, refl, ℕ, List, [], ◌∷◌, codes, ◌&&◌, nat_eq, if◌then◌else◌}
use Rattle.object_files.specs.mesa_types.specs.Operators.{OutOfBounds, DividedByZero, wrap, shifted, opposite, is_negative, magnitude_if, magnitude, with_sign, differ, quotient, remainder, related, truth, fits, by_divisor, fine_or, byte_at}
use Rattle.code_forms.specs.declared.instruction.Instruction.{Instruction}
use Rattle.code_forms.specs.declared.instruction.Instruction.TheVariants.{Lit, Str, LoadL, StoreL, LoadG, StoreG, LoadLX, StoreLX, LoadGX, StoreGX, Index, Add, Sub, Mul, Neg, DivI, ModI, DivC, ModC, Eq, LessI, LessC, Not, CheckI, CheckC, StrLen, StrAt, Pop, Roll, ZeroL, ZeroG, Return}
use Rattle.machine_rules.specs.Working.{Worked, Works, Faults, Touches, leaves, stores_local, stores_global, in_bounds, leaves_tried, works}

-- with these variables and globals, in module 4, whose literal 1 is abc
abbrev put : List ℕ → List ℕ → List ℕ → Worked
put operands variables globals = Works (record { operands = operands; variables = variables; globals = globals })

abbrev left : List ℕ → Worked
left operands = put operands (10 ∷ 11 ∷ 12 ∷ 13 ∷ []) (20 ∷ 21 ∷ 22 ∷ 23 ∷ [])

abbrev texts : ℕ → ℕ → List ℕ
texts m k = if nat_eq m 5 && nat_eq k 1 then codes "abc" else []

unfoldable on : Instruction → List ℕ → Worked
unfolding wrap shifted opposite is_negative magnitude_if magnitude with_sign differ quotient remainder related truth fits by_divisor fine_or byte_at leaves stores_local stores_global in_bounds leaves_tried works
on i operands = works texts 4 i (record { operands = operands; variables = 10 ∷ 11 ∷ 12 ∷ 13 ∷ []; globals = 20 ∷ 21 ∷ 22 ∷ 23 ∷ [] })

-- pushing
lit : on (Lit 7) (1 ∷ []) ≡ left (7 ∷ 1 ∷ [])
unfolding on
lit = refl

str : on (Str 1) [] ≡ left (1 ∷ 5 ∷ [])
unfolding on
str = refl

-- variables and globals, one word after the other; past the last one they are zero
load_l : on (LoadL 1 2) [] ≡ left (12 ∷ 11 ∷ [])
unfolding on
load_l = refl

load_past : on (LoadL 3 2) [] ≡ left (0 ∷ 13 ∷ [])
unfolding on
load_past = refl

load_none : on (LoadL 4 0) (6 ∷ []) ≡ left (6 ∷ [])
unfolding on
load_none = refl

store_l : on (StoreL 1 2) (9 ∷ 8 ∷ 7 ∷ []) ≡ put (7 ∷ []) (10 ∷ 8 ∷ 9 ∷ 13 ∷ []) (20 ∷ 21 ∷ 22 ∷ 23 ∷ [])
unfolding on
store_l = refl

load_g : on (LoadG 0 3) (4 ∷ []) ≡ left (22 ∷ 21 ∷ 20 ∷ 4 ∷ [])
unfolding on
load_g = refl

store_g : on (StoreG 3 1) (9 ∷ 8 ∷ []) ≡ put (8 ∷ []) (10 ∷ 11 ∷ 12 ∷ 13 ∷ []) (20 ∷ 21 ∷ 22 ∷ 9 ∷ [])
unfolding on
store_g = refl

zero_l : on (ZeroL 1 2) (4 ∷ []) ≡ put (4 ∷ []) (10 ∷ 0 ∷ 0 ∷ 13 ∷ []) (20 ∷ 21 ∷ 22 ∷ 23 ∷ [])
unfolding on
zero_l = refl

zero_g : on (ZeroG 0 4) [] ≡ put [] (10 ∷ 11 ∷ 12 ∷ 13 ∷ []) (0 ∷ 0 ∷ 0 ∷ 0 ∷ [])
unfolding on
zero_g = refl

-- at an offset: the words are within the extent, or the fault is raised
load_lx : on (LoadLX 1 3 2) (1 ∷ 5 ∷ []) ≡ left (13 ∷ 12 ∷ 5 ∷ [])
unfolding on
load_lx = refl

load_lx_beyond : on (LoadLX 1 3 2) (2 ∷ 5 ∷ []) ≡ Faults OutOfBounds
unfolding on
load_lx_beyond = refl

store_lx : on (StoreLX 0 4 2) (9 ∷ 8 ∷ 2 ∷ 5 ∷ []) ≡ put (5 ∷ []) (10 ∷ 11 ∷ 8 ∷ 9 ∷ []) (20 ∷ 21 ∷ 22 ∷ 23 ∷ [])
unfolding on
store_lx = refl

store_lx_beyond : on (StoreLX 0 4 2) (9 ∷ 8 ∷ 3 ∷ 5 ∷ []) ≡ Faults OutOfBounds
unfolding on
store_lx_beyond = refl

load_gx : on (LoadGX 0 4 1) (3 ∷ []) ≡ left (23 ∷ [])
unfolding on
load_gx = refl

load_gx_beyond : on (LoadGX 0 4 1) (4 ∷ []) ≡ Faults OutOfBounds
unfolding on
load_gx_beyond = refl

store_gx : on (StoreGX 1 2 1) (9 ∷ 1 ∷ []) ≡ put [] (10 ∷ 11 ∷ 12 ∷ 13 ∷ []) (20 ∷ 21 ∷ 9 ∷ 23 ∷ [])
unfolding on
store_gx = refl

store_gx_beyond : on (StoreGX 1 2 1) (9 ∷ 2 ∷ []) ≡ Faults OutOfBounds
unfolding on
store_gx_beyond = refl

-- an index, with the offset under it
index : on (Index 3 4) (2 ∷ 10 ∷ []) ≡ left (18 ∷ [])
unfolding on
index = refl

index_beyond : on (Index 3 4) (3 ∷ 10 ∷ []) ≡ Faults OutOfBounds
unfolding on
index_beyond = refl

index_wraps : on (Index 65535 2) (40000 ∷ 1 ∷ []) ≡ left (14465 ∷ [])
unfolding on
index_wraps = refl

-- arithmetic modulo 2^16; the word pushed first is on the left
add : on Add (2 ∷ 65535 ∷ 6 ∷ []) ≡ left (1 ∷ 6 ∷ [])
unfolding on
add = refl

sub : on Sub (5 ∷ 3 ∷ []) ≡ left (65534 ∷ [])
unfolding on
sub = refl

mul : on Mul (300 ∷ 300 ∷ []) ≡ left (24464 ∷ [])
unfolding on
mul = refl

neg : on Neg (1 ∷ []) ≡ left (65535 ∷ [])
unfolding on
neg = refl

neg_zero : on Neg (0 ∷ []) ≡ left (0 ∷ [])
unfolding on
neg_zero = refl

-- -7 by 2, -32768 by -1, and 65529 by 2; a quotient is truncated toward zero
div_i : on DivI (2 ∷ 65529 ∷ []) ≡ left (65533 ∷ [])
unfolding on
div_i = refl

mod_i : on ModI (2 ∷ 65529 ∷ []) ≡ left (65535 ∷ [])
unfolding on
mod_i = refl

div_i_least : on DivI (65535 ∷ 32768 ∷ []) ≡ left (32768 ∷ [])
unfolding on
div_i_least = refl

mod_i_least : on ModI (65535 ∷ 32768 ∷ []) ≡ left (0 ∷ [])
unfolding on
mod_i_least = refl

div_c : on DivC (2 ∷ 65529 ∷ []) ≡ left (32764 ∷ [])
unfolding on
div_c = refl

mod_c : on ModC (2 ∷ 65529 ∷ []) ≡ left (1 ∷ [])
unfolding on
mod_c = refl

div_i_zero : on DivI (0 ∷ 1 ∷ []) ≡ Faults DividedByZero
unfolding on
div_i_zero = refl

mod_i_zero : on ModI (0 ∷ 1 ∷ []) ≡ Faults DividedByZero
unfolding on
mod_i_zero = refl

div_c_zero : on DivC (0 ∷ 1 ∷ []) ≡ Faults DividedByZero
unfolding on
div_c_zero = refl

mod_c_zero : on ModC (0 ∷ 1 ∷ []) ≡ Faults DividedByZero
unfolding on
mod_c_zero = refl

-- comparisons: -1 is below 1, and 65535 is not
eq : on Eq (4 ∷ 4 ∷ []) ≡ left (1 ∷ [])
unfolding on
eq = refl

not_eq : on Eq (4 ∷ 5 ∷ []) ≡ left (0 ∷ [])
unfolding on
not_eq = refl

less_i : on LessI (1 ∷ 65535 ∷ []) ≡ left (1 ∷ [])
unfolding on
less_i = refl

less_c : on LessC (1 ∷ 65535 ∷ []) ≡ left (0 ∷ [])
unfolding on
less_c = refl

less_itself : on LessC (4 ∷ 4 ∷ []) ≡ left (0 ∷ [])
unfolding on
less_itself = refl

not_zero : on Not (0 ∷ []) ≡ left (1 ∷ [])
unfolding on
not_zero = refl

not_two : on Not (2 ∷ []) ≡ left (0 ∷ [])
unfolding on
not_two = refl

-- checks leave the word: -2 to 5, and 2 to 5
check_i : on (CheckI 65534 5) (65535 ∷ 6 ∷ []) ≡ left (65535 ∷ 6 ∷ [])
unfolding on
check_i = refl

check_i_first : on (CheckI 65534 5) (65534 ∷ []) ≡ left (65534 ∷ [])
unfolding on
check_i_first = refl

check_i_above : on (CheckI 65534 5) (6 ∷ []) ≡ Faults OutOfBounds
unfolding on
check_i_above = refl

check_i_below : on (CheckI 65534 5) (65533 ∷ []) ≡ Faults OutOfBounds
unfolding on
check_i_below = refl

check_c : on (CheckC 2 5) (5 ∷ []) ≡ left (5 ∷ [])
unfolding on
check_c = refl

check_c_below : on (CheckC 2 5) (1 ∷ []) ≡ Faults OutOfBounds
unfolding on
check_c_below = refl

check_c_above : on (CheckC 2 5) (65535 ∷ []) ≡ Faults OutOfBounds
unfolding on
check_c_above = refl

-- strings: literal 1 of module 4 is abc; two words that name none are an empty string
str_len : on StrLen (1 ∷ 5 ∷ 6 ∷ []) ≡ left (3 ∷ 6 ∷ [])
unfolding on
str_len = refl

str_len_none : on StrLen (2 ∷ 5 ∷ []) ≡ left (0 ∷ [])
unfolding on
str_len_none = refl

str_at : on StrAt (1 ∷ 1 ∷ 5 ∷ []) ≡ left (98 ∷ [])
unfolding on
str_at = refl

str_at_end : on StrAt (3 ∷ 1 ∷ 5 ∷ []) ≡ Faults OutOfBounds
unfolding on
str_at_end = refl

-- words moved: the words under the topmost ones come to the top, and both keep their order
pop : on (Pop 2) (4 ∷ 3 ∷ 2 ∷ []) ≡ left (2 ∷ [])
unfolding on
pop = refl

roll : on (Roll 1 2) (3 ∷ 2 ∷ 1 ∷ []) ≡ left (1 ∷ 3 ∷ 2 ∷ [])
unfolding on
roll = refl

roll_two : on (Roll 2 1) (4 ∷ 3 ∷ 2 ∷ 1 ∷ []) ≡ left (3 ∷ 2 ∷ 4 ∷ 1 ∷ [])
unfolding on
roll_two = refl

-- what is not there is 0
add_nothing : on Add [] ≡ left (0 ∷ [])
unfolding on
add_nothing = refl

-- an instruction that touches more
other : on Return [] ≡ Touches
unfolding on
other = refl
