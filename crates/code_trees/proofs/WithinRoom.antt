-- Where the code of an interval fits, its scratch words have slots.
use Rattle.std.proofs.Common.{◌≡◌, ℕ, ◌+◌, ◌≤◌, [], ◌∷◌, ◌++◌, Bool, true, false, arith}
use Rattle.mesa_types.specs.declared.typed_parts.Base.{Base}
use Rattle.mesa_types.specs.declared.typed_parts.Base.TheVariants.{Signed, Unsigned}
use Rattle.mesa_types.specs.declared.typed_parts.Bases.{Bases}
use Rattle.code_forms.specs.declared.instruction.Instruction.TheVariants.{Mul, Not}
use Rattle.code_rules.specs.OwnCode.{bound_code, less_code, long_bound_code, long_less_code, long_within_code, within_code}
use Rattle.code_trees.specs.Excess.{excess_in, excess_of}
use Rattle.code_trees.proofs.OwnCode.{excess_both}

left_less : (b c : Base) (s u : ℕ) → excess_in (less_code b s c u) ≡ 0 → s ≤ 65535
unfolding excess_in excess_of
left_less Signed Signed s u h = omega arith
left_less Signed Unsigned s u h = omega arith
left_less Unsigned Signed s u h = omega arith
left_less Unsigned Unsigned s u h = omega arith

right_less : (b c : Base) (s u : ℕ) → excess_in (less_code b s c u) ≡ 0 → u ≤ 65535
unfolding excess_in excess_of
right_less Signed Signed s u h = omega arith
right_less Signed Unsigned s u h = omega arith
right_less Unsigned Signed s u h = omega arith
right_less Unsigned Unsigned s u h = omega arith

last_bound : (is_open : Bool) (b c : Base) (s u : ℕ) → excess_in (bound_code is_open b s c u) ≡ 0 → u ≤ 65535
last_bound true b c s u h = right_less b c s u h
last_bound false b c s u h = left_less c b u s (omega (arith, h, excess_both (less_code c u b s) (Not ∷ [])))

pub within_room : (t : ℕ) (b : Bases) (open_first open_last : Bool) → excess_in (within_code t b open_first open_last) ≡ 0 → t + 2 ≤ 65535
unfolding excess_in
within_room t b p q h =
    let first = bound_code p b.first (t + 1) b.number t in
    let last = bound_code q b.number t b.last (t + 2) in
    last_bound q b.number b.last t (t + 2) (omega (arith, h, excess_both first (last ++ Mul ∷ []), excess_both last (Mul ∷ [])))

-- the same of LONG numbers

left_long_less : (b c : Base) (s u : ℕ) → excess_in (long_less_code b s c u) ≡ 0 → s ≤ 65535
unfolding excess_in excess_of
left_long_less Signed Signed s u h = omega arith
left_long_less Signed Unsigned s u h = omega arith
left_long_less Unsigned Signed s u h = omega arith
left_long_less Unsigned Unsigned s u h = omega arith

right_long_less : (b c : Base) (s u : ℕ) → excess_in (long_less_code b s c u) ≡ 0 → u ≤ 65535
unfolding excess_in excess_of
right_long_less Signed Signed s u h = omega arith
right_long_less Signed Unsigned s u h = omega arith
right_long_less Unsigned Signed s u h = omega arith
right_long_less Unsigned Unsigned s u h = omega arith

last_long_bound : (is_open : Bool) (b c : Base) (s u : ℕ) → excess_in (long_bound_code is_open b s c u) ≡ 0 → u ≤ 65535
last_long_bound true b c s u h = right_long_less b c s u h
last_long_bound false b c s u h = left_long_less c b u s (omega (arith, h, excess_both (long_less_code c u b s) (Not ∷ [])))

pub long_within_room : (t : ℕ) (b : Bases) (open_first open_last : Bool) → excess_in (long_within_code t b open_first open_last) ≡ 0 → t + 4 ≤ 65535
unfolding excess_in
long_within_room t b p q h =
    let first = long_bound_code p b.first (t + 2) b.number t in
    let last = long_bound_code q b.number t b.last (t + 4) in
    last_long_bound q b.number b.last t (t + 4) (omega (arith, h, excess_both first (last ++ Mul ∷ []), excess_both last (Mul ∷ [])))
