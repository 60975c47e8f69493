-- A statement as it is checked step by step: its operands are counted from its start, and it has a number where a phrase belongs to it.
use Rattle.std.specs.Prelude.{ℕ, ◌+◌, Bool, true, false, Option, Some, None, Ok, nat_le}
use Rattle.mesa_base.specs.declared.limits.TheConstants.{OPERAND_WORDS}
use Rattle.mesa_base.specs.declared.place.Place.{Place}
use Rattle.check_rules.specs.Typed as t
use Rattle.check_rules.specs.Around.{Around, in_statement}
use Rattle.check_rules.specs.Steps.{Check, and_then, ◌>>=◌, pure, only}
use Rattle.check_rules.specs.declared.fault.Cause.TheVariants.{FrameTooLarge}

-- what stands around the parts of a statement, and its number
abbrev pub around_if : Bool → Around → Around
around_if true a = in_statement a
around_if false a = a

abbrev pub number_if : Bool → Around → Option ℕ
number_if true a = Some a.marked
number_if false a = None

-- what was counted is not too much, and does not count outside
abbrev pub counted : ℕ → Place → ℕ → Check (Unit {0})
counted before p outside = λ s. and_then (only (nat_le (before + s.operands) OPERAND_WORDS) FrameTooLarge p) (λ _. Ok (tt, record s { operands = outside }))

-- all that it counts from its start to its end
abbrev pub counting : {A : Type 0} → ℕ → Place → Check A → Check A
counting before p m = λ s. and_then (m (record s { operands = 0 })) (λ r. and_then (counted before p s.operands r.1) (λ u. Ok (r.0, u.1)))

abbrev pub marked : Option ℕ → t.Stmt → t.Stmt
marked None x = x
marked (Some n) x = t.Marked n x

-- at its end: its number, the words that were counted for it before, where it begins, and the words that are counted outside
abbrev pub ended : Option ℕ → ℕ → Place → ℕ → t.Stmt → Check t.Stmt
ended number before p outside x = counted before p outside >>= (λ _. pure (marked number x))

-- from its start to its end
abbrev pub from_start : Around → Bool → ℕ → Place → (Around → Check t.Stmt) → Check t.Stmt
from_start a has_phrase before p rule = λ s.
    and_then (rule (around_if has_phrase a) (record s { operands = 0 })) (λ r. ended (number_if has_phrase a) before p s.operands r.0 r.1)
