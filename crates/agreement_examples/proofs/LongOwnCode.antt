-- Own code over LONG numbers, run by computing beside what it stands for: conversions, relations, intervals, values in their words.
use Rattle.std.specs.Prelude.{◌≡◌, refl, ℕ, List, [], ◌∷◌, true, false}
use Rattle.mesa_types.specs.declared.typed_parts.Base.TheVariants.{Signed, Unsigned}
use Rattle.mesa_types.specs.declared.typed_parts.Bases.{Bases}
use Rattle.mesa_types.specs.declared.typed_parts.Range.TheVariants.{Every, From}
use Rattle.mesa_types.specs.declared.typed_parts.Operator.TheVariants as operator
use Rattle.mesa_types.specs.declared.typed_parts.Conversion.{Conversion}
use Rattle.mesa_types.specs.declared.typed_parts.Conversion.TheVariants.{Kept, Widened, Narrowed, InCommon}
use Rattle.mesa_base.specs.declared.relation.Relation.TheVariants.{Equal, NotEqual, Less, AtMost, Greater, AtLeast}
use Rattle.mesa_types.specs.Typed.{Longs, Ordinal, NoKinds, AndKind}
use Rattle.mesa_types.specs.Shapes.{words_in, words_in_all}
use Rattle.mesa_types.specs.Operators as o
use Rattle.mesa_types.specs.Longs as l
use Rattle.source_meaning.specs.Value.{Word, Long, NoValues, AndValue}
use Rattle.code_forms.specs.declared.instruction.Instruction.{Instruction}
use Rattle.machine_rules.specs.Working.{leaves, stores_local, stores_global, in_bounds, leaves_tried, leaves_long, leaves_long_tried, works}
use Rattle.machine_rules.specs.Words.{push}
use Rattle.code_rules.specs.OwnCode.{long_code, conversion_code, long_operator_code, long_relation_code, long_within_code}
use Rattle.agreement_rules.specs.Own.{Done, Did, FaultAt, Strays, Outcome, Given, Raised, go_on, works_all, outcome, long_outcome}
use Rattle.agreement_rules.specs.Layout.{slots_of, value_at, values_at}
use Rattle.agreement_rules.specs.Operators.{words_for, outcome_by}

-- what code leaves of the operands, over none
abbrev outcome_of : Done → Outcome
outcome_of (Did w) = Given w.operands
outcome_of (FaultAt fault w) = Raised fault
outcome_of Strays = Given []

unfoldable ran : List Instruction → List ℕ → Outcome
unfolding o.wrap o.shifted o.opposite o.is_negative o.differ o.related o.truth o.fits o.by_divisor l.more_of l.less_of l.two_words l.long_of l.wrap_long l.shifted_long l.opposite_long l.is_negative_long l.long_magnitude_if l.long_magnitude l.with_sign_long l.quotient_long l.remainder_long l.related_long l.extended_if l.extended l.is_in_common l.is_word_of leaves stores_local stores_global in_bounds leaves_tried leaves_long leaves_long_tried works go_on works_all
ran code ins =
    outcome_of (works_all (λ m k. []) 0 code (record { operands = push ins []; variables = 0 ∷ 0 ∷ 0 ∷ 0 ∷ 0 ∷ 0 ∷ 0 ∷ 0 ∷ []; globals = [] }))

-- an outcome's words as operands
abbrev pushed : Outcome → Outcome
pushed (Given ws) = Given (push ws [])
pushed (Raised fault) = Raised fault

-- what a conversion's code comes to, and what the conversion means
unfoldable by_code : Conversion → ℕ → Outcome
unfolding ran l.more_of l.less_of l.two_words words_for
by_code c x = ran (conversion_code c) (words_for c x)

unfoldable by_meaning : Conversion → ℕ → Outcome
unfolding o.wrap o.shifted o.is_negative o.fits o.fine_if o.checked l.more_of l.less_of l.two_words l.shifted_long l.extended_if l.extended l.is_in_common l.widened l.is_word_of l.narrowed l.on_fine l.converted outcome long_outcome outcome_by
by_meaning c x = pushed (outcome_by c (l.converted c x))

abbrev all_by_code : List (Conversion × ℕ) → List Outcome
all_by_code [] = []
all_by_code (r ∷ rs) = by_code r.0 r.1 ∷ all_by_code rs

abbrev all_by_meaning : List (Conversion × ℕ) → List Outcome
all_by_meaning [] = []
all_by_meaning (r ∷ rs) = by_meaning r.0 r.1 ∷ all_by_meaning rs

abbrev conversions : List (Conversion × ℕ)
conversions =
    (Kept, 4294967295)
    ∷ (Widened Signed Signed, 65535) ∷ (Widened Signed Signed, 32767) ∷ (Widened Signed Unsigned, 32767) ∷ (Widened Signed Unsigned, 32768)
    ∷ (Widened Unsigned Signed, 65535) ∷ (Widened Unsigned Unsigned, 32768)
    ∷ (Narrowed Signed Signed Every, 32767) ∷ (Narrowed Signed Signed Every, 32768) ∷ (Narrowed Signed Signed Every, 4294934528)
    ∷ (Narrowed Signed Unsigned Every, 65535) ∷ (Narrowed Signed Unsigned Every, 65536) ∷ (Narrowed Signed Unsigned Every, 4294967295)
    ∷ (Narrowed Unsigned Signed Every, 32767) ∷ (Narrowed Unsigned Signed Every, 4294967295) ∷ (Narrowed Unsigned Unsigned Every, 65535)
    ∷ (Narrowed Unsigned Unsigned Every, 4294967295) ∷ (Narrowed Signed Signed (From Signed 65533 9), 4294967293)
    ∷ (Narrowed Signed Signed (From Signed 65533 9), 10) ∷ (Narrowed Unsigned Unsigned (From Unsigned 3 40000), 40000)
    ∷ (Narrowed Unsigned Unsigned (From Unsigned 3 40000), 2) ∷ (InCommon, 2147483647) ∷ (InCommon, 2147483648)
    ∷ []

conversions_agree : all_by_code conversions ≡ all_by_meaning conversions
unfolding by_code by_meaning
conversions_agree = refl

-- a literal; the words of a value are read the more significant one first
literals : ran (long_code 65536) [] ∷ ran (long_code 4294967294) [] ∷ [] ≡ Given (0 ∷ 1 ∷ []) ∷ Given (65534 ∷ 65535 ∷ []) ∷ []
unfolding ran
literals = refl

shown : values_at (λ m k. []) (slots_of (1 ∷ 2 ∷ 3 ∷ [])) 0 (AndKind Longs (AndKind Ordinal NoKinds)) ≡ AndValue (Long 65538) (AndValue (Word 3) NoValues)
unfolding l.long_of words_in words_in_all slots_of value_at values_at
shown = refl

-- each operator, of 70000 and -3
operators : ran (long_operator_code operator.Add) (1 ∷ 4464 ∷ 65535 ∷ 65533 ∷ []) ∷ ran (long_operator_code operator.Subtract) (1 ∷ 4464 ∷ 65535 ∷ 65533 ∷ [])
    ∷ ran (long_operator_code operator.Multiply) (1 ∷ 4464 ∷ 65535 ∷ 65533 ∷ []) ∷ ran (long_operator_code (operator.Divide Signed)) (1 ∷ 4464 ∷ 65535 ∷ 65533 ∷ [])
    ∷ ran (long_operator_code (operator.Divide Unsigned)) (65535 ∷ 65533 ∷ 1 ∷ 4464 ∷ []) ∷ ran (long_operator_code (operator.Modulo Signed)) (1 ∷ 4464 ∷ 65535 ∷ 65533 ∷ [])
    ∷ ran (long_operator_code (operator.Modulo Unsigned)) (65535 ∷ 65533 ∷ 1 ∷ 4464 ∷ []) ∷ []
    ≡ Given (4461 ∷ 1 ∷ []) ∷ Given (4467 ∷ 1 ∷ []) ∷ Given (52144 ∷ 65532 ∷ []) ∷ Given (42203 ∷ 65535 ∷ []) ∷ Given (61356 ∷ 0 ∷ []) ∷ Given (1 ∷ 0 ∷ []) ∷ Given (47293 ∷ 0 ∷ []) ∷ []
unfolding ran
operators = refl

-- each relation, of -1 and 0, by both bases
relations : ran (long_relation_code Signed Equal) (65535 ∷ 65535 ∷ 0 ∷ 0 ∷ []) ∷ ran (long_relation_code Signed NotEqual) (65535 ∷ 65535 ∷ 0 ∷ 0 ∷ [])
    ∷ ran (long_relation_code Signed Less) (65535 ∷ 65535 ∷ 0 ∷ 0 ∷ []) ∷ ran (long_relation_code Unsigned Less) (65535 ∷ 65535 ∷ 0 ∷ 0 ∷ [])
    ∷ ran (long_relation_code Signed AtMost) (65535 ∷ 65535 ∷ 0 ∷ 0 ∷ []) ∷ ran (long_relation_code Signed Greater) (65535 ∷ 65535 ∷ 0 ∷ 0 ∷ [])
    ∷ ran (long_relation_code Unsigned Greater) (65535 ∷ 65535 ∷ 0 ∷ 0 ∷ []) ∷ ran (long_relation_code Signed AtLeast) (65535 ∷ 65535 ∷ 0 ∷ 0 ∷ []) ∷ []
    ≡ Given (0 ∷ []) ∷ Given (1 ∷ []) ∷ Given (1 ∷ []) ∷ Given (0 ∷ []) ∷ Given (1 ∷ []) ∷ Given (0 ∷ []) ∷ Given (1 ∷ []) ∷ Given (0 ∷ []) ∷ []
unfolding ran
relations = refl

abbrev by : Bases
by = record { number = Unsigned; first = Signed; last = Unsigned }

-- whether 3000000000 lies from -1 up to 4000000000; whether -1 as a LONG CARDINAL does; whether 70000 lies in (70000..70001)
intervals : ran (long_within_code 0 by false false) (45776 ∷ 24064 ∷ 65535 ∷ 65535 ∷ 61035 ∷ 10240 ∷ []) ∷ ran (long_within_code 0 by false false) (65535 ∷ 65535 ∷ 65535 ∷ 65535 ∷ 61035 ∷ 10240 ∷ [])
    ∷ ran (long_within_code 0 by true true) (1 ∷ 4464 ∷ 1 ∷ 4464 ∷ 1 ∷ 4465 ∷ []) ∷ ran (long_within_code 0 by false true) (1 ∷ 4464 ∷ 1 ∷ 4464 ∷ 1 ∷ 4465 ∷ []) ∷ []
    ≡ Given (1 ∷ []) ∷ Given (0 ∷ []) ∷ Given (0 ∷ []) ∷ Given (1 ∷ []) ∷ []
unfolding ran
intervals = refl
