-- The blocks of statements by those of their parts, and the blocks of parts that stand in a list (rule of this project).
use Rattle.std.specs.Prelude.{ℕ, suc, ◌+◌, List, [], ◌∷◌, ◌++◌, map, Bool, true, false, not, if◌then◌else◌}
use Rattle.mesa_types.specs.declared.typed_parts.Base.{Base}
use Rattle.mesa_types.specs.declared.typed_parts.Bases.{Bases}
use Rattle.mesa_types.specs.declared.typed_parts.Conversion.{Conversion}
use Rattle.mesa_types.specs.declared.typed_parts.Conversion.TheVariants.{Kept}
use Rattle.mesa_types.specs.declared.typed_parts.Home.{Home}
use Rattle.mesa_types.specs.declared.typed_parts.Part.{Part}
use Rattle.mesa_types.specs.declared.typed_parts.Range.{Range}
use Rattle.mesa_base.specs.declared.relation.Relation.{Relation}
use Rattle.mesa_types.specs.Typed as t
use Rattle.mesa_types.specs.Operators.{differ}
use Rattle.mesa_types.specs.Counts.{hidden, hidden_expr, hidden_interval, hidden_tests, words_after, words_before}
use Rattle.code_forms.specs.declared.instruction.Instruction.{Instruction}
use Rattle.code_forms.specs.declared.instruction.Instruction.TheVariants as i
use Rattle.code_rules.specs.Loops as loops
use Rattle.code_rules.specs.Loops.{step_code}
use Rattle.code_rules.specs.OwnCode.{check_code, conversion_code, lift_code, pop_code}
use Rattle.code_rules.specs.Reading.{Coded, scratch}
use Rattle.code_rules.specs.Slots.{fields_of, store, store_within}
use Rattle.code_blocks.specs.Blocks.{Block, Labels, Here, Anyhow, Where, Does, Ends, Out, Rounds, nothing, ◌▹◌}
use Rattle.code_blocks.specs.Translation as spec
use Rattle.code_blocks.specs.Translation.{a_case, at_element, gives_next, has_index, head_code, long_within_of, past_exits, where_long_related, where_related, within_of}
use Rattle.code_trees.specs.Plain.{in_order, plain}
use Rattle.code_trees.specs.declared.counter.Counter.{Counter}
use Rattle.code_trees.specs.declared.counter.Counter.TheVariants as v
use Rattle.code_trees.specs.declared.part.Part as parts

abbrev pub is_null : t.Stmt → Bool
is_null t.Null = true
is_null _ = false

-- a jump to the end of a part around, or none where control falls there
abbrev pub past_if : Bool → (part : ℕ) → Block
past_if true part = Out Anyhow part
past_if false part = nothing

abbrev pub if_of : (test statement past otherwise : Block) → Block
if_of test statement past otherwise = Ends (Here 0) (Ends (Here 0) (test ▹ statement ▹ past) ▹ otherwise)

abbrev pub assign_of : Coded → Home → t.Suffixes → (words : ℕ) → (path value : Block) → Block
assign_of P h s words path value =
    if has_index s
    then at_element s (path ▹ value ▹ Does (store_within P h words ∷ []))
    else (value ▹ Does (store P h (fields_of s) words ∷ []))

-- Labels: the blocks of their statements, which begin with their hidden words one behind the other; and what stands before them, with
-- these behind it.

unfoldable pub exit_blocks : Coded → (z : ℕ) → t.Exits → List Block
exit_blocks P z t.NoExits = []
exit_blocks P z (t.AndExit ls s es) = spec.block P z s ∷ exit_blocks P (z + hidden s) es

unfoldable pub labelled : t.Exits → List Block → (before : Block) → Block
labelled (t.AndExit ls s es) (b ∷ bs) before = labelled es bs (Ends (Labels ls) before ▹ b ▹ past_exits es 0)
labelled _ _ before = before

-- Tests: the block of each; the last one's leads past the case where it fails.

abbrev pub if_last : Bool → ℕ
if_last last = if last then 1 else 0

abbrev pub related_of : (x : ℕ) → Range → Base → Relation → (last : Bool) → (value : Block) → Block
related_of x r base o last value = Does (i.LoadL x 1 ∷ check_code r) ▹ value ▹ where_related base o (not last) (if_last last)

abbrev pub within_test_of : Coded → (x : ℕ) → Bool → Bases → t.Interval → (last : Bool) → (bounds : Block) → Block
within_test_of P x negated bases range last bounds =
    Does (i.LoadL x 1 ∷ []) ▹ bounds ▹ Does (within_of (scratch P) bases range) ▹ Out (Where (differ negated (not last))) (if_last last)

-- the same of LONG numbers: the selector comes from its slot, or from that and the next, and is converted
abbrev pub long_related_of : (x : ℕ) → Conversion → Base → Relation → (last : Bool) → (value : Block) → Block
long_related_of x conversion base o last value =
    Does (i.LoadL x (words_before conversion) ∷ conversion_code conversion) ▹ value ▹ where_long_related base o (not last) (if_last last)

abbrev pub long_within_test_of : Coded → (x : ℕ) → Bool → Conversion → Bases → t.Interval → (last : Bool) → (bounds : Block) → Block
long_within_test_of P x negated conversion bases range last bounds =
    Does (i.LoadL x (words_before conversion) ∷ conversion_code conversion) ▹ bounds ▹ Does (long_within_of (scratch P) bases range)
    ▹ Out (Where (differ negated (not last))) (if_last last)

-- the first of some tests, by what its parts are
abbrev pub test_of : Coded → (z x : ℕ) → (last : Bool) → t.Tests → Block
test_of P z x last t.NoTests = nothing
test_of P z x last (t.IfRelated r base o e ts) = related_of x r base o last (spec.forms P z e).value
test_of P z x last (t.IfWithin negated bases range ts) = within_test_of P x negated bases range last (spec.bounds P z range)
test_of P z x last (t.IfRelatedLong conversion base o e ts) = long_related_of x conversion base o last (spec.forms P z e).value
test_of P z x last (t.IfWithinLong negated conversion bases range ts) =
    long_within_test_of P x negated conversion bases range last (spec.bounds P z range)

unfoldable pub test_blocks : Coded → (z x : ℕ) → t.Tests → List Block
test_blocks P z x t.NoTests = []
test_blocks P z x (t.IfRelated r base o e ts) =
    related_of x r base o (spec.is_last ts) (spec.forms P z e).value ∷ test_blocks P (z + hidden_expr e) x ts
test_blocks P z x (t.IfWithin negated bases range ts) =
    within_test_of P x negated bases range (spec.is_last ts) (spec.bounds P z range) ∷ test_blocks P (z + hidden_interval range) x ts
test_blocks P z x (t.IfRelatedLong conversion base o e ts) =
    long_related_of x conversion base o (spec.is_last ts) (spec.forms P z e).value ∷ test_blocks P (z + hidden_expr e) x ts
test_blocks P z x (t.IfWithinLong negated conversion bases range ts) =
    long_within_test_of P x negated conversion bases range (spec.is_last ts) (spec.bounds P z range) ∷ test_blocks P (z + hidden_interval range) x ts

abbrev pub tests_end : t.Tests → Block
tests_end ts = past_if (spec.is_last ts) 1

-- Cases: the block of each that has tests; the last of them jumps past the statement behind it where there is one.

abbrev pub goes_on : (passes : Bool) → t.Cases → Bool
goes_on passes (t.Otherwise s) = passes
goes_on passes (t.AndCase ts s cs) = true

abbrev pub case_of : Coded → (z x : ℕ) → t.Tests → t.Stmt → (jumps : Bool) → Block
case_of P z x ts s jumps = a_case (spec.tests P z x ts) (spec.block P (z + hidden_tests ts) s) (past_if jumps 1)

unfoldable pub case_blocks : Coded → (z x : ℕ) → (passes : Bool) → t.Cases → List Block
case_blocks P z x passes (t.Otherwise s) = []
case_blocks P z x passes (t.AndCase ts s cs) =
    case_of P z x ts s (goes_on passes cs) ∷ case_blocks P (z + (hidden_tests ts + hidden s)) x passes cs

-- the selector is held in so many slots from x on
abbrev pub select_of : (none : Bool) → (x held words : ℕ) → (selector : Block) → List Block → (last : Block) → Block
select_of true x held words selector bs last = selector ▹ Does (pop_code words) ▹ last
select_of false x held words selector bs last = selector ▹ Does (i.StoreL x held ∷ []) ▹ Ends (Here 0) (in_order bs last)

-- in how many words the selector of a SELECT is held
abbrev pub held_words : t.Stmt → ℕ
held_words (t.SelectLong e cs) = 2
held_words _ = 1

-- A target of an extractor: its part is converted or checked, and then stored.

abbrev pub given_code : Conversion → Range → List Instruction
given_code Kept r = check_code r
given_code c r = conversion_code c

-- the words that are stored, where the part has so many
abbrev pub words_stored : Conversion → (words : ℕ) → ℕ
words_stored Kept words = words
words_stored c words = words_after c

-- the part has so many words over it, before what stands behind it
abbrev pub target_of : Coded → (over : ℕ) → Part → Home → t.Suffixes → Conversion → Range → (path : Block) → List Block
target_of P over p h s c r path =
    if has_index s
    then
    Does (i.Lit (fields_of s) ∷ []) ∷ path
    ∷ Does (lift_code p.words (suc over) ++ (given_code c r ++ store_within P h (words_stored c p.words) ∷ [])) ∷ []
    else Does (lift_code p.words over ++ (given_code c r ++ store P h (fields_of s) (words_stored c p.words) ∷ [])) ∷ []

-- the rounds of a loop
abbrev pub rounds_of : Coded → loops.Counter → (condition body : Block) → Block
rounds_of P k condition body = Ends (Here 0) (Rounds (head_code k ▹ gives_next P k ▹ condition ▹ body ▹ Does (step_code k)))

-- how the code says that rounds are counted
abbrev pub counter_of : Counter → loops.Counter
counter_of v.Uncounted = loops.NoCounter
counter_of (v.CountedIn slot given down) = loops.CountedIn slot given down

-- the blocks of parts
unfoldable pub blocks_of : List parts.Part → List Block
blocks_of ps = map (λ p. plain p.block) ps
