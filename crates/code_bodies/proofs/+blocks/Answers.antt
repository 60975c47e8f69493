-- Which file answers which goal of the recursion.
use Rattle.code_bodies.proofs.+blocks.Answers.Expressions as of_expressions
use Rattle.code_bodies.proofs.+blocks.Answers.Statements as of_statements
use Rattle.code_bodies.proofs.+blocks.Answers.Lists as of_lists
use Rattle.code_bodies.proofs.+blocks.Answers.Loops as of_loops
use Rattle.code_bodies.proofs.+blocks.Goals as goal
mod Expressions
mod Statements
mod Lists
mod Loops

pub expressions::values-room_for_value-requires-clause-room : goal.expressions::values-room_for_value-requires-clause-room
expressions::values-room_for_value-requires-clause-room = of_expressions.expressions::values-room_for_value-requires-clause-room

pub expressions::values-room_for_value-requires-clause-fits : goal.expressions::values-room_for_value-requires-clause-fits
expressions::values-room_for_value-requires-clause-fits = of_expressions.expressions::values-room_for_value-requires-clause-fits

pub expressions::operands-room_for_jump-requires-clause-room : goal.expressions::operands-room_for_jump-requires-clause-room
expressions::operands-room_for_jump-requires-clause-room = of_expressions.expressions::operands-room_for_jump-requires-clause-room

pub expressions::operands-room_for_jump-requires-clause-fits : goal.expressions::operands-room_for_jump-requires-clause-fits
expressions::operands-room_for_jump-requires-clause-fits = of_expressions.expressions::operands-room_for_jump-requires-clause-fits

pub expressions::operations-room_for_value-requires-clause-room : goal.expressions::operations-room_for_value-requires-clause-room
expressions::operations-room_for_value-requires-clause-room = of_expressions.expressions::operations-room_for_value-requires-clause-room

pub expressions::long_operations-room_for_value-requires-clause-room : goal.expressions::long_operations-room_for_value-requires-clause-room
expressions::long_operations-room_for_value-requires-clause-room = of_expressions.expressions::long_operations-room_for_value-requires-clause-room

pub expressions::operations-room_for_value-requires-clause-fits : goal.expressions::operations-room_for_value-requires-clause-fits
expressions::operations-room_for_value-requires-clause-fits = of_expressions.expressions::operations-room_for_value-requires-clause-fits

pub expressions::long_operations-room_for_value-requires-clause-fits : goal.expressions::long_operations-room_for_value-requires-clause-fits
expressions::long_operations-room_for_value-requires-clause-fits = of_expressions.expressions::long_operations-room_for_value-requires-clause-fits

pub expressions::path-room_for_value-requires-clause-room : goal.expressions::path-room_for_value-requires-clause-room
expressions::path-room_for_value-requires-clause-room = of_expressions.expressions::path-room_for_value-requires-clause-room

pub expressions::path-room_for_value-requires-clause-fits : goal.expressions::path-room_for_value-requires-clause-fits
expressions::path-room_for_value-requires-clause-fits = of_expressions.expressions::path-room_for_value-requires-clause-fits

pub expressions::value-room_for_path-requires-clause-room : goal.expressions::value-room_for_path-requires-clause-room
expressions::value-room_for_path-requires-clause-room = of_expressions.expressions::value-room_for_path-requires-clause-room

pub expressions::value-room_for_path-requires-clause-fits : goal.expressions::value-room_for_path-requires-clause-fits
expressions::value-room_for_path-requires-clause-fits = of_expressions.expressions::value-room_for_path-requires-clause-fits

pub expressions::values-loop-e-preserved : goal.expressions::values-loop-e-preserved
expressions::values-loop-e-preserved = of_expressions.expressions::values-loop-e-preserved

pub expressions::operands-loop-e-preserved : goal.expressions::operands-loop-e-preserved
expressions::operands-loop-e-preserved = of_expressions.expressions::operands-loop-e-preserved

pub expressions::operations-loop-step-preserved : goal.expressions::operations-loop-step-preserved
expressions::operations-loop-step-preserved = of_expressions.expressions::operations-loop-step-preserved

pub expressions::long_operations-loop-step-preserved : goal.expressions::long_operations-loop-step-preserved
expressions::long_operations-loop-step-preserved = of_expressions.expressions::long_operations-loop-step-preserved

pub expressions::values-loop-e-init : goal.expressions::values-loop-e-init
expressions::values-loop-e-init = of_expressions.expressions::values-loop-e-init

pub expressions::operands-loop-e-init : goal.expressions::operands-loop-e-init
expressions::operands-loop-e-init = of_expressions.expressions::operands-loop-e-init

pub expressions::operations-loop-step-init : goal.expressions::operations-loop-step-init
expressions::operations-loop-step-init = of_expressions.expressions::operations-loop-step-init

pub expressions::long_operations-loop-step-init : goal.expressions::long_operations-loop-step-init
expressions::long_operations-loop-step-init = of_expressions.expressions::long_operations-loop-step-init

pub expressions::path-loop-suffix-init : goal.expressions::path-loop-suffix-init
expressions::path-loop-suffix-init = of_expressions.expressions::path-loop-suffix-init

pub expressions::path-indexed-requires-clause-fits : goal.expressions::path-indexed-requires-clause-fits
expressions::path-indexed-requires-clause-fits = of_expressions.expressions::path-indexed-requires-clause-fits

pub expressions::path-loop-suffix-preserved : goal.expressions::path-loop-suffix-preserved
expressions::path-loop-suffix-preserved = of_expressions.expressions::path-loop-suffix-preserved

pub expressions::value-called-requires-clause-fits : goal.expressions::value-called-requires-clause-fits
expressions::value-called-requires-clause-fits = of_expressions.expressions::value-called-requires-clause-fits

pub expressions::value-returns-in_ok-of-in-Call-2-clause-block : goal.expressions::value-returns-in_ok-of-in-Call-2-clause-block
expressions::value-returns-in_ok-of-in-Call-2-clause-block = of_expressions.expressions::value-returns-in_ok-of-in-Call-2-clause-block

pub expressions::value-called-requires-in-Raise-clause-fits : goal.expressions::value-called-requires-in-Raise-clause-fits
expressions::value-called-requires-in-Raise-clause-fits = of_expressions.expressions::value-called-requires-in-Raise-clause-fits

pub expressions::value-returns-in_ok-of-in-Raise-2-clause-block : goal.expressions::value-returns-in_ok-of-in-Raise-2-clause-block
expressions::value-returns-in_ok-of-in-Raise-2-clause-block = of_expressions.expressions::value-returns-in_ok-of-in-Raise-2-clause-block

pub statements::block-returns-in_ok-set-in-DeclareAs-clause-block : goal.statements::block-returns-in_ok-set-in-DeclareAs-clause-block
statements::block-returns-in_ok-set-in-DeclareAs-clause-block = of_statements.statements::block-returns-in_ok-set-in-DeclareAs-clause-block

pub statements::block-returns-in_ok-set-in-DeclareAs-clause-next : goal.statements::block-returns-in_ok-set-in-DeclareAs-clause-next
statements::block-returns-in_ok-set-in-DeclareAs-clause-next = of_statements.statements::block-returns-in_ok-set-in-DeclareAs-clause-next

pub statements::block-room_for_path-requires-clause-fits : goal.statements::block-room_for_path-requires-clause-fits
statements::block-room_for_path-requires-clause-fits = of_statements.statements::block-room_for_path-requires-clause-fits

pub statements::block-room_for_value-requires-in-Assign-clause-room : goal.statements::block-room_for_value-requires-in-Assign-clause-room
statements::block-room_for_value-requires-in-Assign-clause-room = of_statements.statements::block-room_for_value-requires-in-Assign-clause-room

pub statements::block-room_for_value-requires-in-Assign-clause-fits : goal.statements::block-room_for_value-requires-in-Assign-clause-fits
statements::block-room_for_value-requires-in-Assign-clause-fits = of_statements.statements::block-room_for_value-requires-in-Assign-clause-fits

pub statements::block-assigned-requires : goal.statements::block-assigned-requires
statements::block-assigned-requires = of_statements.statements::block-assigned-requires

pub statements::block-returns-in_ok-kept-in-Assign-clause-block : goal.statements::block-returns-in_ok-kept-in-Assign-clause-block
statements::block-returns-in_ok-kept-in-Assign-clause-block = of_statements.statements::block-returns-in_ok-kept-in-Assign-clause-block

pub statements::block-returns-in_ok-kept-in-Assign-clause-next : goal.statements::block-returns-in_ok-kept-in-Assign-clause-next
statements::block-returns-in_ok-kept-in-Assign-clause-next = of_statements.statements::block-returns-in_ok-kept-in-Assign-clause-next

pub statements::block-room_for_value-requires-in-Extract-clause-room : goal.statements::block-room_for_value-requires-in-Extract-clause-room
statements::block-room_for_value-requires-in-Extract-clause-room = of_statements.statements::block-room_for_value-requires-in-Extract-clause-room

pub statements::block-room_for_value-requires-in-Extract-clause-fits : goal.statements::block-room_for_value-requires-in-Extract-clause-fits
statements::block-room_for_value-requires-in-Extract-clause-fits = of_statements.statements::block-room_for_value-requires-in-Extract-clause-fits

pub statements::block-returns-in_ok-kept-in-Extract-clause-block : goal.statements::block-returns-in_ok-kept-in-Extract-clause-block
statements::block-returns-in_ok-kept-in-Extract-clause-block = of_statements.statements::block-returns-in_ok-kept-in-Extract-clause-block

pub statements::block-returns-in_ok-kept-in-Extract-clause-next : goal.statements::block-returns-in_ok-kept-in-Extract-clause-next
statements::block-returns-in_ok-kept-in-Extract-clause-next = of_statements.statements::block-returns-in_ok-kept-in-Extract-clause-next

pub statements::block-room_for_value-requires-in-Perform-clause-room : goal.statements::block-room_for_value-requires-in-Perform-clause-room
statements::block-room_for_value-requires-in-Perform-clause-room = of_statements.statements::block-room_for_value-requires-in-Perform-clause-room

pub statements::block-room_for_value-requires-in-Perform-clause-fits : goal.statements::block-room_for_value-requires-in-Perform-clause-fits
statements::block-room_for_value-requires-in-Perform-clause-fits = of_statements.statements::block-room_for_value-requires-in-Perform-clause-fits

pub statements::block-returns-in_ok-made-in-Perform-clause-block : goal.statements::block-returns-in_ok-made-in-Perform-clause-block
statements::block-returns-in_ok-made-in-Perform-clause-block = of_statements.statements::block-returns-in_ok-made-in-Perform-clause-block

pub statements::block-returns-in_ok-made-in-Perform-clause-next : goal.statements::block-returns-in_ok-made-in-Perform-clause-next
statements::block-returns-in_ok-made-in-Perform-clause-next = of_statements.statements::block-returns-in_ok-made-in-Perform-clause-next

pub statements::block-returns-in_ok-parts-in-If-clause-block : goal.statements::block-returns-in_ok-parts-in-If-clause-block
statements::block-returns-in_ok-parts-in-If-clause-block = of_statements.statements::block-returns-in_ok-parts-in-If-clause-block

pub statements::block-returns-in_ok-parts-in-If-clause-next : goal.statements::block-returns-in_ok-parts-in-If-clause-next
statements::block-returns-in_ok-parts-in-If-clause-next = of_statements.statements::block-returns-in_ok-parts-in-If-clause-next

pub statements::block-returns-in-Repeat-clause-block : goal.statements::block-returns-in-Repeat-clause-block
statements::block-returns-in-Repeat-clause-block = of_statements.statements::block-returns-in-Repeat-clause-block

pub statements::block-returns-in-Repeat-clause-next : goal.statements::block-returns-in-Repeat-clause-next
statements::block-returns-in-Repeat-clause-next = of_statements.statements::block-returns-in-Repeat-clause-next

pub statements::block-room_for_value-requires-in-Select-clause-room : goal.statements::block-room_for_value-requires-in-Select-clause-room
statements::block-room_for_value-requires-in-Select-clause-room = of_statements.statements::block-room_for_value-requires-in-Select-clause-room

pub statements::block-room_for_value-requires-in-Select-clause-fits : goal.statements::block-room_for_value-requires-in-Select-clause-fits
statements::block-room_for_value-requires-in-Select-clause-fits = of_statements.statements::block-room_for_value-requires-in-Select-clause-fits

pub statements::block-selected-requires : goal.statements::block-selected-requires
statements::block-selected-requires = of_statements.statements::block-selected-requires

pub statements::block-returns-in_ok-parts-in-Select-clause-block : goal.statements::block-returns-in_ok-parts-in-Select-clause-block
statements::block-returns-in_ok-parts-in-Select-clause-block = of_statements.statements::block-returns-in_ok-parts-in-Select-clause-block

pub statements::block-returns-in_ok-parts-in-Select-clause-next : goal.statements::block-returns-in_ok-parts-in-Select-clause-next
statements::block-returns-in_ok-parts-in-Select-clause-next = of_statements.statements::block-returns-in_ok-parts-in-Select-clause-next

pub statements::block-room_for_phrase-requires-clause-fits : goal.statements::block-room_for_phrase-requires-clause-fits
statements::block-room_for_phrase-requires-clause-fits = of_statements.statements::block-room_for_phrase-requires-clause-fits

pub statements::block-enclosed-requires-clause-fits : goal.statements::block-enclosed-requires-clause-fits
statements::block-enclosed-requires-clause-fits = of_statements.statements::block-enclosed-requires-clause-fits

pub statements::block-returns-in_ok-parts-in-Block-clause-block : goal.statements::block-returns-in_ok-parts-in-Block-clause-block
statements::block-returns-in_ok-parts-in-Block-clause-block = of_statements.statements::block-returns-in_ok-parts-in-Block-clause-block

pub statements::block-returns-in_ok-parts-in-Block-clause-next : goal.statements::block-returns-in_ok-parts-in-Block-clause-next
statements::block-returns-in_ok-parts-in-Block-clause-next = of_statements.statements::block-returns-in_ok-parts-in-Block-clause-next

pub statements::block-returns-in_ok-kept-in-For-clause-block : goal.statements::block-returns-in_ok-kept-in-For-clause-block
statements::block-returns-in_ok-kept-in-For-clause-block = of_statements.statements::block-returns-in_ok-kept-in-For-clause-block

pub statements::block-returns-in_ok-kept-in-For-clause-next : goal.statements::block-returns-in_ok-kept-in-For-clause-next
statements::block-returns-in_ok-kept-in-For-clause-next = of_statements.statements::block-returns-in_ok-kept-in-For-clause-next

pub statements::block-given-requires : goal.statements::block-given-requires
statements::block-given-requires = of_statements.statements::block-given-requires

pub statements::block-returned-requires : goal.statements::block-returned-requires
statements::block-returned-requires = of_statements.statements::block-returned-requires

pub statements::block-returns-in_ok-kept-in-ReturnWith-clause-block : goal.statements::block-returns-in_ok-kept-in-ReturnWith-clause-block
statements::block-returns-in_ok-kept-in-ReturnWith-clause-block = of_statements.statements::block-returns-in_ok-kept-in-ReturnWith-clause-block

pub statements::block-returns-in_ok-kept-in-ReturnWith-clause-next : goal.statements::block-returns-in_ok-kept-in-ReturnWith-clause-next
statements::block-returns-in_ok-kept-in-ReturnWith-clause-next = of_statements.statements::block-returns-in_ok-kept-in-ReturnWith-clause-next

pub statements::block-given-requires-in-Resume : goal.statements::block-given-requires-in-Resume
statements::block-given-requires-in-Resume = of_statements.statements::block-given-requires-in-Resume

pub statements::block-resumed-requires : goal.statements::block-resumed-requires
statements::block-resumed-requires = of_statements.statements::block-resumed-requires

pub statements::block-returns-in_ok-kept-in-Resume-clause-block : goal.statements::block-returns-in_ok-kept-in-Resume-clause-block
statements::block-returns-in_ok-kept-in-Resume-clause-block = of_statements.statements::block-returns-in_ok-kept-in-Resume-clause-block

pub statements::block-returns-in_ok-kept-in-Resume-clause-next : goal.statements::block-returns-in_ok-kept-in-Resume-clause-next
statements::block-returns-in_ok-kept-in-Resume-clause-next = of_statements.statements::block-returns-in_ok-kept-in-Resume-clause-next

pub statements::block-room_for_cases-requires-clause-room : goal.statements::block-room_for_cases-requires-clause-room
statements::block-room_for_cases-requires-clause-room = of_statements.statements::block-room_for_cases-requires-clause-room

pub statements::block-room_for_cases-requires-clause-fits : goal.statements::block-room_for_cases-requires-clause-fits
statements::block-room_for_cases-requires-clause-fits = of_statements.statements::block-room_for_cases-requires-clause-fits

pub statements::block-room_for_cases-requires-clause-small : goal.statements::block-room_for_cases-requires-clause-small
statements::block-room_for_cases-requires-clause-small = of_statements.statements::block-room_for_cases-requires-clause-small

pub statements::block-room_for_statement-requires-clause-room : goal.statements::block-room_for_statement-requires-clause-room
statements::block-room_for_statement-requires-clause-room = of_statements.statements::block-room_for_statement-requires-clause-room

pub statements::block-room_for_statement-requires-clause-fits : goal.statements::block-room_for_statement-requires-clause-fits
statements::block-room_for_statement-requires-clause-fits = of_statements.statements::block-room_for_statement-requires-clause-fits

pub statements::block-room_for_statements-requires-clause-room : goal.statements::block-room_for_statements-requires-clause-room
statements::block-room_for_statements-requires-clause-room = of_statements.statements::block-room_for_statements-requires-clause-room

pub statements::block-room_for_statements-requires-clause-fits : goal.statements::block-room_for_statements-requires-clause-fits
statements::block-room_for_statements-requires-clause-fits = of_statements.statements::block-room_for_statements-requires-clause-fits

pub statements::block-room_for_exits-requires-clause-room : goal.statements::block-room_for_exits-requires-clause-room
statements::block-room_for_exits-requires-clause-room = of_statements.statements::block-room_for_exits-requires-clause-room

pub statements::block-room_for_exits-requires-clause-fits : goal.statements::block-room_for_exits-requires-clause-fits
statements::block-room_for_exits-requires-clause-fits = of_statements.statements::block-room_for_exits-requires-clause-fits

pub phrases::arm_blocks-loop-arm-init : goal.phrases::arm_blocks-loop-arm-init
phrases::arm_blocks-loop-arm-init = of_lists.phrases::arm_blocks-loop-arm-init

pub phrases::arm_blocks-room_for_statement-requires-clause-room : goal.phrases::arm_blocks-room_for_statement-requires-clause-room
phrases::arm_blocks-room_for_statement-requires-clause-room = of_lists.phrases::arm_blocks-room_for_statement-requires-clause-room

pub phrases::arm_blocks-armed-requires-clause-few : goal.phrases::arm_blocks-armed-requires-clause-few
phrases::arm_blocks-armed-requires-clause-few = of_lists.phrases::arm_blocks-armed-requires-clause-few

pub phrases::arm_blocks-loop-arm-preserved : goal.phrases::arm_blocks-loop-arm-preserved
phrases::arm_blocks-loop-arm-preserved = of_lists.phrases::arm_blocks-loop-arm-preserved

pub phrases::arm_blocks-returns-clause-blocks : goal.phrases::arm_blocks-returns-clause-blocks
phrases::arm_blocks-returns-clause-blocks = of_lists.phrases::arm_blocks-returns-clause-blocks

pub phrases::arm_blocks-returns-clause-next : goal.phrases::arm_blocks-returns-clause-next
phrases::arm_blocks-returns-clause-next = of_lists.phrases::arm_blocks-returns-clause-next

pub statements::blocks-joined-requires : goal.statements::blocks-joined-requires
statements::blocks-joined-requires = of_lists.statements::blocks-joined-requires

pub statements::blocks-loop-s-preserved : goal.statements::blocks-loop-s-preserved
statements::blocks-loop-s-preserved = of_lists.statements::blocks-loop-s-preserved

pub statements::blocks-closed-requires : goal.statements::blocks-closed-requires
statements::blocks-closed-requires = of_lists.statements::blocks-closed-requires

pub statements::blocks-returns-clause-block : goal.statements::blocks-returns-clause-block
statements::blocks-returns-clause-block = of_lists.statements::blocks-returns-clause-block

pub statements::blocks-returns-clause-next : goal.statements::blocks-returns-clause-next
statements::blocks-returns-clause-next = of_lists.statements::blocks-returns-clause-next

pub cases::cases-joined-requires : goal.cases::cases-joined-requires
cases::cases-joined-requires = of_lists.cases::cases-joined-requires

pub cases::cases-loop-case-preserved : goal.cases::cases-loop-case-preserved
cases::cases-loop-case-preserved = of_lists.cases::cases-loop-case-preserved

pub cases::cases-returns-clause-blocks : goal.cases::cases-returns-clause-blocks
cases::cases-returns-clause-blocks = of_lists.cases::cases-returns-clause-blocks

pub cases::cases-returns-clause-next : goal.cases::cases-returns-clause-next
cases::cases-returns-clause-next = of_lists.cases::cases-returns-clause-next

pub cases::a_case-room_for_tests-requires-clause-room : goal.cases::a_case-room_for_tests-requires-clause-room
cases::a_case-room_for_tests-requires-clause-room = of_lists.cases::a_case-room_for_tests-requires-clause-room

pub cases::a_case-room_for_tests-requires-clause-fits : goal.cases::a_case-room_for_tests-requires-clause-fits
cases::a_case-room_for_tests-requires-clause-fits = of_lists.cases::a_case-room_for_tests-requires-clause-fits

pub cases::a_case-tested-requires : goal.cases::a_case-tested-requires
cases::a_case-tested-requires = of_lists.cases::a_case-tested-requires

pub cases::a_case-returns-clause-block : goal.cases::a_case-returns-clause-block
cases::a_case-returns-clause-block = of_lists.cases::a_case-returns-clause-block

pub cases::a_case-returns-clause-next : goal.cases::a_case-returns-clause-next
cases::a_case-returns-clause-next = of_lists.cases::a_case-returns-clause-next

pub loops::exits-loop-exit-preserved : goal.loops::exits-loop-exit-preserved
loops::exits-loop-exit-preserved = of_lists.loops::exits-loop-exit-preserved

pub loops::exits-returns-clause-blocks : goal.loops::exits-returns-clause-blocks
loops::exits-returns-clause-blocks = of_lists.loops::exits-returns-clause-blocks

pub loops::exits-returns-clause-together : goal.loops::exits-returns-clause-together
loops::exits-returns-clause-together = of_lists.loops::exits-returns-clause-together

pub loops::exits-returns-clause-next : goal.loops::exits-returns-clause-next
loops::exits-returns-clause-next = of_lists.loops::exits-returns-clause-next

pub cases::tests-room_for_test-requires-clause-room : goal.cases::tests-room_for_test-requires-clause-room
cases::tests-room_for_test-requires-clause-room = of_lists.cases::tests-room_for_test-requires-clause-room

pub cases::tests-room_for_test-requires-clause-fits : goal.cases::tests-room_for_test-requires-clause-fits
cases::tests-room_for_test-requires-clause-fits = of_lists.cases::tests-room_for_test-requires-clause-fits

pub cases::tests-joined-requires : goal.cases::tests-joined-requires
cases::tests-joined-requires = of_lists.cases::tests-joined-requires

pub cases::tests-loop-of-preserved : goal.cases::tests-loop-of-preserved
cases::tests-loop-of-preserved = of_lists.cases::tests-loop-of-preserved

pub cases::tests-closed-requires : goal.cases::tests-closed-requires
cases::tests-closed-requires = of_lists.cases::tests-closed-requires

pub cases::tests-returns-clause-block : goal.cases::tests-returns-clause-block
cases::tests-returns-clause-block = of_lists.cases::tests-returns-clause-block

pub cases::tests-returns-clause-next : goal.cases::tests-returns-clause-next
cases::tests-returns-clause-next = of_lists.cases::tests-returns-clause-next

pub cases::a_test-room_for_value-requires-clause-room : goal.cases::a_test-room_for_value-requires-clause-room
cases::a_test-room_for_value-requires-clause-room = of_lists.cases::a_test-room_for_value-requires-clause-room

pub cases::a_test-room_for_value-requires-in-IfRelatedLong-clause-room : goal.cases::a_test-room_for_value-requires-in-IfRelatedLong-clause-room
cases::a_test-room_for_value-requires-in-IfRelatedLong-clause-room = of_lists.cases::a_test-room_for_value-requires-in-IfRelatedLong-clause-room

pub cases::a_test-room_for_value-requires-clause-fits : goal.cases::a_test-room_for_value-requires-clause-fits
cases::a_test-room_for_value-requires-clause-fits = of_lists.cases::a_test-room_for_value-requires-clause-fits

pub cases::a_test-room_for_value-requires-in-IfRelatedLong-clause-fits : goal.cases::a_test-room_for_value-requires-in-IfRelatedLong-clause-fits
cases::a_test-room_for_value-requires-in-IfRelatedLong-clause-fits = of_lists.cases::a_test-room_for_value-requires-in-IfRelatedLong-clause-fits

pub cases::a_test-room_for_bounds-requires-clause-room : goal.cases::a_test-room_for_bounds-requires-clause-room
cases::a_test-room_for_bounds-requires-clause-room = of_lists.cases::a_test-room_for_bounds-requires-clause-room

pub cases::a_test-room_for_bounds-requires-in-IfWithinLong-clause-room : goal.cases::a_test-room_for_bounds-requires-in-IfWithinLong-clause-room
cases::a_test-room_for_bounds-requires-in-IfWithinLong-clause-room = of_lists.cases::a_test-room_for_bounds-requires-in-IfWithinLong-clause-room

pub cases::a_test-room_for_bounds-requires-clause-fits : goal.cases::a_test-room_for_bounds-requires-clause-fits
cases::a_test-room_for_bounds-requires-clause-fits = of_lists.cases::a_test-room_for_bounds-requires-clause-fits

pub cases::a_test-room_for_bounds-requires-in-IfWithinLong-clause-fits : goal.cases::a_test-room_for_bounds-requires-in-IfWithinLong-clause-fits
cases::a_test-room_for_bounds-requires-in-IfWithinLong-clause-fits = of_lists.cases::a_test-room_for_bounds-requires-in-IfWithinLong-clause-fits

pub cases::a_test-returns-in_ok-right-in-IfRelated-clause-next : goal.cases::a_test-returns-in_ok-right-in-IfRelated-clause-next
cases::a_test-returns-in_ok-right-in-IfRelated-clause-next = of_lists.cases::a_test-returns-in_ok-right-in-IfRelated-clause-next

pub cases::a_test-returns-in_ok-right-in-IfRelatedLong-clause-next : goal.cases::a_test-returns-in_ok-right-in-IfRelatedLong-clause-next
cases::a_test-returns-in_ok-right-in-IfRelatedLong-clause-next = of_lists.cases::a_test-returns-in_ok-right-in-IfRelatedLong-clause-next

pub cases::a_test-returns-in_ok-ends-in-IfWithin-clause-next : goal.cases::a_test-returns-in_ok-ends-in-IfWithin-clause-next
cases::a_test-returns-in_ok-ends-in-IfWithin-clause-next = of_lists.cases::a_test-returns-in_ok-ends-in-IfWithin-clause-next

pub cases::a_test-returns-in_ok-ends-in-IfWithinLong-clause-next : goal.cases::a_test-returns-in_ok-ends-in-IfWithinLong-clause-next
cases::a_test-returns-in_ok-ends-in-IfWithinLong-clause-next = of_lists.cases::a_test-returns-in_ok-ends-in-IfWithinLong-clause-next

pub targets::targets-room_for_path-requires-clause-room : goal.targets::targets-room_for_path-requires-clause-room
targets::targets-room_for_path-requires-clause-room = of_lists.targets::targets-room_for_path-requires-clause-room

pub targets::targets-room_for_path-requires-clause-fits : goal.targets::targets-room_for_path-requires-clause-fits
targets::targets-room_for_path-requires-clause-fits = of_lists.targets::targets-room_for_path-requires-clause-fits

pub targets::targets-take-requires-clause-small : goal.targets::targets-take-requires-clause-small
targets::targets-take-requires-clause-small = of_lists.targets::targets-take-requires-clause-small

pub targets::targets-take-requires-clause-fits : goal.targets::targets-take-requires-clause-fits
targets::targets-take-requires-clause-fits = of_lists.targets::targets-take-requires-clause-fits

pub targets::targets-loop-target-preserved : goal.targets::targets-loop-target-preserved
targets::targets-loop-target-preserved = of_lists.targets::targets-loop-target-preserved

pub targets::targets-taken-requires : goal.targets::targets-taken-requires
targets::targets-taken-requires = of_lists.targets::targets-taken-requires

pub targets::targets-returns-clause-block : goal.targets::targets-returns-clause-block
targets::targets-returns-clause-block = of_lists.targets::targets-returns-clause-block

pub targets::targets-returns-clause-next : goal.targets::targets-returns-clause-next
targets::targets-returns-clause-next = of_lists.targets::targets-returns-clause-next

pub phrases::arm_blocks-room_for_statement-requires-clause-fits : goal.phrases::arm_blocks-room_for_statement-requires-clause-fits
phrases::arm_blocks-room_for_statement-requires-clause-fits = of_lists.phrases::arm_blocks-room_for_statement-requires-clause-fits

pub loops::a_loop-room_for_condition-requires-clause-room : goal.loops::a_loop-room_for_condition-requires-clause-room
loops::a_loop-room_for_condition-requires-clause-room = of_loops.loops::a_loop-room_for_condition-requires-clause-room

pub loops::a_loop-room_for_condition-requires-clause-fits : goal.loops::a_loop-room_for_condition-requires-clause-fits
loops::a_loop-room_for_condition-requires-clause-fits = of_loops.loops::a_loop-room_for_condition-requires-clause-fits

pub loops::a_loop-repeating-requires : goal.loops::a_loop-repeating-requires
loops::a_loop-repeating-requires = of_loops.loops::a_loop-repeating-requires

pub loops::a_loop-looped-requires-clause-fits : goal.loops::a_loop-looped-requires-clause-fits
loops::a_loop-looped-requires-clause-fits = of_loops.loops::a_loop-looped-requires-clause-fits

pub loops::a_loop-returns-in_ok-parts-in-Some-clause-block : goal.loops::a_loop-returns-in_ok-parts-in-Some-clause-block
loops::a_loop-returns-in_ok-parts-in-Some-clause-block = of_loops.loops::a_loop-returns-in_ok-parts-in-Some-clause-block

pub loops::a_loop-returns-in_ok-parts-in-Some-clause-next : goal.loops::a_loop-returns-in_ok-parts-in-Some-clause-next
loops::a_loop-returns-in_ok-parts-in-Some-clause-next = of_loops.loops::a_loop-returns-in_ok-parts-in-Some-clause-next

pub loops::a_loop-looped-requires-in-None-clause-fits : goal.loops::a_loop-looped-requires-in-None-clause-fits
loops::a_loop-looped-requires-in-None-clause-fits = of_loops.loops::a_loop-looped-requires-in-None-clause-fits

pub loops::a_loop-returns-in-None-clause-block : goal.loops::a_loop-returns-in-None-clause-block
loops::a_loop-returns-in-None-clause-block = of_loops.loops::a_loop-returns-in-None-clause-block

pub loops::a_loop-returns-in-None-clause-next : goal.loops::a_loop-returns-in-None-clause-next
loops::a_loop-returns-in-None-clause-next = of_loops.loops::a_loop-returns-in-None-clause-next

pub loops::a_loop-room_for_statement-requires-clause-room : goal.loops::a_loop-room_for_statement-requires-clause-room
loops::a_loop-room_for_statement-requires-clause-room = of_loops.loops::a_loop-room_for_statement-requires-clause-room

pub loops::a_loop-room_for_statement-requires-clause-fits : goal.loops::a_loop-room_for_statement-requires-clause-fits
loops::a_loop-room_for_statement-requires-clause-fits = of_loops.loops::a_loop-room_for_statement-requires-clause-fits

pub loops::a_loop-room_for_exits-requires-clause-room : goal.loops::a_loop-room_for_exits-requires-clause-room
loops::a_loop-room_for_exits-requires-clause-room = of_loops.loops::a_loop-room_for_exits-requires-clause-room

pub loops::a_loop-room_for_exits-requires-clause-fits : goal.loops::a_loop-room_for_exits-requires-clause-fits
loops::a_loop-room_for_exits-requires-clause-fits = of_loops.loops::a_loop-room_for_exits-requires-clause-fits

pub loops::a_loop-room_for_finish-requires-clause-room : goal.loops::a_loop-room_for_finish-requires-clause-room
loops::a_loop-room_for_finish-requires-clause-room = of_loops.loops::a_loop-room_for_finish-requires-clause-room

pub loops::a_loop-room_for_finish-requires-clause-fits : goal.loops::a_loop-room_for_finish-requires-clause-fits
loops::a_loop-room_for_finish-requires-clause-fits = of_loops.loops::a_loop-room_for_finish-requires-clause-fits
