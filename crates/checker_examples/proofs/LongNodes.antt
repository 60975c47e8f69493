-- The typed trees of texts full of conversions have at most two nodes for each node of their syntax trees.
use Rattle.std.specs.Prelude.{◌≡◌, ℕ, ◌*◌, Bool, true, List, [], ◌∷◌, Option, Some, None, Ok, Err, codes, nat_le}
use Rattle.std.proofs.Common.{refl}
use Rattle.mesa_types.specs.Nodes as nodes
use Rattle.syntax_trees.specs.SyntaxNodes as syntax
use Rattle.syntax_trees.specs.Syntax as s
use Rattle.check_rules.specs.Typed as t
use Rattle.check_rules.specs.Steps.{Checked}
use Rattle.check_rules.specs.CheckedModule.{program_by}
use Rattle.check_rules.proofs.Lexing.{Token}
use Rattle.check_rules.proofs.Reading.{read}
use Rattle.check_rules.proofs.Texts.{in_program}
use Rattle.check_rules.proofs.Everything.{everything}

abbrev few_in : s.Module → Checked t.Module → Option Bool
few_in m (Ok x) = Some (nat_le (nodes.nodes x) (2 * syntax.module_nodes m))
few_in m (Err f) = None

abbrev few_of : Option (s.Module × List Token) → Option Bool
few_of (Some r) = few_in r.0 (program_by r.0 [] r.0.kind)
few_of None = None

abbrev few : List (List ℕ) → List (Option Bool)
few [] = []
few (x ∷ xs) = few_of (read (in_program x)) ∷ few xs

abbrev each : List (List ℕ) → List (Option Bool)
each [] = []
each (x ∷ xs) = Some true ∷ each xs

abbrev texts : List (List ℕ)
texts =
    -- arguments that are narrowed to a subrange
    codes "S: SIGNAL [x, y, z: INTEGER [0..9]] RETURNS [INTEGER] = CODE; n: LONG INTEGER; c: LONG CARDINAL; n _ SIGNAL S[n, c, n] + SIGNAL S[c, c, c];"
    -- each operand converted, in runs, relations, IN and tests
    ∷ codes "i: INTEGER; c: LONG CARDINAL; b: BOOLEAN; b _ c + i * c / i - i MOD c = i AND c < i AND i IN [c..i) AND c IN (i..i);"
    ∷ codes "i: INTEGER; c: LONG CARDINAL; SELECT c FROM i, i, i => NULL; < i, IN [i..i] => NULL ENDCASE; SELECT i FROM c, c, IN [c..c] => NULL ENDCASE;"
    -- each target converted
    ∷ codes "r: RECORD [x, y, z: LONG CARDINAL]; i, j: INTEGER; n: LONG INTEGER; [i, j, n] _ r; [z: i, x: n] _ r; i _ n; n _ i; i _ r.x;"
    -- closed runs
    ∷ codes "i: INTEGER; k: CARDINAL; c: LONG CARDINAL; n: LONG INTEGER; n _ k + c + i; n _ i + k + n; n _ (c + i) * (c + i); i _ -c + i;"
    ∷ []

few_nodes : few texts ≡ each texts
unfolding everything nodes.check_nodes nodes.conversion_nodes nodes.given_nodes nodes.count_of nodes.expr_nodes nodes.exprs_nodes nodes.suffixes_nodes nodes.operations_nodes nodes.interval_nodes nodes.phrase_nodes nodes.arms_nodes nodes.stmt_nodes nodes.stmts_nodes nodes.targets_nodes nodes.cases_nodes nodes.tests_nodes nodes.exits_nodes nodes.loop_nodes nodes.finish_nodes nodes.condition_nodes nodes.names_in nodes.procedure_nodes nodes.nodes syntax.type_nodes syntax.field_list_nodes syntax.named_fields_nodes syntax.types_nodes syntax.interval_nodes syntax.expr_nodes syntax.operations_nodes syntax.left_nodes syntax.suffixes_nodes syntax.brackets_nodes syntax.items_nodes syntax.exprs_nodes syntax.keyed_exprs_nodes syntax.raise_nodes syntax.maybe_brackets_nodes syntax.phrase_nodes syntax.arms_nodes syntax.statement_nodes syntax.maybe_statement_nodes syntax.maybe_items_nodes syntax.targets_nodes syntax.lefts_nodes syntax.keyed_lefts_nodes syntax.statements_nodes syntax.control_nodes syntax.count_nodes syntax.condition_nodes syntax.cases_nodes syntax.tests_nodes syntax.block_nodes syntax.locals_nodes syntax.plain_item_nodes syntax.exits_nodes syntax.repeats_nodes syntax.maybe_fields_nodes syntax.head_nodes syntax.declared_nodes syntax.declaration_nodes syntax.declarations_nodes syntax.inner_nodes syntax.defined_nodes syntax.definition_nodes syntax.definitions_nodes syntax.kind_nodes syntax.module_nodes
few_nodes = refl
