-- What the parts that are still to be read mention.
use Rattle.std.specs.Prelude.{List, [], ◌∷◌, ◌++◌, Option, Some, None}
use Rattle.syntax_trees.specs.PlainSyntax as plain
use Rattle.check_rules.specs.Mentions as m
use Rattle.check_rules.specs.Mentions.{Mention}
use Rattle.check_mentions.specs.declared.parts.Part.{Part}
use Rattle.check_mentions.specs.declared.parts.Part.TheVariants.{Text, Made, Written, Types, Fields, Expression, Expressions, Values, Operations, Suffixes, Arms, Statement, Statements, Targets, KeyedTargets, Cases, Tests, Locals, Exits, Repeats}
use Rattle.check_mentions.specs.declared.parts.Parts.{Parts}

abbrev pub of_part : Part → List Mention
of_part (Text bytes) = m.Text bytes.now ∷ []
of_part (Made token) = m.Made token ∷ []
of_part (Written e) = m.of_type (plain.type_exp e.now)
of_part (Types es) = m.of_types (plain.types es.now)
of_part (Fields fs) = m.of_named (plain.named_fields fs.now)
of_part (Expression e) = m.of_expr (plain.expr e.now)
of_part (Expressions es) = m.of_exprs (plain.exprs es.now)
of_part (Values es) = m.of_keyed (plain.keyed_exprs es.now)
of_part (Operations ss) = m.of_steps (plain.operations ss.now)
of_part (Suffixes ss) = m.of_suffixes (plain.suffixes ss.now)
of_part (Arms xs) = m.of_arms (plain.arms xs.now)
of_part (Statement x) = m.of_stmt (plain.statement x.now)
of_part (Statements xs) = m.of_stmts (plain.statements xs.now)
of_part (Targets ls) = m.of_lefts (plain.lefts ls.now)
of_part (KeyedTargets ls) = m.of_keyed_lefts (plain.keyed_lefts ls.now)
of_part (Cases cs) = m.of_cases (plain.cases cs.now)
of_part (Tests ts) = m.of_tests (plain.tests ts.now)
of_part (Locals xs) = m.of_locals (plain.locals xs.now)
of_part (Exits xs) = m.of_exits (plain.exits xs.now)
of_part (Repeats xs) = m.of_repeats (plain.repeats xs.now)

-- what is ahead where this part was taken
abbrev pub of_next : List Mention → Option Part → List Mention
of_next rest None = []
of_next rest (Some p) = of_part p ++ rest

-- the last of the parts is read first, and then what is behind
abbrev pub before : List Mention → List Part → List Mention
before behind [] = behind
before behind (p ∷ ps) = before (of_part p ++ behind) ps

unfoldable pub ahead : Parts → List Mention
ahead parts = before [] parts.stack.items
