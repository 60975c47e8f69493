-- What the code's values stand for.
use Rattle.std.specs.Prelude.{List, map, Option, Some, None}
use Rattle.mesa_types.specs.Plain as tree
use Rattle.mesa_types.specs.Typed as t
use Rattle.mesa_types.specs.declared.typed_tree.TypedStmt.{TypedStmt}
use Rattle.mesa_types.specs.declared.typed_tree.Arm.{Arm}
use Rattle.mesa_types.specs.declared.typed_tree.Exit.{Exit}
use Rattle.check_rules.specs.Statements as rule
use Rattle.check_statement_lists.specs.declared.endings.Left.{Left}

unfoldable pub stmts : List TypedStmt → t.Stmts
stmts ss = tree.stmts (map tree.stmt ss)

unfoldable pub arms : List Arm → t.Arms
arms xs = tree.chain (map tree.arm xs) t.NoArms

unfoldable pub exits : List Exit → t.Exits
exits es = tree.chain (map tree.exit es) t.NoExits

-- the endings of a REPEAT so far, before those that come
abbrev pub or_finish : Option TypedStmt → t.Finish → t.Finish
or_finish None later = later
or_finish (Some s) later = t.Finished (tree.stmt s)

unfoldable pub onto : Left → rule.Left → rule.Left
onto done later = record { exits = tree.chain (map tree.exit done.exits) later.exits; finished = or_finish done.finished later.finished }

abbrev pub no_more : rule.Left
no_more = record { exits = t.NoExits; finished = t.NoFinish }

abbrev pub left : Left → rule.Left
left done = onto done no_more
