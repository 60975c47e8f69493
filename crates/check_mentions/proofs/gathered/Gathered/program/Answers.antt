use Rattle.std.proofs.Common.{List, [], ◌++◌, map, subst}
use Rattle.syntax_trees.specs.PlainSyntax as plain
use Rattle.syntax_trees.specs.declared.syntax.Declaration.{Declaration}
use Rattle.check_scopes.proofs.Innermost.{ok_also}
use Rattle.check_rules.specs.Mentions.{of_phrase, of_stmts, of_exits, of_declarations}
use Rattle.check_mentions.specs.Gathering.{Leaves}
use Rattle.check_mentions.proofs.ModuleForms.{three}
use Rattle.check_mentions.proofs.gathered.Gathered.program.Goals as goal

pub declarations-requires : goal.declarations-requires
declarations-requires c = c.in_ok-enabled.ensures.indexed

pub run-requires : goal.run-requires
run-requires c = c.in_ok-declarations.ensures.indexed

pub returns : goal.returns
returns c =
    let inner = c.args.inner.now in
    ok_also c.run.result
    (λ h. three c.args.self.now c.enabled.new.self c.declarations.new.self c.run.new.self (of_phrase (plain.phrase inner.enable))
    (of_declarations (map plain.declaration inner.declarations)) (of_stmts (plain.statements inner.statements) ++ of_exits (plain.exits inner.exits))
    c.in_ok-enabled.ensures
    (subst (λ (ds : List Declaration). Leaves c.enabled.new.self (of_declarations (map plain.declaration ds)) c.declarations.new.self [])
    c.as_slice.ensures c.in_ok-declarations.ensures)
    h)
    c.run.ensures
