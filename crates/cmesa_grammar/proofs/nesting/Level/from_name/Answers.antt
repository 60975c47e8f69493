use Rattle.std.proofs.Common.{rules, arith}
use Rattle.std.proofs.lemmas.Grind.{common_steps}
use Rattle.cmesa_grammar.specs.ReadConfigs.{nested}
use Rattle.cmesa_grammar.proofs.Steps.{arrow_from, colon_from}
use Rattle.cmesa_grammar.proofs.nesting.Level.from_name.Goals as goal

pub returns-in-Some : goal.returns-in-Some
returns-in-Some g c = rw (arrow_from (nested c.args.self.now.depth) c.args.name c.in_ok-records.records c.args.tokens.now.rest.now c.takes_mark.new.self.rest.now c.in-Some.field-0 (first_of (search rules, grind (arith, common_steps))) (first_of (search rules, grind (arith, common_steps))) (first_of (search rules, grind (arith, common_steps)))) c.made.ensures

pub returns-in-Some-takes_mark : goal.returns-in-Some-takes_mark
returns-in-Some-takes_mark g c = rw (colon_from (nested c.args.self.now.depth) c.args.name c.args.tokens.now.rest.now c.takes_mark.new.self.rest.now c.takes_mark-2.new.self.rest.now c.in-Some-takes_mark.field-0 (first_of (search rules, grind (arith, common_steps))) (first_of (search rules, grind (arith, common_steps))) (first_of (search rules, grind (arith, common_steps))) (first_of (search rules, grind (arith, common_steps)))) c.declared.ensures
