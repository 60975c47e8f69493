use Rattle.std.proofs.Common.{rules, arith}
use Rattle.std.proofs.lemmas.Grind.{common_steps}
use Rattle.cmesa_grammar.proofs.Steps.{colon_made}
use Rattle.cmesa_grammar.proofs.instances.made.Goals as goal

pub returns-in-Some : goal.returns-in-Some
returns-in-Some c = rw (colon_made c.args.place c.args.records c.in_ok-records.records c.in_ok-records.first c.args.tokens.now.rest.now c.named.new.tokens.rest.now c.takes_mark.new.self.rest.now c.in-Some.field-0 (first_of (search rules, grind (arith, common_steps))) (first_of (search rules, grind (arith, common_steps))) (first_of (search rules, grind (arith, common_steps))) (first_of (search rules, grind (arith, common_steps)))) c.named_instance.ensures
