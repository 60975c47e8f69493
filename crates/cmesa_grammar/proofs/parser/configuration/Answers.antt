use Rattle.cmesa_grammar.proofs.Answered.{found, found_tree, found_fault, halted, halted_tree, halted_fault}
use Rattle.cmesa_grammar.proofs.parser.configuration.Goals as goal

pub returns-in-Ok-clause-ok : goal.returns-in-Ok-clause-ok
returns-in-Ok-clause-ok c = found c.args.tokens.now.items c.as_slice.result.now c.text.new.tokens.rest.now c.in-Ok.config c.as_slice.ensures c.in-Ok.ensures

pub returns-in-Ok-clause-only_tree : goal.returns-in-Ok-clause-only_tree
returns-in-Ok-clause-only_tree c = found_tree c.args.tokens.now.items c.as_slice.result.now c.text.new.tokens.rest.now c.in-Ok.config c.as_slice.ensures c.in-Ok.ensures

pub returns-in-Ok-clause-only_fault : goal.returns-in-Ok-clause-only_fault
returns-in-Ok-clause-only_fault c = found_fault c.args.tokens.now.items c.as_slice.result.now c.text.new.tokens.rest.now c.args.tokens.now.end c.in-Ok.config c.as_slice.ensures c.in-Ok.ensures

pub returns-in-Err-clause-fault : goal.returns-in-Err-clause-fault
returns-in-Err-clause-fault c = halted c.args.tokens.now.items c.as_slice.result.now c.text.new.tokens.rest.now c.args.tokens.now.end c.end.result c.place.result c.in-Err.why c.fault.result c.as_slice.ensures c.end.ensures c.place.ensures c.fault.ensures c.in-Err.ensures

pub returns-in-Err-clause-only_tree : goal.returns-in-Err-clause-only_tree
returns-in-Err-clause-only_tree c = halted_tree c.args.tokens.now.items c.as_slice.result.now c.text.new.tokens.rest.now c.args.tokens.now.end c.end.result c.place.result c.in-Err.why c.fault.result c.as_slice.ensures c.end.ensures c.place.ensures c.fault.ensures c.in-Err.ensures

pub returns-in-Err-clause-only_fault : goal.returns-in-Err-clause-only_fault
returns-in-Err-clause-only_fault c = halted_fault c.args.tokens.now.items c.as_slice.result.now c.text.new.tokens.rest.now c.args.tokens.now.end c.end.result c.place.result c.in-Err.why c.fault.result c.as_slice.ensures c.end.ensures c.place.ensures c.fault.ensures c.in-Err.ensures
