use Rattle.file_forms.proofs.Loops.{each_goes_on, each_is_cut, each_is_done}
use Rattle.std.specs.Prelude.{map}
use Rattle.object_rules.specs.ModuleForms.{given}
use Rattle.object_rules.specs.Parts.{procedure_part}
use Rattle.object_readers.proofs.export_rows.each_given.Goals as goal

pub pairs-preserved : goal.pairs-preserved
pairs-preserved c =
    each_goes_on (given c.args.signals.now (map procedure_part c.args.procedures.now) c.args.items.now) c.args.count c.pairs.counter c.pairs.all c.push.new.self c.in-Ok.pair c.pairs.input.rest.now c.given.new.input.rest.now _
    c.pairs-test.true c.pairs.invariant c.in-Ok.ensures c.in_ok-push.ensures.ok

pub returns-in-Err : goal.returns-in-Err
returns-in-Err c = λ other.
    each_is_cut (given c.args.signals.now (map procedure_part c.args.procedures.now) c.args.items.now) c.args.count c.pairs.counter c.pairs.all c.in-Err.why c.pairs.input.rest.now _
    c.pairs-test.true c.pairs.invariant (c.in-Err.ensures other)

pub returns : goal.returns
returns c = each_is_done (given c.args.signals.now (map procedure_part c.args.procedures.now) c.args.items.now) c.args.count c.pairs.counter c.pairs.all c.pairs.input.rest.now _ c.pairs-test.false c.pairs.invariant
