use Rattle.std.proofs.Common.{length}
use Rattle.file_forms.proofs.Loops.{each_goes_on, each_is_cut, each_is_done}
use Rattle.object_rules.specs.ModuleForms.{is_next}
use Rattle.object_rules.specs.Numbers.{number_where, last_of}
use Rattle.object_readers.proofs.import_rows.each_used.Goals as goal

pub numbers-preserved : goal.numbers-preserved
numbers-preserved c =
    each_goes_on (λ before. number_where 4 (is_next (length c.args.items.now) (last_of before))) c.args.count c.numbers.counter c.numbers.all c.push.new.self c.in-Ok.number c.numbers.input.rest.now c.next_used.new.input.rest.now _
    c.numbers-test.true c.numbers.invariant c.in-Ok.ensures c.in_ok-push.ensures.ok

pub returns-in-Err : goal.returns-in-Err
returns-in-Err c = λ other.
    each_is_cut (λ before. number_where 4 (is_next (length c.args.items.now) (last_of before))) c.args.count c.numbers.counter c.numbers.all c.in-Err.why c.numbers.input.rest.now _
    c.numbers-test.true c.numbers.invariant (c.in-Err.ensures other)

pub returns : goal.returns
returns c = each_is_done (λ before. number_where 4 (is_next (length c.args.items.now) (last_of before))) c.args.count c.numbers.counter c.numbers.all c.numbers.input.rest.now _ c.numbers-test.false c.numbers.invariant
