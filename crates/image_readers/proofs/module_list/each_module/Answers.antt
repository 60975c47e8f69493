use Rattle.std.proofs.Common.{map, ap, []}
use Rattle.std.proofs.lemmas.List.Elements.{All-nil, All-same}
use Rattle.file_forms.proofs.Loops.{each_goes_on, each_is_cut, each_is_done, each_begins}
use Rattle.object_readers.specs.Rows.{module_part, RowsFit}
use Rattle.object_rules.specs.ModuleForms.{module_form}
use Rattle.image_readers.proofs.Turns.{mapped_more, all_more}
use Rattle.image_readers.proofs.module_list.each_module.Goals as goal

pub modules-init : goal.modules-init
modules-init c = record {
  reads = each_begins (λ _. module_form c.args.version) c.args.count (map module_part c.new-all.result) c.args.input.now.rest.now (ap (map module_part) c.new-all.ensures);
  whole = All-same RowsFit c.new-all.result [] c.new-all.ensures (All-nil RowsFit);
}

pub modules-preserved : goal.modules-preserved
modules-preserved c = record {
  reads = each_goes_on (λ _. module_form c.args.version) c.args.count c.modules.counter (map module_part c.modules.all) (map module_part c.in_ok-all.all) (module_part c.in-Ok.rows)
      c.modules.input.rest.now c.module_rows.new.input.rest.now _ c.modules-test.true c.modules.invariant.reads c.in-Ok.ensures.read
      (mapped_more module_part c.modules.all c.in_ok-all.all c.in-Ok.rows c.in_ok-all.ensures);
  whole = all_more RowsFit c.modules.all c.in_ok-all.all c.in-Ok.rows c.in_ok-all.ensures c.modules.invariant.whole c.in-Ok.ensures.whole;
}

pub returns-in-Err-clause-read : goal.returns-in-Err-clause-read
returns-in-Err-clause-read c = λ other.
    each_is_cut (λ _. module_form c.args.version) c.args.count c.modules.counter (map module_part c.modules.all) c.in-Err.why c.modules.input.rest.now _
    c.modules-test.true c.modules.invariant.reads (c.in-Err.ensures.read other)

pub returns-clause-read : goal.returns-clause-read
returns-clause-read c =
    each_is_done (λ _. module_form c.args.version) c.args.count c.modules.counter (map module_part c.modules.all) c.modules.input.rest.now _ c.modules-test.false c.modules.invariant.reads
