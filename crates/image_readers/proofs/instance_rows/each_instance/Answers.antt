use Rattle.std.proofs.Common.{map, sym, subst, ap, List, ℕ}
use Rattle.file_forms.specs.Seen.{Shows}
use Rattle.file_forms.proofs.Loops.{each_goes_on, each_is_cut, each_is_done, each_begins}
use Rattle.image_readers.specs.Paths.{keys_of}
use Rattle.object_readers.specs.Rows.{module_part}
use Rattle.object_rules.specs.ImageForms.{instance_form}
use Rattle.image_readers.proofs.instance_rows.each_instance.Goals as goal

pub instances-init : goal.instances-init
instances-init c = record {
  reads = each_begins (instance_form (map module_part c.args.modules.now)) c.args.count c.new-all.result c.args.input.now.rest.now c.new-all.ensures;
  shows = subst (λ (ks : List (List ℕ)). Shows c.new-seen.result ks) (sym (ap keys_of c.new-all.ensures)) c.new-seen.ensures;
}

pub instances-preserved : goal.instances-preserved
instances-preserved c = record {
  reads = each_goes_on (instance_form (map module_part c.args.modules.now)) c.args.count c.instances.counter c.instances.all c.in_ok-all.all c.in-Ok.instance
      c.instances.input.rest.now c.instance.new.input.rest.now _ c.instances-test.true c.instances.invariant.reads (c.in-Ok.ensures _ c.instances.invariant.shows) c.in_ok-all.ensures.0;
  shows = c.in_ok-all.ensures.1;
}

pub returns-in-Err : goal.returns-in-Err
returns-in-Err c = λ other.
    each_is_cut (instance_form (map module_part c.args.modules.now)) c.args.count c.instances.counter c.instances.all c.in-Err.why c.instances.input.rest.now _
    c.instances-test.true c.instances.invariant.reads (c.in-Err.ensures _ c.instances.invariant.shows other)

pub returns : goal.returns
returns c =
    each_is_done (instance_form (map module_part c.args.modules.now)) c.args.count c.instances.counter c.instances.all c.instances.input.rest.now _ c.instances-test.false c.instances.invariant.reads
