use Rattle.std.proofs.Common.{◌≡◌, None}
use Rattle.file_forms.specs.Names.{name, fresh_name}
use Rattle.interface_writers.proofs.Loops.{none_yet, full_already}
use Rattle.interface_writers.proofs.ElementLaws.{name_fits, name_alike, element_written}
use Rattle.interface_writers.proofs.names.put_names.Goals as goal

pub names-init : goal.names-init
names-init c = none_yet fresh_name c.args.out.now c.args.names.now

pub returns-then-is_full : goal.returns-then-is_full
returns-then-is_full c =
    let full : c.names.out ≡ None = c.is_full.ensures.0 c.if-is_full.true in
    full_already fresh_name c.args.out.now c.names.out c.args.names.now c.names.name-index c.names.invariant full

pub name-requires : goal.name-requires
name-requires c = name_fits c.args.names.now c.names.name-index c.name-item.result c.requires c.names-test.true c.name-item.is

pub names-preserved : goal.names-preserved
names-preserved c = element_written fresh_name name name_alike c.args.out.now c.names.out c.name.new.self c.args.names.now c.names.name-index c.name-item.result c.names-test.true c.name-item.is c.names.invariant c.in_ok-name.ensures
