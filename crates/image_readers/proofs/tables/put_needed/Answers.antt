use Rattle.std.proofs.Common.{map}
use Rattle.object_readers.specs.Rows.{module_part}
use Rattle.image_readers.proofs.Linking.{one_more, cut}
use Rattle.object_rules.specs.ImageForms.{needed_of}
use Rattle.image_readers.proofs.tables.put_needed.Goals as goal

pub returns : goal.returns
returns c = λ needed more start on.
    one_more (map module_part c.args.head.now.modules) c.args.head.now.wanted c.args.instances.now needed c.args.all.now c.push.new.self (needed_of c.args.face.now c.args.item.now) more
    c.in-Ok.link c.args.input.now.rest.now c.link.new.input.rest.now start on c.in-Ok.ensures c.in_ok-push.ensures.ok

pub returns-in-Err : goal.returns-in-Err
returns-in-Err c = λ needed more start on other.
    cut (map module_part c.args.head.now.modules) c.args.head.now.wanted c.args.instances.now needed c.args.all.now (needed_of c.args.face.now c.args.item.now) more
    c.in-Err.why c.args.input.now.rest.now start on (c.in-Err.ensures other)
