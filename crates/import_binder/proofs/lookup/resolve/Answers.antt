use Rattle.import_binder.specs.Bindings.{meant}
use Rattle.import_binder.specs.Choosing.{shown}
use Rattle.import_binder.proofs.Found.{nowhere, somewhere}
use Rattle.import_binder.proofs.lookup.resolve.Goals as goal

pub returns-in_default : goal.returns-in_default
unfolding shown meant
returns-in_default c = nowhere c.args.indexed.now c.requires c.args.face.now c.args.name.now c.args.place.now c.in_default.is

pub returns : goal.returns
returns c =
    somewhere c.args.indexed.now c.requires c.args.face.now c.args.name.now c.args.place.now c.in-Some.place c.in-Some.is c.in_ok-copy.field-0 c.in_ok-copy-2.field-0
    c.in_ok-copy.ensures c.in_ok-copy-2.ensures c.exporters_under-exporters.result.now c.exporters_under-exporters.ensures (shown c.choose.result) c.choose.ensures
