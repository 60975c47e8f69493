use Rattle.std.proofs.Common.{arith}
use Rattle.machine_activations.specs.Calling.{LeadsTo}
use Rattle.machine_activations.proofs.NewFrame.{frame_full, frame_fits_there, frame_goes}
use Rattle.machine_activations.proofs.framing.add_frame.Goals as goal

pub returns-then-r-ge-ACTIVATIONS-clause-leads : goal.returns-then-r-ge-ACTIVATIONS-clause-leads
unfolding LeadsTo
returns-then-r-ge-ACTIVATIONS-clause-leads c image prepared e s m reaches =
    frame_full image c.args.stack.now.layout prepared c.args.stack.now.region.items c.args.stack.now.rows.items c.args.r c.args.called.now c.args.instance c.args.number e c.requires.room.ample s m reaches c.if-r-ge-ACTIVATIONS.true

pub enter-requires-clause-args : goal.enter-requires-clause-args
enter-requires-clause-args c =
    let fits = frame_fits_there c.args.stack.now.layout c.args.stack.now.region.items c.args.stack.now.rows.items c.args.r c.args.called.now c.args.instance c.args.number c.requires.enters c.requires.room.ample in
    let args = c.from-args.ensures in let frame = c.from-frame.ensures in let less = fits.args in omega (arith, args, frame, less)

pub enter-requires-clause-below : goal.enter-requires-clause-below
enter-requires-clause-below c =
    (frame_fits_there c.args.stack.now.layout c.args.stack.now.region.items c.args.stack.now.rows.items c.args.r c.args.called.now c.args.instance c.args.number c.requires.enters c.requires.room.ample).below

pub returns-clause-leads : goal.returns-clause-leads
unfolding LeadsTo
returns-clause-leads c image prepared e s m reaches =
    frame_goes image c.args.stack.now.layout prepared c.args.stack.now.region.items c.args.stack.now.rows.items c.args.r c.args.called.now c.args.instance c.args.number c.requires.room.ample e s m reaches
    c.from-args.result c.from-frame.result c.make_room.new.region.items c.enter.new.region.items c.add_row.new.rows.items c.enter.result c.if-r-ge-ACTIVATIONS.false c.from-args.ensures c.from-frame.ensures
    c.make_room.ensures.words c.enter.ensures.words c.add_row.ensures c.enter.ensures.registers
