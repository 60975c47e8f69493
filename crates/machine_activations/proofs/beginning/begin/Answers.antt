use Rattle.std.proofs.Common.{length, replicate, ap, ◌∙◌, arith}
use Rattle.machine_topmost.specs.Flat.{with_part}
use Rattle.machine_activations.specs.Calling.{LeadsTo}
use Rattle.machine_activations.specs.Shows.{with_places}
use Rattle.machine_activations.proofs.Grown.{grown_wide}
use Rattle.machine_activations.proofs.Starting.{has_body, first_runs, begin_ends, begin_goes}
use Rattle.machine_activations.proofs.beginning.begin.Goals as goal

pub returns-then-turns-eq0-clause-leads : goal.returns-then-turns-eq0-clause-leads
unfolding LeadsTo
returns-then-turns-eq0-clause-leads c image prepared is s m turns reaches =
    begin_ends image c.args.stack.now.layout prepared c.args.code.now c.args.instance is s m reaches c.args.turns.now turns c.if-turns-eq0.true

pub bounds-as_slice-0 : goal.bounds-as_slice-0
bounds-as_slice-0 c = let some = has_body c.args.code.now in let e = ap length c.as_slice.ensures in omega (arith, some, e)

pub clear-requires : goal.clear-requires
clear-requires c =
    let fits = first_runs c.args.stack.now.layout c.args.code.now (with_places c.args.stack.now.region.items c.args.stack.now.layout 0) c.args.stack.now.rows.items c.requires.code
    (record { wide = grown_wide c.args.stack.now.region.items c.args.stack.now.layout 0; long = c.requires.rows }) c.as_slice.result.now c.index-as_slice-0.result c.as_slice.ensures c.index-as_slice-0.is in
    let long = ap length c.make_room.ensures.words in
    let frame = c.from-frame.ensures in record { room = omega (arith, fits, frame, long) }

pub returns-clause-leads : goal.returns-clause-leads
unfolding LeadsTo
returns-clause-leads c image prepared is s m turns reaches =
    begin_goes image c.args.stack.now.layout prepared c.args.code.now c.args.instance is (with_places c.args.stack.now.region.items c.args.stack.now.layout 0) c.args.stack.now.rows.items
    (record { wide = grown_wide c.args.stack.now.region.items c.args.stack.now.layout 0; long = c.requires.rows }) s m reaches c.args.turns.now turns c.if-turns-eq0.false
    c.as_slice.result.now c.index-as_slice-0.result c.from-frame.result c.as_slice.ensures c.index-as_slice-0.is c.from-frame.ensures c.clear.new.region.items (c.clear.ensures.words ∙ ap (λ w. with_part w 0 (replicate c.from-frame.result 0)) c.make_room.ensures.words)
