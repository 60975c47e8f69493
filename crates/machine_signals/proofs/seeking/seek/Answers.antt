use Rattle.std.proofs.Common.{◌≢◌, ◌-◌, arith}
use Rattle.machine_activations.proofs.Reach.{reaches_itself}
use Rattle.machine_signals.proofs.SeekLoop.{read_so, asked_so, asked_there, begins_there, lands_there, lands_so, own_low, uncaught_so, further_so}
use Rattle.machine_signals.proofs.seeking.seek.Goals as goal

pub seeking-init : goal.seeking-init
seeking-init c = record { lower = omega arith; asks = c.requires.first; reaches = λ region x S args m below less. reaches_itself c.args.image.now _ }

pub row_of-row-requires : goal.row_of-row-requires
row_of-row-requires c = let l = c.seeking.invariant.lower in let k = c.requires.long in record { there = omega (arith, l, k) }

pub ask-requires-clause-read : goal.ask-requires-clause-read
ask-requires-clause-read c =
    read_so c.args.image.now c.args.stack.now.rows.items c.seeking.place c.row_of-row.result c.row_of-row.ensures (c.requires.rows c.seeking.place c.seeking.invariant.lower).read

pub ask-requires-clause-asks : goal.ask-requires-clause-asks
ask-requires-clause-asks c =
    asked_so c.args.image.now c.args.stack.now.rows.items c.seeking.place c.row_of-row.result c.row_of-row.ensures c.seeking.search c.seeking.invariant.asks

pub returns-in-Arm-clause-landing : goal.returns-in-Arm-clause-landing
returns-in-Arm-clause-landing c =
    lands_there c.args.image.now c.args.stack.now.rows.items c.seeking.place c.row_of-row.result c.row_of-row.ensures c.args.signal c.seeking.search c.ask.result c.ask.ensures
    (c.requires.rows c.seeking.place c.seeking.invariant.lower) c.in-Arm.arm c.in-Arm.beyond c.in-Arm.is c.args.from c.seeking.invariant.lower

pub returns-in-Arm-clause-seeks : goal.returns-in-Arm-clause-seeks
returns-in-Arm-clause-seeks c region x S args m below less =
    let l = c.seeking.invariant.lower in
    lands_so c.args.image.now c.args.stack.now.rows.items c.seeking.place c.row_of-row.result c.row_of-row.ensures c.args.signal c.seeking.search c.ask.result c.ask.ensures
    (c.requires.rows c.seeking.place l) c.in-Arm.arm c.in-Arm.beyond c.in-Arm.is c.args.stack.now.layout region x S below (omega (arith, l, less)) args m _
    (c.seeking.invariant.reaches region x S args m below less)

pub returns-then-own-eq0-clause-seeks : goal.returns-then-own-eq0-clause-seeks
returns-then-own-eq0-clause-seeks c region x S args m below less =
    let l = c.seeking.invariant.lower in
    uncaught_so c.args.image.now c.args.stack.now.rows.items c.seeking.place c.row_of-row.result c.row_of-row.ensures c.args.signal c.seeking.search c.ask.result c.ask.ensures
    (c.requires.rows c.seeking.place l) c.in-Beyond.is c.owner_of-own.result c.owner_of-own.ensures c.if-own-eq0.true c.args.stack.now.layout region x S below (omega (arith, l, less)) args m _
    (c.seeking.invariant.reaches region x S args m below less)

pub row_of-requires : goal.row_of-requires
row_of-requires c =
    let l = c.seeking.invariant.lower in let k = c.requires.long in
    let o = own_low c.args.image.now c.args.stack.now.rows.items c.seeking.place c.row_of-row.result c.row_of-row.ensures c.args.signal c.seeking.search c.ask.result c.ask.ensures
    (c.requires.rows c.seeking.place l) c.in-Beyond.is c.owner_of-own.result c.owner_of-own.ensures in
    record { there = omega (arith, l, k, o) }

pub around-search-requires-clause-read : goal.around-search-requires-clause-read
around-search-requires-clause-read c =
    let l = c.seeking.invariant.lower in
    let o = own_low c.args.image.now c.args.stack.now.rows.items c.seeking.place c.row_of-row.result c.row_of-row.ensures c.args.signal c.seeking.search c.ask.result c.ask.ensures
    (c.requires.rows c.seeking.place l) c.in-Beyond.is c.owner_of-own.result c.owner_of-own.ensures in
    read_so c.args.image.now c.args.stack.now.rows.items (c.owner_of-own.result - 1) c.row_of.result c.row_of.ensures (c.requires.rows (c.owner_of-own.result - 1) (omega (arith, l, o))).read

pub seeking-smaller : goal.seeking-smaller
seeking-smaller c =
    let l = c.seeking.invariant.lower in
    let o = own_low c.args.image.now c.args.stack.now.rows.items c.seeking.place c.row_of-row.result c.row_of-row.ensures c.args.signal c.seeking.search c.ask.result c.ask.ensures
    (c.requires.rows c.seeking.place l) c.in-Beyond.is c.owner_of-own.result c.owner_of-own.ensures in
    let some : c.owner_of-own.result ≢ 0 = c.if-own-eq0.false in omega (arith, o, some)

pub seeking-preserved : goal.seeking-preserved
seeking-preserved c =
    let l = c.seeking.invariant.lower in
    let o = own_low c.args.image.now c.args.stack.now.rows.items c.seeking.place c.row_of-row.result c.row_of-row.ensures c.args.signal c.seeking.search c.ask.result c.ask.ensures
    (c.requires.rows c.seeking.place l) c.in-Beyond.is c.owner_of-own.result c.owner_of-own.ensures in
    record {
      lower = omega (arith, l, o);
      asks = asked_there c.args.image.now c.args.stack.now.rows.items (c.owner_of-own.result - 1) c.row_of.result c.row_of.ensures c.around-search.result c.around-search.ensures.asks;
      reaches = λ region x S args m below less.
          further_so c.args.image.now c.args.stack.now.rows.items c.seeking.place c.row_of-row.result c.row_of-row.ensures c.args.signal c.seeking.search c.ask.result c.ask.ensures
          (c.requires.rows c.seeking.place l) c.in-Beyond.is c.owner_of-own.result c.owner_of-own.ensures c.if-own-eq0.false c.args.stack.now.layout region x S below (omega (arith, l, less)) args m _
          (c.seeking.invariant.reaches region x S args m below less) c.around-search.result
          (begins_there c.args.image.now c.args.stack.now.rows.items (c.owner_of-own.result - 1) c.row_of.result c.row_of.ensures c.around-search.result c.around-search.ensures.begins);
    }
