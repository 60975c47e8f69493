use Rattle.std.proofs.Common.{◌<◌, ◌-◌, length, get_or, refl, sym, arith}
use Rattle.std.proofs.lemmas.Bool.{eqb-true, eqb-false}
use Rattle.signaller.proofs.Sweeping.{no_phrase, none_open, last_open}
use Rattle.signaller.proofs.sweep.innermost_open.Goals as goal

pub returns-then-is_empty : goal.returns-then-is_empty
returns-then-is_empty c =
    none_open c.args.table.now c.args.opened.now c.args.next c.args.at no_phrase c.requires.sorted c.requires.sweeps c.requires.later
    (eqb-true (length c.args.opened.now) 0 (sym c.if-is_empty.ensures))

pub returns : goal.returns
returns c =
    let some : 0 < length c.args.opened.now = let e = eqb-false (length c.args.opened.now) 0 (sym c.if-is_empty.ensures) in omega (arith, e) in
    last_open c.args.table.now c.args.opened.now c.args.next c.args.at (get_or c.args.opened.now (length c.args.opened.now - 1) 0) no_phrase c.requires.sorted c.requires.sweeps c.requires.later some refl (c.requires.stays some)
