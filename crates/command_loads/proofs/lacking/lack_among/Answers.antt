use Rattle.std.proofs.Common.{◌≡◌, true, false, All, refl, subst}
use Rattle.std.proofs.lemmas.List.{take_all}
use Rattle.interface_records.specs.Hosts.{IsHostItem}
use Rattle.command_loads.specs.Lacking.{built_in_of}
use Rattle.command_loads.proofs.Wanting.{first_lacking, had_more}
use Rattle.command_loads.proofs.lacking.lack_among.Goals as goal

pub loop-wanted-preserved : goal.loop-wanted-preserved
loop-wanted-preserved c =
    had_more c.args.wanteds.now c.loop-wanted.wanted-index c.wanted-item.result c.loop-wanted-test.true c.wanted-item.is (c.if-not-is_had.ensures.0 refl)
    c.loop-wanted.invariant

pub returns-then-not-is_had : goal.returns-then-not-is_had
returns-then-not-is_had c =
    first_lacking c.args.wanteds.now c.loop-wanted.wanted-index c.wanted-item.result c.in_ok-named_item.field-0 c.loop-wanted-test.true c.wanted-item.is
    (λ had. let e : false ≡ true = c.if-not-is_had.ensures.1 had in absurd cc) c.in_ok-named_item.ensures c.loop-wanted.invariant

pub returns : goal.returns
returns c =
    subst (λ wanteds. All IsHostItem (built_in_of wanteds)) (take_all c.loop-wanted.wanted-index c.args.wanteds.now c.loop-wanted-test.false) c.loop-wanted.invariant
