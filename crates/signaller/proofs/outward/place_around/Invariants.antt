use Rattle.std.proofs.Common.{◌≡◌, ◌-◌}
use Rattle.signaller.specs.Search.{around, first_place}
use Rattle.signaller.specs.Sought.{fits, goes_outward}
use Rattle.signaller.proofs.outward.place_around.Given as goal

abbrev pub invariant-loop-back : goal.invariant-loop-back
invariant-loop-back l =
    first_place (fits l.sought) l.table (around (goes_outward l.sought) l.table (l.count - l.back) l.about)
    ≡ first_place (fits l.sought) l.table (around (goes_outward l.sought) l.table l.count l.offset)
