use Rattle.std.proofs.Common.{◌≡◌, ◌-◌}
use Rattle.code_forms.specs.Regions.{outward}
use Rattle.code_forms.proofs.lookups.region_outward.Given as goal

abbrev pub invariant-loop-taken : goal.invariant-loop-taken
invariant-loop-taken l = outward l.phrases (l.steps - l.taken) l.held ≡ outward l.phrases l.steps l.fn.region
