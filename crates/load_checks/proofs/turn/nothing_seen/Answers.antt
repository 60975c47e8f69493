use Rattle.std.proofs.Common.{refl, arith}
use Rattle.load_checks.proofs.Turning.{holds_none}
use Rattle.load_checks.proofs.turn.nothing_seen.Goals as goal

pub returns : goal.returns
returns c =
    record {
      images_are = refl;
      instances_are = refl;
      modules_are = refl;
      few_instances = omega arith;
      few_modules = omega arith;
      holds = holds_none c.new.result.entries c.new.ensures.empty;
    }
