use Rattle.std.proofs.Common.{◌≡◌, ◌+◌, ◌-◌, sym, ap, ◌∙◌, arith}
use Rattle.code_forms.specs.Regions.{outward}
use Rattle.code_forms.proofs.Begun.{outward_more}
use Rattle.code_forms.proofs.lookups.region_outward.Goals as goal

pub loop-taken-preserved : goal.loop-taken-preserved
loop-taken-preserved c =
    let less : c.args.steps - (c.loop-taken.taken + 1) ≡ c.args.steps - c.loop-taken.taken - 1 = omega arith in
    ap (λ n. outward c.args.phrases.now n c.in-Some.outer) less
    ∙ (outward_more c.args.phrases.now (c.args.steps - c.loop-taken.taken) c.loop-taken.held c.in-Some.outer (let t = c.loop-taken-test.true in omega arith) (sym c.in-Some.ensures) ∙ c.loop-taken.invariant)
