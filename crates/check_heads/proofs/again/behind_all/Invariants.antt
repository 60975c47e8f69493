use Rattle.std.proofs.Common.{◌≡◌, take}
use Rattle.check_rules.specs.Programs.{behind, passed_over}
use Rattle.check_state.specs.Views as words
use Rattle.check_heads.proofs.again.behind_all.Given as goal

abbrev pub invariant-loop-other : goal.invariant-loop-other
invariant-loop-other g l =
    words.state l.state ≡ behind g.T.Tries.named (g.T.Tries.rule l.tries (words.around l.around)) (take l.other-index l.others) (passed_over (g.T.Tries.named l.one) (g.T.Tries.before l.tries))
