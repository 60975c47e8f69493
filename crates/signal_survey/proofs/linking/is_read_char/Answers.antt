use Rattle.std.proofs.Common.{◌≡◌, Some, true, sym, subst, Bool}
use Rattle.std.specs.Prelude.{◌↔◌}
use Rattle.machine_rules.specs.LookUps.{host_named, ReadChar}
use Rattle.signal_survey.proofs.HostReads.{reads_char_of}
use Rattle.signal_survey.proofs.linking.is_read_char.Goals as goal

pub returns : goal.returns
returns c = subst (λ (b : Bool). (b ≡ true) ↔ (host_named c.args.name.now ≡ Some ReadChar)) (sym c.eq.ensures) (reads_char_of c.args.name.now c.as_slice.result.now c.as_slice.ensures)
