use Rattle.std.proofs.Common.{ℕ, sym, subst, arith}
use Rattle.signaller.specs.Search.{innermost_of}
use Rattle.signaller.specs.Sweep.{Sweeps, BeginLater, AreTold}
use Rattle.signaller.proofs.Sweeping.{sweeps_on}
use Rattle.signaller.proofs.Telling.{segment, more_told, start_kept}
use Rattle.signaller.proofs.sweep.turn.Goals as goal

pub advance-requires-clause-sweeps : goal.advance-requires-clause-sweeps
advance-requires-clause-sweeps c =
    sweeps_on c.args.table.now c.args.sweep.now.opened.items c.args.sweep.now.next c.args.sweep.now.at c.args.at c.requires.later c.requires.swept.opened

pub returns-in-Ok-clause-swept : goal.returns-in-Ok-clause-swept
returns-in-Ok-clause-swept c =
    let a = sym c.in-Ok.ensures.at in
    let s = c.advance.new.sweep in
    record {
      opened = subst (λ (o : ℕ). Sweeps c.args.table.now s.opened.items s.next o) a c.in-Ok.ensures.opened;
      later = subst (λ (o : ℕ). BeginLater c.args.table.now s.next o) a c.in-Ok.ensures.later;
      told = subst (λ (o : ℕ). AreTold c.args.table.now s.segments.items o) a
          (more_told c.args.table.now c.args.sweep.now.segments.items s.segments.items c.args.sweep.now.at c.args.at c.requires.swept.told
          (let l = c.requires.later in let n = c.if-sweep-at.false in omega arith) c.in-Ok.ensures.segment);
    }

pub returns-in-Ok-clause-kept : goal.returns-in-Ok-clause-kept
returns-in-Ok-clause-kept c edge h =
    start_kept c.args.sweep.now.segments.items c.advance.new.sweep.segments.items (segment c.args.at (innermost_of c.args.table.now c.args.at)) edge c.in-Ok.ensures.segment h
