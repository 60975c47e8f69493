use Rattle.std.proofs.Common.{ℕ, drop, rules, arith, sym, ap, ◌∙◌}
use Rattle.interface_records.specs.check_scopes.specs.Scopes.{Scope}
use Rattle.interface_records.specs.check_scopes.specs.Shows.{means}
use Rattle.check_state.proofs.StringLaws.{numbers_at, numbers_out, numbers_past}
use Rattle.check_state.proofs.strings.numbered.Goals as goal

pub loop-text-preserved : goal.loop-text-preserved
loop-text-preserved c = rw c.loop-text.invariant (rw (numbers_at (means c.loop-text.index) c.loop-text.number c.args.texts.now c.loop-text.text-index c.text-item.result (omega arith) (search rules) (search rules)) (search rules))

pub returns-in-None : goal.returns-in-None
returns-in-None c = λ x. ap (λ (s : Scope ℕ). s x) (sym (c.loop-text.invariant ∙ numbers_past (means c.loop-text.index) c.loop-text.number (drop c.loop-text.text-index c.args.texts.now) (omega arith)))

pub returns : goal.returns
returns c = λ x. ap (λ (s : Scope ℕ). s x) (sym (c.loop-text.invariant ∙ numbers_out (means c.loop-text.index) c.loop-text.number c.args.texts.now c.loop-text.text-index (search rules)))
