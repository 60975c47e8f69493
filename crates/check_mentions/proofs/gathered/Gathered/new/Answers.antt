use Rattle.std.proofs.Common.{reverse, is_some, sym, ap, ◌∙◌}
use Rattle.check_scopes.proofs.Laws.{has_none}
use Rattle.check_scopes.specs.Scopes.{Scope, has}
use Rattle.check_mentions.proofs.gathered.Gathered.new.Goals as goal

pub returns-clause-indexed : goal.returns-clause-indexed
returns-clause-indexed c = λ x. ap (λ ts. has x (reverse ts)) c.new.ensures ∙ has_none (Unit {0}) x ∙ ap (λ (s : Scope (Unit {0})). is_some (s x)) (sym c.new-2.ensures)
