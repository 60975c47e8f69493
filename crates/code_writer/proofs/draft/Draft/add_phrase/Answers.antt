use Rattle.std.proofs.Common.{rules, sym, subst, length}
use Rattle.code_writer.specs.Drafts.{AllHeld}
use Rattle.code_writer.proofs.Held.{held_more, none_found, one_found}
use Rattle.code_writer.proofs.draft.Draft.add_phrase.Goals as goal

pub returns-then-is_empty-clause-found : goal.returns-then-is_empty-clause-found
returns-then-is_empty-clause-found c =
    none_found c.args.self.now.scopes.items c.args.self.now.phrases.items c.args.arms.now _ _ _ (c.is_empty.ensures.0 c.if-is_empty.true)

pub returns-clause-found : goal.returns-clause-found
returns-clause-found c =
    one_found c.args.self.now.scopes.items c.args.self.now.phrases.items c.push.new.self.items
    (record { from = c.args.from; upto = c.args.upto; arms = c.args.arms; around = c.args.around }) (search rules)
    (λ e. cc (c.is_empty.ensures.1 e))

pub returns-clause-held : goal.returns-clause-held
returns-clause-held c =
    subst (λ qs. AllHeld (length c.args.self.now.scopes.items) qs) (sym c.in_ok-push.ensures.items)
    (held_more _ c.args.self.now.phrases.items
    (record { from = c.args.from; upto = c.args.upto; arms = c.args.arms; around = c.args.around }) c.requires.there c.requires.sizes c.requires.held)
