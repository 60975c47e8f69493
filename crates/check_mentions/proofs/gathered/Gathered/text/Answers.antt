use Rattle.std.proofs.Common.{[], ◌∷◌, ◌++◌, refl, sym, ap, ◌∙◌}
use Rattle.check_scopes.proofs.Innermost.{ok_also}
use Rattle.check_mentions.proofs.GatherLaws.{text_is_new, text_is_there}
use Rattle.check_mentions.proofs.gathered.Gathered.text.Goals as goal

pub returns-then-has : goal.returns-then-has
returns-then-has c = text_is_there c.args.self.now c.args.text.now c.requires (c.requires c.args.text.now ∙ sym c.has.ensures ∙ c.if-has.true)

pub returns : goal.returns
returns c =
    ok_also c.declare.result
    (λ seen. text_is_new c.args.self.now (record { texts = c.push.new.self; seen = c.declare.new.self; origins = c.args.self.now.origins }) c.args.text.now c.requires
    (c.requires c.args.text.now ∙ sym c.has.ensures ∙ c.if-has.false)
    (c.in_ok-push.ensures.ok ∙ ap (λ t. c.args.self.now.texts ++ t ∷ []) c.in_ok-copy.ensures) refl seen)
    c.declare.ensures.ok
