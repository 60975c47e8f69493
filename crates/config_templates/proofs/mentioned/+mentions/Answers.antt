use Rattle.std.proofs.Common.{◌≡◌, ◌+◌, ◌∷◌, refl, sym, ap, subst, ◌∙◌, drop, arith}
use Rattle.std.specs.Prelude.{not}
use Rattle.std.proofs.lemmas.List.{drop_all}
use Rattle.check_scopes.specs.Scopes.{outer}
use Rattle.check_scopes.specs.Shows.{shows}
use Rattle.cmesa_grammar.specs.Syntax.{Configured}
use Rattle.cmesa_grammar.specs.Plain.{configuration, statements, statement}
use Rattle.cmesa_grammar.proofs.Forms.{of_configuration, of_declare, of_instantiate}
use Rattle.config_rules.specs.Components.{heading_of, own_name}
use Rattle.config_templates.specs.Mentioned.{Passed, Went, mentions_by, in_scopes}
use Rattle.config_templates.proofs.MentionLaws.{asked_scopes, declares, of_module, of_nested, stays, further, whole}
use Rattle.config_templates.proofs.Turns.{next_at}
use Rattle.config_templates.proofs.mentioned.+mentions.Goals as goal

pub statement-returns-in_ok-declare-in-Declare : goal.statement-returns-in_ok-declare-in-Declare
unfolding heading_of
statement-returns-in_ok-declare-in-Declare t c =
    let inner = c.in-Declare.inner in
    λ left. subst (λ ss. Passed (shows c.args.nested.now) ss c.args.mentioned.now (shows c.declare.new.self) left c.within.new.mentioned)
    (sym (ap (λ s. statement s left) c.in-Declare.is ∙ ap (λ f. f left) (of_declare inner)))
    (declares (shows c.args.nested.now) (shows c.within.new.nested) (shows c.declare.new.self) c.args.mentioned.now c.within.new.mentioned
    (configuration inner) c.bytes.result.now c.in_ok-within-in-Declare.ensures.scopes c.in_ok-declare-in-Declare.ensures.ok
    (c.bytes.ensures ∙ ap (λ x. (own_name x).name) (sym (of_configuration inner.heading inner.statements))) c.in_ok-within-in-Declare.ensures.went left)

pub statement-returns-in_ok-mention-in-Instantiate : goal.statement-returns-in_ok-mention-in-Instantiate
statement-returns-in_ok-mention-in-Instantiate t c =
    let i = c.in-Instantiate.instance in
    λ left. subst (λ ss. Passed (shows c.args.nested.now) ss c.args.mentioned.now (shows c.args.nested.now) left c.mention.new.self)
    (sym (ap (λ s. statement s left) c.in-Instantiate.is ∙ ap (λ f. f left) (of_instantiate i)))
    (of_module (shows c.args.nested.now) c.args.mentioned.now c.mention.new.self i
    (asked_scopes (shows c.args.nested.now) c.find.result _ i.component.name _ c.find.ensures c.bytes-in-Instantiate.ensures c.is_none.ensures ∙ ap not c.if-is_none.true)
    c.in_ok-mention-in-Instantiate.ensures left)

pub statement-returns-else-is_none : goal.statement-returns-else-is_none
statement-returns-else-is_none t c =
    let i = c.in-Instantiate.instance in
    λ left. subst (λ ss. Passed (shows c.args.nested.now) ss c.args.mentioned.now (shows c.args.nested.now) left c.args.mentioned.now)
    (sym (ap (λ s. statement s left) c.in-Instantiate.is ∙ ap (λ f. f left) (of_instantiate i)))
    (of_nested (shows c.args.nested.now) c.args.mentioned.now i
    (asked_scopes (shows c.args.nested.now) c.find.result _ i.component.name _ c.find.ensures c.bytes-in-Instantiate.ensures c.is_none.ensures ∙ ap not c.if-is_none.false)
    c.requires left)

pub within-loop-one-init : goal.within-loop-one-init
within-loop-one-init t c = stays (shows c.enter.new.self) c.args.mentioned.now c.args.mentioned.now (statements c.as_slice-one-items.result.now) refl c.requires

pub within-loop-one-preserved : goal.within-loop-one-preserved
within-loop-one-preserved t c =
    let list = c.as_slice-one-items.result.now in
    let turn : statements (drop c.loop-one.one-index list) ≡ statement c.one-item.result (statements (drop (c.loop-one.one-index + 1) list)) =
    ap statements (next_at list c.loop-one.one-index c.one-item.result (omega arith) c.one-item.is) in
    further _ _ _ _ _ _ _ _ _ c.loop-one.invariant
    (subst (λ ss. Passed (shows c.loop-one.nested) ss c.loop-one.mentioned (shows c.statement.new.nested) (statements (drop (c.loop-one.one-index + 1) list)) c.statement.new.mentioned) (sym turn)
    (c.in_ok-statement.ensures (statements (drop (c.loop-one.one-index + 1) list))))

pub within-returns : goal.within-returns
within-returns t c =
    let list = c.as_slice-one-items.result.now in
    let written = c.args.configuration.now in
    let entered : shows c.enter.new.self ≡ _ ∷ shows c.args.nested.now = c.in_ok-enter.ensures.ok ∙ ap (λ s. s ∷ shows c.args.nested.now) c.new.ensures in
    record {
      went =
          subst (λ x. Went c.args.mentioned.now c.loop-one.mentioned (mentions_by (in_scopes (shows c.args.nested.now)) x))
          (ap (λ xs. Configured written.heading (statements xs)) c.as_slice-one-items.ensures ∙ sym (of_configuration written.heading written.statements))
          (whole (shows c.args.nested.now) _ _ _ _ written.heading (statements list) _ c.loop-one.invariant entered (ap statements (drop_all c.loop-one.one-index list (omega arith))));
      scopes = c.leave.ensures.left ∙ c.loop-one.invariant.around ∙ ap outer entered;
    }
