use Rattle.std.proofs.Common.{◌+◌, drop, inr, sym, ap, ◌∙◌, arith}
use Rattle.std.proofs.lemmas.List.{drop_all}
use Rattle.config_rules.specs.Through.{each_control}
use Rattle.config_templates.proofs.HeadingLaws.{an_instance, no_instance}
use Rattle.config_templates.proofs.Turns.{next_at}
use Rattle.config_templates.proofs.headings.each_control.Goals as goal

pub loop-one-preserved : goal.loop-one-preserved
loop-one-preserved c = λ all k.
    let list = c.args.list.now in
    let i = c.loop-one.one-index in
    c.loop-one.invariant all k ∙ ap (each_control all) (next_at list i c.one-item.result (omega arith) c.one-item.is)
    ∙ an_instance all c.one-item.result (drop (i + 1) list) (sym (c.is_known.ensures all k) ∙ c.if-not-is_known.false)

pub returns-then-not-is_known : goal.returns-then-not-is_known
returns-then-not-is_known c = λ all k.
    let list = c.args.list.now in
    let i = c.loop-one.one-index in
    inr (c.loop-one.invariant all k ∙ ap (each_control all) (next_at list i c.one-item.result (omega arith) c.one-item.is)
    ∙ no_instance all c.one-item.result (drop (i + 1) list) (sym (c.is_known.ensures all k) ∙ c.if-not-is_known.true))

pub returns : goal.returns
unfolding each_control
returns c = λ all k. c.loop-one.invariant all k ∙ ap (each_control all) (drop_all c.loop-one.one-index c.args.list.now (omega arith))
