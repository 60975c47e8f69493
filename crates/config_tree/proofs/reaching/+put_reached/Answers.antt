use Rattle.std.proofs.Common.{◌≡◌, ◌-◌, ◌++◌, sym, ◌∙◌, arith}
use Rattle.config_tree.specs.Going.{entries_from}
use Rattle.config_tree.proofs.Going.{no_more, last_one, one_before, on_ok}
use Rattle.config_tree.proofs.reaching.+put_reached.Goals as goal

pub returns-then-most-eq0 : goal.returns-then-most-eq0
returns-then-most-eq0 t c = no_more c.args.tree.now c.args.entry c.args.most c.if-most-eq0.true c.args.entries.now

pub returns-in-Some : goal.returns-in-Some
returns-in-Some t c =
    on_ok c.put_reached.result (c.put_reached.new.entries ≡ c.push.new.self ++ entries_from (c.args.most - 1) c.args.tree.now c.in-Some.entry)
    (c.put_reached.new.entries ≡ c.args.entries.now ++ entries_from c.args.most c.args.tree.now c.args.entry)
    (λ h. one_before c.args.tree.now c.args.entry c.args.most (c.args.most - 1) (omega (arith, c.if-most-eq0.false)) c.args.entries.now c.push.new.self c.put_reached.new.entries c.in-Some.entry
    c.in_ok-push.ensures.ok h (sym c.in-Some.is ∙ c.in_ok-next.ensures))
    c.put_reached.ensures

pub returns-in-None : goal.returns-in-None
returns-in-None t c =
    last_one c.args.tree.now c.args.entry c.args.most (c.args.most - 1) (omega (arith, c.if-most-eq0.false)) c.args.entries.now c.push.new.self c.in_ok-push.ensures.ok
    (sym c.in-None.is ∙ c.in_ok-next.ensures)
