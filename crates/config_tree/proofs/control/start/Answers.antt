use Rattle.std.proofs.Common.{◌≡◌, [], ap, sym, ◌∙◌, unwrap_or, Option, List, ℕ}
use Rattle.config_tree.specs.Started.{AreStarted, added, started_at}
use Rattle.config_tree.proofs.Starting.{done_before, one_done, on_ok}
use Rattle.config_tree.proofs.control.start.Goals as goal

pub returns-then-has-clause-started : goal.returns-then-has-clause-started
returns-then-has-clause-started c =
    done_before c.args.starts.now c.args.name.now c.args.done.now c.args.started.now.keys c.bytes.result.now c.has.result c.requires c.bytes.ensures c.has.ensures c.if-has.true

pub returns-in-Some-clause-done : goal.returns-in-Some-clause-done
returns-in-Some-clause-done c =
    let starts = c.args.starts.now in
    let is : started_at starts c.args.name.now ≡ c.as_slice.result.now =
    ap (λ b. started_at starts b) (sym c.bytes-3.ensures) ∙ ap (λ (o : Option (List ℕ)). unwrap_or o []) (sym c.in-Some.ensures) ∙ sym c.as_slice.ensures in
    on_ok (c.add_all.new.started.keys ≡ added c.args.started.now.keys c.as_slice.result.now) (AreStarted starts c.declare.new.self c.add_all.new.started.keys) c.add_all.result
    (λ grown. one_done starts c.args.name.now c.args.done.now c.declare.new.self tt c.args.started.now.keys c.add_all.new.started.keys c.as_slice.result.now c.bytes-2.result.now c.requires
    c.bytes-2.ensures c.in_ok-declare.ensures.ok is grown)
    c.add_all.ensures
