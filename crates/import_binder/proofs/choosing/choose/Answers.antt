use Rattle.std.proofs.Common.{filter, ap, ◌∙◌, ◌∷◌}
use Rattle.config_rules.specs.Resolves.{under}
use Rattle.import_binder.specs.Choosing.{shown, cause_shown, is_under}
use Rattle.import_binder.proofs.Outlets.{under_are, none_under, one_under, two_under}
use Rattle.import_binder.proofs.choosing.choose.Goals as goal

pub returns-in-None : goal.returns-in-None
returns-in-None c = λ all are.
    let t = c.args.tree.now in
    let face = c.args.face.now in
    c.unlike.ensures c.args.name.now all are
    ∙ none_under t face c.args.name.now (filter (is_under t face) c.args.exporters.now) (filter (under face) all) all (under_are t face c.args.exporters.now all are) c.in-None.ensures

pub returns-in-None-next_under : goal.returns-in-None-next_under
returns-in-None-next_under c = λ all are.
    let t = c.args.tree.now in
    let face = c.args.face.now in
    one_under t face c.args.name.now (filter (is_under t face) c.args.exporters.now) (filter (under face) all) all c.in-Some.first (shown c.bound_to.result) (under_are t face c.args.exporters.now all are)
    (c.in-Some.ensures ∙ ap (λ es. c.in-Some.first ∷ es) c.in-None-next_under.ensures) c.bound_to.ensures

pub returns-in-Some-next_under : goal.returns-in-Some-next_under
unfolding shown cause_shown
returns-in-Some-next_under c = λ all are.
    let t = c.args.tree.now in
    let face = c.args.face.now in
    two_under t face c.args.name.now (filter (is_under t face) c.args.exporters.now) (filter (under face) all) all c.in-Some.first c.in-Some-next_under.second _ (under_are t face c.args.exporters.now all are)
    (c.in-Some.ensures ∙ ap (λ es. c.in-Some.first ∷ es) c.in-Some-next_under.ensures)
