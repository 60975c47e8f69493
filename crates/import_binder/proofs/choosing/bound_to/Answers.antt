use Rattle.std.proofs.Common.{sym, ap, ◌∙◌}
use Rattle.std.proofs.lemmas.Option.{none-some, same_Some}
use Rattle.mesa_types.specs.declared.faces.Export.{Export}
use Rattle.config_rules.specs.Resolves.{Bound, given_for}
use Rattle.import_binder.specs.Bindings.{meant}
use Rattle.import_binder.specs.Choosing.{shown}
use Rattle.import_binder.proofs.Ordered.{export_in_order}
use Rattle.import_binder.proofs.choosing.bound_to.Goals as goal

pub given_for-requires : goal.given_for-requires
given_for-requires c = export_in_order c.args.tree.now c.requires c.args.exporter.now c.in-Some.export.now (sym c.in-Some.ensures)

pub returns-in-Some : goal.returns-in-Some
unfolding shown meant
returns-in-Some c = λ x is.
    ap (Bound c.args.exporter.now.instance) c.given_for.ensures
    ∙ ap (λ (y : Export). Bound c.args.exporter.now.instance (given_for c.args.name.now y.face y.given)) (same_Some c.in-Some.export.now x (c.in-Some.ensures ∙ is))

pub returns-in-None : goal.returns-in-None
returns-in-None c = λ x is. absurd (none-some x (c.in-None.ensures ∙ is))
