-- The newest one that has the name says what all say of it.
use Rattle.std.proofs.Common.{Some, sym, ap, ◌∙◌}
use Rattle.check_scopes.specs.Shows.{listed}
use Rattle.check_scopes.proofs.Indexes.{no_entries}
use Rattle.check_scopes.proofs.LayerLaws.{found_here, found_behind, not_there}
use Rattle.check_scopes.proofs.layers.found.Goals as goal

pub returns-in-Some-get : goal.returns-in-Some-get
returns-in-Some-get g c =
    ap Some c.deref.ensures
    ∙ sym (c.loop-layer.invariant ∙ found_here c.loop-layer.layers.now c.in-Some.older.now c.in-Some.layer.now c.args.name.now c.in-Some-get.meaning.now
    c.in-Some.ensures.cases.0 (ap (λ i. listed i c.args.name.now) (sym c.get.ensures) ∙ sym c.in-Some-get.ensures))

pub loop-layer-preserved : goal.loop-layer-preserved
loop-layer-preserved g c =
    c.loop-layer.invariant
    ∙ found_behind c.loop-layer.layers.now c.in-Some.older.now c.in-Some.layer.now c.args.name.now c.in-Some.ensures.cases.0
    (ap (λ i. listed i c.args.name.now) (sym c.get.ensures) ∙ sym c.in_default-get.ensures)

pub returns : goal.returns
returns g c = sym (c.loop-layer.invariant ∙ ap (λ s. s c.args.name.now) (not_there c.loop-layer.layers.now (no_entries c.loop-layer.layers.now c.in_default.ensures.cases)))
