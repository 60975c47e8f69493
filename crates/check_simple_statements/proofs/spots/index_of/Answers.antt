use Rattle.std.proofs.Common.{rules, ◌∙◌, refl, sym}
use Rattle.check_scopes.specs.Shows.{means}
use Rattle.check_simple_statements.proofs.SpotLaws.{index_at, index_end}
use Rattle.check_simple_statements.proofs.spots.index_of.Goals as goal

pub loop-field-init : goal.loop-field-init
loop-field-init c x = rw c.new-index.ensures refl

pub loop-field-preserved : goal.loop-field-preserved
loop-field-preserved c x =
    c.loop-field.invariant x
    ∙ index_at c.args.fields.now c.loop-field.field-index c.loop-field.number c.loop-field.offset c.field-item.result (means c.loop-field.index) (means c.and_spot.new.index) _ x (search rules) (search rules) c.in_ok-and_spot.ensures refl
    ∙ search rules

pub returns : goal.returns
returns c x = sym (c.loop-field.invariant x ∙ index_end c.args.fields.now c.loop-field.field-index c.loop-field.number c.loop-field.offset (means c.loop-field.index) x (search rules))
