use Rattle.std.proofs.Common.{rules, map, sym, ap, ◌∙◌}
use Rattle.syntax_trees.specs.PlainSyntax as plain
use Rattle.check_state.specs.Views.{around, state}
use Rattle.check_programs.specs.Views as view
use Rattle.check_programs.proofs.CodeLoops.{value_at, value_split, values_out, values_short}
use Rattle.check_programs.proofs.ValueLaws.{rest, rest_begin}
use Rattle.check_programs.proofs.values.values_of.Goals as goal

pub loop-one-init : goal.loop-one-init
loop-one-init c =
    rest_begin (around c.args.around.now) (map plain.declaration c.args.declarations.now) (map view.stated c.args.heads.items) (state c.args.state.now)
    ∙ ap (λ v. rest v (around c.args.around.now) (map plain.declaration c.args.declarations.now) (map view.stated c.args.heads.items) (state c.args.state.now)) (sym c.no_values-done.ensures)

pub loop-one-preserved : goal.loop-one-preserved
loop-one-preserved c =
    rw c.loop-one.invariant
    (rw (value_at c.args.declarations.now c.loop-one.one-index c.one-item.result (search rules) (search rules) (view.values c.loop-one.done) (around c.args.around.now)
    c.loop-one.heads.items c.pop_front.new.self.items c.in-Some.head (state c.loop-one.state) (state c.value_of.new.state) c.in_ok-held.value (search rules) (search rules))
    (search rules))

pub returns-in_err-held : goal.returns-in_err-held
returns-in_err-held c =
    rw c.loop-one.invariant
    (rw (value_split c.args.declarations.now c.loop-one.one-index c.one-item.result (search rules) (search rules) (view.values c.loop-one.done) (around c.args.around.now)
    c.loop-one.heads.items c.pop_front.new.self.items c.in-Some.head (state c.loop-one.state) (search rules))
    (search rules))

pub returns-in_default : goal.returns-in_default
returns-in_default c =
    c.loop-one.invariant
    ∙ values_short (view.values c.loop-one.done) (around c.args.around.now) c.args.declarations.now c.loop-one.one-index c.loop-one.heads.items (state c.loop-one.state) (search rules)

pub returns : goal.returns
returns c =
    c.loop-one.invariant
    ∙ values_out (view.values c.loop-one.done) (around c.args.around.now) c.args.declarations.now c.loop-one.one-index c.loop-one.heads.items (state c.loop-one.state) (search rules)
