use Rattle.std.proofs.Common.{rules, ◌+◌, ◌∙◌, ap, drop, sym}
use Rattle.check_rules.specs.Meanings.{Later}
use Rattle.check_faces.specs.Ahead.{later}
use Rattle.check_faces.proofs.AheadLaws.{all_at, all_out, named_more}
use Rattle.check_scopes.specs.Scopes.{over}
use Rattle.check_state.specs.Views.{names}
use Rattle.check_state.specs.declared.meaning.Meaning.TheVariants as m
use Rattle.check_heads.proofs.scopes.take.Goals as goal

pub loop-name-preserved : goal.loop-name-preserved
loop-name-preserved c =
    c.loop-name.invariant
    ∙ all_at Later (names c.loop-name.scope) c.args.names.now c.loop-name.name-index c.name-item.result (search rules) (search rules)
    ∙ ap (λ s. over s (later (drop (c.loop-name.name-index + 1) c.args.names.now))) (sym (named_more c.loop-name.scope c.declare_first.new.self c.name-item.result.name m.Later (search rules)))

pub returns : goal.returns
returns c = sym (c.loop-name.invariant ∙ all_out Later (names c.loop-name.scope) c.args.names.now c.loop-name.name-index (search rules))
