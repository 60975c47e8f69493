use Rattle.std.proofs.Common.{◌≡◌, rules, [], ◌∷◌, refl, ap, ◌∙◌}
use Rattle.check_scopes.specs.Scopes.{over}
use Rattle.check_scopes.proofs.Innermost.{ok_also}
use Rattle.check_rules.specs.Directory.{entry, first_entry, predeclared_error}
use Rattle.check_rules.specs.Meanings as m
use Rattle.interface_records.specs.PlainTypes.{plain_item}
use Rattle.check_state.specs.Views.{names}
use Rattle.check_state.specs.declared.meaning.Meaning.TheVariants.{Signal}
use Rattle.check_directory.proofs.EntryLaws.{offered_by}
use Rattle.check_directory.proofs.errors.predeclare.Goals as goal

pub returns : goal.returns
returns c =
    let known : plain_item c.in_ok-head.head ≡ predeclared_error c.args.text.now = search rules in
    ok_also c.declare_first.result (λ h.
    offered_by c.args.names.now c.declare_first.new.self c.args.text.now c.args.text.now (Signal c.args.raised c.in_ok-head.head) refl h
    ∙ ap (λ i. over (names c.args.names.now) (first_entry (entry c.args.text.now (m.Signal c.args.raised i) ∷ []))) known) c.declare_first.ensures.ok
