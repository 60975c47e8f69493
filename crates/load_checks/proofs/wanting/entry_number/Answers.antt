use Rattle.std.proofs.Common.{sym, ◌∙◌}
use denote.Ref.{Bor}
use Rattle.interface_records.specs.declared.wanted.Wanted.{Wanted as Entry}
use Rattle.config_rules.proofs.Members.{mapped_length}
use Rattle.load_checks.specs.Wanting.{entries_shown}
use Rattle.load_checks.proofs.Placing.{stands_there, stands_nowhere}
use Rattle.load_checks.proofs.wanting.entry_number.Goals as goal

pub returns-in-Some : goal.returns-in-Some
returns-in-Some c = (stands_there (entries_shown c.args.wanting.now.entries.items) c.args.wanted.now c.in-Some.number (sym c.in-Some.is ∙ c.in_ok-place.ensures)).1

pub returns-in-None : goal.returns-in-None
returns-in-None c =
    let es = c.args.wanting.now.entries in
    c.len.ensures
    ∙ es.ok.0
    ∙ sym (mapped_length (λ (y : Bor Entry). y.now) es.items)
    ∙ (stands_nowhere (entries_shown es.items) c.args.wanted.now (sym c.in-None.is ∙ c.in_ok-place.ensures)).1
