use Rattle.std.proofs.Common.{[], ◌∷◌, ap, sym, ◌∙◌}
use Rattle.std.proofs.lemmas.List.{map-append}
use denote.Ref.{Bor}
use Rattle.interface_records.specs.declared.wanted.Wanted.{Wanted as Entry}
use Rattle.config_rules.proofs.Members.{mapped_length}
use Rattle.load_checks.specs.Wanting.{entries_shown}
use Rattle.load_checks.proofs.Placing.{holds_after}
use Rattle.load_checks.proofs.wanting.put_entry.Goals as goal

pub returns-clause-indexed : goal.returns-clause-indexed
returns-clause-indexed c =
    let w = c.args.wanting.now in
    let g = λ (y : Bor Entry). y.now in
    let grown = ap entries_shown c.in_ok-push.ensures.items ∙ map-append g w.entries.items (c.args.wanted ∷ []) in
    holds_after (entries_shown w.entries.items) (entries_shown c.push.new.self.items) w.places.entries c.put_place.new.places.entries c.in_ok-key.key
    (record { number = c.len-number.result; wanted = c.args.wanted }) grown c.in_ok-put_place.ensures c.requires c.in_ok-key.ensures
    (c.len-number.ensures ∙ w.entries.ok.0 ∙ sym (mapped_length g w.entries.items))
