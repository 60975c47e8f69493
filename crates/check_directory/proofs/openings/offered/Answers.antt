use Rattle.std.proofs.Common.{rules, map, sym, ◌∙◌}
use Rattle.interface_records.specs.PlainTypes.{plain_interface}
use Rattle.check_directory.proofs.OfferLaws.{offered_end, offered_next, offered_short}
use Rattle.check_directory.proofs.openings.offered.Goals as goal

pub items-preserved : goal.items-preserved
items-preserved c =
    c.items.invariant
    ∙ offered_next c.args.imports.now c.items.all.items c.push.new.self.items c.in_ok-names.names c.items.items.now c.in-Some.items_left.now
    c.items.given.now c.in-Some-split_first.given_left.now c.in-Some.item.now c.in-Some-split_first.interface.now
    (search rules) (search rules) (search rules) (search rules)

pub returns : goal.returns
returns c = sym (c.items.invariant ∙ offered_end c.args.imports.now c.items.all.items c.items.items.now (map plain_interface c.items.given.now) (search rules))

pub returns-in_default-split_first : goal.returns-in_default-split_first
returns-in_default-split_first c = sym (c.items.invariant ∙ offered_short c.args.imports.now c.items.all.items c.items.items.now c.items.given.now (search rules))
