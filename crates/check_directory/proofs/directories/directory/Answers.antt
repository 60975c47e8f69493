use Rattle.std.proofs.Common.{◌≡◌, rules, [], ◌∷◌, true, Ok, refl, ◌∙◌}
use Rattle.interface_records.specs.PlainTypes.{plain_interface}
use Rattle.check_directory.specs.Items.{fits}
use Rattle.check_directory.proofs.ItemLaws.{directory_end, directory_next, directory_short, directory_step}
use Rattle.check_directory.proofs.ListLaws.{none_before, one_before}
use Rattle.check_directory.proofs.directories.directory.Goals as goal

pub items-init : goal.items-init
items-init c = ([], none_before c.new-before.result (search rules), refl)

pub items-preserved : goal.items-preserved
items-preserved c =
    let so_far = c.items.invariant.0 in
    let fine : fits so_far c.in-Some.item.now (plain_interface c.in-Some-split_first.interface.now) ≡ Ok tt = search (rules, c.fits.ensures so_far c.items.invariant.1) in (
      c.in-Some.item.now.name.name ∷ so_far,
      one_before c.items.before c.declare.new.self c.in-Some.item.now.name.name true so_far c.items.invariant.1 (search rules),
      c.items.invariant.2 ∙ directory_next so_far c.items.items.now c.in-Some.items_left.now c.items.given.now c.in-Some-split_first.given_left.now
          c.in-Some.item.now c.in-Some-split_first.interface.now (search rules) (search rules) fine,
    )

pub returns : goal.returns
returns c = c.items.invariant.2 ∙ directory_end c.items.invariant.0 c.items.items.now _ (search rules)

pub returns-in_default-split_first : goal.returns-in_default-split_first
returns-in_default-split_first c = λ _.
    c.items.invariant.2 ∙ directory_short c.items.invariant.0 c.items.items.now c.in-Some.items_left.now c.items.given.now c.in-Some.item.now (search rules) (search rules)

pub returns-in_err-fits : goal.returns-in_err-fits
returns-in_err-fits c =
    rw c.items.invariant.2 (
    rw (directory_step c.items.invariant.0 c.items.items.now c.in-Some.items_left.now c.items.given.now c.in-Some-split_first.given_left.now
    c.in-Some.item.now c.in-Some-split_first.interface.now (search rules) (search rules))
    (search (rules, c.fits.ensures c.items.invariant.0 c.items.invariant.1)))
