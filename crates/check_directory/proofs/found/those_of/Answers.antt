use Rattle.std.proofs.Common.{rules, map, sym, ◌∙◌}
use Rattle.interface_records.specs.PlainTypes.{plain_interface}
use Rattle.check_directory.proofs.FoundLaws.{found_end, none_found, one_found}
use Rattle.check_directory.proofs.found.those_of.Goals as goal
use Rattle.check_directory.proofs.found.those_of.Goals.{in-Some+in_ok-push, in_default}

pub loop-name-preserved : goal.loop-name-preserved
loop-name-preserved c = elim c.match-interface_of.branch [
  | in-Some+in_ok-push w ↦
      c.loop-name.invariant
      ∙ one_found c.args.directory.now (map plain_interface c.args.interfaces.now) c.loop-name.those.items c.args.names.now c.loop-name.name-index
      c.match-interface_of.those.items c.name-item.result w.in-Some.interface (search rules) (search rules)
      (search (rules, w.those-is, w.in_ok-push.ensures)) (search (rules, w.in-Some.ensures))
  | in_default w ↦
      c.loop-name.invariant
      ∙ none_found c.args.directory.now (map plain_interface c.args.interfaces.now) c.loop-name.those.items c.args.names.now c.loop-name.name-index
      c.match-interface_of.those.items c.name-item.result (search rules) (search rules) (search (rules, w.those-is)) (search (rules, w.in_default.ensures))
]

pub returns : goal.returns
returns c =
    sym (c.loop-name.invariant
    ∙ found_end c.args.directory.now (map plain_interface c.args.interfaces.now) c.loop-name.those.items c.args.names.now c.loop-name.name-index (search rules))
