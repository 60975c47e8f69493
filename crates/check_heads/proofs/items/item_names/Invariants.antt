use Rattle.std.proofs.Common.{◌≡◌, map, take, drop}
use Rattle.check_rules.specs.Definitions.{item_meaning}
use Rattle.interface_records.specs.PlainTypes.{plain_item}
use Rattle.check_rules.specs.Programs.{named_item}
use Rattle.check_state.specs.Views as words
use Rattle.check_heads.specs.Views as view
use Rattle.check_heads.proofs.ItemLaws.{all_mean}
use Rattle.check_heads.proofs.items.item_names.Given as goal

abbrev pub invariant-loop-name : goal.invariant-loop-name
invariant-loop-name l = record {
  items : map plain_item l.items ≡ map (named_item l.kind (view.heading l.head)) (take l.name-index l.names);
  state : all_mean (named_item l.kind (view.heading l.head)) (item_meaning l.kind) l.names (words.state l.fn.state)
      ≡ all_mean (named_item l.kind (view.heading l.head)) (item_meaning l.kind) (drop l.name-index l.names) (words.state l.state);
}
