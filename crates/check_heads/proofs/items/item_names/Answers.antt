use Rattle.std.proofs.Common.{rules}
use Rattle.interface_records.specs.PlainTypes.{plain_item}
use Rattle.check_rules.specs.Programs.{named_item}
use Rattle.check_state.specs.Views as words
use Rattle.check_heads.specs.Views as view
use Rattle.check_heads.proofs.ItemLaws.{item_more, items_end, put_more}
use Rattle.check_heads.proofs.items.item_names.Goals as goal

pub loop-name-preserved : goal.loop-name-preserved
loop-name-preserved c =
    let named = named_item c.args.kind (view.heading c.args.head.now) in
    let i = c.loop-name.name-index in
    let x = c.name-item.result in
    record {
      items = put_more named plain_item c.args.names.now c.loop-name.items _ i x c.in_ok-held.item (search rules) (search rules) c.loop-name.invariant.items (search rules) (search rules);
      state = item_more c.args.kind (view.heading c.args.head.now) c.args.names.now i x (words.state c.args.state.now) (words.state c.loop-name.state) _
          (search rules) (search rules) c.loop-name.invariant.state (search rules);
    }

pub returns : goal.returns
returns c =
    items_end c.args.kind (view.heading c.args.head.now) c.args.names.now _ c.loop-name.name-index (words.state c.args.state.now) (words.state c.loop-name.state) _
    (search rules) (search rules) c.loop-name.invariant.state (search rules)
