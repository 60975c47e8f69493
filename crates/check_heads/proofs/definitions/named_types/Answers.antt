use Rattle.std.proofs.Common.{rules}
use Rattle.check_rules.specs.Definitions.{named_type}
use Rattle.interface_records.specs.PlainTypes.{plain, plain_name}
use Rattle.check_heads.proofs.ItemLaws.{map_done, put_more}
use Rattle.check_heads.proofs.definitions.named_types.Goals as goal

pub loop-name-preserved : goal.loop-name-preserved
loop-name-preserved c =
    put_more (named_type (plain c.args.kind.now)) plain_name c.args.names.now c.loop-name.types _ c.loop-name.name-index c.name-item.result _ (search rules) (search rules)
    c.loop-name.invariant c.in_ok-push.ensures.ok (search rules)

pub returns : goal.returns
returns c = map_done (named_type (plain c.args.kind.now)) plain_name c.args.names.now c.loop-name.types c.loop-name.name-index (search rules) c.loop-name.invariant
