use Rattle.std.proofs.Common.{rules}
use Rattle.interface_records.specs.PlainTypes.{plain, plain_constant}
use Rattle.check_heads.specs.Forms.{named_constant}
use Rattle.check_heads.proofs.ItemLaws.{map_done, put_more}
use Rattle.check_heads.proofs.definitions.named_constants.Goals as goal

pub loop-name-preserved : goal.loop-name-preserved
loop-name-preserved c =
    put_more (named_constant (plain c.args.kind.now) c.args.value) plain_constant c.args.names.now c.loop-name.constants _ c.loop-name.name-index c.name-item.result _ (search rules) (search rules)
    c.loop-name.invariant c.in_ok-push.ensures.ok (search rules)

pub returns : goal.returns
returns c = map_done (named_constant (plain c.args.kind.now) c.args.value) plain_constant c.args.names.now c.loop-name.constants c.loop-name.name-index (search rules) c.loop-name.invariant
