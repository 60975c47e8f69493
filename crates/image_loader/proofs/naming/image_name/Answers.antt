use Rattle.std.proofs.Common.{◌∙◌}
use Rattle.image_loader.proofs.Names.{not_none}
use Rattle.image_loader.proofs.naming.image_name.Goals as goal

pub unreachable-requires : goal.unreachable-requires
unreachable-requires c =
    not_none c.args.number c.as_slice.result.now c.in_ok-name.field-0 c.requires (c.as_slice.ensures ∙ c.in_ok-bytes.ensures) c.in_ok-name.ensures c.in-None.is
