use Rattle.std.proofs.Common.{List, All, sym, subst}
use Rattle.mesa_types.specs.declared.types.FieldType.{FieldType}
use Rattle.mesa_types.specs.Types.{IsWithinLimits, types_in}
use Rattle.frame_code.proofs.FieldWords.{head_takes_within, head_gives_within}
use Rattle.frame_code.proofs.links.link_of.Goals as goal

pub all_words-requires : goal.all_words-requires
all_words-requires c =
    subst (λ (l : List FieldType). All IsWithinLimits (types_in l)) (sym c.as_slice.ensures) (head_takes_within c.args.item.now c.requires)

pub all_words-requires-2 : goal.all_words-requires-2
all_words-requires-2 c =
    subst (λ (l : List FieldType). All IsWithinLimits (types_in l)) (sym c.as_slice-2.ensures) (head_gives_within c.args.item.now c.requires)
