use Rattle.checked_texts.proofs.Kept.{modules}
use Rattle.checked_texts.proofs.laws.read_modules_can_be_kept.Goals as goal

pub returns : goal.returns
returns c = modules c.checked_texts_are_sound.ensures c.checked_texts_can_be_spelled.ensures c.checked_texts_have_names.ensures c.spelled_interfaces_are_in_order.ensures c.used_items_are_few.ensures
