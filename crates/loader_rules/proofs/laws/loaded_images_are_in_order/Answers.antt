-- The law is the lemma.
use Rattle.loader_rules.proofs.InOrder as law
use Rattle.loader_rules.proofs.laws.loaded_images_are_in_order.Goals as goal

pub returns : goal.returns
returns c = law.loaded_images_are_in_order
