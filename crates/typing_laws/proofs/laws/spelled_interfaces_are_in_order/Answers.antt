use Rattle.typing_laws.proofs.SpelledOrder.{spelled_in_order}
use Rattle.typing_laws.proofs.laws.spelled_interfaces_are_in_order.Goals as goal

-- src/laws.rt:87:1
pub returns : goal.returns
returns c = spelled_in_order
