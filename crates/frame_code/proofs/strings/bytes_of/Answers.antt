-- What the type of the text says of it.
use Rattle.std.proofs.Common.{◌<◌, ℕ, arith}
use Rattle.std.proofs.lemmas.List.Elements.{All-from_get_or, All-same}
use Rattle.frame_code.proofs.strings.bytes_of.Goals as goal

pub returns-clause-bytes : goal.returns-clause-bytes
returns-clause-bytes c =
    All-same (λ (b : ℕ). b < 256) c.in_ok-from_slice.field-0 c.args.text.now c.in_ok-from_slice.ensures
    (All-from_get_or (λ (b : ℕ). b < 256) c.args.text.now 0 (λ i l. omega (arith, c.type_inv.text i)))
