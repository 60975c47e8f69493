use Rattle.std.proofs.Common.{◌∙◌, ap, if◌then◌else◌}
use Rattle.interface_readers.proofs.constants.number_of.Goals as goal

pub returns-then-has_long_values : goal.returns-then-has_long_values
returns-then-has_long_values c = rw (c.has_long_values.ensures ∙ ap (λ b. if b then 4 else 2) c.if-has_long_values.true) c.u32.ensures

pub returns-in-Ok : goal.returns-in-Ok
returns-in-Ok c = rw (c.has_long_values.ensures ∙ ap (λ b. if b then 4 else 2) c.if-has_long_values.false) c.in-Ok.ensures

pub returns-in-Err : goal.returns-in-Err
returns-in-Err c = rw (c.has_long_values.ensures ∙ ap (λ b. if b then 4 else 2) c.if-has_long_values.false) c.in-Err.ensures
