use Rattle.std.proofs.Common.{◌∙◌, ap, arith, if◌then◌else◌}
use Rattle.interface_writers.proofs.ElementLaws.{word_fits}
use Rattle.interface_writers.proofs.interfaces.put_value.Goals as goal

pub returns-then-has_long_values : goal.returns-then-has_long_values
returns-then-has_long_values c = rw (c.has_long_values.ensures ∙ ap (λ b. if b then 4 else 2) c.if-has_long_values.true) c.u32.ensures

pub overflow_cast-value : goal.overflow_cast-value
overflow_cast-value c =
    omega (
      arith,
      word_fits c.args.kind.now c.args.value (c.has_long_values.ensures ∙ ap (λ b. if b then 4 else 2) c.if-has_long_values.false) c.requires,
    )

pub returns-else-has_long_values : goal.returns-else-has_long_values
returns-else-has_long_values c = rw (c.has_long_values.ensures ∙ ap (λ b. if b then 4 else 2) c.if-has_long_values.false) c.u16.ensures
