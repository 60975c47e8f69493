use Rattle.std.proofs.Common.{ℕ, ◌-◌, ◌≤◌, length, List, ap, sym, subst, ◌∙◌}
use Rattle.std.specs.Option.{option_copied}
use Rattle.machine_topmost.proofs.Short.{literal_is_short}
use Rattle.machine_topmost.proofs.texts.text.Goals as goal

pub returns-in-Some-get-clause-short : goal.returns-in-Some-get-clause-short
returns-in-Some-get-clause-short c =
    let short = literal_is_short c.code.result.now (c.from-2.result - 1) c.in-Some-get.text.now (sym c.get-2.ensures ∙ ap (λ found. option_copied found) c.in-Some-get.is) in
    subst (λ (bytes : List ℕ). length bytes ≤ 32767) (sym c.as_slice.ensures) short
