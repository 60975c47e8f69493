use Rattle.std.proofs.Common.{◌≡◌, ℕ, List, IfOk, take, ap, subst, ◌∙◌}
use Rattle.mesa_types.specs.mesa_base.specs.declared.limits.TheConstants.{DISTINCT_STRINGS}
use Rattle.check_state.proofs.StringLaws.{all_taken, long_enough}
use Rattle.check_state.proofs.strings.Strings.into_texts.Goals as goal

pub returns-then-len-le-DISTINCT_STRINGS : goal.returns-then-len-le-DISTINCT_STRINGS
returns-then-len-le-DISTINCT_STRINGS c =
    all_taken DISTINCT_STRINGS c.len.result c.self.inside.texts c.args.self c.self.view_is c.len.ensures c.if-len-le-DISTINCT_STRINGS.true

pub slice_bounds-copied-end : goal.slice_bounds-copied-end
slice_bounds-copied-end c =
    long_enough DISTINCT_STRINGS c.len.result c.self.inside.texts c.as_slice.result.now c.as_slice.ensures c.len.ensures c.if-len-le-DISTINCT_STRINGS.false

pub returns : goal.returns
returns c =
    subst (λ (xs : List (List ℕ)). IfOk c.copied.result (λ (texts : List (List ℕ)). texts ≡ xs)) (ap (take DISTINCT_STRINGS) (c.as_slice.ensures ∙ c.self.view_is))
    c.copied.ensures
