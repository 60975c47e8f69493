use Rattle.std.proofs.Common.{◌≡◌, [], ◌++◌, flat_map, IfOk, sym, ◌∙◌, ap, subst}
use Rattle.std.proofs.lemmas.Bool.{false≢true}
use Rattle.command_passes.specs.command_rules.specs.Shown.{image_names}
use Rattle.command_passes.specs.command_rules.specs.Surveying.{escape_line, survey_text}
use Rattle.command_surveys.proofs.Texts.{some_lines}
use Rattle.command_surveys.proofs.lines.survey_lines.Goals as goal

pub returns-then-is_empty : goal.returns-then-is_empty
unfolding survey_text
returns-then-is_empty c =
    let none : c.args.signals.now ≡ [] = c.is_empty.ensures.0 c.if-is_empty.true in
    subst (λ z. IfOk c.from_slice.result (λ text. text ≡ survey_text (image_names c.args.image.now) z)) (sym none) c.from_slice.ensures

pub returns : goal.returns
returns c =
    let lines = rw c.as_slice.ensures at c.in_ok-put_lines.ensures in
    lines ∙ ap (λ z. z ++ flat_map (escape_line (image_names c.args.image.now)) c.args.signals.now) c.new-out.ensures
    ∙ some_lines (image_names c.args.image.now) c.args.signals.now (λ e. false≢true (sym c.if-is_empty.false ∙ c.is_empty.ensures.1 e))
