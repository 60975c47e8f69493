use Rattle.std.proofs.Common.{sym, ap, ◌∙◌}
use Rattle.std.proofs.lemmas.Result.{err_from_is_err_and}
use Rattle.config_rules.specs.Template.{Gone}
use Rattle.config_rules.specs.Through.{headed}
use Rattle.config_templates.specs.Shown.{chained}
use Rattle.config_templates.proofs.AnswerLaws.{ok, exits, stops, stops_as, then}
use Rattle.config_templates.proofs.GoingLaws.{fits_then}
use Rattle.config_templates.proofs.headings.headed.Goals as goal

pub returns-in_err-fits : goal.returns-in_err-fits
returns-in_err-fits c =
    let h = c.args.written.now in
    let ps = chained c.args.so_far.parts in
    exits (λ template. template) (headed h ps) c.from_residual.result _ (err_from_is_err_and c.from_residual.result c.from_residual.ensures.1)
    (stops_as (headed h ps) _ _ (fits_then h ps) (stops _ _ _ c.in_err-fits.ensures))

pub returns : goal.returns
returns c =
    let h = c.args.written.now in
    let ps = chained c.args.so_far.parts in
    fits_then h ps ∙ then _ _ c.in_ok-fits.field-0 c.in_ok-fits.ensures ∙ ap (λ t. ok t) (ap (λ x. Gone x ps) (sym c.in_ok-heading.ensures) ∙ sym c.new.ensures)
