use Rattle.std.proofs.Common.{◌≡◌, [], Some, None, inr, sym, ap, ◌∙◌, refl}
use Rattle.cmesa_grammar.specs.Plain.{plain}
use Rattle.config_rules.specs.Components.{first_mentions, mentions, no_file_base}
use Rattle.config_templates.proofs.ListingLaws.{no_base, all_listed}
use Rattle.config_templates.proofs.listing.components.Goals as goal

pub returns-in-Some : goal.returns-in-Some
returns-in-Some c =
    let bad : no_file_base c.args.config.now.directory ≡ Some c.in-Some.place = ap no_file_base (sym c.as_slice.ensures) ∙ sym c.no_file_base.ensures ∙ c.in-Some.is in
    inr (no_base (plain c.args.config.now) c.in-Some.place bad)

pub returns : goal.returns
returns c =
    let written = plain c.args.config.now in
    let good : no_file_base c.args.config.now.directory ≡ None = ap no_file_base (sym c.as_slice.ensures) ∙ sym c.no_file_base.ensures ∙ c.in_default.is in
    all_listed written c.in_ok-components_as_written.field-0 (first_mentions [] (mentions [] written.outermost)) good refl c.in_ok-components_as_written.ensures
