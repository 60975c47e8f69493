use Rattle.std.proofs.Common.{map, ap, ◌∙◌}
use Rattle.config_templates.specs.Mentioned.{component_of, now}
use Rattle.config_templates.proofs.listing.components_as_written.Goals as goal

pub returns : goal.returns
returns c =
    let directory = c.args.config.now.directory in
    c.in_ok-with_files.ensures
    ∙ ap (λ d. map (component_of d) (now c.as_slice.result.now)) c.as_slice-directory.ensures
    ∙ ap (λ xs. map (component_of directory) (now xs)) c.as_slice.ensures.value
    ∙ ap (λ is. map (component_of directory) is) c.in_ok-names.ensures
