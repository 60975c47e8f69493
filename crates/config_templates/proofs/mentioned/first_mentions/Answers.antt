use Rattle.std.proofs.Common.{[], ◌++◌, sym, ap, subst, ◌∙◌}
use Rattle.check_scopes.specs.Shows.{shows}
use Rattle.cmesa_grammar.specs.Plain.{configuration}
use Rattle.config_rules.specs.Components.{first_mentions}
use Rattle.config_templates.specs.Known.{Knows}
use Rattle.config_templates.specs.Mentioned.{so_far, names_before, finished, mentions_by, in_scopes}
use Rattle.config_templates.proofs.MentionLaws.{all_finished, at_the_top}
use Rattle.config_templates.proofs.mentioned.first_mentions.Goals as goal

pub returns : goal.returns
returns c =
    let found = mentions_by (in_scopes (shows c.new.result)) (configuration c.args.outermost.now) in
    all_finished (so_far c.within.new.mentioned) found (ap (λ is. finished is (found ++ [])) (sym c.new-mentioned.ensures.none) ∙ c.in_ok-within.ensures.went.all [])
    ∙ ap (first_mentions []) (at_the_top (shows c.new.result) (configuration c.args.outermost.now) c.new.ensures)

pub within-requires : goal.within-requires
within-requires c = subst (λ is. Knows c.new-mentioned.result.known (names_before is)) (sym c.new-mentioned.ensures.none) c.new-mentioned.ensures.known
