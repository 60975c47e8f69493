use Rattle.std.proofs.Common.{sym, ap, ◌∙◌, map}
use Rattle.loader_rules.specs.LoadFaults.{load_faults}
use Rattle.loader_rules.specs.Parts.{parts}
use Rattle.loader_rules.specs.Wanted.{still_wanted}
use Rattle.load_checks.specs.Links.{links_of_wanted, wanted_links}
use Rattle.load_checks.specs.Wanting.{entries_shown}
use Rattle.load_checks.proofs.resolving.found.Goals as goal

pub returns-clause-found : goal.returns-clause-found
unfolding links_of_wanted
returns-clause-found c =
    let wanted = c.in_ok-wanting.ensures.wanted ∙ ap still_wanted c.as_slice.ensures.value in
    record {
      no_fault = ap load_faults (sym c.as_slice-2.ensures.value) ∙ c.in_ok-links.ensures.none;
      wanted = c.in_ok-wanted.ensures ∙ (ap entries_shown c.as_slice-3.ensures.value ∙ wanted);
      links = c.in_ok-links.ensures.links ∙ (λ j. map (wanted_links (wanted j)) (parts (c.as_slice-2.ensures.value j)));
    }
