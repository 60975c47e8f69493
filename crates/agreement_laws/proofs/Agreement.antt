-- An image does what its source means, and the source means what its image does.
use Rattle.std.specs.Prelude.{◌-◌, length}
use Rattle.std.proofs.Common.{refl, ap, ◌∙◌, subst}
use Rattle.agreement_rules.specs.Agreement.{EndsAs, ImagesRunAsTheirSource}
use Rattle.agreement_laws.specs.Laws.{SourcesMeanWhatTheirImagesDo, ImagesOfSourcesAreNeverStuck}
use Rattle.agreement_laws.specs.World.{World, Ready}
use Rattle.agreement_laws.proofs.Converse.{means_alike, not_stuck}
use Rattle.agreement_laws.proofs.Main.{whole_run}

pub images_run : ImagesRunAsTheirSource
images_run P image lawful stands wants input ending turns bytes output answer left taken means =
    let W : World = record { program = P; image = image } in
    let ready : Ready W = record { lawful = lawful; stands = stands; host = wants } in
    let e = whole_run W ready input ending turns bytes in
    record {
      ends = e.end;
      alike = subst (λ a. EndsAs a e.end) means.its_end e.alike;
      count = e.last.begun;
      is_run = record {
        last = e.last;
        ends = e.ends;
        its_output = e.output ∙ means.its_output;
        its_turns = e.turns ∙ means.its_turns;
        its_input = ap (λ l. length input - length l) e.input ∙ means.its_input;
        its_count = refl;
      };
    }

pub sources_mean : SourcesMeanWhatTheirImagesDo
sources_mean = means_alike images_run

pub never_stuck : ImagesOfSourcesAreNeverStuck
never_stuck = not_stuck sources_mean
