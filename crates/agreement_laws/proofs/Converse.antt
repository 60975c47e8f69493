-- What the machine runs to is what the source means, since a run has one end.
use Rattle.std.specs.Prelude.{◌≢◌, ◌-◌, length}
use Rattle.std.proofs.Common.{refl, sym, ap, ◌∙◌, subst}
use Rattle.source_meaning.specs.State.{Answer, Normal, Gives, Go, Resumed, Rejected, Retried, Continued, Uncaught, Spent, FrameLimit, Broken}
use Rattle.source_meaning.specs.Means.{outcome}
use Rattle.machine_rules.specs.State as machine
use Rattle.machine_rules.specs.State.{Ending, Ended, Stuck}
use Rattle.machine_rules.specs.Steps.{begins}
use Rattle.machine_rules.proofs.OneResult.{ends_at_most_once}
use Rattle.agreement_rules.specs.Agreement.{EndsAs, is_faulty, ImagesRunAsTheirSource}
use Rattle.agreement_laws.specs.Laws.{SourcesMeanWhatTheirImagesDo, ImagesOfSourcesAreNeverStuck}

pub means_alike : ImagesRunAsTheirSource → SourcesMeanWhatTheirImagesDo
means_alike theorem P image lawful stands wants input ending turns bytes output end left taken count steps =
    let r = outcome P input ending turns in
    let x = theorem P image lawful stands wants input ending turns bytes r.state.output r.answer r.state.turns (length input - length r.state.input)
    (record { its_output = refl; its_end = refl; its_turns = refl; its_input = refl }) in
    let same = ends_at_most_once image (begins image input (is_faulty ending) turns) x.ends end x.is_run.last steps.last x.is_run.ends steps.ends in
    record {
      answer = r.answer;
      alike = subst (λ e. EndsAs r.answer e) (sym same.0) x.alike;
      is_meant = record {
        its_output = sym x.is_run.its_output ∙ ap (λ m. m.output) (sym same.1) ∙ steps.its_output;
        its_end = refl;
        its_turns = sym x.is_run.its_turns ∙ ap (λ m. m.turns) (sym same.1) ∙ steps.its_turns;
        its_input = sym x.is_run.its_input ∙ ap (λ m. length input - length m.input) (sym same.1) ∙ steps.its_input;
      };
    }

abbrev IsStuck : Ending → Type 0
IsStuck (Ended e) = ⊥
IsStuck machine.Broken = ⊥
IsStuck Stuck = Unit {0}

no_end_is_stuck : (a : Answer) (e : Ending) → EndsAs a e → e ≢ Stuck
unfolding EndsAs
no_end_is_stuck Normal e h s = subst (λ x. IsStuck x) (sym s ∙ h) tt
no_end_is_stuck (Gives vs) e h s = h
no_end_is_stuck (Go f p) e h s = h
no_end_is_stuck (Resumed vs) e h s = h
no_end_is_stuck Rejected e h s = h
no_end_is_stuck (Retried n) e h s = h
no_end_is_stuck (Continued n) e h s = h
no_end_is_stuck (Uncaught signal) e h s = subst (λ x. IsStuck x) (sym s ∙ h) tt
no_end_is_stuck Spent e h s = subst (λ x. IsStuck x) (sym s ∙ h) tt
no_end_is_stuck FrameLimit e h s = subst (λ x. IsStuck x) (sym s ∙ h) tt
no_end_is_stuck Broken e h s = subst (λ x. IsStuck x) (sym s ∙ h) tt

pub not_stuck : SourcesMeanWhatTheirImagesDo → ImagesOfSourcesAreNeverStuck
not_stuck converse P image lawful stands wants input ending turns bytes output end left taken count steps =
    let x = converse P image lawful stands wants input ending turns bytes output end left taken count steps in
    no_end_is_stuck x.answer end x.alike
