-- What follows of the theorem, for each lawful program and each image that stands for it and wants nothing but the host's items.
use Rattle.std.specs.Prelude.{◌≢◌, ℕ, ◌<◌, List, All}
use Rattle.source_meaning.specs.Lawful.{Lawful}
use Rattle.source_meaning.specs.Means.{Means}
use Rattle.source_meaning.specs.Program.{Program}
use Rattle.source_meaning.specs.State.{Ending, Answer}
use Rattle.object_files.specs.declared.image.Image.{Image}
use Rattle.machine_rules.specs.State as machine
use Rattle.machine_rules.specs.State.{Stuck}
use Rattle.machine_rules.specs.Steps.{Steps}
use Rattle.agreement_rules.specs.Agreement.{EndsAs, is_faulty}
use Rattle.agreement_rules.specs.Stands.{Stands, WantsTheHost}

-- the program means this output, an end that is this one's, and as many turns left and bytes taken
pub record MeansAlike (P : Program) (input : List ℕ) (ending : Ending) (turns : ℕ) (output : List ℕ) (end : machine.Ending) (left taken : ℕ) : Type 0 where
  pub answer : Answer
  pub alike : EndsAs answer end
  pub is_meant : Means P input ending turns output answer left taken

-- what the machine runs to is what the program means
abbrev pub SourcesMeanWhatTheirImagesDo : Type 0
SourcesMeanWhatTheirImagesDo = (P : Program) (image : Image) → Lawful P → Stands P image → WantsTheHost image
    → (input : List ℕ) (ending : Ending) (turns : ℕ) → All (λ byte. byte < 256) input
    → (output : List ℕ) (end : machine.Ending) (left taken count : ℕ) → Steps image input (is_faulty ending) turns output end left taken count
    → MeansAlike P input ending turns output end left taken

-- so the machine is never stuck on it
abbrev pub ImagesOfSourcesAreNeverStuck : Type 0
ImagesOfSourcesAreNeverStuck = (P : Program) (image : Image) → Lawful P → Stands P image → WantsTheHost image
    → (input : List ℕ) (ending : Ending) (turns : ℕ) → All (λ byte. byte < 256) input
    → (output : List ℕ) (end : machine.Ending) (left taken count : ℕ) → Steps image input (is_faulty ending) turns output end left taken count
    → end ≢ Stuck
