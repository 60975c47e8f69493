-- An image does what its source means: the theorem as a statement.
use Rattle.std.specs.Prelude.{◌≡◌, ℕ, ◌<◌, List, All, Bool, true, false}
use Rattle.source_meaning.specs.Program.{Signal, SignalOf, BoundsFault, ZeroDivisor, NoInput, Unnamed, Program}
use Rattle.source_meaning.specs.State.{Ending, End, Fault, Answer, Normal, Gives, Go, Resumed, Rejected, Retried, Continued, Uncaught, Spent, FrameLimit, Broken}
use Rattle.source_meaning.specs.Lawful.{Lawful}
use Rattle.source_meaning.specs.Means.{Means}
use Rattle.object_files.specs.declared.image.Image.{Image}
use Rattle.machine_rules.specs.signaller.specs.declared.signal_id.SignalId.{SignalId}
use Rattle.machine_rules.specs.signaller.specs.declared.signal_id.SignalId.TheVariants as id
use Rattle.machine_rules.specs.declared.end.End.TheVariants as end
use Rattle.machine_rules.specs.State as machine
use Rattle.machine_rules.specs.Steps.{Steps}
use Rattle.agreement_rules.specs.Stands.{Stands, WantsTheHost}

-- the signals are numbered alike
unfoldable pub id_of : Signal → SignalId
id_of (SignalOf j k) = id.Own j k
id_of BoundsFault = id.BoundsFault
id_of ZeroDivisor = id.ZeroDivisor
id_of NoInput = id.NoInput
id_of Unnamed = id.Unnamed

-- the ends of programs, and those of images
unfoldable pub EndsAs : Answer → machine.Ending → Type 0
EndsAs Normal e = e ≡ machine.Ended end.Done
EndsAs (Uncaught s) e = e ≡ machine.Ended (end.Uncaught (id_of s))
EndsAs Spent e = e ≡ machine.Ended end.Spent
EndsAs FrameLimit e = e ≡ machine.Ended end.FrameLimit
EndsAs Broken e = e ≡ machine.Broken
EndsAs (Gives vs) e = ⊥
EndsAs (Go f p) e = ⊥
EndsAs (Resumed vs) e = ⊥
EndsAs Rejected e = ⊥
EndsAs (Retried n) e = ⊥
EndsAs (Continued n) e = ⊥

unfoldable pub is_faulty : Ending → Bool
is_faulty End = false
is_faulty Fault = true

-- the machine's run, with the same output, end, turns left and bytes taken
pub record RunsAlike (image : Image) (input : List ℕ) (ending : Ending) (turns : ℕ) (output : List ℕ) (answer : Answer) (left taken : ℕ) : Type 0 where
  pub ends : machine.Ending
  pub alike : EndsAs answer ends
  pub count : ℕ
  pub is_run : Steps image input (is_faulty ending) turns output ends left taken count

-- For each lawful program and each image that stands for it and wants nothing but the host's items, each input of bytes and each bound. Since the
-- program has exactly one result, and the machine at most one, each has the other's.
abbrev pub ImagesRunAsTheirSource : Type 0
ImagesRunAsTheirSource = (P : Program) (image : Image) → Lawful P → Stands P image → WantsTheHost image
    → (input : List ℕ) (ending : Ending) (turns : ℕ) → All (λ byte. byte < 256) input
    → (output : List ℕ) (answer : Answer) (left taken : ℕ) → Means P input ending turns output answer left taken
    → RunsAlike image input ending turns output answer left taken
