-- How a state of the meaning and one of the machine belong together: the variables of each frame lie in its words, the hidden words of
-- loops and SELECTs under way are held in theirs, and what stands beside the activations is alike. Scratch words are words that nobody
-- holds. The meaning has a bound of turns, which is the fuel.
use Rattle.std.specs.Prelude.{◌≡◌, ℕ, ◌<◌, ◌≤◌, List, ◌∷◌, length, All, Option, Some}
use Rattle.source_meaning.specs.State as source
use Rattle.source_meaning.specs.State.{State}
use Rattle.machine_rules.specs.State.{Target, Store, Runs, Seeks, Leaves, Stepped, Goes}
use Rattle.signaller.specs.declared.search.Search.{Search}
use Rattle.signaller.specs.declared.signal_id.SignalId.{SignalId}
use Rattle.agreement_rules.specs.Agreement.{is_faulty}
use Rattle.agreement_rules.specs.Layout.{slots_of}
use Rattle.agreement_rules.specs.Operators.{Lies}
use Rattle.agreement_laws.specs.World.{World, texts_of, locals_of, globals_of, hidden_of}
use Rattle.agreement_laws.specs.Standing.{Here, Standing, at, bare, owner_of, Frames, fill, Falling, Named}

-- the hidden words that are held, by frame and slot
abbrev pub Hold : Type 0
Hold = (frame slot : ℕ) → Option ℕ

-- the words of the frames that were made
pub record Laid (W : World) (H : Hold) (μ : Frames) (s : source.Store) : Type 0 where
  pub frames : (f : ℕ) → f < s.fresh → Lies (texts_of W) (locals_of W (s.procedures f)) (s.variables f) (μ f)
  pub held : (f z v : ℕ) → H f z ≡ Some v → slots_of (μ f) z ≡ v
  pub above : (f z v : ℕ) → H f z ≡ Some v → hidden_of W (s.procedures f) ≤ z

-- what stands beside the activations. The instances that are still to be started are the meaning's own concern
pub record Beside (W : World) (control : List ℕ) (m : Store) (σ : State) : Type 0 where
  pub same_control : m.control ≡ control
  pub started : (j : ℕ) → m.started j ≡ σ.store.started j
  pub globals : (j : ℕ) → Lies (texts_of W) (globals_of W j) (σ.store.globals j) (m.globals j)
  pub turns : m.turns ≡ σ.turns
  pub input : m.input ≡ σ.input
  pub bytes : All (λ b. b < 256) σ.input
  pub faulty : m.faulty ≡ is_faulty σ.ending
  pub output : m.output ≡ σ.output

-- what stands as it is while code runs: the topmost activation and those below, the hidden words that are held, and the instances that
-- are still to be started
pub record Ground : Type 0 where
  pub here : Here
  pub below : Standing
  pub hold : Hold
  pub control : List ℕ

abbrev pub heres : Ground → List Here
heres G = G.here ∷ bare G.below

-- the place of the topmost activation, and that of its frame
abbrev pub top : Ground → ℕ
top G = length (bare G.below)

abbrev pub own : Ground → ℕ
own G = owner_of G.here.part (top G)

-- with these activations, and fewer turns left than the bound
pub record Agreed (W : World) (bound : ℕ) (control : List ℕ) (H : Hold) (B : List Here) (μ : Frames) (m : Store) (σ : State) : Type 0 where
  pub laid : Laid W H μ σ.store
  pub beside : Beside W control m σ
  pub count : σ.standing ≡ length B
  pub falling : Falling σ.store.fresh B
  pub named : Named B σ.store.procedures
  pub enough : σ.turns < bound

abbrev pub Agrees : World → (bound : ℕ) → Ground → Frames → Store → State → Type 0
Agrees W bound G μ m σ = Agreed W bound G.control G.hold (heres G) μ m σ

-- the machine's states over the numbered stack

abbrev pub running : Standing → Frames → Store → Stepped
running T μ m = Goes (Runs (fill μ T) m)

-- the topmost activation stands at an offset with these operands
abbrev pub standing : Ground → (o : ℕ) → (operands : List ℕ) → Frames → Store → Stepped
standing G o operands μ m = running (at G.here o operands ∷ G.below) μ m

abbrev pub seeking : SignalId → (args : List ℕ) → (place : ℕ) → Search → Standing → Frames → Store → Stepped
seeking signal args q search T μ m = Goes (Seeks signal args q search (fill μ T) m)

abbrev pub leaving : Target → Search → Standing → Frames → Store → Stepped
leaving t search T μ m = Goes (Leaves t search (fill μ T) m)
