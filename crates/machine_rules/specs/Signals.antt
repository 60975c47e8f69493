-- Raises: who is asked, and what comes of an arm (Mesa Language Manual, chapter 8; which phrases are asked, and in which order, is a rule
-- of this project).
use Rattle.std.specs.Prelude.{ℕ, zero, suc, List, [], ◌∷◌, length, take, Bool, true, false, Option, Some, None, nat_eq}
use Rattle.code_forms.specs.declared.module_code.CodeKind.{CodeKind}
use Rattle.code_forms.specs.declared.module_code.CodeKind.TheVariants.{Procedure, Signal, Error}
use Rattle.code_forms.specs.declared.module_code.CodeSignal.{CodeSignal}
use Rattle.object_files.specs.declared.image.Image.{Image}
use Rattle.signaller.specs.declared.search.Found.{Found}
use Rattle.signaller.specs.declared.search.Found.TheVariants.{Arm as FoundArm, Beyond}
use Rattle.signaller.specs.declared.search.Search.{Search}
use Rattle.signaller.specs.declared.signal_id.SignalId.{SignalId}
use Rattle.signaller.specs.declared.signal_id.SignalId.TheVariants.{Own, BoundsFault, ZeroDivisor, NoInput, Unnamed}
use Rattle.signaller.specs.Search.{search_at, next_arm}
use Rattle.machine_rules.specs.declared.end.End.TheVariants.{Uncaught}
use Rattle.machine_rules.specs.State.{Why, ForRaise, ForJump, Role, Frame, InArm, Activation, Active, Activations, Store, Seeks, Leaves, Ended, Stuck, Stepped, Goes, Stops}
use Rattle.machine_rules.specs.Words.{put_words}
use Rattle.machine_rules.specs.LookUps.{signal_of, links_of, phrases_under, arm_under}
use Rattle.machine_rules.specs.Activations.{activation_at, owner, variables_of, set_variables}
use Rattle.machine_rules.specs.Moves.{with, spend, enter, give}

-- Arms.

-- the frame at a place has these words from a slot on
unfoldable pub put_at : Activations → (place : ℕ) → (slot : ℕ) → List ℕ → Activations
put_at S q slot new = set_variables S q (put_words (variables_of (activation_at S q)) slot new)

-- the arm of this number, of the procedure of an activation at a place, is run: its parameters are put into its frame
unfoldable pub enter_arm : Image → (arm : ℕ) → Active → (place : ℕ) → Why → List ℕ → Activations → Store → Stepped
enter_arm image n b q why words S m =
    with (arm_under image b n) m λ arm.
    spend m λ m1. enter (record {
      instance = b.instance;
      procedure = b.procedure;
      offset = arm.start;
      operands = [];
      role = InArm (owner b.role q) n why;
    }) (put_at S (owner b.role q) arm.slot (take arm.words words)) m1

-- Raises.

-- all the phrases around an activation's offset, past the regions of arms too
unfoldable pub around : {X : Type 0} → Image → Activation X → Search
around image a = search_at true (phrases_under image a) a.offset

-- a turn is spent, and the phrases around the topmost activation are asked
unfoldable pub raise : Image → SignalId → List ℕ → Active → Activations → Store → Stepped
raise image signal args a S m = spend m λ m1. Goes (Seeks signal args (length S) (around image a) (a ∷ S) m1)

-- past the phrases of a frame come those of the activation under it; the lowest frame has none under it, and the run ends
unfoldable pub outward : Image → SignalId → List ℕ → (owner : ℕ) → Activations → Store → Stepped
outward image signal args zero S m = Stops (Ended (Uncaught signal)) m
outward image signal args (suc q) S m = with (activation_at S q) m λ b. Goes (Seeks signal args q (around image b) S m)

unfoldable pub asked : Image → SignalId → List ℕ → Active → (place : ℕ) → Found → Activations → Store → Stepped
asked image signal args b q Beyond S m = outward image signal args (owner b.role q) S m
asked image signal args b q (FoundArm arm beyond) S m = enter_arm image arm b q (ForRaise signal args beyond) args S m

unfoldable pub seek : Image → SignalId → List ℕ → (place : ℕ) → Search → Activations → Store → Stepped
seek image signal args q search S m =
    with (activation_at S q) m λ b.
    asked image signal args b q (next_arm (phrases_under image b) search (links_of image b.instance) signal) S m

-- What comes of an arm.

-- it rejects: its raise asks on beyond its phrase, or the jump that it interrupted goes on there
unfoldable pub reject : Role (List ℕ) → Activations → Store → Stepped
reject (Frame variables) S m = Stops Stuck m
reject (InArm own arm (ForRaise signal args beyond)) S m = Goes (Seeks signal args own beyond S m)
reject (InArm own arm (ForJump target beyond)) S m = Goes (Leaves target beyond S m)

-- a signal takes back as many words as it has results; an error takes none, nor do the predeclared ones
unfoldable pub takes_of : CodeKind → ℕ → ℕ → Bool
takes_of Signal results n = nat_eq results n
takes_of Procedure results n = false
takes_of Error results n = false

unfoldable pub takes_in : Option CodeSignal → ℕ → Bool
takes_in None n = false
takes_in (Some s) n = takes_of s.kind s.results n

unfoldable pub takes_back : Image → SignalId → ℕ → Bool
takes_back image (Own j k) n = takes_in (signal_of image j k) n
takes_back image BoundsFault n = false
takes_back image ZeroDivisor n = false
takes_back image NoInput n = false
takes_back image Unnamed n = false

unfoldable pub can_resume : Image → Role (List ℕ) → ℕ → Bool
can_resume image (Frame variables) n = false
can_resume image (InArm own arm (ForRaise signal args beyond)) n = takes_back image signal n
can_resume image (InArm own arm (ForJump target beyond)) n = false

-- it resumes: the words are given to the raiser, where its signal takes them back; else it rejects
unfoldable pub resumed : Bool → Image → List ℕ → Role (List ℕ) → Activations → Store → Stepped
resumed true image words role S m = give image 0 words S m
resumed false image words role S m = reject role S m

unfoldable pub resume : Image → ℕ → List ℕ → Role (List ℕ) → Activations → Store → Stepped
resume image n words role S m = resumed (can_resume image role n) image words role S m
