-- Jumps and the search. A dictionary says where the points lie to which a jump may go, by frame and point; and the chain of the meaning
-- is what the machine's search asks, one phrase after the other: the phrases of one procedure by their numbers, through the regions of
-- its arms, and then those of the activation under its frame.
use Rattle.std.specs.Prelude.{◌≡◌, ℕ, zero, suc, ◌+◌, ◌<◌, ◌≤◌, List, [], ◌∷◌, length, true, Option, Some, None, slice_get}
use Rattle.mesa_types.specs.Typed.{Point, Start, After, At, Arms, Catch}
use Rattle.mesa_types.specs.Counts.{hidden_arms}
use Rattle.mesa_types.specs.Sound.{Scope, ArmsIn}
use Rattle.code_forms.specs.declared.module_code.Phrase.{Phrase}
use Rattle.code_forms.specs.Regions.{region_at}
use Rattle.signaller.specs.declared.place.Place as phrase_place
use Rattle.signaller.specs.Search.{around, beyond}
use Rattle.source_meaning.specs.State.{ProcedureId}
use Rattle.source_meaning.specs.Variables.{Enabled}
use Rattle.machine_rules.specs.State.{Target, Why}
use Rattle.code_rules.specs.CodeFor.{ArmsCode}
use Rattle.code_rules.specs.Points.{Points, OutOf}
use Rattle.code_rules.specs.Reading.{Coded, Destination, Offset, Caller, Place, in_region}
use Rattle.agreement_laws.specs.World.{World, CodeOf, ScopeIn, hidden_of}
use Rattle.agreement_laws.specs.Standing.{IsFrame, IsArm, Here, Act, Standing, bare, act_at, here_at, owner_of, Numbered, frame_at, table_of, region_of, LiesIn, Apart}
use Rattle.agreement_laws.specs.Relation.{Hold}

-- Points.

abbrev pub Dictionary : Type 0
Dictionary = (frame : ℕ) → Point → Option Target

abbrev pub Within : Dictionary → Dictionary → Type 0
Within D E = (f : ℕ) (p : Point) (t : Target) → D f p ≡ Some t → E f p ≡ Some t

-- a jump comes back to the caller from the frame itself; an offset lies in the region of its activation
abbrev pub Aims : World → Here → (place owner : ℕ) → Option ℕ → Type 0
Aims W h place owner None = place ≡ owner
Aims W h place owner (Some offset) = LiesIn (table_of W h.procedure) h.part offset

-- the target is in an activation of this frame
pub record IsTarget (W : World) (B : List Here) (f : ℕ) (t : Target) : Type 0 where
  pub frame : Numbered
  pub is_frame : frame_at B t.owner ≡ Some frame
  pub number : frame.number ≡ f
  pub aimed : Here
  pub is_there : here_at B t.place ≡ Some aimed
  pub owned : owner_of aimed.part t.place ≡ t.owner
  pub same_procedure : aimed.procedure ≡ frame.procedure
  pub aims : Aims W aimed t.place t.owner t.goal

abbrev pub Targets : World → List Here → Dictionary → Type 0
Targets W B D = (f : ℕ) (p : Point) (t : Target) → D f p ≡ Some t → IsTarget W B f t

abbrev pub goal_of : Destination → Option ℕ
goal_of (Offset target) = Some target
goal_of Caller = None

-- out of no arm a jump stays in its activation, which is at this place; out of some it goes below
abbrev pub Away : (arms place target : ℕ) → Type 0
Away zero q place = place ≡ q
Away (suc k) q place = place < q

-- from the activation at place q, of frame f at place own, a jump out of so many arms comes to a point
pub record Leads (D : Dictionary) (f own q : ℕ) (p : Point) (arms : ℕ) (to : Destination) : Type 0 where
  pub target : Target
  pub found : D f p ≡ Some target
  pub owner : target.owner ≡ own
  pub goal : target.goal ≡ goal_of to
  pub away : Away arms q target.place

-- so does each jump to a point that is visible in the code
abbrev pub Finds : Dictionary → (f own q : ℕ) → Points Destination → Type 0
Finds D f own q points = (p : Point) (arms : ℕ) (to : Destination) → points p ≡ OutOf arms to → Leads D f own q p arms to

-- the frame has no point with a number that is free in the scope
pub record Fresh (D : Dictionary) (f : ℕ) (Γ : Scope) : Type 0 where
  pub starts : (n : ℕ) → Γ.statements ≤ n → D f (Start n) ≡ None
  pub afters : (n : ℕ) → Γ.statements ≤ n → D f (After n) ≡ None
  pub labels : (l : ℕ) → Γ.labels ≤ l → D f (At l) ≡ None

-- Hidden words.

-- what is held belongs to frames that stand
abbrev pub HoldsStanding : List Here → Hold → Type 0
HoldsStanding B H = (f z v : ℕ) → H f z ≡ Some v → (q : ℕ) × (n : Numbered) × (frame_at B q ≡ Some n) × (n.number ≡ f)

-- below the floor of a frame lie the hidden words of the arms in the chain; it is 0 for frames that do not stand
abbrev pub Floor : Type 0
Floor = (frame : ℕ) → ℕ

abbrev pub FloorStands : List Here → Floor → Type 0
FloorStands B F = (f v : ℕ) → F f ≡ suc v → (q : ℕ) × (n : Numbered) × (frame_at B q ≡ Some n) × (n.number ≡ f)

-- no word from one slot to another is held in the frame
abbrev pub Free : Hold → (f from to : ℕ) → Type 0
Free H f from to = (z : ℕ) → from ≤ z → z < to → H f z ≡ None

-- the hidden words from one slot to another are free for what runs in the frame
pub record Room (W : World) (p : ProcedureId) (B : List Here) (H : Hold) (F : Floor) (f from to : ℕ) : Type 0 where
  pub above : hidden_of W p ≤ from
  pub low : F f ≤ from
  pub floors : FloorStands B F
  pub order : from ≤ to
  pub free : Free H f from to

-- The chain.

-- phrase n of the procedure of the activation at place q is the enabled phrase l of the chain, and its arms can run
pub record Held (W : World) (B : List Here) (D : Dictionary) (H : Hold) (F : Floor) (l : Enabled) (q n : ℕ) : Type 0 where
  pub here : Here
  pub is_there : here_at B q ≡ Some here
  pub instance : here.procedure.instance ≡ l.instance
  pub is_frame : frame_at B (owner_of here.part q) ≡ Some (record { number = l.owner; procedure = here.procedure })
  pub code : Coded
  pub code_of : CodeOf W here.procedure code
  pub statement : ℕ
  pub arms : Arms
  pub is_phrase : l.phrase ≡ Catch statement arms
  pub phrase : Phrase
  pub is_coded : slice_get code.routine.phrases n ≡ Some phrase
  pub inside : region_at code.routine.phrases phrase.from ≡ region_of here.part
  pub scope : Scope
  pub scope_in : ScopeIn W here.procedure scope
  pub arms_in : ArmsIn scope statement arms
  pub place : Place
  pub regions : ArmsCode code (in_region place) arms phrase.arms
  pub fresh : Fresh D l.owner scope
  pub targets : Targets W B D
  pub finds : Finds D l.owner (owner_of here.part q) q place.points
  pub upto : ℕ
  pub room : Room W here.procedure B H F l.owner place.slot upto
  pub fits : place.slot + hidden_arms arms ≤ upto
  pub apart : Apart B q n

-- h is the topmost activation, over S. From the activation at place q on, whose phrases of these numbers are still to be asked, the search
-- asks the phrases of the chain. An arm runs with the points and the hidden words of its own place in the chain.
pub data Asks (W : World) (h : Here) (S : Standing) (H : Hold) : Dictionary → Floor → (q : ℕ) → (numbers : List ℕ) → List Enabled → Type 0 where
  -- under the lowest frame is nothing
  asks_end : {D : Dictionary} {F : Floor} (here : Here) (number : ℕ) → here_at (h ∷ bare S) 0 ≡ Some here → here.part ≡ IsFrame number
      → Asks W h S H D F 0 [] []
  -- past a frame's phrases come those around the activation under it, which waits
  asks_out : {D : Dictionary} {F : Floor} {q : ℕ} {chain : List Enabled} (here : Here) (number : ℕ) (waits : Act)
      → here_at (h ∷ bare S) (suc q) ≡ Some here → here.part ≡ IsFrame number → act_at S q ≡ Some waits
      → Asks W h S H D F q (around true (table_of W waits.here.procedure) (length (table_of W waits.here.procedure)) waits.offset) chain
      → Asks W h S H D F (suc q) [] chain
  -- past the phrases of an arm's region come those of its holder
  asks_arm : {D : Dictionary} {F : Floor} {q : ℕ} {numbers : List ℕ} {chain : List Enabled} (here : Here) (own holder : ℕ)
      (place : phrase_place.Place) (number : ℕ) (why : Why) → here_at (h ∷ bare S) q ≡ Some here → here.part ≡ IsArm own holder place number why
      → holder < q → Asks W h S H D F holder numbers chain → Asks W h S H D F q numbers chain
  -- a phrase
  asks_here : {D : Dictionary} {F : Floor} {q n : ℕ} {l : Enabled} {chain : List Enabled} (E : Dictionary) (G : Floor)
      (held : Held W (h ∷ bare S) E H G l q n) → Within E D → ((f : ℕ) → G f ≤ F f) → held.upto ≤ F l.owner
      → Asks W h S H E G q (beyond true (table_of W held.here.procedure) n) chain
      → Asks W h S H D F q (n ∷ beyond true (table_of W held.here.procedure) n) (l ∷ chain)
