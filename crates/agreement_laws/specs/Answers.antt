-- What the machine does where the meaning answers: it comes to the end of the code, with the words of the values on the operands; it is
-- on its way to the point of a jump, with exactly the phrases around the construct still to be asked; it stands at the instruction with
-- which an arm resumes or rejects; or it ends.
use Rattle.std.specs.Prelude.{◌≡◌, ℕ, suc, ◌<◌, List, [], ◌∷◌, false, All, Some}
use Rattle.mesa_types.specs.Typed.{Kinds, Point, Start, After, At, Leave}
use Rattle.mesa_types.specs.Shapes.{words_in_all}
use Rattle.mesa_types.specs.Sound.{Scope, LabelGives, IsForRaises}
use Rattle.code_forms.specs.declared.instruction.Instruction.TheVariants.{ArmEnd, Resume}
use Rattle.signaller.specs.declared.search.Search.{Search}
use Rattle.signaller.specs.Search.{asked}
use Rattle.source_meaning.specs.Value.{Values}
use Rattle.source_meaning.specs.State.{State, Answer, Normal, Gives, Go, Resumed, Rejected, Retried, Continued, Uncaught, Spent, FrameLimit, Broken, Result}
use Rattle.code_rules.specs.Reading.{Coded}
use Rattle.machine_rules.specs.State as machine
use Rattle.machine_rules.specs.State.{Target, Store, Stepped}
use Rattle.machine_rules.specs.Words.{push}
use Rattle.machine_rules.specs.LookUps.{instruction_at}
use Rattle.machine_rules.specs.Leaving.{arrived}
use Rattle.machine_rules.specs.Steps.{Ends}
use Rattle.agreement_rules.specs.Agreement.{EndsAs}
use Rattle.agreement_rules.specs.Layout.{Show}
use Rattle.agreement_rules.specs.Reaches.{Reaches}
use Rattle.agreement_laws.specs.World.{World, texts_of}
use Rattle.agreement_laws.specs.Standing.{Frames, at, filled, fill}
use Rattle.agreement_laws.specs.Relation.{Ground, top, Agrees, standing, leaving}
use Rattle.agreement_laws.specs.Chains.{Dictionary}
use Rattle.agreement_laws.specs.Contexts.{Site, table}

-- the machine comes to an offset with these operands, and the state of the meaning agrees with it there
pub record Comes (W : World) (bound : ℕ) (G : Ground) (o : ℕ) (operands : List ℕ) (s : Stepped) (σ : State) : Type 0 where
  pub frames : Frames
  pub store : Store
  pub agrees : Agrees W bound G frames store σ
  pub reaches : Reaches W.image s (standing G o operands frames store)

-- the words of values stand on the rest of the operands
pub record Gave (W : World) (bound : ℕ) (G : Ground) (ks : Kinds) (o : ℕ) (rest : List ℕ) (s : Stepped) (vs : Values) (σ : State) : Type 0 where
  pub words : List ℕ
  pub shown : Show (texts_of W) ks vs words
  pub comes : Comes W bound G o (push words rest) s σ

-- on the way to a target: it has arrived at the topmost activation; or goes out of it, and these phrases around are still to be asked
pub data OnItsWay (W : World) (G : Ground) (around : List ℕ) (t : Target) (μ : Frames) (m : Store) : Stepped → Type 0 where
  has_arrived : (o : ℕ) (operands : List ℕ) → t.place ≡ top G
      → OnItsWay W G around t μ m (arrived W.image t.goal (filled μ (at G.here o operands)) (fill μ G.below) m)
  passes : (search : Search) (o : ℕ) (operands : List ℕ) → asked false (table W G) search.phrase ≡ around
      → OnItsWay W G around t μ m (leaving t search (at G.here o operands ∷ G.below) μ m)

pub record Jumps (W : World) (bound : ℕ) (G : Ground) (D : Dictionary) (around : List ℕ) (s : Stepped) (f : ℕ) (p : Point) (σ : State) : Type 0 where
  pub target : Target
  pub found : D f p ≡ Some target
  pub frames : Frames
  pub store : Store
  pub agrees : Agrees W bound G frames store σ
  pub on_way : Stepped
  pub is_on_way : OnItsWay W G around target frames store on_way
  pub reaches : Reaches W.image s on_way

-- a jump to the start of a statement comes out of an arm, so a turn was spent on the way
abbrev pub HasSpent : (bound : ℕ) → Point → State → Type 0
HasSpent bound (Start n) σ = suc σ.turns < bound
HasSpent bound (After n) σ = Unit {0}
HasSpent bound (At l) σ = Unit {0}
HasSpent bound Leave σ = Unit {0}

-- the machine ends alike
pub record Ended (W : World) (a : Answer) (s : Stepped) (σ : State) : Type 0 where
  pub end : machine.Ending
  pub last : Store
  pub ends : Ends W.image s end last
  pub alike : EndsAs a end
  pub output : last.output ≡ σ.output
  pub turns : last.turns ≡ σ.turns
  pub input : last.input ≡ σ.input

-- The answers of an expression, a raise, a call; what is said of values is given.
abbrev pub Answered : World → (bound : ℕ) → (K : Site) → (around : List ℕ) → (Stepped → Values → State → Type 0) → Stepped → Answer → State → Type 0
Answered W bound K around Given s Normal σ = ⊥
Answered W bound K around Given s (Gives vs) σ = Given s vs σ
Answered W bound K around Given s (Go f p) σ = HasSpent bound p σ × Jumps W bound K.ground K.points around s f p σ
Answered W bound K around Given s (Resumed vs) σ = ⊥
Answered W bound K around Given s Rejected σ = ⊥
Answered W bound K around Given s (Retried n) σ = ⊥
Answered W bound K around Given s (Continued n) σ = ⊥
Answered W bound K around Given s (Uncaught signal) σ = Ended W (Uncaught signal) s σ
Answered W bound K around Given s Spent σ = Ended W Spent s σ
Answered W bound K around Given s FrameLimit σ = Ended W FrameLimit s σ
Answered W bound K around Given s Broken σ = Ended W Broken s σ

-- those that pass out of every construct
abbrev pub Passed : World → (bound : ℕ) → (K : Site) → (around : List ℕ) → Stepped → Answer → State → Type 0
Passed W bound K around s a σ = Answered W bound K around (λ s vs σ. ⊥) s a σ

-- of an expression whose values of these kinds come at an offset
abbrev pub Valued : World → (bound : ℕ) → (K : Site) → (around : List ℕ) → Kinds → (o : ℕ) → (rest : List ℕ) → Stepped → Result → Type 0
Valued W bound K around ks o rest s r = Answered W bound K around (λ s vs σ. Gave W bound K.ground ks o rest s vs σ) s r.answer r.state

-- The answers of a statement.

-- in an arm all of whose labels are of signals that give such values, the machine stands at the instruction that resumes with them
pub record ResumesWith (W : World) (bound : ℕ) (G : Ground) (Γ : Scope) (C : Coded) (s : Stepped) (vs : Values) (σ : State) : Type 0 where
  pub kinds : Kinds
  pub labels : All (LabelGives Γ kinds) Γ.arm
  pub in_arm : IsForRaises Γ.arm
  pub offset : ℕ
  pub is_there : instruction_at C.entries offset ≡ Some (Resume (words_in_all kinds))
  pub words : List ℕ
  pub shown : Show (texts_of W) kinds vs words
  pub comes : Comes W bound G offset (push words []) s σ

pub record RejectsAt (W : World) (bound : ℕ) (G : Ground) (Γ : Scope) (C : Coded) (s : Stepped) (σ : State) : Type 0 where
  pub in_arm : 0 < Γ.depth
  pub offset : ℕ
  pub is_there : instruction_at C.entries offset ≡ Some ArmEnd
  pub comes : Comes W bound G offset [] s σ

-- a jump of an arm to a point of the statement of its phrase, which lies in an activation below
pub record GoesBack (W : World) (bound : ℕ) (G : Ground) (Γ : Scope) (D : Dictionary) (around : List ℕ) (f : ℕ) (p : Point) (s : Stepped) (σ : State) : Type 0 where
  pub in_arm : IsForRaises Γ.arm
  pub jumps : Jumps W bound G D around s f p σ
  pub below : jumps.target.place < top G

abbrev pub Done : World → (bound : ℕ) → (K : Site) → (around : List ℕ) → (o : ℕ) → Stepped → Answer → State → Type 0
Done W bound K around o s Normal σ = Comes W bound K.ground o [] s σ
Done W bound K around o s (Gives vs) σ = ⊥
Done W bound K around o s (Go f p) σ = HasSpent bound p σ × Jumps W bound K.ground K.points around s f p σ
Done W bound K around o s (Resumed vs) σ = ResumesWith W bound K.ground K.scope K.code s vs σ
Done W bound K around o s Rejected σ = RejectsAt W bound K.ground K.scope K.code s σ
Done W bound K around o s (Retried n) σ = GoesBack W bound K.ground K.scope K.points around K.meant.frame (Start n) s σ
Done W bound K around o s (Continued n) σ = GoesBack W bound K.ground K.scope K.points around K.meant.frame (After n) s σ
Done W bound K around o s (Uncaught signal) σ = Ended W (Uncaught signal) s σ
Done W bound K around o s Spent σ = Ended W Spent s σ
Done W bound K around o s FrameLimit σ = Ended W FrameLimit s σ
Done W bound K around o s Broken σ = Ended W Broken s σ
