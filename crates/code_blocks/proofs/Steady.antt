-- Blocks whose instructions find the words that they take, and whose jumps find at their goals the depth that stands there.
use Rattle.std.proofs.Common.{◌≡◌, ℕ, suc, ◌+◌, ◌-◌, ◌≤◌, ◌⊎◌, List, [], ◌∷◌}
use Rattle.code_forms.specs.Routine.{Routine}
use Rattle.code_blocks.specs.Blocks.{Statement, Labels, Here, Leap, Anyhow, Where, Block, Does, Calls, Both, Ends, Out, Goes, Rounds, Enables, ArmBlocks, NoArmBlock, AndArmBlock}
use Rattle.code_blocks.specs.Sizes.{at_end, depth_behind, left_by_leap}
use Rattle.code_blocks.specs.Writing.{end_at}
use Rattle.code_blocks.proofs.Fine.{AllFine, Plain}

-- a jump leads out to the end of a part around
abbrev pub HasOut : Block → (part : ℕ) → Type 0
HasOut (Does is) part = ⊥
HasOut (Calls call takes puts arms) part = ⊥
HasOut (Both b c) part = HasOut b part ⊎ HasOut c part
HasOut (Ends (Statement n) b) part = HasOut b part
HasOut (Ends (Labels ls) b) part = HasOut b part
HasOut (Ends (Here words) b) part = HasOut b (suc part)
HasOut (Out leap p) part = p ≡ part
HasOut (Goes arms p) part = ⊥
HasOut (Rounds b) part = HasOut b part
HasOut (Enables arms b) part = HasOut b part

-- the word that a conditional jump tests is there
abbrev pub HasTested : Leap → (depth : ℕ) → Type 0
HasTested Anyhow d = d ≡ 0
HasTested (Where sense) d = 1 ≤ d

abbrev mutual
  -- with so many words before it, and with the depths at the ends of the parts around. Behind a jump in any case no words are left
  pub Steady : Routine → Block → (depth : ℕ) → (ends : List ℕ) → Type 0
  Steady r (Does is) d ends = AllFine is d
  Steady r (Calls call takes puts arms) d ends = Plain r call d (d - takes + puts) × ArmsSteady r arms
  Steady r (Both b c) d ends = Steady r b d ends × Steady r c (depth_behind b d) ends
  Steady r (Ends (Statement n) b) d ends = (d ≡ 0) × Steady r b d ends × (depth_behind b d ≡ d)
  Steady r (Ends (Labels ls) b) d ends = (d ≡ 0) × Steady r b d ends × (depth_behind b d ≡ d)
  Steady r (Ends (Here words) b) d ends =
      (Steady r b d (at_end (Here words) d ∷ ends) × (depth_behind b d ≡ at_end (Here words) d))
      ⊎ (SteadyOut r b d (at_end (Here words) d ∷ ends) × HasOut b 0)
  Steady r (Out leap part) d ends = HasTested leap d × (end_at ends part ≡ left_by_leap leap d)
  Steady r (Goes arms p) d ends = d ≡ 0
  Steady r (Rounds b) d ends = (d ≡ 0) × Steady r b d ends × (depth_behind b d ≡ d)
  Steady r (Enables arms b) d ends = ArmsSteady r arms × Steady r b d ends

  -- and a jump ends it in any case, whatever the words are
  pub SteadyOut : Routine → Block → (depth : ℕ) → (ends : List ℕ) → Type 0
  SteadyOut r (Both b c) d ends = Steady r b d ends × SteadyOut r c (depth_behind b d) ends
  SteadyOut r (Out Anyhow part) d ends = end_at ends part ≡ d
  SteadyOut r _ d ends = ⊥

  pub ArmsSteady : Routine → ArmBlocks → Type 0
  ArmsSteady r NoArmBlock = Unit {0}
  ArmsSteady r (AndArmBlock labels slot words b arms) = Steady r b 0 [] × (depth_behind b 0 ≡ 0) × ArmsSteady r arms
