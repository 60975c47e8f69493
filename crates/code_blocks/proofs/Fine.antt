-- Instructions by themselves: that the words that they take are there, and what that says of them in a procedure.
use Rattle.std.proofs.Common.{◌≡◌, refl, sym, subst, ℕ, ◌≤◌, ◌⊎◌, inl, inr, List, [], ◌∷◌, ◌++◌, None, arith}
use Rattle.std.proofs.lemmas.Bool.{false≢true}
use Rattle.std.specs.Prelude.{IsTrue}
use Rattle.code_forms.specs.declared.instruction.Instruction.{Instruction}
use Rattle.code_forms.specs.declared.instruction.Instruction.TheVariants as i
use Rattle.code_forms.specs.Depths.{depth_after, forward_target, backward_target, outward_target, is_return}
use Rattle.code_forms.specs.Routine.{Routine, moves, goes_on}
use Rattle.code_blocks.specs.Own.{alone, left_of}

-- the words that own code takes are there, and where it does not go on it leaves none
abbrev pub Fine : Instruction → (depth : ℕ) → Type 0
Fine (i.Jump target) d = ⊥
Fine (i.JumpIf target) d = ⊥
Fine (i.JumpIfNot target) d = ⊥
Fine (i.JumpBack target) d = ⊥
Fine (i.Leave arms target) d = ⊥
Fine (i.LeaveReturn arms) d = ⊥
Fine (i.Call procedure) d = ⊥
Fine (i.CallLink link) d = ⊥
Fine (i.Raise signal) d = ⊥
Fine (i.RaiseLink link) d = ⊥
Fine (i.RaiseHost fault) d = ⊥
Fine i.Return d = d ≡ 0
Fine i.ArmEnd d = d ≡ 0
Fine (i.Resume words) d = d ≡ words
Fine x d = (moves alone x).takes ≤ d

abbrev pub AllFine : List Instruction → (depth : ℕ) → Type 0
AllFine [] d = Unit {0}
AllFine (x ∷ is) d = Fine x d × AllFine is (depth_after alone x d)

pub fine_at : (is : List Instruction) {m n : ℕ} → m ≡ n → AllFine is n → AllFine is m
fine_at is {m = m} {n = n} e h = subst (λ k. AllFine is k) (sym e) h

pub fine_both : (is js : List Instruction) (d : ℕ) → AllFine is d → AllFine js (left_of is d) → AllFine (is ++ js) d
fine_both [] js d g h = h
fine_both (x ∷ is) js d g h = (g.0, fine_both is js (depth_after alone x d) g.1 h)

-- with d words before it and n behind it, an instruction finds what it takes and jumps nowhere; it leaves no words where it does not go on
pub record Plain (r : Routine) (x : Instruction) (d n : ℕ) : Type 0 where
  pub enough : (moves r x).takes ≤ d
  pub after : depth_after r x d ≡ n
  pub rests : IsTrue (goes_on r x) ⊎ (n ≡ 0)
  pub forward : forward_target x ≡ None
  pub backward : backward_target x ≡ None
  pub outward : outward_target x ≡ None
  pub returns : IsTrue (is_return x) → d ≡ 0

goer : (r : Routine) (x : Instruction) (d : ℕ) → (moves r x).takes ≤ d → depth_after r x d ≡ depth_after alone x d → IsTrue (goes_on r x)
    → forward_target x ≡ None → backward_target x ≡ None → outward_target x ≡ None → (IsTrue (is_return x) → ⊥) → Plain r x d (depth_after alone x d)
goer r x d enough after on forward backward outward never = record {
  enough = enough;
  after = after;
  rests = inl on;
  forward = forward;
  backward = backward;
  outward = outward;
  returns = λ y. absurd (never y);
}

stopper : (r : Routine) (x : Instruction) (d : ℕ) → (moves r x).takes ≤ d → depth_after r x d ≡ depth_after alone x d → depth_after alone x d ≡ 0
    → forward_target x ≡ None → backward_target x ≡ None → outward_target x ≡ None → (IsTrue (is_return x) → d ≡ 0) → Plain r x d (depth_after alone x d)
stopper r x d enough after none forward backward outward returns = record {
  enough = enough;
  after = after;
  rests = inr none;
  forward = forward;
  backward = backward;
  outward = outward;
  returns = returns;
}

pub fine_plain : (r : Routine) (x : Instruction) (d : ℕ) → Fine x d → Plain r x d (depth_after alone x d)
fine_plain r (i.Lit word) d h = goer r (i.Lit word) d h refl refl refl refl refl (λ x. false≢true x)
fine_plain r (i.Str literal) d h = goer r (i.Str literal) d h refl refl refl refl refl (λ x. false≢true x)
fine_plain r (i.LoadL slot words) d h = goer r (i.LoadL slot words) d h refl refl refl refl refl (λ x. false≢true x)
fine_plain r (i.StoreL slot words) d h = goer r (i.StoreL slot words) d h refl refl refl refl refl (λ x. false≢true x)
fine_plain r (i.LoadG slot words) d h = goer r (i.LoadG slot words) d h refl refl refl refl refl (λ x. false≢true x)
fine_plain r (i.StoreG slot words) d h = goer r (i.StoreG slot words) d h refl refl refl refl refl (λ x. false≢true x)
fine_plain r (i.LoadLX slot extent words) d h = goer r (i.LoadLX slot extent words) d h refl refl refl refl refl (λ x. false≢true x)
fine_plain r (i.StoreLX slot extent words) d h = goer r (i.StoreLX slot extent words) d h refl refl refl refl refl (λ x. false≢true x)
fine_plain r (i.LoadGX slot extent words) d h = goer r (i.LoadGX slot extent words) d h refl refl refl refl refl (λ x. false≢true x)
fine_plain r (i.StoreGX slot extent words) d h = goer r (i.StoreGX slot extent words) d h refl refl refl refl refl (λ x. false≢true x)
fine_plain r (i.Index count size) d h = goer r (i.Index count size) d h refl refl refl refl refl (λ x. false≢true x)
fine_plain r i.Add d h = goer r i.Add d h refl refl refl refl refl (λ x. false≢true x)
fine_plain r i.Sub d h = goer r i.Sub d h refl refl refl refl refl (λ x. false≢true x)
fine_plain r i.Mul d h = goer r i.Mul d h refl refl refl refl refl (λ x. false≢true x)
fine_plain r i.Neg d h = goer r i.Neg d h refl refl refl refl refl (λ x. false≢true x)
fine_plain r i.DivI d h = goer r i.DivI d h refl refl refl refl refl (λ x. false≢true x)
fine_plain r i.ModI d h = goer r i.ModI d h refl refl refl refl refl (λ x. false≢true x)
fine_plain r i.DivC d h = goer r i.DivC d h refl refl refl refl refl (λ x. false≢true x)
fine_plain r i.ModC d h = goer r i.ModC d h refl refl refl refl refl (λ x. false≢true x)
fine_plain r i.Eq d h = goer r i.Eq d h refl refl refl refl refl (λ x. false≢true x)
fine_plain r i.LessI d h = goer r i.LessI d h refl refl refl refl refl (λ x. false≢true x)
fine_plain r i.LessC d h = goer r i.LessC d h refl refl refl refl refl (λ x. false≢true x)
fine_plain r i.Not d h = goer r i.Not d h refl refl refl refl refl (λ x. false≢true x)
fine_plain r (i.CheckI least most) d h = goer r (i.CheckI least most) d h refl refl refl refl refl (λ x. false≢true x)
fine_plain r (i.CheckC least most) d h = goer r (i.CheckC least most) d h refl refl refl refl refl (λ x. false≢true x)
fine_plain r (i.Jump target) d h = absurd h
fine_plain r (i.JumpIf target) d h = absurd h
fine_plain r (i.JumpIfNot target) d h = absurd h
fine_plain r (i.JumpBack target) d h = absurd h
fine_plain r i.StrLen d h = goer r i.StrLen d h refl refl refl refl refl (λ x. false≢true x)
fine_plain r i.StrAt d h = goer r i.StrAt d h refl refl refl refl refl (λ x. false≢true x)
fine_plain r (i.Call procedure) d h = absurd h
fine_plain r (i.CallLink link) d h = absurd h
fine_plain r i.Return d h = stopper r i.Return d (omega (arith, h)) refl (omega (arith, h)) refl refl refl (λ x. h)
fine_plain r (i.Raise signal) d h = absurd h
fine_plain r (i.RaiseLink link) d h = absurd h
fine_plain r (i.RaiseHost fault) d h = absurd h
fine_plain r i.ArmEnd d h = stopper r i.ArmEnd d (omega (arith, h)) refl (omega (arith, h)) refl refl refl (λ x. absurd (false≢true x))
fine_plain r (i.Resume words) d h = stopper r (i.Resume words) d (omega (arith, h)) refl (omega (arith, h)) refl refl refl (λ x. absurd (false≢true x))
fine_plain r (i.Leave arms target) d h = absurd h
fine_plain r (i.LeaveReturn arms) d h = absurd h
fine_plain r (i.Pop words) d h = goer r (i.Pop words) d h refl refl refl refl refl (λ x. false≢true x)
fine_plain r (i.Roll words over) d h = goer r (i.Roll words over) d h refl refl refl refl refl (λ x. false≢true x)
fine_plain r (i.ZeroL slot words) d h = goer r (i.ZeroL slot words) d h refl refl refl refl refl (λ x. false≢true x)
fine_plain r (i.ZeroG slot words) d h = goer r (i.ZeroG slot words) d h refl refl refl refl refl (λ x. false≢true x)
fine_plain r i.AddD d h = goer r i.AddD d h refl refl refl refl refl (λ x. false≢true x)
fine_plain r i.SubD d h = goer r i.SubD d h refl refl refl refl refl (λ x. false≢true x)
fine_plain r i.MulD d h = goer r i.MulD d h refl refl refl refl refl (λ x. false≢true x)
fine_plain r i.NegD d h = goer r i.NegD d h refl refl refl refl refl (λ x. false≢true x)
fine_plain r i.DivDI d h = goer r i.DivDI d h refl refl refl refl refl (λ x. false≢true x)
fine_plain r i.ModDI d h = goer r i.ModDI d h refl refl refl refl refl (λ x. false≢true x)
fine_plain r i.DivDC d h = goer r i.DivDC d h refl refl refl refl refl (λ x. false≢true x)
fine_plain r i.ModDC d h = goer r i.ModDC d h refl refl refl refl refl (λ x. false≢true x)
fine_plain r i.EqD d h = goer r i.EqD d h refl refl refl refl refl (λ x. false≢true x)
fine_plain r i.LessDI d h = goer r i.LessDI d h refl refl refl refl refl (λ x. false≢true x)
fine_plain r i.LessDC d h = goer r i.LessDC d h refl refl refl refl refl (λ x. false≢true x)
fine_plain r i.WidenI d h = goer r i.WidenI d h refl refl refl refl refl (λ x. false≢true x)
fine_plain r i.WidenC d h = goer r i.WidenC d h refl refl refl refl refl (λ x. false≢true x)
fine_plain r i.NarrowI d h = goer r i.NarrowI d h refl refl refl refl refl (λ x. false≢true x)
fine_plain r i.NarrowC d h = goer r i.NarrowC d h refl refl refl refl refl (λ x. false≢true x)
fine_plain r i.CheckD d h = goer r i.CheckD d h refl refl refl refl refl (λ x. false≢true x)
