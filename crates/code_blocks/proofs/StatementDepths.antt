-- A statement's block leaves the operand stack as it was.
use Rattle.std.proofs.Common.{◌≡◌, refl, ap, ◌∙◌, ℕ, zero, suc, ◌+◌, List, [], ◌∷◌, ◌++◌, arith}
use Rattle.mesa_types.specs.declared.typed_parts.Base.{Base}
use Rattle.mesa_types.specs.declared.typed_parts.Home.{Home}
use Rattle.mesa_types.specs.declared.typed_parts.Home.TheVariants.{Global, Local}
use Rattle.mesa_types.specs.Typed.{Exprs, Interval, Between}
use Rattle.mesa_types.specs.Counts.{words_given}
use Rattle.code_forms.specs.declared.instruction.Instruction.{Instruction}
use Rattle.code_rules.specs.OwnCode.{pop_code, arrange_code}
use Rattle.code_rules.specs.Loops.{start_code}
use Rattle.code_rules.specs.Reading.{Coded}
use Rattle.code_rules.specs.Slots.{store, store_within, zero_code, spread_code, sizes}
use Rattle.code_rules.proofs.Depths.{own_code_keeps_words}
use Rattle.code_blocks.specs.Own.{left_of}
use Rattle.code_blocks.specs.Translation.{start_of}
use Rattle.code_blocks.proofs.Own.{left_same, left_both, zero_own, spread_own}
use Rattle.code_blocks.proofs.Values.{none, own_left, arranged}

pub pop_left : (n d : ℕ) → left_of (pop_code n) (d + n) ≡ d
pop_left zero d = omega arith
pop_left (suc n) d = omega arith

pub start_left : (z : ℕ) (base : Base) (range : Interval) (d : ℕ) → left_of (start_of z base range) (d + 2) ≡ d
start_left z base (Between x p y q) d = own_left (start_code z base p q) refl (own_code_keeps_words.started none z base p q d)

module _ (U : Coded) where
  pub zero_left : (hs : List Home) (words d : ℕ) → left_of (zero_code U hs words) d ≡ d
  zero_left hs words d = left_same U (zero_code U hs words) d (zero_own U hs words) ∙ own_code_keeps_words.cleared U hs words d

  pub spread_left : (hs : List Home) (words d : ℕ) → left_of (spread_code U hs words) (d + words) ≡ d
  spread_left hs words d = left_same U (spread_code U hs words) (d + words) (spread_own U hs words) ∙ own_code_keeps_words.spread U hs words d

  pub store_left : (h : Home) (offset words d : ℕ) → left_of (store U h offset words ∷ []) (d + words) ≡ d
  store_left (Local n) offset words d = omega arith
  store_left (Global n) offset words d = omega arith

  pub store_within_left : (h : Home) (words d : ℕ) → left_of (store_within U h words ∷ []) (d + 1 + words) ≡ d
  store_within_left (Local n) words d = omega arith
  store_within_left (Global n) words d = omega arith

  -- values in order, and an instruction that takes them
  pub arranged_taken : (places : List ℕ) (es : Exprs) (x : Instruction) (d : ℕ) → left_of (x ∷ []) (d + words_given es) ≡ d
      → left_of (arrange_code places (sizes es) ++ x ∷ []) (d + words_given es) ≡ d
  arranged_taken places es x d e =
      left_both (arrange_code places (sizes es)) (x ∷ []) (d + words_given es)
      ∙ ap (left_of (x ∷ [])) (arranged U places es (d + words_given es) d refl) ∙ e
