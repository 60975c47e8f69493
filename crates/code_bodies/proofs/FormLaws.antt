-- Blocks made of parts that are those of a form: what fits, and what is made.
use Rattle.std.proofs.Common.{◌≡◌, refl, sym, ap, ◌∙◌, ℕ, List}
use Rattle.std.proofs.lemmas.Result.{IfOk-weaker}
use Rattle.std.specs.Prelude.{Result, IfOk}
use Rattle.code_rules.specs.OwnCode.{arrange_code, total}
use Rattle.code_forms.specs.declared.instruction.Instruction.{Instruction}
use Rattle.code_blocks.specs.Blocks.{ArmBlocks, Block, Both, Calls, Does}
use Rattle.code_trees.specs.Excess.{excess}
use Rattle.code_trees.specs.Plain.{plain}
use Rattle.code_trees.specs.declared.part.Part.{Part}

-- a call behind the values that it takes

module _ (whole values : Block) (places given : List ℕ) (call : Instruction) (puts : ℕ) (arms : ArmBlocks)
    (is : whole ≡ Both values (Both (Does (arrange_code places given)) (Calls call (total given) puts arms))) where
  pub made_call : (part made : Block) (caught : ArmBlocks) → part ≡ values → caught ≡ arms
      → made ≡ Both part (Both (Does (arrange_code places given)) (Calls call (total given) puts caught)) → made ≡ whole
  made_call part made caught is_part is_caught is_made =
      is_made
      ∙ ap (λ b. Both b (Both (Does (arrange_code places given)) (Calls call (total given) puts caught))) is_part
      ∙ ap (λ x. Both values (Both (Does (arrange_code places given)) (Calls call (total given) puts x))) is_caught
      ∙ sym is

  pub fits_call : (part : Block) (caught : ArmBlocks) → part ≡ values → caught ≡ arms → excess whole ≡ 0
      → excess (Both part (Both (Does (arrange_code places given)) (Calls call (total given) puts caught))) ≡ 0
  fits_call part caught is_part is_caught h = ap excess
      (made_call part (Both part (Both (Does (arrange_code places given)) (Calls call (total given) puts caught))) caught is_part is_caught refl) ∙ h

-- what a call made, by what it promised of its result

pub call_made : {E : Type 0} (r : Result Part E) (whole values : Block) (places given : List ℕ) (call : Instruction) (puts : ℕ) (arms : ArmBlocks)
    (is : whole ≡ Both values (Both (Does (arrange_code places given)) (Calls call (total given) puts arms))) (part : Block) (caught : ArmBlocks)
    → part ≡ values → caught ≡ arms → IfOk r (λ y. plain y.block ≡ Both part (Both (Does (arrange_code places given))
    (Calls call (total given) puts caught)))
    → IfOk r (λ y. plain y.block ≡ whole)
call_made r whole values places given call puts arms is part caught is_part is_caught h =
    IfOk-weaker r _ _ (λ y e. made_call whole values places given call puts arms is part (plain y.block) caught is_part is_caught e) h
