-- The law of operators, of the machine.
use Rattle.std.proofs.Common.{ℕ, List}
use Rattle.code_forms.specs.declared.instruction.Instruction.{Instruction}
use Rattle.machine_rules.specs.LookUps.{text_of}
use Rattle.code_rules.specs.Reading.{Coded, scratch}
use Rattle.agreement_rules.specs.Own.{Outcome, Does}
use Rattle.agreement_rules.specs.Reaches.{Takes}
use Rattle.agreement_rules.specs.Layout.{Strings}
use Rattle.agreement_rules.specs.Operators.{OwnCodeAgrees, OperatorsAgree}
use Rattle.agreement_rules.proofs.Lifted.{lifted}
use Rattle.agreement_rules.proofs.Rows.{own_code_does}

-- what is said of instructions goes over
agrees_as : (texts : Strings) (number : ℕ) (P : Coded) (vs gs : List ℕ) (one two : List Instruction → List ℕ → Outcome → Type 0)
    → ((code : List Instruction) (ins : List ℕ) (out : Outcome) → one code ins out → two code ins out)
    → OwnCodeAgrees texts number P vs gs one → OwnCodeAgrees texts number P vs gs two
agrees_as texts number P vs gs one two over law = record {
  number_leaf = λ n. over _ _ _ (law.number_leaf n);
  long_leaf = λ n. over _ _ _ (law.long_leaf n);
  literal = λ k ln lk. let x = law.literal k ln lk in (x.0, x.1, over _ _ _ x.2);
  part = λ frame instance h j k path d here there at leads.
      let x = law.part frame instance h j k path d here there at leads in (x.0, x.1, over _ _ _ x.2, over _ _ _ x.3);
  field_of = λ v j k path d after ws shown leads size. let x = law.field_of v j k path d after ws shown leads size in (x.0, x.1, over _ _ _ x.2);
  length_of = λ m k. over _ _ _ (law.length_of m k);
  byte_of = λ m k n. over _ _ _ (law.byte_of m k n);
  check = λ r x. over _ _ _ (law.check r x);
  conversion = λ c x taken. over _ _ _ (law.conversion c x taken);
  index = λ r first n words o x lt. over _ _ _ (law.index r first n words o x lt);
  operator = λ o x y lx ly. over _ _ _ (law.operator o x y lx ly);
  long_operator = λ o x y lx ly. over _ _ _ (law.long_operator o x y lx ly);
  negation = λ x. over _ _ _ (law.negation x);
  relation = λ b o x y. over _ _ _ (law.relation b o x y);
  long_negation = λ x lx. over _ _ _ (law.long_negation x lx);
  long_relation = λ b o x y lx ly. over _ _ _ (law.long_relation b o x y lx ly);
  within = λ b p q x y z lx ly lz. over _ _ _ (law.within b p q x y z lx ly lz);
  long_within = λ b p q x y z lx ly lz. over _ _ _ (law.long_within b p q x y z lx ly lz);
  complement = λ x. over _ _ _ (law.complement x);
}

pub operators_agree : OperatorsAgree
operators_agree image number P vs gs =
    agrees_as (text_of image) number P vs gs (Does (text_of image) number (scratch P) vs gs) (Takes image P number vs gs)
    (λ code ins out does. lifted image P number vs gs code ins out does) (own_code_does (text_of image) number P vs gs)
