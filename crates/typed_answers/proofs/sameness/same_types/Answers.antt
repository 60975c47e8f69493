use Rattle.std.proofs.Common.{◌≡◌, ◌<◌, IsTrue, ℕ, List, length, get_or, ap, sym, ◌∙◌, arith}
use Rattle.std.proofs.lemmas.List.{get_or-map}
use Rattle.mesa_types.specs.Types.{types_in}
use Rattle.mesa_types.specs.declared.types.TypeTree.{TypeTree}
use Rattle.mesa_types.specs.declared.types.FieldType.{FieldType}
use Rattle.typed_answers.proofs.sameness.same_types.Goals as goal

-- where the types of two lists are equal, so are those at one place
types_agree : (a b : List FieldType) (i : ℕ) (x y : FieldType) → i < length a → i < length b → x ≡ get_or a i x → y ≡ get_or b i y → types_in a ≡ types_in b → (get_or a i x).kind ≡ (get_or b i y).kind
types_agree a b i x y in_a in_b at_a at_b same =
    let kind : FieldType → TypeTree = λ f. f.kind in
    sym (get_or-map kind a i x (kind x) in_a) ∙ ap (λ ts. get_or ts i (kind x)) same ∙ get_or-map kind b i y (kind x) in_b

pub returns-then-not-same_type : goal.returns-then-not-same_type
returns-then-not-same_type c = (
  λ no. cc,
  λ same.
      let yes : IsTrue c.same_type.result = c.same_type.ensures.1 (types_agree _ _ _ _ _ (omega arith) (omega arith) c.index-a-i.is c.index-b-i.is same) in
      cc,
)
