-- The tree of one module is its outline with its shape, and is in order.
use Rattle.std.proofs.Common.{◌≡◌, ℕ, zero, suc, ◌<◌, inl, inr, List, ◌++◌, [], ◌∷◌, length, All, Some, slice_get, Result, Ok, Err, IfOk, MatchBool, Bool, true, false, refl, sym, ap, subst, ◌∙◌, arith}
use Rattle.std.proofs.lemmas.Option.{none-some, same_Some}
use Rattle.mesa_types.specs.declared.faces.Export.{Export}
use Rattle.mesa_types.specs.declared.faces.Import.{Import}
use Rattle.mesa_types.specs.declared.faces.Shape.{Shape}
use Rattle.config_rules.specs.InOrder.{IsInward, InstanceIn, TreeIn}
use Rattle.config_rules.specs.Tree.{Agree, IsSingle, all_faces, first_place, single_tree}
use Rattle.config_rules.specs.declared.fault.TreeCause.TheVariants.{InterfaceDiffers}
use Rattle.config_rules.specs.declared.fault.TreeFault.TheVariants.{At}
use Rattle.config_rules.specs.declared.tree.Tree.{Tree}
use Rattle.config_rules.specs.declared.tree.TreeInstance.{TreeInstance}
use Rattle.config_rules.specs.declared.tree.TreeScope.{TreeScope}
use Rattle.config_rules.proofs.Members.{mapped_length}
use Rattle.config_tree.specs.Outlines.{IsOutline}
use Rattle.config_tree.specs.declared.alone.Outline.{Outline}

pub tree_of_outline : (s t : Shape) (o : Outline) (none is : List TreeInstance) → IsOutline s o → t ≡ s → none ≡ []
    → is ≡ none ++ record { path = o.path; component = 0; scope = 0; shape = t; imports = o.imports; exports = o.exports } ∷ []
    → record { scopes = o.scopes; instances = is; control = o.control } ≡ single_tree s
unfolding single_tree
tree_of_outline s t o none is h same empty made =
    ap (λ l. record { scopes = o.scopes; instances = l; control = o.control })
    (made ∙ ap (λ l. l ++ record { path = o.path; component = 0; scope = 0; shape = t; imports = o.imports; exports = o.exports } ∷ []) empty)
    ∙ (λ j. record {
      scopes = h.scopes j;
      instances = record { path = h.path j; component = 0; scope = 0; shape = same j; imports = h.imports j; exports = h.exports j } ∷ [];
      control = h.control j;
    })

pub single_in : (s : Shape) → TreeIn (s ∷ []) (single_tree s)
unfolding single_tree
single_in s = record { instances = each; few = omega arith; control = λ k d l. first k d l; inward = inward }
  where
    each : (j : ℕ) (x : TreeInstance) → slice_get (single_tree s).instances j ≡ Some x → InstanceIn (s ∷ []) x
    each zero x e =
        subst (InstanceIn (s ∷ [])) (same_Some _ x e)
        (record { its = refl; imports = mapped_length (λ (m : Import). m.face.name) s.imports; exports = mapped_length (λ (y : Export). y.face.name) s.exports })
    each (suc j) x e = absurd (none-some x e)

    first : All (λ j. j < length (single_tree s).instances) (single_tree s).control
    first zero d l = omega arith
    first (suc k) d l = absurd (omega arith)

    inward : IsInward (single_tree s)
    inward zero n r e f = absurd (none-some n (ap (λ (t : TreeScope). t.around) (same_Some _ r e) ∙ f))
    inward (suc k) n r e f = absurd (none-some r e)

-- ---- the answer

module _ (s : Shape) where
  abbrev Agreeing : Type 0
  Agreeing = Agree (all_faces (s ∷ []))

  module _ {E : Type 0} (asked : Result Bool E) (agree : Bool) (is : asked ≡ Ok agree) (told : IfOk asked (λ b. MatchBool b Agreeing (Agreeing → ⊥))) where
    answered : (b : Bool) → agree ≡ b → MatchBool b Agreeing (Agreeing → ⊥)
    answered b e = subst (λ c. MatchBool c Agreeing (Agreeing → ⊥)) e (subst (λ (r : Result Bool E). IfOk r (λ c. MatchBool c Agreeing (Agreeing → ⊥))) is told)

    pub single_whole : (tree : Tree) (t : Shape) → agree ≡ true → t ≡ s → tree ≡ single_tree t → IsSingle s (Ok tree)
    unfolding IsSingle
    single_whole tree t e same made = inl (answered true e, ap Ok (made ∙ ap single_tree same))

    pub single_differs : agree ≡ false → IsSingle s (Err (At InterfaceDiffers first_place))
    unfolding IsSingle
    single_differs e = inr (answered false e, refl)

  pub single_in_order : (tree : Tree) (t : Shape) → t ≡ s → tree ≡ single_tree t → TreeIn (s ∷ []) tree
  single_in_order tree t same made = subst (TreeIn (s ∷ [])) (sym (made ∙ ap single_tree same)) (single_in s)
