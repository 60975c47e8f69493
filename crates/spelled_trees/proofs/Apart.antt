-- No two instances of a tree have the same path.
use Rattle.std.proofs.Common.{◌≡◌, ℕ, zero, suc, ◌+◌, inl, inr, ⊎_elim, true, false, List, [], ◌∷◌, ◌++◌, append_assoc, Some, slice_get, refl, sym, ap, ◌∙◌}
use Rattle.std.specs.Prelude.{bytes_eq}
use Rattle.std.proofs.lemmas.Bool.{or_parts}
use Rattle.std.proofs.lemmas.Option.{none-some, same_Some}
use Rattle.std.proofs.lemmas.Slice.Eq.{bytes_eq-Decides}
use Rattle.check_scopes.specs.Scopes.{has}
use Rattle.config_rules.specs.Template.{Template, Gone, Parts, NoParts, AndModule, AndNested, scopes_of}
use Rattle.config_rules.specs.Through.{Module}
use Rattle.config_rules.specs.Grown.{instances_in, inner_instances}
use Rattle.config_rules.specs.declared.tree.TreeInstance.{TreeInstance}
use Rattle.config_rules.proofs.Members.{Mem, mem_get, mem_split}
use Rattle.spelled_trees.proofs.Gone.{TemplateSpelled, PartsSpelled}
use Rattle.spelled_trees.proofs.Beneath.{Beneath, template_beneath, parts_beneath}

-- each has another path than those behind it
unfoldable pub AreApart : List TreeInstance → Type 0
AreApart [] = Unit {0}
AreApart (x ∷ xs) = ((y : TreeInstance) → Mem y xs → x.path ≡ y.path → ⊥) × AreApart xs

both_apart : (xs ys : List TreeInstance) → AreApart xs → AreApart ys → ((x y : TreeInstance) → Mem x xs → Mem y ys → x.path ≡ y.path → ⊥) → AreApart (xs ++ ys)
unfolding AreApart
both_apart [] ys a b cross = b
both_apart (x ∷ xs) ys a b cross = (
  (λ y m e. ⊎_elim (λ h. a.0 y h e) (λ h. cross x y (inl refl) h e) (mem_split xs ys y m)),
  both_apart xs ys a.1 b (λ z y m n e. cross z y (inr m) n e),
)

pub apart_get : (xs : List TreeInstance) → AreApart xs → (j k : ℕ) (x y : TreeInstance) → slice_get xs j ≡ Some x → slice_get xs k ≡ Some y → x.path ≡ y.path → j ≡ k
unfolding AreApart
apart_get [] a j k x y e f same = absurd (none-some x e)
apart_get (z ∷ xs) a zero zero x y e f same = refl
apart_get (z ∷ xs) a zero (suc k) x y e f same = absurd (a.0 y (mem_get xs k y f) (ap (λ (i : TreeInstance). i.path) (same_Some z x e) ∙ same))
apart_get (z ∷ xs) a (suc j) zero x y e f same = absurd (a.0 x (mem_get xs j x e) (ap (λ (i : TreeInstance). i.path) (same_Some z y f) ∙ sym same))
apart_get (z ∷ xs) a (suc j) (suc k) x y e f same = ap suc (apart_get xs a.1 j k x y e f same)

-- ---- paths that part at a name

first_same : (path : List (List ℕ)) (a b : List ℕ) (more other : List (List ℕ)) → path ++ a ∷ more ≡ path ++ b ∷ other → a ≡ b
first_same [] a b more other e = cc
first_same (p ∷ path) a b more other e = first_same path a b more other (cc)

not_new : (a b : List ℕ) (names : List (List ℕ)) → a ≡ b → has b (a ∷ names) ≡ false → ⊥
unfolding has
not_new a b names e h =
    let is : bytes_eq b a ≡ true = (bytes_eq-Decides b a).1 (sym e) in
    let not : bytes_eq b a ≡ false = (or_parts (bytes_eq b a) (has b names) h).0 in
    cc

parts_there : {names : List (List ℕ)} {most : ℕ} {path whole other : List (List ℕ)} (a : List ℕ) (more : List (List ℕ)) → other ≡ path ++ a ∷ more → Beneath (a ∷ names) most path whole
    → other ≡ whole → ⊥
parts_there {names} {path = path} a more o b same = not_new a b.first names (first_same path a b.first more b.rest (sym o ∙ (same ∙ b.is))) b.new

module _ (modules : List Module) where
  mutual
    unfolding AreApart instances_in inner_instances TemplateSpelled PartsSpelled

    pub template_apart : (path : List (List ℕ)) (s n : ℕ) (t : Template) → TemplateSpelled t → AreApart (instances_in modules path s n t)
    template_apart path s n (Gone h ps) g = parts_apart path s n [] ps g

    parts_apart : (path : List (List ℕ)) (s n : ℕ) (names : List (List ℕ)) (ps : Parts) → PartsSpelled names ps → AreApart (inner_instances modules path s n ps)
    parts_apart path s n names NoParts g = tt
    parts_apart path s n names (AndModule p c ps) g = (
      (λ y m e. parts_there p.name [] refl (parts_beneath modules path s n (p.name ∷ names) ps g.1 y m) e),
      parts_apart path s n (p.name ∷ names) ps g.1,
    )
    parts_apart path s n names (AndNested p t ps) g =
        both_apart (instances_in modules (path ++ p.name ∷ []) n (n + 1) t) (inner_instances modules path s (n + 1 + scopes_of t) ps)
        (template_apart (path ++ p.name ∷ []) n (n + 1) t g.1)
        (parts_apart path s (n + 1 + scopes_of t) (p.name ∷ names) ps g.2)
        (λ x y m k e.
        let b = template_beneath modules (path ++ p.name ∷ []) n (n + 1) t g.1 x m in
        parts_there p.name (b.first ∷ b.rest) (b.is ∙ append_assoc path (p.name ∷ []) (b.first ∷ b.rest))
        (parts_beneath modules path s (n + 1 + scopes_of t) (p.name ∷ names) ps g.2 y k) e)
