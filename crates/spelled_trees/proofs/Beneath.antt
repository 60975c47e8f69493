-- The paths of instances: each begins with the path around it, and then has a name that is new there.
use Rattle.std.proofs.Common.{◌≡◌, ℕ, suc, ◌+◌, ◌≤◌, inl, inr, ⊎_elim, false, List, [], ◌∷◌, ◌++◌, length, max, All, append_assoc, refl, subst, ◌∙◌, arith}
use Rattle.std.proofs.lemmas.Bool.{or_parts}
use Rattle.std.proofs.lemmas.List.Elements.{All-nil, All-cons}
use Rattle.std.specs.Prelude.{bytes_eq}
use Rattle.mesa_base.specs.Name.{IsName}
use Rattle.check_scopes.specs.Scopes.{has}
use Rattle.config_rules.specs.Template.{Template, Gone, Parts, NoParts, AndModule, AndNested, depth_of, depth_below, scopes_of}
use Rattle.config_rules.specs.Through.{Module}
use Rattle.config_rules.specs.Grown.{instances_in, inner_instances}
use Rattle.config_rules.specs.declared.tree.TreeInstance.{TreeInstance}
use Rattle.config_rules.proofs.Members.{Mem, mem_split}
use Rattle.spelled_trees.proofs.Gone.{IsNew, TemplateSpelled, PartsSpelled}

-- behind this path a path has at least one name and at most so many, the first of which is none of these
pub record Beneath (names : List (List ℕ)) (most : ℕ) (path whole : List (List ℕ)) : Type 0 where
  pub first : List ℕ
  pub rest : List (List ℕ)
  pub is : whole ≡ path ++ first ∷ rest
  pub new : has first names ≡ false
  pub named : All IsName (first ∷ rest)
  pub few : suc (length rest) ≤ most

fewer : (x : List ℕ) (y : List ℕ) (names : List (List ℕ)) → has x (y ∷ names) ≡ false → has x names ≡ false
unfolding has
fewer x y names h = (or_parts (bytes_eq x y) (has x names) h).1

-- behind one part more
wider : {names : List (List ℕ)} {name : List ℕ} {m n : ℕ} {path whole : List (List ℕ)} → m ≤ n → Beneath (name ∷ names) m path whole → Beneath names n path whole
wider {names} {name} le b =
    let few = b.few in
    record { first = b.first; rest = b.rest; is = b.is; new = fewer b.first name names b.new; named = b.named; few = omega (arith, few, le) }

-- beneath a name that is new
deeper : {names inner : List (List ℕ)} {m n : ℕ} {path whole : List (List ℕ)} (name : List ℕ) → IsNew names name → 1 + m ≤ n → Beneath inner m (path ++ name ∷ []) whole
    → Beneath names n path whole
deeper {path = path} name new le b =
    let few = b.few in
    record {
      first = name;
      rest = b.first ∷ b.rest;
      is = b.is ∙ append_assoc path (name ∷ []) (b.first ∷ b.rest);
      new = new.new;
      named = All-cons IsName name (b.first ∷ b.rest) new.named b.named;
      few = omega (arith, few, le);
    }

module _ (modules : List Module) where
  mutual
    unfolding instances_in inner_instances TemplateSpelled PartsSpelled depth_of depth_below

    pub template_beneath : (path : List (List ℕ)) (s n : ℕ) (t : Template) → TemplateSpelled t → (x : TreeInstance) → Mem x (instances_in modules path s n t)
        → Beneath [] (depth_of t) path x.path
    template_beneath path s n (Gone h ps) g x m = parts_beneath path s n [] ps g x m

    pub parts_beneath : (path : List (List ℕ)) (s n : ℕ) (names : List (List ℕ)) (ps : Parts) → PartsSpelled names ps → (x : TreeInstance) → Mem x (inner_instances modules path s n ps)
        → Beneath names (depth_below ps) path x.path
    parts_beneath path s n names NoParts g x m = absurd m
    parts_beneath path s n names (AndModule p c ps) g x (inl e) =
        subst (λ (y : TreeInstance). Beneath names (max 1 (depth_below ps)) path y.path) e
        (record { first = p.name; rest = []; is = refl; new = (g.0).new; named = All-cons IsName p.name [] (g.0).named (All-nil IsName); few = omega arith })
    parts_beneath path s n names (AndModule p c ps) g x (inr m) = wider (omega arith) (parts_beneath path s n (p.name ∷ names) ps g.1 x m)
    parts_beneath path s n names (AndNested p t ps) g x m =
        ⊎_elim (λ h. deeper p.name g.0 (omega arith) (template_beneath (path ++ p.name ∷ []) n (n + 1) t g.1 x h))
        (λ h. wider (omega arith) (parts_beneath path s (n + 1 + scopes_of t) (p.name ∷ names) ps g.2 x h))
        (mem_split (instances_in modules (path ++ p.name ∷ []) n (n + 1) t) (inner_instances modules path s (n + 1 + scopes_of t) ps) x m)
