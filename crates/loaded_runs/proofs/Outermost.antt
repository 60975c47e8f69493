-- A tree that is made of a configuration has an outermost scope, and so has that of one module by itself.
use Rattle.std.proofs.Common.{◌≡◌, ℕ, zero, suc, ◌+◌, ◌<◌, inl, inr, ⊎_elim, Bool, true, false, not, List, [], ◌∷◌, ◌++◌, Some, Ok, slice_get, sym, ap, subst, ◌∙◌, arith}
use Rattle.std.proofs.lemmas.Option.{none-some, same_Some}
use Rattle.mesa_types.specs.declared.faces.Shape.{Shape}
use Rattle.interface_records.specs.check_scopes.specs.Scopes.{has}
use Rattle.config_rules.specs.cmesa_grammar.specs.Syntax.{Identifier, Configuration, Configured}
use Rattle.config_rules.specs.cmesa_grammar.specs.declared.syntax.Heading.{Heading}
use Rattle.config_rules.specs.Components.{names_of}
use Rattle.config_rules.specs.Template.{Template, Gone, Parts, NoParts, AndModule, AndNested, heading_in, exported, scopes_of, scopes_below}
use Rattle.config_rules.specs.Through.{Module, each_name, headed, through}
use Rattle.config_rules.specs.Grown.{pairs, outermost, scopes_in, inner_scopes, instances_in, inner_instances, grown}
use Rattle.config_rules.specs.Tree.{made, single_tree}
use Rattle.config_rules.specs.declared.fault.TreeCause.{TreeCause}
use Rattle.config_rules.specs.declared.tree.RecordPair.{RecordPair}
use Rattle.config_rules.specs.declared.tree.Tree.{Tree}
use Rattle.config_rules.specs.declared.tree.TreeInstance.{TreeInstance}
use Rattle.config_rules.specs.declared.tree.TreeScope.{TreeScope}
use Rattle.config_rules.proofs.Answers.{went, ok_same, passed, not_false}
use Rattle.config_rules.proofs.Made.{scopes_length}
use Rattle.config_rules.proofs.Members.{Mem, mem_get, mem_split}
use Rattle.loaded_runs.specs.Outermost.{HasOutermost}

-- ---- every scope but the first has one around it

abbrev HasAround : TreeScope → Type 0
HasAround s = (n : ℕ) × (s.around ≡ Some n)

mutual
  unfolding scopes_in inner_scopes

  around_in : (around next : ℕ) (t : Template) (s : TreeScope) → Mem s (scopes_in around next t) → HasAround s
  around_in around next (Gone h ps) s m = around_inner around next ps s m

  around_inner : (around next : ℕ) (ps : Parts) (s : TreeScope) → Mem s (inner_scopes around next ps) → HasAround s
  around_inner around next NoParts s m = absurd m
  around_inner around next (AndModule p c ps) s m = around_inner around next ps s m
  around_inner around next (AndNested p t ps) s (inl e) = (around, ap (λ (x : TreeScope). x.around) (sym e))
  around_inner around next (AndNested p t ps) s (inr m) =
      ⊎_elim (λ h. around_in next (next + 1) t s h) (λ h. around_inner around (next + 1 + scopes_of t) ps s h)
      (mem_split (scopes_in next (next + 1) t) (inner_scopes around (next + 1 + scopes_of t) ps) s m)

-- ---- each instance is in a scope

module _ (modules : List Module) where
  mutual
    unfolding instances_in inner_instances scopes_of scopes_below

    scoped_in : (path : List (List ℕ)) (s n : ℕ) (t : Template) (x : TreeInstance) → s < n → Mem x (instances_in modules path s n t) → x.scope < n + scopes_of t
    scoped_in path s n (Gone h ps) x l m = scoped_inner path s n ps x l m

    scoped_inner : (path : List (List ℕ)) (s n : ℕ) (ps : Parts) (x : TreeInstance) → s < n → Mem x (inner_instances modules path s n ps) → x.scope < n + scopes_below ps
    scoped_inner path s n NoParts x l m = absurd m
    scoped_inner path s n (AndModule p c ps) x l (inl e) = let here : s ≡ x.scope = ap (λ (y : TreeInstance). y.scope) e in omega (arith, here, l)
    scoped_inner path s n (AndModule p c ps) x l (inr m) = scoped_inner path s n ps x l m
    scoped_inner path s n (AndNested p t ps) x l m =
        ⊎_elim
        (λ h. let q = scoped_in (path ++ p.name ∷ []) n (n + 1) t x (omega arith) h in omega (arith, q))
        (λ h. let q = scoped_inner path s (n + 1 + scopes_of t) ps x (omega (arith, l)) h in omega (arith, q))
        (mem_split (instances_in modules (path ++ p.name ∷ []) n (n + 1) t) (inner_instances modules path s (n + 1 + scopes_of t) ps) x m)

-- ---- what the outermost scope imports, it does not export

pairs_mem : (xs ys : List (List ℕ)) (p : RecordPair) → Mem p (pairs xs ys) → Mem p.inside xs
unfolding pairs
pairs_mem [] ys p m = absurd m
pairs_mem (x ∷ xs) [] p m = absurd m
pairs_mem (x ∷ xs) (y ∷ ys) p (inl e) = inl (ap (λ (q : RecordPair). q.inside) e)
pairs_mem (x ∷ xs) (y ∷ ys) p (inr m) = inr (pairs_mem xs ys p m)

none_wrong : (wrong : List ℕ → Bool) (cause : TreeCause) (before : List (List ℕ)) (is : List Identifier) (u : Unit {0}) → each_name wrong cause before is ≡ Ok u
    → (r : List ℕ) → Mem r (names_of is) → wrong r ≡ false
unfolding each_name
none_wrong wrong cause before [] u e r m = absurd m
none_wrong wrong cause before (i ∷ is) u e r (inl s) =
    let w1 = went _ _ u e in
    let w2 = went _ _ u w1.went_on in
    subst (λ n. wrong n ≡ false) s (passed _ _ _ w2.value w2.is)
none_wrong wrong cause before (i ∷ is) u e r (inr n) =
    let w1 = went _ _ u e in
    let w2 = went _ _ u w1.went_on in
    none_wrong wrong cause (i.name ∷ before) is u w2.went_on r n

abbrev Apart : Heading → Type 0
Apart h = (r : List ℕ) → Mem r (names_of h.imports) → Mem r (names_of h.exports) → ⊥

headed_apart : (h : Heading) (ps : Parts) (t : Template) → headed h ps ≡ Ok t → Apart (heading_in t)
unfolding headed heading_in
headed_apart h ps t e =
    let w1 = went _ _ t e in
    let w2 = went _ _ t w1.went_on in
    let w3 = went _ _ t w2.went_on in
    subst (λ (x : Template). Apart (heading_in x)) (ok_same (Gone h ps) t w3.went_on)
    (λ r m n.
    let none : has r (exported ps) ≡ false = none_wrong (λ x. has x (exported ps)) _ [] h.imports w1.value w1.is r m in
    let some : has r (exported ps) ≡ true = not_false (has r (exported ps)) (none_wrong (λ x. not (has x (exported ps))) _ [] h.exports w2.value w2.is r n) in
    absurd (let f : false ≡ true = sym none ∙ some in cc))

through_apart : (modules : List Module) (c : Configuration) (t : Template) → through modules 1 [] c ≡ Ok t → Apart (heading_in t)
unfolding through
through_apart modules (Configured h ss) t e =
    let w1 = went _ _ t e in
    let w2 = went _ _ t w1.went_on in
    headed_apart h w2.value t w2.went_on

-- ---- the whole

grown_has : (modules : List Module) (t : Template) → Apart (heading_in t) → HasOutermost (grown modules t)
unfolding grown
grown_has modules t apart = record {
  inner = λ k s e. around_in 0 1 t s (mem_get (scopes_in 0 1 t) k s e);
  apart = λ s e a b p q m n same.
      let first : outermost (heading_in t) ≡ s = same_Some (outermost (heading_in t)) s e in
      let i = pairs_mem (names_of (heading_in t).imports) (names_of (heading_in t).imports) p
      (mem_get (pairs (names_of (heading_in t).imports) (names_of (heading_in t).imports)) a p (ap (λ (x : TreeScope). slice_get x.imports a) first ∙ m)) in
      let o = pairs_mem (names_of (heading_in t).exports) (names_of (heading_in t).exports) q
      (mem_get (pairs (names_of (heading_in t).exports) (names_of (heading_in t).exports)) b q (ap (λ (x : TreeScope). slice_get x.exports b) first ∙ n)) in
      apart p.inside i (subst (λ r. Mem r (names_of (heading_in t).exports)) (sym same) o);
  scoped = λ j x e.
      let l = scoped_in modules [] 0 1 t x (omega arith) (mem_get (instances_in modules [] 0 1 t) j x e) in
      let many = scopes_length 0 1 t in
      omega (arith, l, many);
}

pub made_trees_have : (modules : List Module) (c : Configuration) (t : Tree) → made modules c ≡ Ok t → HasOutermost t
unfolding made
made_trees_have modules c t e =
    let w1 = went _ _ t e in
    let w2 = went _ _ t w1.went_on in
    let w3 = went _ _ t w2.went_on in
    subst HasOutermost (ok_same (grown modules w1.value) t w3.went_on) (grown_has modules w1.value (through_apart modules c w1.value w1.is))

pub single_trees_have : (s : Shape) → HasOutermost (single_tree s)
unfolding single_tree
single_trees_have s = record {
  inner = λ k t e. absurd (none-some t e);
  apart = λ t e a b p q m n same. absurd (none-some q (ap (λ (x : TreeScope). slice_get x.exports b) (same_Some _ t e) ∙ n));
  scoped = scoped;
}
  where
    scoped : (j : ℕ) (x : TreeInstance) → slice_get (single_tree s).instances j ≡ Some x → x.scope < 1
    scoped zero x e = let here : 0 ≡ x.scope = ap (λ (y : TreeInstance). y.scope) (same_Some _ x e) in omega (arith, here)
    scoped (suc j) x e = absurd (none-some x e)
