-- Indexes over one another, whose meanings have several owners.
use Rattle.std.proofs.Common.{◌≡◌, ℕ, Bool, true, false, List, [], ◌∷◌, ◌++◌, map, Option, Some, None, refl, ap, sym, ◌∙◌}
use Rattle.std.proofs.lemmas.List.{reverse-append}
use Rattle.std.specs.Option.{option_map, option_or, MatchOption, IsSomeAnd}
use Rattle.std.specs.Prelude.{cond}
use Rattle.std.specs.Str.{bytes_eq}
use Rattle.std.specs.declared.rc.Rc.{Rc}
use Rattle.std.specs.declared.alloc.Global.{Global}
use Rattle.check_scopes.specs.Scopes.{Scope, nothing, over, with_name, find}
use Rattle.check_scopes.specs.Shows.{listed, valued, layered}
use Rattle.check_scopes.specs.declared.index.Index.{Index}

module _ {T : Type 0} where
  abbrev value : Rc T Global → T
  value r = r.value

  of_cond : (b : Bool) (r : Rc T Global) (o : Option (Rc T Global)) → option_map value (cond b (Some r) o) ≡ cond b (Some r.value) (option_map value o)
  of_cond true r o = refl
  of_cond false r o = refl

  of_or : (o p : Option (Rc T Global)) → option_map value (option_or o p) ≡ option_or (option_map value o) (option_map value p)
  of_or None p = refl
  of_or (Some r) p = refl

  or_or : (o p q : Option T) → option_or (option_or o p) q ≡ option_or o (option_or p q)
  or_or None p q = refl
  or_or (Some x) p q = refl

  pub valued-same : (i j : Index (Rc T Global)) → listed j ≡ listed i → valued j ≡ valued i
  unfolding valued
  valued-same i j h = ap (λ s x. option_map value (s x)) h

  pub valued-nothing : (i : Index (Rc T Global)) → listed i ≡ nothing → valued i ≡ nothing
  unfolding valued
  valued-nothing i h = ap (λ s x. option_map value (s x)) h

  pub valued-named : (i j : Index (Rc T Global)) (x : List ℕ) (r : Rc T Global) → listed j ≡ with_name x r (listed i) → valued j ≡ with_name x r.value (valued i)
  unfolding valued
  valued-named i j x r h = ap (λ s y. option_map value (s y)) h ∙ (λ k y. of_cond (bytes_eq x y) r (listed i y) k)

  pub valued-over : (i j k : Index (Rc T Global)) → listed k ≡ over (listed i) (listed j) → valued k ≡ over (valued i) (valued j)
  unfolding valued
  valued-over i j k h = ap (λ s y. option_map value (s y)) h ∙ (λ n y. of_or (listed i y) (listed j y) n)

  pub over-nothing : (s : Scope T) → over nothing s ≡ s
  over-nothing s = refl

  pub over-over : (r s t : Scope T) → over (over r s) t ≡ over r (over s t)
  over-over r s t = λ i y. or_or (r y) (s y) (t y) i

  pub layered-none : layered {T = T} [] ≡ nothing
  unfolding layered
  layered-none = refl

  pub layered-pushed : (layers : List (Index (Rc T Global))) (l : Index (Rc T Global)) → layered (layers ++ l ∷ []) ≡ over (valued l) (layered layers)
  unfolding layered
  layered-pushed layers l = λ i x. ap (λ ls. find x (map valued ls)) (reverse-append layers (l ∷ [])) i

  pub layered-last : (layers older : List (Index (Rc T Global))) (l : Index (Rc T Global)) → layers ≡ older ++ l ∷ [] → layered layers ≡ over (valued l) (layered older)
  layered-last layers older l h = ap layered h ∙ layered-pushed older l

  pub found_here : (layers older : List (Index (Rc T Global))) (l : Index (Rc T Global)) (x : List ℕ) (r : Rc T Global) → layers ≡ older ++ l ∷ []
      → listed l x ≡ Some r → layered layers x ≡ Some r.value
  unfolding valued
  found_here layers older l x r h is_it = ap (λ s. s x) (layered-last layers older l h) ∙ ap (λ o. option_or (option_map value o) (layered older x)) is_it

  pub found_behind : (layers older : List (Index (Rc T Global))) (l : Index (Rc T Global)) (x : List ℕ) → layers ≡ older ++ l ∷ []
      → listed l x ≡ None → layered layers x ≡ layered older x
  unfolding valued
  found_behind layers older l x h is_it = ap (λ s. s x) (layered-last layers older l h) ∙ ap (λ o. option_or (option_map value o) (layered older x)) is_it

  pub not_there : (layers : List (Index (Rc T Global))) → layers ≡ [] → layered layers ≡ nothing
  not_there layers h = ap layered h ∙ layered-none

  -- one that was joined of the newest two in their place
  pub two_joined : (before rest less : List (Index (Rc T Global))) (newer older both : Index (Rc T Global)) → before ≡ rest ++ newer ∷ [] → rest ≡ less ++ older ∷ []
      → valued both ≡ over (valued newer) (valued older) → layered (less ++ both ∷ []) ≡ layered before
  two_joined before rest less newer older both h k joined =
      layered-pushed less both ∙ ap (λ s. over s (layered less)) joined ∙ over-over (valued newer) (valued older) (layered less)
      ∙ sym (layered-last before rest newer h ∙ ap (over (valued newer)) (layered-last rest less older k))

  over-none : (s : Scope T) → over s nothing ≡ s
  over-none s = λ i x. or_none (s x) i
    where
      or_none : (o : Option T) → option_or o None ≡ o
      or_none None = refl
      or_none (Some x) = refl

  pub all_over : (s : Scope T) (layers : List (Index (Rc T Global))) → layers ≡ [] → over s (layered layers) ≡ s
  all_over s layers h = ap (over s) (not_there layers h) ∙ over-none s

  -- what was newest over one of the layers, where both are one index
  pub one_over : (layers older : List (Index (Rc T Global))) (l all both : Index (Rc T Global)) → layers ≡ older ++ l ∷ []
      → valued both ≡ over (valued all) (valued l) → over (valued both) (layered older) ≡ over (valued all) (layered layers)
  one_over layers older l all both h joined =
      ap (λ s. over s (layered older)) joined ∙ over-over (valued all) (valued l) (layered older) ∙ sym (ap (over (valued all)) (layered-last layers older l h))

  pub cloned : (o p : Option (Rc T Global)) → MatchOption o (p ≡ None) (λ v. IsSomeAnd p (λ w. w.value ≡ v.value)) → option_map value p ≡ option_map value o
  cloned None p h = ap (option_map value) h
  cloned (Some v) (Some w) h = ap Some h
  cloned (Some v) None h = absurd h
