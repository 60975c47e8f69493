-- Lists of which one is as few as another: where that has none it has none, and where that has one alone it has one alone, which is like it.
use Rattle.std.proofs.Common.{◌≡◌, inl, inr, Bool, true, false, List, [], ◌∷◌, ◌++◌, map, flat_map, bytes_eq, ℕ, Some, is_some, refl, sym, ap, subst, ◌∙◌, if◌then◌else◌}
use Rattle.config_rules.specs.declared.tree.RecordPair.{RecordPair}
use Rattle.config_rules.specs.Exporters.{outside_of}
use Rattle.config_rules.proofs.Members.{Mem}
use Rattle.loader_rules.proofs.Lists.{append_none}

pub record Thin {A B : Type 0} (Like : A → B → Type 0) (xs : List A) (ys : List B) : Type 0 where
  pub none : ys ≡ [] → xs ≡ []
  pub one : (y : B) → ys ≡ y ∷ [] → (x : A) × (xs ≡ x ∷ []) × Like x y

heads : {A : Type 0} {x y : A} {xs ys : List A} → x ∷ xs ≡ y ∷ ys → x ≡ y
heads e = cc

tails : {A : Type 0} {x y : A} {xs ys : List A} → x ∷ xs ≡ y ∷ ys → xs ≡ ys
tails e = cc

module _ {A B : Type 0} (Like : A → B → Type 0) where
  pub nothing : Thin Like [] []
  nothing = record { none = λ e. refl; one = λ y e. absurd cc }

  pub thin_append : (xs us : List A) (ys vs : List B) → Thin Like xs ys → Thin Like us vs → Thin Like (xs ++ us) (ys ++ vs)
  thin_append xs us [] vs t u = record {
    none = λ e. λ j. t.none refl j ++ u.none e j;
    one = λ y e. let r = u.one y e in (r.0, ((λ j. t.none refl j ++ us) ∙ r.1), r.2);
  }
  thin_append xs us (z ∷ ys) vs t u = record {
    none = λ e. absurd cc;
    one = λ y e.
        let rest = append_none ys vs (tails e) in
        let r = t.one y ((λ j. (heads e) j ∷ rest.0 j)) in
        (r.0, (λ j. r.1 j ++ u.none rest.1 j), r.2);
  }

  pub thin_flat : {P : Type 0} (f : P → List A) (g : P → List B) (ps : List P) → ((p : P) → Mem p ps → Thin Like (f p) (g p)) → Thin Like (flat_map f ps) (flat_map g ps)
  thin_flat f g [] h = nothing
  thin_flat f g (p ∷ ps) h = thin_append (f p) (flat_map f ps) (g p) (flat_map g ps) (h p (inl refl)) (thin_flat f g ps (λ q m. h q (inr m)))

-- a list once where a record is among those of its name, and one copy of it for each of them
module _ {A B C : Type 0} (Like : A → B → Type 0) (name : List ℕ) (h : C → A) (g : RecordPair → C → B) (like : (r : RecordPair) (c : C) → Like (h c) (g r c)) (all : List C) where
  abbrev once : List RecordPair → List A
  once rs = map h (if is_some (outside_of rs name) then all else [])

  abbrev copy : RecordPair → List B
  copy r = if bytes_eq r.inside name then map (g r) all else []

  none_copied : all ≡ [] → (rs : List RecordPair) → flat_map copy rs ≡ []
  none_copied e [] = refl
  none_copied e (r ∷ rs) = (λ j. by (bytes_eq r.inside name) j ++ none_copied e rs j)
    where
      by : (b : Bool) → (if b then map (g r) all else []) ≡ []
      by true = ap (map (g r)) e
      by false = refl

  first_copied : (cs : List C) → all ≡ cs → (r : RecordPair) (rs : List RecordPair) → Thin Like (map h cs) (map (g r) cs ++ flat_map copy rs)
  first_copied [] e r rs = record { none = λ f. refl; one = λ y f. absurd (let s : flat_map copy rs ≡ [] = none_copied e rs in let t : [] ≡ y ∷ [] = sym s ∙ f in cc) }
  first_copied (c ∷ []) e r rs = record { none = λ f. absurd cc; one = λ y f. (h c, refl, subst (Like (h c)) (heads f) (like r c)) }
  first_copied (c ∷ d ∷ cs) e r rs = record { none = λ f. absurd cc; one = λ y f. absurd (let s : g r d ∷ (map (g r) cs ++ flat_map copy rs) ≡ [] = tails f in cc) }

  pub copies : (rs : List RecordPair) → Thin Like (once rs) (flat_map copy rs)
  unfolding outside_of
  copies [] = nothing Like
  copies (r ∷ rs) = by (bytes_eq r.inside name) (copies rs)
    where
      by : (b : Bool) → Thin Like (once rs) (flat_map copy rs)
          → Thin Like (map h (if is_some (if b then Some r.outside else outside_of rs name) then all else [])) ((if b then map (g r) all else []) ++ flat_map copy rs)
      by true t = first_copied all refl r rs
      by false t = t
