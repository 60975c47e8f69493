-- The links of one item after the other: what is done so far, and then the rest.
use Rattle.std.proofs.Common.{◌≡◌, ℕ, ◌+◌, ◌<◌, ◌≤◌, inl, inr, ⊎_elim, Bool, true, false, List, [], ◌∷◌, ◌++◌, length, drop, get_or, map, flat_map, Some, None, slice_get, refl, sym, ap, ◌∙◌, append-nil, append_assoc, if◌then◌else◌}
use Rattle.std.proofs.lemmas.List.{drop_more, drop_all, map-append}
use Rattle.mesa_types.specs.declared.faces.Import.{Import}
use Rattle.config_rules.specs.declared.tree.Tree.{Tree}
use Rattle.config_rules.specs.declared.tree.TreeInstance.{TreeInstance}
use Rattle.config_rules.specs.Resolves.{Resolution, Want, wants_of, wants_in, is_bad, first_bad}
use Rattle.config_tree.proofs.Outlets.{left}
use Rattle.config_rules.specs.declared.tree.Binding.{Binding}
use Rattle.import_binder.specs.declared.fault.BindFault.{BindFault}
use Rattle.import_binder.specs.Bindings.{AreLinks, IsRefused, Puts, all_meant, answers, wants_at}

-- ---- the first bad one of two lists

bad_behind : (ws vs : List Want) → first_bad ws ≡ None → first_bad (ws ++ vs) ≡ first_bad vs
unfolding first_bad
bad_behind [] vs h = refl
bad_behind (w ∷ ws) vs h = by (bad_behind ws vs) (is_bad w.answer) h
  where
    by : (first_bad ws ≡ None → first_bad (ws ++ vs) ≡ first_bad vs) → (b : Bool) → (if b then Some w else first_bad ws) ≡ None → (if b then Some w else first_bad (ws ++ vs)) ≡ first_bad vs
    by again true g = cc
    by again false g = again g

bad_before : (ws vs : List Want) (w : Want) → first_bad ws ≡ Some w → first_bad (ws ++ vs) ≡ Some w
unfolding first_bad
bad_before [] vs w h = cc
bad_before (x ∷ ws) vs w h = by (bad_before ws vs w) (is_bad x.answer) h
  where
    by : (first_bad ws ≡ Some w → first_bad (ws ++ vs) ≡ Some w) → (b : Bool) → (if b then Some x else first_bad ws) ≡ Some w → (if b then Some x else first_bad (ws ++ vs)) ≡ Some w
    by again true g = g
    by again false g = again g

-- what a list of wants is made of: those that are done here, and the rest
pub still_first : (all here rest : List Want) → first_bad (here ++ rest) ≡ first_bad all → first_bad here ≡ None → first_bad rest ≡ first_bad all
still_first all here rest before none = sym (bad_behind here rest none) ∙ before

pub refused_here : (t : Tree) (all here rest : List Want) (fault : BindFault) → first_bad (here ++ rest) ≡ first_bad all → IsRefused t here fault → IsRefused t all fault
refused_here t all here rest fault before (inl e) = inl e
refused_here t all here rest fault before (inr (w, bad, is)) = inr (w, sym before ∙ bad_before here rest w bad, is)

-- ---- so many are done, and the rest is to come

pub record Rest (old now : List Binding) (all rest : List Want) : Type 0 where
  pub links_are : all_meant now ++ answers rest ≡ all_meant old ++ answers all
  pub first_is : first_bad rest ≡ first_bad all

pub rest_begins : (old : List Binding) (all rest : List Want) → rest ≡ all → Rest old old all rest
rest_begins old all rest e = record { links_are = ap (λ l. all_meant old ++ answers l) e; first_is = ap first_bad e }

module _ (old now : List Binding) (all rest : List Want) where
  pub rest_more : (new : List Binding) (here after : List Want) → rest ≡ here ++ after → Puts now new here → Rest old now all rest → Rest old new all after
  rest_more new here after parts puts h = record {
    links_are =
        ap (λ l. l ++ answers after) puts.links_are ∙ append_assoc (all_meant now) (answers here) (answers after)
        ∙ ap (λ l. all_meant now ++ l) (sym (map-append (λ (w : Want). w.answer) here after)) ∙ ap (λ l. all_meant now ++ answers l) (sym parts) ∙ h.links_are;
    first_is = still_first all here after (ap first_bad (sym parts) ∙ h.first_is) puts.none_bad;
  }

  pub rest_refused : (t : Tree) (fault : BindFault) (here after : List Want) → rest ≡ here ++ after → IsRefused t here fault → Rest old now all rest → IsRefused t all fault
  rest_refused t fault here after parts refused h = refused_here t all here after fault (ap first_bad (sym parts) ∙ h.first_is) refused

  none_in : first_bad [] ≡ None
  unfolding first_bad
  none_in = refl

  pub rest_ends : rest ≡ [] → Rest old now all rest → Puts old now all
  rest_ends none h = record {
    links_are = sym (append-nil (all_meant now)) ∙ ap (λ l. all_meant now ++ answers l) (sym none) ∙ h.links_are;
    none_bad = sym h.first_is ∙ ap first_bad none ∙ none_in;
  }

-- ---- the items of an import

module _ {A : Type 0} (f : A → List Want) (xs : List A) (i : ℕ) where
  pub next_of_each : (x d : A) → i < length xs → x ≡ get_or xs i d → flat_map f (drop i xs) ≡ f x ++ flat_map f (drop (i + 1) xs)
  next_of_each x d less is = ap (flat_map f) (drop_more xs i d less ∙ ap (λ y. y ∷ drop (i + 1) xs) (sym is))

  pub none_of_each : length xs ≤ i → flat_map f (drop i xs) ≡ []
  none_of_each past = ap (flat_map f) (drop_all i xs past)

-- ---- the imports of an instance

module _ (t : Tree) (x : TreeInstance) where
  no_imports : (rs : List (List ℕ)) → wants_of t x rs [] ≡ []
  unfolding wants_of
  no_imports [] = refl
  no_imports (r ∷ rs) = refl

  pub next_import : (n : ℕ) (rs : List (List ℕ)) (ms : List Import)
      → wants_of t x (drop n rs) (drop n ms) ≡ wants_at t x (slice_get rs n) (slice_get ms n) ++ wants_of t x (drop (n + 1) rs) (drop (n + 1) ms)
  unfolding wants_of wants_at
  next_import n rs ms = ⊎_elim
      (λ p.
      ap (λ l. wants_of t x l (drop n ms)) p.1 ∙ ap (λ l. wants_of t x l (drop (n + 1) ms)) (sym p.2)
      ∙ ap (λ o. wants_at t x o (slice_get ms n) ++ wants_of t x (drop (n + 1) rs) (drop (n + 1) ms)) (sym p.0))
      (λ p. ⊎_elim
      (λ q.
      ap (λ l. wants_of t x (drop n rs) l) q.1 ∙ no_imports (drop n rs) ∙ sym (no_imports (drop (n + 1) rs))
      ∙ ap (λ l. wants_of t x (drop (n + 1) rs) l) (sym q.2)
      ∙ (λ j. wants_at t x (sym p.1 j) (sym q.0 j) ++ wants_of t x (drop (n + 1) rs) (drop (n + 1) ms)))
      (λ q.
      (λ j. wants_of t x (p.2 j) (q.2 j))
      ∙ (λ j. wants_at t x (sym p.1 j) (sym q.1 j) ++ wants_of t x (drop (n + 1) rs) (drop (n + 1) ms)))
      (left ms n))
      (left rs n)

  pub no_import : (n : ℕ) (rs : List (List ℕ)) (ms : List Import) → length rs ≤ n → wants_of t x (drop n rs) (drop n ms) ≡ []
  unfolding wants_of
  no_import n rs ms l = ap (λ r. wants_of t x r (drop n ms)) (drop_all n rs l)

-- links that were put behind none
pub are_links : (ws : List Want) (old links : List Binding) → old ≡ [] → Puts old links ws → AreLinks ws links
are_links ws old links e h = record { links_are = h.links_are ∙ ap (λ l. all_meant l ++ answers ws) e; none_bad = h.none_bad }

-- ---- the instances

module _ (t : Tree) where
  abbrev pub answers_of : List TreeInstance → List (List Resolution)
  answers_of xs = map (λ (x : TreeInstance). answers (wants_in t x)) xs

  abbrev pub wants_from : List TreeInstance → List Want
  wants_from xs = flat_map (wants_in t) xs

  pub record RestOf (now : List (List Binding)) (all rest : List TreeInstance) : Type 0 where
    pub links_are : map all_meant now ++ answers_of rest ≡ answers_of all
    pub first_is : first_bad (wants_from rest) ≡ first_bad (wants_from all)

  pub all_begin : (now : List (List Binding)) (all : List TreeInstance) → now ≡ [] → RestOf now all (drop 0 all)
  all_begin now all e = record { links_are = ap (λ (l : List (List Binding)). map all_meant l ++ answers_of all) e; first_is = refl }

  module _ (now : List (List Binding)) (all : List TreeInstance) (i : ℕ) where
    pub all_more : (new : List (List Binding)) (links : List Binding) (x d : TreeInstance) → i < length all → x ≡ get_or all i d → new ≡ now ++ links ∷ []
        → AreLinks (wants_in t x) links → RestOf now all (drop i all) → RestOf new all (drop (i + 1) all)
    all_more new links x d less is grown links_of h =
        let parts : drop i all ≡ x ∷ drop (i + 1) all = drop_more all i d less ∙ ap (λ (y : TreeInstance). y ∷ drop (i + 1) all) (sym is) in
        record {
          links_are =
              ap (λ l. map all_meant l ++ answers_of (drop (i + 1) all)) grown
              ∙ ap (λ l. l ++ answers_of (drop (i + 1) all)) (map-append all_meant now (links ∷ []))
              ∙ append_assoc (map all_meant now) (all_meant links ∷ []) (answers_of (drop (i + 1) all))
              ∙ ap (λ l. map all_meant now ++ l ∷ answers_of (drop (i + 1) all)) links_of.links_are
              ∙ ap (λ l. map all_meant now ++ answers_of l) (sym parts) ∙ h.links_are;
          first_is = still_first (wants_from all) (wants_in t x) (wants_from (drop (i + 1) all)) (ap (λ l. first_bad (wants_from l)) (sym parts) ∙ h.first_is) links_of.none_bad;
        }

    pub all_refused : (fault : BindFault) (x d : TreeInstance) → i < length all → x ≡ get_or all i d → IsRefused t (wants_in t x) fault → RestOf now all (drop i all)
        → IsRefused t (wants_from all) fault
    all_refused fault x d less is refused h =
        let parts : drop i all ≡ x ∷ drop (i + 1) all = drop_more all i d less ∙ ap (λ (y : TreeInstance). y ∷ drop (i + 1) all) (sym is) in
        refused_here t (wants_from all) (wants_in t x) (wants_from (drop (i + 1) all)) fault (ap (λ l. first_bad (wants_from l)) (sym parts) ∙ h.first_is) refused

    none_bad_in : first_bad [] ≡ None
    unfolding first_bad
    none_bad_in = refl

    pub all_links_are : length all ≤ i → RestOf now all (drop i all) → map all_meant now ≡ answers_of all
    all_links_are past h = sym (append-nil (map all_meant now)) ∙ ap (λ l. map all_meant now ++ answers_of l) (sym (drop_all i all past)) ∙ h.links_are

    pub none_is_bad : length all ≤ i → RestOf now all (drop i all) → first_bad (wants_from all) ≡ None
    none_is_bad past h = sym h.first_is ∙ ap (λ l. first_bad (wants_from l)) (drop_all i all past) ∙ none_bad_in
