-- The link of one item, or how it is refused.
use Rattle.std.proofs.Common.{◌≡◌, ℕ, ◌⊎◌, inl, inr, true, false, List, [], ◌∷◌, ◌++◌, Option, Some, None, refl, subst, sym, ap, ◌∙◌, append-nil, if◌then◌else◌}
use Rattle.std.proofs.lemmas.List.{map-append}
use Rattle.mesa_types.specs.declared.faces.Face.{Face}
use Rattle.mesa_types.specs.declared.faces.Item.{Item}
use Rattle.config_rules.specs.declared.tree.Tree.{Tree}
use Rattle.config_rules.specs.declared.tree.TreeInstance.{TreeInstance}
use Rattle.config_rules.specs.Exporters.{Spot}
use Rattle.config_rules.specs.Resolves.{Want, looked_up, resolved_at, resolved, want, is_bad, first_bad}
use Rattle.config_rules.specs.declared.tree.Binding.{Binding}
use Rattle.config_rules.specs.declared.tree.Binding.TheVariants.{Left, To}
use Rattle.import_binder.specs.declared.choosing.Cause.{Cause}
use Rattle.import_binder.specs.declared.choosing.Cause.TheVariants.{NoExporter, Twice, OtherInterface, OtherStamp}
use Rattle.import_binder.specs.declared.fault.BindFault.{BindFault}
use Rattle.import_binder.specs.declared.fault.BindFault.TheVariants.{Memory}
use Rattle.import_binder.specs.Bindings.{IsRefused, Puts, all_meant, meant, item_named, fault_by, want_at}
use Rattle.import_binder.specs.Choosing.{cause_shown}
use Rattle.import_binder.specs.Places.{spot_at}

good : (b : Binding) → is_bad (meant b) ≡ false
unfolding is_bad meant
good Left = refl
good (To j n) = refl

bad : (c : Cause) → is_bad (cause_shown c) ≡ true
unfolding is_bad cause_shown
bad NoExporter = refl
bad (Twice j k) = refl
bad (OtherInterface j) = refl
bad (OtherStamp s) = refl

pub none_put : (old : List Binding) → Puts old old []
unfolding first_bad
none_put old = record { links_are = sym (append-nil (all_meant old)); none_bad = refl }

none_bad_of : (w : Want) → is_bad w.answer ≡ false → first_bad (w ∷ []) ≡ None
unfolding first_bad
none_bad_of w h = ap (λ b. if b then Some w else first_bad []) h

first_of : (w : Want) → is_bad w.answer ≡ true → first_bad (w ∷ []) ≡ Some w
unfolding first_bad
first_of w h = ap (λ b. if b then Some w else first_bad []) h

module _ (t : Tree) (x : TreeInstance) (face : Face) (source : Option Spot) (i : Item) where
  abbrev wanted : Want
  wanted = record { path = x.path; face = face; item = i; answer = resolved_at t face i.name source }

  pub one_put : (old new : List Binding) (b : Binding) → new ≡ old ++ b ∷ [] → meant b ≡ resolved_at t face i.name source → Puts old new (want_at t x face source (Some i))
  unfolding want_at
  one_put old new b grown means = record {
    links_are = ap all_meant grown ∙ map-append meant old (b ∷ []) ∙ ap (λ r. all_meant old ++ r ∷ []) means;
    none_bad = none_bad_of wanted (ap is_bad (sym means) ∙ good b);
  }

  pub one_refused : (c : Cause) (fault : BindFault) → cause_shown c ≡ resolved_at t face i.name source
      → (fault ≡ Memory) ⊎ (fault ≡ fault_by t (item_named x.path face i) (cause_shown c)) → IsRefused t (want_at t x face source (Some i)) fault
  unfolding want_at
  one_refused c fault means (inl e) = inl e
  one_refused c fault means (inr e) = inr (wanted, first_of wanted (ap is_bad (sym means) ∙ bad c), e ∙ ap (fault_by t (item_named x.path face i)) means)

  pub put_there : (o : Option Item) → Some i ≡ o → (old new : List Binding) (b : Binding) → new ≡ old ++ b ∷ [] → meant b ≡ resolved_at t face i.name source → Puts old new (want_at t x face source o)
  put_there o is old new b grown means = let P : Option Item → Type 0 = λ o. Puts old new (want_at t x face source o) in subst P is (one_put old new b grown means)

  pub refused_there : (o : Option Item) → Some i ≡ o → (c : Cause) (fault : BindFault) → cause_shown c ≡ resolved_at t face i.name source
      → (fault ≡ Memory) ⊎ (fault ≡ fault_by t (item_named x.path face i) (cause_shown c)) → IsRefused t (want_at t x face source o) fault
  refused_there o is c fault means says = let P : Option Item → Type 0 = λ o. IsRefused t (want_at t x face source o) fault in subst P is (one_refused c fault means says)

-- where there is no such item
pub none_there : (t : Tree) (x : TreeInstance) (face : Face) (source : Option Spot) (old : List Binding) (o : Option Item) → None ≡ o → Puts old old (want_at t x face source o)
unfolding want_at
none_there t x face source old o is = let P : Option Item → Type 0 = λ o. Puts old old (want_at t x face source o) in subst P is (none_put old)

-- an item of an import is looked up where its record is
pub want_is : (t : Tree) (x : TreeInstance) (r : List ℕ) (face : Face) (source : Option Spot) → source ≡ looked_up t (spot_at x.scope r) → (o : Option Item) → want_at t x face source o ≡ want t x r face o
unfolding want want_at resolved
want_is t x r face source is None = refl
want_is t x r face source is (Some i) = ap (λ s. want_at t x face s (Some i)) is
