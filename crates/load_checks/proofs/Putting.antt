-- One more who offers an item, under a key and behind those before.
use Rattle.std.proofs.Common.{◌≡◌, ℕ, Bool, true, false, not, ◌&&◌, ◌||◌, List, bytes_eq, nat_eq, Option, Some, None, is_some, refl, sym, ap, ◌∙◌, if◌then◌else◌}
use Rattle.mesa_types.specs.declared.faces.Item.{Item}
use Rattle.config_rules.specs.Exporters.{is_named}
use Rattle.object_rules.proofs.SameTypes.{bytes_same}
use Rattle.loader_rules.specs.Exporters.{Offered}
use Rattle.link_tables.specs.declared.key.EntryKey.{EntryKey}
use Rattle.load_checks.specs.Givers.{Firsts}
use Rattle.load_checks.specs.Index.{noted_in, giver_by, fits, through}
use Rattle.link_tables.specs.Keys.{same_key}

-- ---- under the key of an item

regrouped : (a b c : Bool) → a && (b && c) ≡ (a && b) && (true && c)
regrouped true b c = refl
regrouped false b c = refl

-- the key has the record, the stamp and the name of the item
pub under_item : (key k : EntryKey) (o : Offered) (i : Item) (n : ℕ) (f : Firsts) → key.face ≡ o.record_name → key.stamp ≡ o.gives.face.stamp → key.item ≡ i.name
    → noted_in (same_key key k) f (giver_by o n) ≡ through k o (Some i) n false f
unfolding is_named
under_item key k o i n f face stamp name =
    (λ j. noted_in (bytes_eq (face j) k.face && (nat_eq (stamp j) k.stamp && bytes_eq (name j) k.item)) f (giver_by o n))
    ∙ ap (λ b. noted_in b f (giver_by o n)) (regrouped (bytes_eq o.record_name k.face) (nat_eq o.gives.face.stamp k.stamp) (bytes_eq i.name k.item))

-- ---- pair by pair

and_none : (a b : Bool) → a && (b && false) ≡ false
and_none true true = refl
and_none true false = refl
and_none false b = refl

or_none : (a : Bool) → a ≡ a || false
or_none true = refl
or_none false = refl

-- a pair that gives no item
pub no_item : (k : EntryKey) (o : Offered) (n : ℕ) (seen : Bool) (f : Firsts) → f ≡ through k o None n seen f
unfolding is_named
no_item k o n seen f = ap (λ b. noted_in b f (giver_by o n)) (sym (and_none (fits k o) (not seen)))

pub none_named : (k : EntryKey) (seen : Bool) → seen ≡ seen || is_named k.item None
unfolding is_named
none_named k seen = or_none seen

module _ (names : List ℕ → Option Unit) (k : EntryKey) (i : Item) where
  -- an item of the name was given
  pub was_given : is_some (names i.name) ≡ true → (o : Offered) (n : ℕ) (f : Firsts) → f ≡ through k o (Some i) n (is_some (names k.item)) f
  unfolding is_named
  was_given there o n f = by (bytes_eq i.name k.item) refl
    where
      by : (b : Bool) → bytes_eq i.name k.item ≡ b → f ≡ noted_in (fits k o && (not (is_some (names k.item)) && b)) f (giver_by o n)
      by true e =
          let seen : is_some (names k.item) ≡ true = ap (λ x. is_some (names x)) (sym (bytes_same i.name k.item e)) ∙ there in
          ap (λ b. noted_in b f (giver_by o n)) (sym (and_none (fits k o) true)) ∙ ap (λ b. noted_in (fits k o && (not b && true)) f (giver_by o n)) (sym seen)
      by false e = ap (λ b. noted_in b f (giver_by o n)) (sym (and_none (fits k o) (not (is_some (names k.item)))))

  pub named_before : is_some (names i.name) ≡ true → is_some (names k.item) ≡ is_some (names k.item) || is_named k.item (Some i)
  unfolding is_named
  named_before there = by (bytes_eq i.name k.item) refl
    where
      by : (b : Bool) → bytes_eq i.name k.item ≡ b → is_some (names k.item) ≡ is_some (names k.item) || b
      by true e =
          let seen : is_some (names k.item) ≡ true = ap (λ x. is_some (names x)) (sym (bytes_same i.name k.item e)) ∙ there in
          λ j. (seen ∙ ap (λ b. b || true) (sym seen)) j
      by false e = or_none (is_some (names k.item))

  -- none was
  pub is_new : is_some (names i.name) ≡ false → (o : Offered) (n : ℕ) (f : Firsts) → through k o (Some i) n false f ≡ through k o (Some i) n (is_some (names k.item)) f
  unfolding is_named
  is_new none o n f = by (bytes_eq i.name k.item) refl
    where
      by : (b : Bool) → bytes_eq i.name k.item ≡ b → noted_in (fits k o && (true && b)) f (giver_by o n) ≡ noted_in (fits k o && (not (is_some (names k.item)) && b)) f (giver_by o n)
      by true e =
          let unseen : is_some (names k.item) ≡ false = ap (λ x. is_some (names x)) (sym (bytes_same i.name k.item e)) ∙ none in
          ap (λ b. noted_in (fits k o && (not b && true)) f (giver_by o n)) (sym unseen)
      by false e = ap (λ b. noted_in b f (giver_by o n)) (and_none (fits k o) true ∙ sym (and_none (fits k o) (not (is_some (names k.item)))))

  pub named_now : (now : Option Unit) → now ≡ (if bytes_eq i.name k.item then Some tt else names k.item) → is_some now ≡ is_some (names k.item) || is_named k.item (Some i)
  unfolding is_named
  named_now now is = ap is_some is ∙ by (bytes_eq i.name k.item)
    where
      or_true : (a : Bool) → true ≡ a || true
      or_true true = refl
      or_true false = refl

      by : (b : Bool) → is_some (if b then Some tt else names k.item) ≡ is_some (names k.item) || b
      by true = or_true (is_some (names k.item))
      by false = or_none (is_some (names k.item))
